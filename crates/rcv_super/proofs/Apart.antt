-- Which cells stand in a half, and what a cell at home has.
use Rattle.std.proofs.Common.{◌≡◌, ℕ, ◌<◌, true, false, Some, None, Option, List, [], length, sym, ◌∙◌, subst, ◌⊎◌, inl, inr, arith}
use Rattle.std.specs.Prelude.{slice_get}
use Rattle.std.proofs.lemmas.Bool.{cases_Bool}
use Rattle.rcv_tree.specs.Bits.{has_bit}
use Rattle.rcv_tree.specs.declared.role.RoleSet.{RoleSet}
use Rattle.rcv_model.specs.Journal.{own_of, reading_from}
use Rattle.rcv_model.proofs.Lists.{some_same}
use Rattle.rcv_model.proofs.Located.{get_below, item}
use Rattle.rcv_theory.specs.Round.{entries, IsLog}
use Rattle.rcv_session.specs.Session.{roles_of, rules_of}
use Rattle.rcv_core.specs.Book.{BookView, state_of}
use Rattle.rcv_role.specs.Part.{HasNoStrangers}
use Rattle.rcv_role.specs.Cell.{CellView, IsSettled}
use Rattle.rcv_cells.specs.Home.{cell_at, IsOutAt, AreHome}
use Rattle.rcv_rollback.specs.Halves.{Has, Lacks, AreSplit}

-- a place has a cell or it has none
pub not_both : (half : List (Option CellView)) (r : ℕ) (c : CellView) → Has half r c → Lacks half r → ⊥
not_both half r c has lacks = let e = some_same (sym has ∙ lacks) in cc

pub same_cell : (half : List (Option CellView)) (r : ℕ) (a b : CellView) → Has half r a → Has half r b → a ≡ b
same_cell half r a b here there = some_same (some_same (sym here ∙ there))

-- a concerned cell of all, and a role that isn't concerned
pub record IsGone (concerned : RoleSet) (cells : List CellView) (r : ℕ) (c : CellView) : Type 0 where
  pub declared : r < length cells
  pub bit : has_bit concerned.0 r ≡ true
  pub is : (d : CellView) → c ≡ cell_at cells r d

pub record IsLeft (concerned : RoleSet) (cells : List CellView) (r : ℕ) : Type 0 where
  pub declared : r < length cells
  pub bit : has_bit concerned.0 r ≡ false

module _ (concerned : RoleSet) (cells : List CellView) (back beside : List (Option CellView)) (split : AreSplit concerned cells back beside) where
  within : (r : ℕ) (o : Option CellView) → slice_get back r ≡ Some o → r < length cells
  within r o at = let a = get_below back r o at in let b = split.back_count in omega (arith, a, b)

  pub gone_cell : (r : ℕ) (c : CellView) → Has back r c → IsGone concerned cells r c
  gone_cell r c has = go (cases_Bool (has_bit concerned.0 r))
    where
      go : (has_bit concerned.0 r ≡ true) ⊎ (has_bit concerned.0 r ≡ false) → IsGone concerned cells r c
      go (inl t) = record { declared = within r (Some c) has; bit = t; is = λ d. same_cell back r c (cell_at cells r d) has (split.goes r d (within r (Some c) has) t).0 }
      go (inr f) = absurd (not_both back r c has (split.stays r c (within r (Some c) has) f).0)

  pub left_cell : (r : ℕ) → Lacks back r → IsLeft concerned cells r
  left_cell r lacks = go (cases_Bool (has_bit concerned.0 r))
    where
      some_cell : CellView
      some_cell = (item cells r (within r None lacks)).0

      go : (has_bit concerned.0 r ≡ true) ⊎ (has_bit concerned.0 r ≡ false) → IsLeft concerned cells r
      go (inl t) = absurd (not_both back r (cell_at cells r some_cell) (split.goes r some_cell (within r None lacks) t).0 lacks)
      go (inr f) = record { declared = within r None lacks; bit = f }

-- a cell at home
pub record IsHomeAt (book : BookView) (r : ℕ) (c : CellView) : Type 0 where
  pub setup_is : c.part.setup ≡ book.setup
  pub role_is : c.part.role ≡ r
  pub own : own_of (state_of book) r ≡ c.part.own
  pub log : c.part.log ≡ []
  pub settled : IsSettled c
  pub strangers : HasNoStrangers c.part

-- each of them, by its place
pub home_at : (book : BookView) (cells : List CellView) (r : ℕ) (d : CellView) → AreHome book cells → r < roles_of book.setup → IsHomeAt book r (cell_at cells r d)
home_at book cells r d home lt = let o = home.out.each r d lt in let none = home.logs r d lt in record {
  setup_is = o.setup_is;
  role_is = o.role_is;
  own = subst (λ l. own_of (reading_from (rules_of book.setup) (state_of book) (entries l)) r ≡ (cell_at cells r d).part.own) none o.own;
  log = none;
  settled = o.settled;
  strangers = o.strangers;
}

pub out_at : (book : BookView) (r : ℕ) (c : CellView) → IsHomeAt book r c → IsOutAt book.setup (state_of book) r c
out_at book r c h = record {
  setup_is = h.setup_is;
  role_is = h.role_is;
  lawful = subst (IsLog (rules_of book.setup) r (state_of book)) (sym h.log) tt;
  own = subst (λ l. own_of (reading_from (rules_of book.setup) (state_of book) (entries l)) r ≡ c.part.own) (sym h.log) h.own;
  settled = h.settled;
  strangers = h.strangers;
}
