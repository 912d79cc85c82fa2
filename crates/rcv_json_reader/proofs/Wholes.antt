-- A journal's value and its three lists.
use Rattle.std.proofs.Common.{◌≡◌, ℕ, zero, suc, ◌+◌, ◌<◌, ◌≤◌, Some, Result, Ok, Err, List, [], ◌∷◌, map, refl, sym, ◌∙◌, ap, subst, arith}
use Rattle.std.specs.Prelude.{All, IfErr, IsErrAnd, slice_get}
use Rattle.serde_json.specs.Data.{Data}
use Rattle.rcv_session.specs.Session.{SessionView, roles_of}
use Rattle.rcv_journal.specs.Recorded.{JournalView}
use Rattle.rcv_journal.specs.Json.{entry_data, list_of, role_data}
use Rattle.rcv_json_reader.specs.Parts.{Rise, SaysEntries, SaysJournal, SaysLimited, SaysLines, three_data}
use Rattle.rcv_json_reader.proofs.Firsts.{rise_most, some_same}
use Rattle.rcv_json_reader.proofs.OneJournal.{behind, first, inside_of}

rise_declared : (a : ℕ) (rs : List ℕ) (b : ℕ) → Rise a rs b → All (λ r. r < b) rs
rise_declared a [] b rise k d inside = absurd (omega (arith, inside))
rise_declared a (r ∷ rs) b rise zero d inside = omega (arith, rise_most (r + 1) rs b rise.1)
rise_declared a (r ∷ rs) b rise (suc k) d inside = rise_declared (r + 1) rs b rise.1 k d (omega (arith, inside))

one_less : (k : ℕ) → suc k + 1 ≡ suc (k + 1)
one_less k = omega arith

rise_ascends : (a : ℕ) (rs : List ℕ) (b : ℕ) → Rise a rs b → (k x y : ℕ) → slice_get rs k ≡ Some x → slice_get rs (k + 1) ≡ Some y → x < y
rise_ascends a [] b rise k x y at_x at_y = absurd (cc)
rise_ascends a (r ∷ []) b rise zero x y at_x at_y = absurd (cc)
rise_ascends a (r ∷ q ∷ qs) b rise zero x y at_x at_y = omega (arith, rise.1.0, some_same r x at_x, some_same q y at_y)
rise_ascends a (r ∷ rs) b rise (suc k) x y at_x at_y =
    rise_ascends (r + 1) rs b rise.1 k x y at_x (subst (λ j. slice_get (r ∷ rs) j ≡ Some y) (one_less k) at_y)

rise_from : (a : ℕ) (rs : List ℕ) (b : ℕ) → a ≤ b → ((x : ℕ) → slice_get rs 0 ≡ Some x → a ≤ x) → All (λ r. r < b) rs
    → ((k x y : ℕ) → slice_get rs k ≡ Some x → slice_get rs (k + 1) ≡ Some y → x < y) → Rise a rs b
rise_from a [] b within begins declared ascends = within
rise_from a (r ∷ rs) b within begins declared ascends = (
  begins r refl,
  rise_from (r + 1) rs b (omega (arith, declared 0 r (omega arith))) (λ x here. omega (arith, ascends 0 r x refl here))
      (λ k d inside. declared (suc k) d (omega (arith, inside)))
      (λ k x y at_x at_y. ascends (suc k) x y at_x (subst (λ j. slice_get (r ∷ rs) j ≡ Some y) (sym (one_less k)) at_y)),
)

pub entries_said : (setup : SessionView) (d e l r : Data) (j : JournalView) → d ≡ three_data e l r → SaysJournal setup d j → SaysEntries setup e j.entries
entries_said setup d e l r j is says = record {
  formed = says.formed.entries;
  is = ap (λ x. first (inside_of x)) (sym is ∙ says.is);
}

pub limited_said : (setup : SessionView) (d e l r : Data) (j : JournalView) → d ≡ three_data e l r → SaysJournal setup d j → SaysLimited setup l j.limited
limited_said setup d e l r j is says = record {
  rise = rise_from 0 j.limited (roles_of setup) (omega arith) (λ x here. omega arith) says.formed.limited.declared says.formed.limited.ascending;
  is = ap (λ x. first (behind (inside_of x))) (sym is ∙ says.is);
}

pub lines_said : (setup : SessionView) (d e l r : Data) (j : JournalView) → d ≡ three_data e l r → SaysJournal setup d j → SaysLines setup r j.roles
lines_said setup d e l r j is says = record {
  all = says.formed.all;
  in_order = says.formed.in_order;
  fit = says.formed.fit;
  is = ap (λ x. first (behind (behind (inside_of x)))) (sym is ∙ says.is);
}

pub journal_said : (setup : SessionView) (d e l r : Data) (j : JournalView) → d ≡ three_data e l r → SaysEntries setup e j.entries → SaysLimited setup l j.limited → SaysLines setup r j.roles
    → SaysJournal setup d j
journal_said setup d e l r j is entries limited lines = record {
  formed = record {
    entries = entries.formed;
    all = lines.all;
    in_order = lines.in_order;
    fit = lines.fit;
    limited = record { declared = rise_declared 0 j.limited (roles_of setup) limited.rise; ascending = rise_ascends 0 j.limited (roles_of setup) limited.rise };
  };
  is = is ∙ ap (λ x. three_data x l r) entries.is ∙ ap (λ x. three_data (list_of (map (entry_data setup) j.entries)) x r) limited.is
      ∙ ap (λ x. three_data (list_of (map (entry_data setup) j.entries)) (list_of (map (role_data setup) j.limited)) x) lines.is;
}

-- An error that is handed on is the error.
pub handed_on : {T E : Type 0} (r : Result T E) (x : E) (Q : E → Type 0) → IsErrAnd r (λ e. e ≡ x) → Q x → IfErr r Q
handed_on (Ok t) x Q is q = tt
handed_on (Err e) x Q is q = subst Q (sym is) q
