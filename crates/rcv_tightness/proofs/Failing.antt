-- A failure may be told, whatever was saved: the roles that it concerns, how many events they keep, and how many are undone.
use Rattle.std.proofs.Common.{◌≡◌, ℕ, ◌-◌, ◌<◌, ◌≤◌, true, false, cond, List, length, map, refl, sym, subst, ◌⊎◌, inl, inr, arith}
use Rattle.std.specs.Prelude.{◌↔◌, if◌then◌else◌}
use Rattle.std.specs.Int.{bit_at}
use Rattle.std.specs.List.{range_with_len}
use Rattle.std.proofs.lemmas.Bool.{cases_Bool}
use Rattle.std.proofs.lemmas.Bool.Decides.{nat_tests}
use Rattle.std.proofs.lemmas.List.FromFn.{get_or-map-range_with_len}
use Rattle.rcv_tree.specs.Bits.{has_bit, is_listed}
use Rattle.rcv_tree.specs.declared.event.Event.{Event}
use Rattle.rcv_model.specs.Table.{start_of, concerned_by_any}
use Rattle.rcv_model.proofs.BitSets.{bits, bit_is}
use Rattle.rcv_model.proofs.Concerned.{listed_concerned}
use Rattle.rcv_model.proofs.Numbers.{picked_few, is_picked}
use Rattle.rcv_model.proofs.Scanning.{among, is_member}
use Rattle.rcv_told.specs.Told.{Terms, Remembered, group_of, held_of, bound_at, left_at, made_of, IsConcernedWhere, HasFailed}
use Rattle.rcv_told.specs.Laws.{AreAccepted}
use Rattle.rcv_told.proofs.Telling.{ForgotNothing}

module _ (terms : Terms) (known : AreAccepted terms) (m : Remembered) (nothing : ForgotNothing terms.roles m) (p : ℕ) (saved : ℕ → ℕ) where
  abbrev listed : List ℕ
  listed = concerned_by_any terms.net terms.roles (group_of terms p) (start_of (held_of m saved) m.held)

  both : (q : ℕ) → (is_listed listed q ≡ true) ↔ IsConcernedWhere terms m p saved q
  both q =
      let c = listed_concerned terms.net terms.roles (start_of (held_of m saved) m.held) known.proper known.accepted.lanes_end (group_of terms p) q in
      (λ t. c.0 (is_member q listed t), λ a. among q listed (c.1 a))

  abbrev pub concerned : ℕ
  concerned = bits (is_listed listed) 8

  concerned_is : (q : ℕ) → q < 8 → (has_bit concerned q ≡ true) ↔ IsConcernedWhere terms m p saved q
  concerned_is q lt = go (cases_Bool (is_listed listed q)) (bit_is (is_listed listed) 8 q lt) (both q)
    where
      go : (is_listed listed q ≡ true) ⊎ (is_listed listed q ≡ false) → bit_at (bits (is_listed listed) 8) q ≡ cond (is_listed listed q) 1 0
          → ((is_listed listed q ≡ true) ↔ IsConcernedWhere terms m p saved q)
          → (has_bit (bits (is_listed listed) 8) q ≡ true) ↔ IsConcernedWhere terms m p saved q
      go (inl t) e l = (λ u. l.0 t, λ a. same (subst (λ b. bit_at (bits (is_listed listed) 8) q ≡ cond b 1 0) t e))
        where
          same : bit_at (bits (is_listed listed) 8) q ≡ 1 → has_bit (bits (is_listed listed) 8) q ≡ true
          same f = grind (arith, nat_tests)
      go (inr t) e l = (λ u. absurd (no (subst (λ b. bit_at (bits (is_listed listed) 8) q ≡ cond b 1 0) t e) u), λ a. absurd (let u = l.1 a in cc))
        where
          no : bit_at (bits (is_listed listed) 8) q ≡ 0 → has_bit (bits (is_listed listed) 8) q ≡ true → ⊥
          no f u = grind (arith, nat_tests)

  abbrev pub left : List Event
  left = left_at terms.net m (group_of terms p) saved

  abbrev counted : ℕ → ℕ
  counted q = if has_bit concerned q then made_of m left q else 0

  abbrev pub kept : List ℕ
  kept = map counted (range_with_len 0 8)

  abbrev pub undone : ℕ
  undone = length m.held - length left

  few : length left ≤ length m.held
  few = let e = is_picked terms.net (bound_at m (group_of terms p) saved) m.held in
      subst (λ (l : List Event). length l ≤ length m.held) (sym e) (picked_few _ m.held)

  pub has_failed : HasFailed terms m p saved (record { 0 = concerned }) kept undone
  has_failed = record {
    above = λ q t. let f = nothing.forgotten q in omega (arith, f);
    concerned_is = concerned_is;
    eight = refl;
    counts = λ q lt. get_or-map-range_with_len counted 0 8 q q 0 lt (omega arith);
    undone_is = let f = few in omega arith;
  }
