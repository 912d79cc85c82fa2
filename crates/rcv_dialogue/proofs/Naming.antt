-- Roles and points, and the words that name them.
use Rattle.std.proofs.Common.{◌≡◌, ◌∙◌, ◌+◌, ◌<◌, ◌≤◌, ◌^◌, ◌&&◌, ℕ, true, List, Option, Some, None, refl, sym, ap, arith, decimal}
use Rattle.std.specs.Prelude.{nat_lt}
use Rattle.std.proofs.lemmas.Bool.Decides.{nat_tests}
use Rattle.rcv_tree.proofs.Naming.{is_named, is_placed}
use Rattle.rcv_model.specs.Names.{AreDifferent}
use Rattle.rcv_accept.specs.Accepted.{AcceptedView, net_for, roles_of}
use Rattle.rcv_lines.proofs.Naming.{same_role}
use Rattle.rcv_dialogue.specs.Names.{name_of, role_in, point_if, point_said, place_if, place_in}
use Rattle.rcv_dialogue.specs.Numbers.{number_in}
use Rattle.rcv_dialogue.proofs.Numerals.{both_so, number_again, number_takes, some_if}

pub role_takes : (a : AcceptedView) (w : List ℕ) (r : ℕ) → role_in a w ≡ Some r → (r < roles_of a) × (w ≡ name_of a r)
role_takes a w r is = let found = is_named a.protocol.roles w r is in (found.0, sym found.1)

pub role_again : (a : AcceptedView) (r : ℕ) → AreDifferent a.protocol.roles → r < roles_of a → role_in a (name_of a r) ≡ Some r
role_again a r differ inside = is_placed a.protocol.roles (name_of a r) r inside refl
    (λ k before same. let one = same_role a.protocol.roles k r differ (omega (arith, before, inside)) inside same in omega (arith, one, before))

-- Points.
pub point_takes : (a : AcceptedView) (w : List ℕ) (p : ℕ) → point_said a w ≡ Some p → (1 ≤ p) × (p ≤ (net_for a).count) × (w ≡ decimal p)
point_takes a w p is = go (number_in w) refl is
  where
    go : (o : Option ℕ) → number_in w ≡ o → point_if a o ≡ Some p → (1 ≤ p) × (p ≤ (net_for a).count) × (w ≡ decimal p)
    go None read is = absurd cc
    go (Some n) read is =
        let s = some_if (nat_lt 0 n && nat_lt n ((net_for a).count + 1)) n p is in
        let b = both_so (nat_lt 0 n) (nat_lt n ((net_for a).count + 1)) s.0 in
        let low = b.0 in
        let high = b.1 in
        let same = s.1 in
        (grind (arith, nat_tests), grind (arith, nat_tests), (number_takes w n read).0 ∙ ap decimal same)

pub point_again : (a : AcceptedView) (p : ℕ) → 1 ≤ p → p ≤ (net_for a).count → p < 2 ^ 64 → point_said a (decimal p) ≡ Some p
point_again a p first last fits =
    let low : nat_lt 0 p ≡ true = grind (arith, nat_tests) in
    let high : nat_lt p ((net_for a).count + 1) ≡ true = grind (arith, nat_tests) in
    ap (point_if a) (number_again p fits) ∙ rw (low, high) refl

-- Places.
pub place_takes : (a : AcceptedView) (w : List ℕ) (p : ℕ) → place_in a w ≡ Some p → (p ≤ (net_for a).count) × (w ≡ decimal p)
place_takes a w p is = go (number_in w) refl is
  where
    go : (o : Option ℕ) → number_in w ≡ o → place_if a o ≡ Some p → (p ≤ (net_for a).count) × (w ≡ decimal p)
    go None read is = absurd cc
    go (Some n) read is =
        let s = some_if (nat_lt n ((net_for a).count + 1)) n p is in
        let high = s.0 in
        let same = s.1 in
        (grind (arith, nat_tests), (number_takes w n read).0 ∙ ap decimal same)

pub place_again : (a : AcceptedView) (p : ℕ) → p ≤ (net_for a).count → p < 2 ^ 64 → place_in a (decimal p) ≡ Some p
place_again a p last fits =
    let high : nat_lt p ((net_for a).count + 1) ≡ true = grind (arith, nat_tests) in
    ap (place_if a) (number_again p fits) ∙ rw high refl
