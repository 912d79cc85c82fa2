-- Where messages lie, which points pass, and words that no ring has.
use Rattle.std.proofs.Common.{◌≡◌, ℕ, List, [], ◌∷◌, get_or, length, refl, sym, ◌∙◌, arith}
use mathlib.Core.Option.{Option, none, some, some-injective, some-ne-none}
use lib.ListN.{get_elem?}
use Rattle.rcv_tree.specs.declared.event.Message.{Message}
use Rattle.rcv_ring.specs.Points.{HasPoint}
use Rattle.rcv_ring.specs.Lists.{Begins}
use Rattle.rcv_ring.specs.Places.{place, at_put, at_got}
use Rattle.rcv_ring.specs.Ring.{Cells, Ring}
use Rattle.rcv_ring.proofs.Lists.{begins_length, elem_at}

-- in a ring of 4, message 5 lies in the second slot, and message 6 elsewhere
fifth_message : place 4 5 ≡ 1
fifth_message = refl

not_the_sixth : place 4 6 ≡ 1 → ⊥
not_the_sixth e = omega arith

-- the set of point 1 alone
point_1 : HasPoint (1 ∷ 0 ∷ 0 ∷ 0 ∷ []) 1
point_1 = (record { first = omega arith; last = omega arith }, refl)

not_point_2 : HasPoint (1 ∷ 0 ∷ 0 ∷ 0 ∷ []) 2 → ⊥
not_point_2 p = let bad = p.1 in cc

not_point_0 : HasPoint (1 ∷ 0 ∷ 0 ∷ 0 ∷ []) 0 → ⊥
not_point_0 p = let first = p.0.first in omega arith

begins_the_list : Begins {A = ℕ} (1 ∷ []) (1 ∷ 2 ∷ [])
begins_the_list = (2 ∷ [], refl)

is_longer : Begins {A = ℕ} (1 ∷ 2 ∷ []) (1 ∷ []) → ⊥
is_longer b = let short = begins_length {A = ℕ} (1 ∷ 2 ∷ []) (1 ∷ []) b in omega arith

-- no more is taken than was sent
pub none_before_it_is_sent : (room : ℕ) (points : List ℕ) (s : Cells) → Ring room points s → get_or s.words at_put 0 ≡ 0 → get_or s.words at_got 0 ≡ 1 → ⊥
none_before_it_is_sent room points s r put got =
    let few = begins_length r.taken r.sent r.begins in
    let sent = r.put in
    let taken = r.got in
    omega arith

-- a message that was sent is in its slot, where the puller doesn't have it out
pub none_is_lost : (points : List ℕ) (s : Cells) (r : Ring 4 points s) → r.ends.lifting ≡ 0 → get_or s.words at_put 0 ≡ 6 → get_or s.words at_got 0 ≡ 5 → get_elem? s.homes 1 ≡ some none → ⊥
none_is_lost points s r idle put got gone =
    let sent : get_or s.words at_put 0 ≡ length r.sent = r.put in
    let taken : get_or s.words at_got 0 ≡ length r.taken = r.got in
    let front = elem_at r.sent 5 (omega arith) in
    let there : get_elem? s.homes 1 ≡ some (some front.0) = r.cells 5 front.0 (omega arith) front.1 in
    let nothing : Option Message = none in
    some-ne-none front.0 (sym (some-injective nothing (some front.0) (sym gone ∙ there)))

-- no more lies in the ring than it has room for
pub none_too_many : (points : List ℕ) (s : Cells) → Ring 4 points s → get_or s.words at_put 0 ≡ 9 → get_or s.words at_got 0 ≡ 4 → ⊥
none_too_many points s r put got =
    let within = r.within in
    let sent = r.put in
    let taken = r.got in
    omega arith
