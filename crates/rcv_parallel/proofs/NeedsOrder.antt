-- A proper net whose stages don't rise with the lanes' numbers: a walk sorts to a list that is none, so the laws need it.
use Rattle.std.proofs.Common.{◌≡◌, ℕ, zero, suc, ◌<◌, ◌≤◌, List, [], ◌∷◌, refl, ◌∙◌, ap, ◌⊎◌, inl, inr, ⊎_elim, arith}
use Rattle.rcv_model.specs.Net.{Net, IsIn, opened, moved, IsWalk}
use Rattle.rcv_model.specs.Next.{IsOf, IsProper}
use Rattle.rcv_model.proofs.Walks.{moved_else, opened_later}
use Rattle.rcv_parallel.specs.TextOrder.{HasLanesInOrder, by_lanes}
use Rattle.rcv_parallel.proofs.EachLane.{some_point}

-- a from A to B; c from C to D; point 1 stands in lane 2, which is the second stage, point 2 in lane 1, which is the third
lanes : ℕ → ℕ
lanes zero = 0
lanes (suc zero) = 2
lanes (suc (suc p)) = 1

stages : ℕ → ℕ
stages zero = 0
stages (suc zero) = 2
stages (suc (suc l)) = 1

starts : ℕ → List ℕ
starts zero = []
starts (suc zero) = 2 ∷ []
starts (suc (suc zero)) = 1 ∷ []
starts (suc (suc (suc l))) = []

senders : ℕ → ℕ
senders zero = 0
senders (suc zero) = 0
senders (suc (suc p)) = 2

receivers : ℕ → ℕ
receivers zero = 1
receivers (suc zero) = 1
receivers (suc (suc p)) = 3

abbrev falls : Net
unfolding lanes stages starts senders receivers
falls = record { count = 2; offers = λ k. []; sender = senders; receiver = receivers; label = λ p. []; lane = lanes; stage = stages; begins = starts }

falls_proper : IsProper falls 4
unfolding lanes stages starts senders receivers
falls_proper = record {
  in_text = λ k p i. absurd i;
  begun_in_text = in_text;
  senders = known_senders;
  receivers = known_receivers;
  two_ends = differ;
  lanes = record { kept = λ k p i. absurd i; begun = begun; first = refl; later = later; in_order = in_order; one_lane = one_lane };
}
  where
    in_text : (l p : ℕ) → IsIn p (starts l) → (1 ≤ p) × (p ≤ 2)
    in_text zero p i = absurd i
    in_text (suc zero) p i = ⊎_elim (λ e. (omega (arith, e), omega (arith, e))) (λ none. absurd none) i
    in_text (suc (suc zero)) p i = ⊎_elim (λ e. (omega (arith, e), omega (arith, e))) (λ none. absurd none) i
    in_text (suc (suc (suc l))) p i = absurd i

    known_senders : (p : ℕ) → 1 ≤ p → p ≤ 2 → senders p < 4
    known_senders zero low high = omega arith
    known_senders (suc zero) low high = omega arith
    known_senders (suc (suc p)) low high = omega arith

    known_receivers : (p : ℕ) → 1 ≤ p → p ≤ 2 → receivers p < 4
    known_receivers zero low high = omega arith
    known_receivers (suc zero) low high = omega arith
    known_receivers (suc (suc p)) low high = omega arith

    differ : (p : ℕ) → senders p ≡ receivers p → ⊥
    differ zero e = omega (arith, e)
    differ (suc zero) e = omega (arith, e)
    differ (suc (suc p)) e = omega (arith, e)

    begun : (l p : ℕ) → IsIn p (starts l) → lanes p ≡ l
    begun zero p i = absurd i
    begun (suc zero) p i = ⊎_elim (λ e. ap lanes e) (λ none. absurd none) i
    begun (suc (suc zero)) p i = ⊎_elim (λ e. ap lanes e) (λ none. absurd none) i
    begun (suc (suc (suc l))) p i = absurd i

    later : (l : ℕ) → (l ≡ 0) ⊎ ((starts l ≡ []) ⊎ (0 < stages l))
    later zero = inl refl
    later (suc zero) = inr (inr (omega arith))
    later (suc (suc l)) = inr (inr (omega arith))

    in_order : (p q : ℕ) → 1 ≤ p → p ≤ q → q ≤ 2 → stages (lanes p) ≤ stages (lanes q)
    in_order zero q low le high = absurd (omega (arith, low))
    in_order (suc zero) zero low le high = absurd (omega (arith, le))
    in_order (suc zero) (suc zero) low le high = omega arith
    in_order (suc zero) (suc (suc q)) low le high = omega arith
    in_order (suc (suc p)) zero low le high = absurd (omega (arith, le))
    in_order (suc (suc p)) (suc zero) low le high = absurd (omega (arith, le))
    in_order (suc (suc p)) (suc (suc q)) low le high = omega arith

    one_lane : (r p q : ℕ) → 1 ≤ p → p ≤ 2 → 1 ≤ q → q ≤ 2 → IsOf falls r p → IsOf falls r q → stages (lanes p) ≡ stages (lanes q) → lanes p ≡ lanes q
    one_lane r zero q lp hp lq hq own_p own_q same = absurd (omega (arith, lp))
    one_lane r p zero lp hp lq hq own_p own_q same = absurd (omega (arith, lq))
    one_lane r (suc zero) (suc zero) lp hp lq hq own_p own_q same = refl
    one_lane r (suc zero) (suc (suc q)) lp hp lq hq own_p own_q same = absurd (omega (arith, same))
    one_lane r (suc (suc p)) (suc zero) lp hp lq hq own_p own_q same = absurd (omega (arith, same))
    one_lane r (suc (suc p)) (suc (suc q)) lp hp lq hq own_p own_q same = refl

falls_short : HasLanesInOrder falls 4 3 → ⊥
unfolding lanes stages starts senders receivers
falls_short has = let up = has.rising 1 2 (omega arith) (omega arith) in omega (arith, up)

-- the walk a, c sorts to c, a, and that is no walk
a_c : IsWalk falls 0 (1 ∷ 2 ∷ [])
unfolding lanes stages starts senders receivers
a_c = (record { offered = inl refl; ended = before_a }, (record { offered = inl refl; ended = before_c }, tt))
  where
    before_a : (l : ℕ) → stages l < 1 → opened falls 0 l ≡ []
    before_a zero lt = refl
    before_a (suc zero) lt = absurd (omega (arith, lt))
    before_a (suc (suc l)) lt = absurd (omega (arith, lt))

    before_c : (l : ℕ) → stages l < 2 → moved falls (opened falls 0) 1 l ≡ []
    before_c zero lt = refl
    before_c (suc zero) lt = absurd (omega (arith, lt))
    before_c (suc (suc zero)) lt = refl
    before_c (suc (suc (suc l))) lt = moved_else falls (opened falls 0) 1 (suc (suc (suc l))) (λ e. omega (arith, e)) ∙ opened_later falls 0 (suc (suc (suc l))) (λ e. omega (arith, e)) (omega arith)

sorts_to : by_lanes falls 3 (1 ∷ 2 ∷ []) ≡ 2 ∷ 1 ∷ []
unfolding lanes stages starts senders receivers
sorts_to = refl

c_a_is_none : IsWalk falls 0 (2 ∷ 1 ∷ []) → ⊥
unfolding lanes stages starts senders receivers
c_a_is_none walk = some (walk.0.ended 2 (omega arith))
  where
    some : starts 2 ≡ [] → ⊥
    some e = some_point 1 [] e
