-- In a text lanes are numbered in text order.
use Rattle.std.proofs.Common.{◌≡◌, ℕ, zero, suc, ◌+◌, ◌<◌, ◌≤◌, List, [], ◌∷◌, length, sym, ap, subst, ⊎_elim, arith, length-append}
use Rattle.std.specs.Prelude.{slice_get}
use Rattle.std.proofs.lemmas.Bool.{cases_lt}
use Rattle.rcv_model.specs.Text.{Body}
use Rattle.rcv_model.specs.Places.{singles, Lane, lanes_of, lane_or_none, lane_in, net_of}
use Rattle.rcv_model.specs.Form.{IsNumberedFrom}
use Rattle.rcv_model.proofs.LanesOfText.{Has, in_range, has_number, singles_all, flat, has_in, lane_is}
use Rattle.rcv_points.proofs.ByLanes.{num_front, num_back}
use Rattle.rcv_tables.specs.Line.{LanesRise}

-- the lane of a point
found : (n p : ℕ) (ls : List Lane) → IsNumberedFrom n (singles_all ls) → n ≤ p → p < n + length (singles_all ls) → (d : ℕ) × Has p (singles (lane_or_none (slice_get ls d)).body)
found n p [] num low high = absurd (omega arith)
found n p (m ∷ ls) num low high = ⊎_elim
    (λ lt. (0, has_number n p (singles m.body) (num_front n (singles m.body) (singles_all ls) num) low lt))
    (λ le. behind (found (n + length (singles m.body)) p ls (num_back n (singles m.body) (singles_all ls) num) le (let e = length-append (singles m.body) (singles_all ls) in omega (arith, high, e))))
    (cases_lt p (n + length (singles m.body)))
  where
    behind : (d : ℕ) × Has p (singles (lane_or_none (slice_get ls d)).body) → (d : ℕ) × Has p (singles (lane_or_none (slice_get (m ∷ ls) d)).body)
    behind r = (suc r.0, r.1)

-- points in order stand in lanes in order
ordered : (n p q d e : ℕ) (ls : List Lane) → IsNumberedFrom n (singles_all ls) → p ≤ q → Has p (singles (lane_or_none (slice_get ls d)).body) → Has q (singles (lane_or_none (slice_get ls e)).body) → d ≤ e
ordered n p q d e [] num le h k = absurd h
ordered n p q zero e (m ∷ ls) num le h k = omega arith
ordered n p q (suc d) zero (m ∷ ls) num le h k =
    let a = in_range (n + length (singles m.body)) p (singles_all ls) (num_back n (singles m.body) (singles_all ls) num) (has_in p d ls h) in
    let b = in_range n q (singles m.body) (num_front n (singles m.body) (singles_all ls) num) k in
    absurd (omega (arith, a.0, b.1, le))
ordered n p q (suc d) (suc e) (m ∷ ls) num le h k =
    let ih = ordered (n + length (singles m.body)) p q d e ls (num_back n (singles m.body) (singles_all ls) num) le h k in
    omega (arith, ih)

pub lanes_rise : (body : Body) → IsNumberedFrom 1 (singles body) → LanesRise (net_of body)
lanes_rise body num p q low le high = subst (λ l. l ≤ lane_in body q) (sym (lane_is body p at_p.0 numbered at_p.1)) (subst (λ l. at_p.0 ≤ l) (sym (lane_is body q at_q.0 numbered at_q.1)) (ordered 1 p q at_p.0 at_q.0 (lanes_of body) numbered le at_p.1 at_q.1))
  where
    numbered : IsNumberedFrom 1 (singles_all (lanes_of body))
    numbered = subst (IsNumberedFrom 1) (flat body) num

    count : length (singles body) ≡ length (singles_all (lanes_of body))
    count = ap length (flat body)

    at_p : (d : ℕ) × Has p (singles (lane_or_none (slice_get (lanes_of body) d)).body)
    at_p = found 1 p (lanes_of body) numbered low (omega (arith, le, high, count))

    at_q : (d : ℕ) × Has q (singles (lane_or_none (slice_get (lanes_of body) d)).body)
    at_q = found 1 q (lanes_of body) numbered (omega (arith, low, le)) (omega (arith, high, count))
