-- The lanes of a text are in order: each point has one, and their stages rise.
use Rattle.std.proofs.Common.{◌≡◌, ℕ, zero, suc, ◌+◌, ◌<◌, ◌≤◌, Bool, true, false, cond, List, [], ◌∷◌, ◌++◌, length, refl, ◌⊎◌, inl, inr, ⊎_elim, arith}
use Rattle.std.specs.Prelude.{slice_get}
use Rattle.rcv_model.specs.Text.{Body, End, Single, Choose, Loop, Again, Parallel, Call, Bodies, NoMore, Or}
use Rattle.rcv_model.specs.Places.{singles, Lane, run_of, beside, lanes_behind, lanes_of, has_point, lane_among, lane_in, lane_or_none, net_of}
use Rattle.rcv_model.specs.Form.{HasForm}
use Rattle.rcv_model.proofs.Forms.{proper}
use Rattle.rcv_parallel.specs.TextOrder.{HasLanesInOrder}

-- stages of lanes that rise, from s on
abbrev Rise : ℕ → List Lane → Type 0
Rise s [] = Unit {0}
Rise s (l ∷ ls) = (s ≤ l.stage) × Rise l.stage ls

rise_from : (s t : ℕ) (ls : List Lane) → t ≤ s → Rise s ls → Rise t ls
rise_from s t [] le r = tt
rise_from s t (l ∷ ls) le r = (let a = r.0 in omega (arith, a, le), r.1)

rise_beside : (s : ℕ) (bs : Bodies) (ls : List Lane) → Rise s ls → Rise s (beside s bs ++ ls)
rise_beside s NoMore ls r = r
rise_beside s (Or b bs) ls r = (omega arith, rise_beside s bs ls r)

rise_behind : (s : ℕ) (body : Body) → Rise s (lanes_behind s body)
rise_behind s End = tt
rise_behind s (Single label sorts a r p rest) = rise_behind s rest
rise_behind s (Choose a bs rest) = rise_behind s rest
rise_behind s (Loop name body rest) = rise_behind s rest
rise_behind s (Again name rest) = rise_behind s rest
rise_behind s (Parallel bs rest) = rise_from (s + 1) s (lanes_behind s (Parallel bs rest)) (omega arith) (rise_beside (s + 1) bs (record { stage = s + 2; body = run_of rest } ∷ lanes_behind (s + 2) rest) (omega arith, rise_behind (s + 2) rest))
rise_behind s (Call name roles rest) = rise_behind s rest

rise_text : (body : Body) → Rise 0 (lanes_of body)
rise_text body = (omega arith, rise_behind 0 body)

-- so a lane with a greater number has no earlier stage
from_first : (s m : ℕ) (ls : List Lane) → Rise s ls → m < length ls → s ≤ (lane_or_none (slice_get ls m)).stage
from_first s m [] r lt = absurd (omega (arith, lt))
from_first s zero (l ∷ ls) r lt = r.0
from_first s (suc m) (l ∷ ls) r lt = let a = from_first l.stage m ls r.1 (omega (arith, lt)) in let b = r.0 in omega (arith, a, b)

rises : (s l m : ℕ) (ls : List Lane) → Rise s ls → l ≤ m → m < length ls → (lane_or_none (slice_get ls l)).stage ≤ (lane_or_none (slice_get ls m)).stage
rises s l m [] r le lt = absurd (omega (arith, lt))
rises s zero zero (x ∷ ls) r le lt = omega arith
rises s zero (suc m) (x ∷ ls) r le lt = from_first x.stage m ls r.1 (omega (arith, lt))
rises s (suc l) zero (x ∷ ls) r le lt = absurd (omega (arith, le))
rises s (suc l) (suc m) (x ∷ ls) r le lt = rises x.stage l m ls r.1 (omega (arith, le)) (omega (arith, lt))

-- the lane of a point is one of the text's, and the first one where no lane has the point
lane_among_is : (i p : ℕ) (ls : List Lane) → (lane_among i p ls ≡ 0) ⊎ (lane_among i p ls < i + length ls)
lane_among_is i p [] = inl refl
lane_among_is i p (l ∷ ls) = go (has_point p (singles l.body)) (lane_among_is (i + 1) p ls)
  where
    go : (b : Bool) → (lane_among (i + 1) p ls ≡ 0) ⊎ (lane_among (i + 1) p ls < i + 1 + length ls) → (cond b i (lane_among (i + 1) p ls) ≡ 0) ⊎ (cond b i (lane_among (i + 1) p ls) < i + length (l ∷ ls))
    go true d = inr (omega arith)
    go false (inl e) = inl e
    go false (inr lt) = inr (omega (arith, lt))

lane_in_text : (body : Body) (p : ℕ) → lane_in body p < length (lanes_of body)
lane_in_text body p = ⊎_elim (λ e. omega (arith, e)) (λ lt. omega (arith, lt)) (lane_among_is 0 p (lanes_of body))

pub text_lanes : (body : Body) (roles : ℕ) → HasForm body roles → HasLanesInOrder (net_of body) roles (length (lanes_of body))
text_lanes body roles form = record {
  proper = proper body roles form;
  has_lane = lane_in_text body;
  rising = λ l m le lt. rises 0 l m (lanes_of body) (rise_text body) le lt;
}
