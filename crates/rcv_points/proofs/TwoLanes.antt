-- The points of texts with a par, computed: lanes beside each other with a message behind, and a lane that is a loop.
use Rattle.std.proofs.Common.{◌≡◌, ℕ, zero, suc, ◌≤◌, false, List, [], ◌∷◌, refl, ap, ◌⊎◌, inl, inr, arith}
use Rattle.std.specs.Prelude.{slice_index_or}
use Rattle.rcv_model.specs.Text.{Body, End, Single, Choose, Loop, Again, Parallel, NoMore, Or}
use Rattle.rcv_model.specs.Places.{lane_in, net_of}
use Rattle.rcv_model.specs.Form.{HasForm}
use Rattle.rcv_points.specs.Follow.{PointView, LaneView, PointsView, ArePointsOf, offered_at, net_in}
use Rattle.rcv_points.proofs.Whole.{same_net}

-- par { a from A to B; } and { c from C to D; } e from B to C; nothing stands before the par, so that the start offers nothing
abbrev pub two_lanes : Body
two_lanes = Parallel (Or (Single (97 ∷ []) [] 0 1 1 End) (Or (Single (99 ∷ []) [] 2 3 2 End) NoMore)) (Single (101 ∷ []) [] 1 2 3 End)

pub two_form : HasForm two_lanes 4
two_form = record {
  numbered = (refl, (refl, (refl, tt)));
  ends = (omega arith, omega arith, (λ e. omega arith), (omega arith, omega arith, (λ e. omega arith), (omega arith, omega arith, (λ e. omega arith), tt)));
  subjects = ((tt, (tt, tt)), tt);
  apart = ((apart, ((λ r h k. k), tt)), tt);
  few_roles = omega arith;
  few_points = omega arith;
}
  where
    apart : (r : ℕ) → ((0 ≡ r) ⊎ (1 ≡ r)) ⊎ ⊥ → (((2 ≡ r) ⊎ (3 ≡ r)) ⊎ ⊥) → ⊥
    apart r (inl (inl e)) (inl (inl f)) = omega (arith, e, f)
    apart r (inl (inl e)) (inl (inr f)) = omega (arith, e, f)
    apart r (inl (inr e)) (inl (inl f)) = omega (arith, e, f)
    apart r (inl (inr e)) (inl (inr f)) = omega (arith, e, f)
    apart r (inl (inl e)) (inr none) = none
    apart r (inl (inr e)) (inr none) = none
    apart r (inr none) d = none

abbrev message : ℕ → ℕ → ℕ → PointView
message label sender receiver = record { label = label ∷ []; sender = sender; receiver = receiver; payload = false }

abbrev lane : ℕ → List ℕ → LaneView
lane stage begins = record { stage = stage; begins = begins }

abbrev points : PointsView
points =
    record {
      places = [] ∷ [] ∷ [] ∷ [] ∷ [];
      messages = message 97 0 1 ∷ message 99 2 3 ∷ message 101 1 2 ∷ [];
      choices = [];
      lanes = lane 0 [] ∷ lane 1 (1 ∷ []) ∷ lane 1 (2 ∷ []) ∷ lane 2 (3 ∷ []) ∷ [];
      lane_numbers = 0 ∷ 1 ∷ 2 ∷ 3 ∷ [];
    }

are_points : ArePointsOf two_lanes points
are_points = record {
  all = refl;
  offered = offered;
  messages = refl;
  choices = λ s p. ((λ n. absurd n), (λ n. absurd n));
  lanes = refl;
  numbered = refl;
  lane_numbers = lane_numbers;
}
  where
    offered : (k : ℕ) → k ≤ (net_of two_lanes).count → offered_at points k ≡ (net_of two_lanes).offers k
    offered zero last = refl
    offered (suc zero) last = refl
    offered (suc (suc zero)) last = refl
    offered (suc (suc (suc zero))) last = refl
    offered (suc (suc (suc (suc k)))) last = absurd (omega (arith, last))

    lane_numbers : (k : ℕ) → k ≤ (net_of two_lanes).count → slice_index_or points.lane_numbers k 0 ≡ lane_in two_lanes k
    lane_numbers zero last = refl
    lane_numbers (suc zero) last = refl
    lane_numbers (suc (suc zero)) last = refl
    lane_numbers (suc (suc (suc zero))) last = refl
    lane_numbers (suc (suc (suc (suc k)))) last = absurd (omega (arith, last))

-- so they say what the text says: e stands in the stage behind a and c
says : net_in points ≡ net_of two_lanes
says = same_net two_lanes 4 points two_form are_points

e_is_behind : (net_in points).stage ((net_in points).lane 3) ≡ 2
e_is_behind = refl

-- points that say e beside a and c aren't the text's
abbrev all_beside : PointsView
all_beside =
    record {
      places = points.places;
      messages = points.messages;
      choices = [];
      lanes = lane 0 [] ∷ lane 1 (1 ∷ []) ∷ lane 1 (2 ∷ []) ∷ lane 1 (3 ∷ []) ∷ [];
      lane_numbers = points.lane_numbers;
    }

not_beside : ArePointsOf two_lanes all_beside → ⊥
not_beside are = let e : 1 ≡ 2 = ap (λ l. (slice_index_or l 3 (lane 0 [])).stage) are.lanes in absurd (omega (arith, e))

-- nor are those where a place offers what another lane begins with
abbrev goes_on : PointsView
goes_on = record { places = [] ∷ (3 ∷ []) ∷ [] ∷ [] ∷ []; messages = points.messages; choices = []; lanes = points.lanes; lane_numbers = points.lane_numbers }

not_goes_on : ArePointsOf two_lanes goes_on → ⊥
not_goes_on are = some 3 [] (are.offered 1 (omega arith))
  where
    some : (x : ℕ) (xs : List ℕ) → x ∷ xs ≡ [] → ⊥
    some x xs e = cc

-- a from A to B; par { rec X { choice at A { b from A to B; continue X; } or { c from A to B; } } } and { d from C to D; }
abbrev looping : Body
looping =
    Single (97 ∷ []) [] 0 1 1
    (Parallel (Or (Loop (88 ∷ []) (Choose 0 (Or (Single (98 ∷ []) [] 0 1 2 (Again (88 ∷ []) End)) (Or (Single (99 ∷ []) [] 0 1 3 End) NoMore)) End) End) (Or (Single (100 ∷ []) [] 2 3 4 End) NoMore)) End)

-- the loop is a lane: it begins with the choice, goes round behind b and ends behind c; nothing is offered behind a in its lane,
-- and the run behind the par is empty
loops : (net_of looping).begins 1 ≡ 2 ∷ 3 ∷ []
loops = refl

places_are : (net_of looping).offers 0 ∷ (net_of looping).offers 1 ∷ (net_of looping).offers 2 ∷ (net_of looping).offers 3 ∷ (net_of looping).offers 4 ∷ [] ≡ (1 ∷ []) ∷ [] ∷ (2 ∷ 3 ∷ []) ∷ [] ∷ [] ∷ []
places_are = refl

stages_are : (net_of looping).stage 0 ∷ (net_of looping).stage 1 ∷ (net_of looping).stage 2 ∷ (net_of looping).stage 3 ∷ [] ≡ 0 ∷ 1 ∷ 1 ∷ 2 ∷ []
stages_are = refl
