-- The points of a text of one message, computed: a() from A to B;
use Rattle.std.proofs.Common.{◌≡◌, ℕ, zero, suc, ◌≤◌, false, [], ◌∷◌, codes, refl, arith}
use Rattle.rcv_model.specs.Text.{Body, End, Single}
use Rattle.std.specs.Prelude.{slice_index_or}
use Rattle.rcv_model.specs.Places.{lane_in, net_of}
use Rattle.rcv_model.specs.Form.{HasForm}
use Rattle.rcv_points.specs.Follow.{PointView, PointsView, offered_at, ArePointsOf, net_in}
use Rattle.rcv_points.proofs.Whole.{same_net}

abbrev one : Body
one = Single (codes "a") [] 0 1 1 End

one_form : HasForm one 2
one_form = record { numbered = (refl, tt); ends = (omega arith, omega arith, (λ e. omega arith), tt); subjects = tt; apart = tt; few_roles = omega arith; few_points = omega arith }

abbrev message : PointView
message = record { label = codes "a"; sender = 0; receiver = 1; payload = false }

-- the start offers it, and nothing is offered behind it
abbrev points : PointsView
points = record { places = (1 ∷ []) ∷ [] ∷ []; messages = message ∷ []; choices = []; lanes = record { stage = 0; begins = 1 ∷ [] } ∷ []; lane_numbers = 0 ∷ 0 ∷ [] }

are_points : ArePointsOf one points
are_points = record { all = refl; offered = offers; messages = refl; choices = λ s p. ((λ n. absurd n), (λ n. absurd n)); lanes = refl; numbered = refl; lane_numbers = lane_numbers }
  where
    offers : (k : ℕ) → k ≤ (net_of one).count → offered_at points k ≡ (net_of one).offers k
    offers zero last = refl
    offers (suc zero) last = refl
    offers (suc (suc k)) last = absurd (omega (arith, last))

    lane_numbers : (k : ℕ) → k ≤ (net_of one).count → slice_index_or points.lane_numbers k 0 ≡ lane_in one k
    lane_numbers zero last = refl
    lane_numbers (suc zero) last = refl
    lane_numbers (suc (suc k)) last = absurd (omega (arith, last))

-- so they say what the text says
says : net_in points ≡ net_of one
says = same_net one 2 points one_form are_points

-- points of a place more aren't its points
abbrev more : PointsView
more = record { places = (1 ∷ []) ∷ [] ∷ [] ∷ []; messages = message ∷ []; choices = []; lanes = record { stage = 0; begins = 1 ∷ [] } ∷ []; lane_numbers = 0 ∷ 0 ∷ [] }

not_points : ArePointsOf one more → ⊥
not_points are = let e : 3 ≡ 2 = are.all in absurd (omega (arith, e))
