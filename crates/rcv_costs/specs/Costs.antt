-- What crashes cost, read off the journals of one thread.
use Rattle.std.specs.Prelude.{◌≡◌, ℕ, zero, suc, ◌+◌, ◌<◌, Option, None, List, [], ◌∷◌, ◌++◌, length, map, slice_get}
use Rattle.std.specs.List.{All}
use Rattle.std.specs.declared.alloc.Global.{Global}
use Rattle.std.specs.declared.vec.Vec.{Vec}
use Rattle.rcv_tree.specs.declared.event.Event.{Event}
use Rattle.rcv_tree.specs.declared.entry.Entry.{Entry}
use Rattle.rcv_tree.specs.declared.entry.Entry.TheVariants.{Recover}
use Rattle.rcv_model.specs.Journal.{reading, events_of}
use Rattle.rcv_model.specs.Final.{IsOneThread}
use Rattle.rcv_session.specs.Session.{SessionView, roles_of, rules_of}
use Rattle.rcv_transparent.specs.Calm.{calm}
use Rattle.rcv_costs.specs.declared.numbers.Cost.{Cost}
use Rattle.rcv_costs.specs.declared.numbers.Costs.{Costs}
use Rattle.rcv_costs.specs.Rehearsal.{crash_session, IsNoRecover}
use Rattle.rcv_costs.specs.Losses.{sum_over, lost_in, again_in}
use Rattle.rcv_costs.specs.Sampling.{At, of_role, AreShort, step_for, counts_of, counts_in}

-- The one-thread journal of the session in which nobody crashes.
abbrev pub IsCalmRun : SessionView → List Entry → Type 0
IsCalmRun session run = IsOneThread (rules_of (calm session)) run

-- The points of role r's events, in order; those of the events that it makes in the journal, and how many it makes.
abbrev pub points_of : ℕ → List Event → List ℕ
points_of r events = map (λ e. e.point) (events_of r events)

abbrev pub own_points : SessionView → List Entry → ℕ → List ℕ
own_points session run r = points_of r (reading (rules_of (calm session)) run).kept

abbrev pub made_in : SessionView → List Entry → ℕ → ℕ
made_in session run r = length (own_points session run r)

-- The same, without such a journal at hand.
abbrev pub AreOwnPoints : SessionView → ℕ → List ℕ → Type 0
AreOwnPoints session r points = (run : List Entry) → IsCalmRun session run → points ≡ own_points session run r

-- The same holds for each role.
pub record AreAllPoints (session : SessionView) (points : List (Vec ℕ Global)) : Type 0 where
  pub all : length points ≡ roles_of session
  pub short : AreShort points
  pub each : (r : ℕ) → r < roles_of session → AreOwnPoints session r (of_role points r)

-- The one of these points that belongs to the event after which the role crashes, if it crashes after so many.
abbrev pub point_before : List ℕ → ℕ → Option ℕ
point_before points zero = None
point_before points (suc n) = slice_get points n

-- The role and the count of a cost.
abbrev pub at : Cost → At
at cost = record { role = cost.role; count = cost.count }

-- The numbers are those of the first recovery in the one-thread journal of a session: that of this role, with its
-- concerned roles and its undone events; and the losses before it and after it.
pub record IsRead (session : SessionView) (cost : Cost) : Type 0 where
  pub front : List Entry
  pub keeps : List ℕ
  pub back : List Entry
  pub journal : IsOneThread (rules_of session) (front ++ Recover cost.role cost.concerned keeps cost.undone ∷ back)
  pub first : All IsNoRecover front
  pub kept_is : cost.kept ≡ length (reading (rules_of session) front).kept
  pub lost_is : cost.lost ≡ lost_in (rules_of session) (reading (rules_of session) front) cost.role
  pub again_is : cost.again ≡ again_in (rules_of session).net (roles_of session) (reading (rules_of session) front).kept
      (reading (rules_of session) (front ++ Recover cost.role cost.concerned keeps cost.undone ∷ [])).kept

-- This is what the crash costs of its role at its count: it is read off the session in which that role alone crashes,
-- once, at this count; and the points are those beside which it crashes, if nobody else does.
pub record IsCostBy (crashes : SessionView) (points : List ℕ) (cost : Cost) : Type 0 where
  pub numbers : IsRead crashes cost
  pub before_is : cost.before ≡ point_before points cost.count
  pub after_is : cost.after ≡ slice_get points cost.count

abbrev pub IsCostOf : SessionView → List Entry → Cost → Type 0
IsCostOf session run cost = IsCostBy (crash_session session cost.role cost.count) (own_points session run cost.role) cost

-- It is a cost of role r, which makes the events at these points.
abbrev pub IsCostOfRole : SessionView → ℕ → List ℕ → Cost → Type 0
IsCostOfRole session r points cost = (cost.role ≡ r) × IsCostBy (crash_session session r cost.count) points cost

-- The list went on by the costs of role r's crashes, after so many of the events at these points.
pub record HasCosts (session : SessionView) (r : ℕ) (points : List ℕ) (step : ℕ) (old new : List Cost) : Type 0 where
  pub added : List Cost
  pub is : new ≡ old ++ added
  pub counts : map at added ≡ counts_of (length points) step r
  pub each : All (IsCostOfRole session r points) added

-- These are the costs of all crashes: of each role, at each count from 0 to the number of events that it makes if nobody
-- crashes, or at every so many of them.
pub record AreCosts (session : SessionView) (costs : Costs) : Type 0 where
  pub run : List Entry
  pub alone : IsCalmRun session run
  pub step_is : costs.step ≡ step_for (sum_over (roles_of session) (λ r. made_in session run r + 1))
  pub counts : map at costs.list.items ≡ counts_in (roles_of session) (made_in session run) costs.step
  pub each : All (IsCostOf session run) costs.list.items
