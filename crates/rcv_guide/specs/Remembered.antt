-- What a guide remembers, in a form that can be restored: the messages of what is forgotten, and the events.
use Rattle.std.specs.Prelude.{◌≡◌, ℕ, ◌<◌, ◌≤◌, ◌^◌, Some, List, ◌++◌, length, All, flat_map, drop, take, slice_get, slice_index}
use Rattle.std.specs.List.{range_with_len}
use Rattle.std.specs.List.Sorted.{IsNonDecreasingBy}
use Rattle.rcv_tree.specs.declared.event.Event.{Event}
use Rattle.rcv_model.specs.Journal.{events_of}
use Rattle.rcv_ledger.specs.Logs.{log_at}
use Rattle.rcv_guide.specs.Numbers.{numbers_at}
use Rattle.rcv_guide.specs.Guide.{GuideView, net_for, roles_of}

-- The seeds of a role: its forgotten Sends whose messages weren't received by what is forgotten.
abbrev pub seeds_at : GuideView → ℕ → List Event
seeds_at g r = take (numbers_at g.numbers r).seeds (log_at g.logs r)

-- Those of all roles, in order.
abbrev pub seeds_of : GuideView → List Event
seeds_of g = flat_map (seeds_at g) (range_with_len 0 (roles_of g))

-- The event is one of a declared role at a point of the text.
pub record IsDeclaredIn (g : GuideView) (e : Event) : Type 0 where
  pub role : e.role < roles_of g
  pub first : 1 ≤ e.point
  pub last : e.point ≤ (net_for g).count

-- The remembered events of each role after its seeds, in the order of their stamps: so each Recv stands after its Send.
pub record AreRemembered (g : GuideView) (events : List Event) : Type 0 where
  pub each : (r : ℕ) → events_of r events ≡ drop (numbers_at g.numbers r).seeds (log_at g.logs r)
  pub sorted : IsNonDecreasingBy (λ e. e.stamp) events
  pub declared : All (IsDeclaredIn g) events

-- The events of each log are of its role, and their stamps grow.
pub record AreInOrder (logs : List (List Event)) : Type 0 where
  pub few : length logs ≤ 8
  pub small : (r : ℕ) → length (log_at logs r) < 2 ^ 31
  pub own : (r n : ℕ) (e : Event) → slice_get (log_at logs r) n ≡ Some e → e.role ≡ r
  pub grow : (r i j : ℕ) (e f : Event) → i < j → slice_get (log_at logs r) i ≡ Some e → slice_get (log_at logs r) j ≡ Some f
      → e.stamp < f.stamp

-- These are the events of all logs, each log from some place on, in the order of their stamps.
pub record IsMerge (logs : List (List Event)) (starts : List ℕ) (events : List Event) : Type 0 where
  pub each : (r : ℕ) → events_of r events ≡ drop (slice_index starts r) (log_at logs r)
  pub sorted : IsNonDecreasingBy (λ e. e.stamp) events

-- These are those of them that stand before other places. No next event has a lesser stamp.
pub record IsMerging (logs : List (List Event)) (starts places : List ℕ) (events : List Event) : Type 0 where
  pub eight : length places ≡ 8
  pub each : (r : ℕ) → events_of r events ++ drop (slice_index places r) (log_at logs r) ≡ drop (slice_index starts r) (log_at logs r)
  pub sorted : IsNonDecreasingBy (λ e. e.stamp) events
  pub below : (r i : ℕ) (e f : Event) → slice_get events i ≡ Some e → slice_get (log_at logs r) (slice_index places r) ≡ Some f
      → e.stamp ≤ f.stamp
