-- Restoring: a guide takes over where another one ended, from what that one remembered.
use Rattle.std.specs.Prelude.{◌≡◌, ℕ, ◌+◌, ◌-◌, ◌<◌, ◌≤◌, List, [], ◌∷◌, ◌++◌, length, take, slice_get, slice_set, Some}
use Rattle.rcv_tree.specs.declared.event.Event.{Event}
use Rattle.rcv_tree.specs.declared.event.Dir.{Dir}
use Rattle.rcv_tree.specs.declared.event.Dir.TheVariants.{Sent, Got}
use Rattle.rcv_tree.specs.declared.event.Message.{Message}
use Rattle.rcv_tree.specs.declared.protocol.Protocol.{Protocol}
use Rattle.rcv_tree.specs.Events.{send_of, message_got}
use Rattle.rcv_model.specs.ByPoints.{IsByEnd}
use Rattle.rcv_model.specs.Next.{IsPlaceOf}
use Rattle.rcv_model.specs.Plan.{PlanLine}
use Rattle.rcv_model.specs.Run.{taken}
use Rattle.rcv_ledger.specs.Logs.{log_at, with_event_of}
use Rattle.rcv_told.specs.Told.{IsInFront}
use Rattle.rcv_guide.specs.declared.numbers.Numbers.{Numbers}
use Rattle.rcv_guide.specs.declared.standing.Standing.{Standing}
use Rattle.rcv_guide.specs.Numbers.{numbers_at, with_seeds}
use Rattle.rcv_guide.specs.Guide.{GuideView, net_for, roles_of, opened, stand, IsNextOf, IsOfText}

-- A session that has restored nothing yet except how much was told.
abbrev pub begun_again : Protocol → List PlanLine → ℕ → ℕ → GuideView
begun_again protocol plan room told = record (opened protocol plan room) { told = told }

-- The numbers of a role that stands so, if nothing is remembered of it; and where a role stands.
abbrev pub numbers_of : Standing → Numbers
numbers_of s =
    record { seeds = 0; forgotten = s.forgotten; point = s.place; raw = s.raw; attempt = s.attempt; clock = s.clock; down = s.down }

abbrev pub standing_of : GuideView → ℕ → Standing
standing_of g r =
    let x = numbers_at g.numbers r in
    record { forgotten = x.forgotten; place = x.point; raw = x.raw; attempt = x.attempt; clock = x.clock; down = x.down }

-- The numbers of where a role stands are at most what was told.
pub record IsWithin (s : Standing) (told : ℕ) : Type 0 where
  pub forgotten : s.forgotten ≤ s.raw
  pub raw : s.raw ≤ told
  pub attempt : s.attempt ≤ told
  pub clock : s.clock ≤ told

-- A role may stand so: nothing is remembered of it, the place is one of its own, and its numbers are at most what was told.
pub record MayStand (g : GuideView) (r : ℕ) (s : Standing) : Type 0 where
  pub declared : r < roles_of g
  pub nothing : log_at g.logs r ≡ []
  pub place : IsPlaceOf (net_for g) r s.place
  pub forgotten : s.forgotten ≤ s.raw
  pub raw : s.raw ≤ g.told
  pub attempt : s.attempt ≤ g.told
  pub clock : s.clock ≤ g.told

abbrev pub with_standing : GuideView → ℕ → Standing → GuideView
with_standing g r s = record g { numbers = slice_set g.numbers r (numbers_of s) }

-- There is room for one event more of a declared role. Its stamp is above those of the role's remembered events, and at most the
-- role's clock.
pub record FitsLog (g : GuideView) (r stamp : ℕ) : Type 0 where
  pub declared : r < roles_of g
  pub room : g.used < g.room
  pub later : (n : ℕ) (e : Event) → slice_get (log_at g.logs r) n ≡ Some e → e.stamp < stamp
  pub within : stamp ≤ (numbers_at g.numbers r).clock

-- The Send of a message.
abbrev pub sent_by : ℕ → Message → Event
sent_by r m = send_of r m.point m.value m.stamp

-- A role sent the message in an event that is forgotten, and it lay in its channel then. No event of the role is restored yet.
pub record MayLie (g : GuideView) (r : ℕ) (m : Message) : Type 0 where
  pub log : FitsLog g r m.stamp
  pub only : length (log_at g.logs r) ≡ (numbers_at g.numbers r).seeds
  pub text : IsOfText g m
  pub sender : (net_for g).sender m.point ≡ r

abbrev pub with_seed : GuideView → ℕ → Message → GuideView
with_seed g r m =
    let x = numbers_at g.numbers r in
    record g {
      logs = with_event_of g.logs r (sent_by r m);
      numbers = slice_set g.numbers r (record x { seeds = x.seeds + 1 });
      used = g.used + 1;
    }

-- It is the role's turn to make the event. A Send's message has its stamp. A Recv's message is in front, and has a lower stamp.
pub record ComesAgain (g : GuideView) (e : Event) (end : ℕ) : Type 0 where
  pub next : IsNextOf g e.role e.point
  pub end_is : end ≡ e.role

abbrev pub IsTurn : GuideView → Event → Dir → Type 0
IsTurn g e Sent = ComesAgain g e ((net_for g).sender e.point) × (e.sent ≡ e.stamp)
IsTurn g e Got =
    ComesAgain g e ((net_for g).receiver e.point) × IsInFront (net_for g) (stand g e.role) (message_got e) × (e.sent < e.stamp)

-- A remembered event may be restored after those that are. The role made more events than are there now.
pub record MayBeAgain (g : GuideView) (e : Event) : Type 0 where
  pub log : FitsLog g e.role e.stamp
  pub made : (numbers_at g.numbers e.role).forgotten + (length (log_at g.logs e.role) - (numbers_at g.numbers e.role).seeds)
      < (numbers_at g.numbers e.role).raw
  pub turn : IsTurn g e e.dir

-- It changes no role's numbers, and nothing more was told.
abbrev pub with_again : GuideView → Event → GuideView
with_again g e = record g { logs = with_event_of g.logs e.role e; used = g.used + 1 }

-- An event of a role fits after those that are restored. The role has so many seeds then, and none of them takes a message.
pub record FitsEvent (g : GuideView) (e : Event) (count : ℕ) : Type 0 where
  pub log : FitsLog g e.role e.stamp
  pub text : (1 ≤ e.point) × (e.point ≤ (net_for g).count)
  pub ends : IsByEnd (net_for g) e
  pub after : e.dir ≡ Got → e.sent < e.stamp
  pub sent : e.dir ≡ Sent → e.sent ≡ e.stamp
  pub front : e.dir ≡ Got → IsInFront (net_for g) (stand g e.role) (message_got e)
  pub seeds : count ≤ length (log_at g.logs e.role) + 1
  pub seeds_are : (a : ℕ) → taken (net_for g) a e.role (take count (log_at g.logs e.role ++ e ∷ [])) ≡ []
  pub made : (numbers_at g.numbers e.role).forgotten + (length (log_at g.logs e.role) + 1 - count) ≤ (numbers_at g.numbers e.role).raw

abbrev pub with_logged : GuideView → Event → ℕ → GuideView
with_logged g e seeds =
    record g {
      logs = with_event_of g.logs e.role e;
      numbers = with_seeds g.numbers e.role seeds;
      used = g.used + 1;
    }
