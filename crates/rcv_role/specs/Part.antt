-- What contracts see of one role's part of a session, and what the part keeps.
use Rattle.std.specs.Prelude.{◌≡◌, ◌⊎◌, ℕ, ◌+◌, ◌*◌, ◌/◌, ◌<◌, ◌≤◌, ◌^◌, min, true, false, Option, Some, None, List, [], ◌∷◌, ◌++◌, length, take, slice_get}
use Rattle.rcv_tree.specs.declared.entry.Entry.{Entry}
use Rattle.rcv_tree.specs.declared.entry.Entry.TheVariants.{Send, Recv, Crash}
use Rattle.rcv_tree.specs.declared.entry.Timed.{Timed}
use Rattle.rcv_tree.specs.declared.event.Event.{Event}
use Rattle.rcv_tree.specs.declared.event.Dir.{Dir}
use Rattle.rcv_tree.specs.declared.event.Dir.TheVariants.{Sent, Got}
use Rattle.rcv_tree.specs.declared.event.Message.{Message}
use Rattle.rcv_tree.specs.declared.numbers.Numbers.{Numbers}
use Rattle.rcv_tree.specs.Bits.{is_listed}
use Rattle.rcv_tree.specs.Events.{message_got}
use Rattle.rcv_tree.specs.Numbers.{fresh}
use Rattle.rcv_tables.specs.Starts.{IsOwnPoint}
use Rattle.rcv_model.specs.Net.{IsIn}
use Rattle.rcv_model.specs.Run.{taken}
use Rattle.rcv_model.specs.Next.{AreNext, IsOf}
use Rattle.rcv_model.specs.Journal.{Own, MayOwnSend, own_place, own_event, own_after, group_of}
use Rattle.rcv_model.specs.Table.{IsConcerned}
use Rattle.rcv_theory.specs.Own.{own_back}
use Rattle.rcv_accept.specs.Accepted.{IsAcceptedProtocol}
use Rattle.rcv_plan.specs.Lines.{IsPlanned}
use Rattle.rcv_session.specs.Session.{SessionView, roles_of, net_for, rules_of}
use Rattle.rcv_checkpoint.specs.declared.state.State.{State}
use Rattle.rcv_checkpoint.specs.Tail.{TailView, made, AreFrom}
use Rattle.rcv_ledger.specs.Ledger.{state_behind}
use Rattle.rcv_core.specs.Setup.{vars_by}

-- A role of a session; its own events and numbers; after how many of its events the state is held, and from which count on, since
-- earlier states are forgotten; and the entries that it has made since its log was cleared.
pub record PartView : Type 0 where
  pub setup : SessionView
  pub role : ℕ
  pub own : Own
  pub held : ℕ
  pub base : ℕ
  pub log : List Timed

-- The same, made of these.
abbrev pub own_by : List Event → Numbers → Own
own_by events numbers = record { events = events; numbers = numbers }

abbrev pub part_by : SessionView → ℕ → Own → (held base : ℕ) → List Timed → PartView
part_by setup role own held base log =
    record { setup = setup; role = role; own = own; held = held; base = base; log = log }

-- The part with its log cleared.
abbrev pub cleared : PartView → PartView
cleared p = record p { log = [] }

-- Before the first event.
abbrev pub first_own : Own
first_own = record { events = []; numbers = fresh }

abbrev pub first_part : SessionView → ℕ → PartView
first_part setup role = record { setup = setup; role = role; own = first_own; held = 0; base = 0; log = [] }

-- How many of its events the role has saved: the greatest multiple of its step.
abbrev pub durable_of : PartView → ℕ
durable_of p = length p.own.events / (rules_of p.setup).every p.role * (rules_of p.setup).every p.role

-- The part without the states that come before the one after so many events.
abbrev pub from_base : PartView → ℕ → PartView
from_base p base = record p { base = base }

-- These are the part's next points.
abbrev pub Offers : PartView → List ℕ → Type 0
Offers p zs = AreNext (net_for p.setup) p.role (own_place p.role p.own) zs

-- The next points are all sends of the role; or the role receives at all of them, from one other role.
abbrev pub AllSends : PartView → List ℕ → Type 0
AllSends p zs = (z : ℕ) → IsIn z zs → (net_for p.setup).sender z ≡ p.role

pub record AllRecvs (p : PartView) (zs : List ℕ) (from : ℕ) : Type 0 where
  pub receives : (z : ℕ) → IsIn z zs → ((net_for p.setup).receiver z ≡ p.role) × ((net_for p.setup).sender z ≡ from)
  pub apart : from ≡ p.role → ⊥
  pub declared : from < roles_of p.setup

-- The role may make more events, and its clock may go on.
pub record IsBelow (p : PartView) : Type 0 where
  pub raw : p.own.numbers.raw < (rules_of p.setup).limit
  pub clock : p.own.numbers.clock < 2 ^ 62

-- The entry of an event.
abbrev pub entry_by : Dir → Event → Entry
entry_by Sent e = Send e
entry_by Got e = Recv e

abbrev pub entry_of_event : Event → Entry
entry_of_event e = entry_by e.dir e

-- The part after one event more; and after a crash, which leaves the saved states alone.
abbrev pub with_event : PartView → Event → Entry → PartView
with_event p e entry =
    record p {
      own = own_event p.own e;
      held = p.held + 1;
      log = p.log ++ record { stamp = e.stamp; step = entry } ∷ [];
    }

abbrev pub with_crash : PartView → PartView
with_crash p =
    record p {
      own = own_after p.own (Crash p.role);
      held = durable_of p;
      log = p.log ++ record { stamp = p.own.numbers.clock; step = Crash p.role } ∷ [];
    }

-- An event of this role at a point of the text. A Recv is from another role of the protocol.
pub record IsOwn (setup : SessionView) (r : ℕ) (e : Event) : Type 0 where
  pub role : e.role ≡ r
  pub first : 1 ≤ e.point
  pub last : e.point ≤ (net_for setup).count
  pub of : IsOf (net_for setup) r e.point
  pub partner : e.dir ≡ Got → ((net_for setup).sender e.point ≡ r → ⊥) × ((net_for setup).sender e.point < roles_of setup)

abbrev pub AreOwn : SessionView → ℕ → List Event → Type 0
AreOwn setup r events = (n : ℕ) (e : Event) → slice_get events n ≡ Some e → IsOwn setup r e

-- A Send to another role of the protocol.
pub record IsOwnSend (setup : SessionView) (r : ℕ) (e : Event) : Type 0 where
  pub own : IsOwn setup r e
  pub dir : e.dir ≡ Sent
  pub sender : (net_for setup).sender e.point ≡ r
  pub receiver : (net_for setup).receiver e.point < roles_of setup
  pub apart : (net_for setup).receiver e.point ≡ r → ⊥
  pub stamp : e.stamp ≤ 2 ^ 62

-- The Send that the role makes next.
pub record IsNextSend (setup : SessionView) (r : ℕ) (own : Own) (e : Event) : Type 0 where
  pub may : MayOwnSend (rules_of setup) own e
  pub sends : IsOwnSend setup r e

-- A Recv of this message.
pub record IsRecvOf (p : PartView) (m : Message) (e : Event) : Type 0 where
  pub role : e.role ≡ p.role
  pub dir : e.dir ≡ Got
  pub message : message_got e ≡ m

-- No event of the role is a Recv from itself or from a role that the protocol doesn't declare.
abbrev pub HasNoStrangers : PartView → Type 0
HasNoStrangers p =
    (t : ℕ) → (t ≡ p.role) ⊎ (roles_of p.setup ≤ t) → taken (net_for p.setup) t p.role p.own.events ≡ []

-- How many states are held, from the base on: all if the role runs, and at least the saved ones if it is crashed.
pub record HoldsStates (p : PartView) : Type 0 where
  pub base : p.base ≤ p.held
  pub within : p.held ≤ length p.own.events
  pub running : p.own.numbers.crashed ≡ false → p.held ≡ length p.own.events
  pub saved : durable_of p ≤ p.held

-- The state of a role after the first n of its events.
abbrev pub state_at : SessionView → ℕ → List Event → ℕ → State
state_at setup r events n = state_behind (vars_by setup) r (take n events)

-- What a part keeps: the session is accepted and planned, the events are the role's own, and their states are held from the base
-- on: all if the role runs, and at least the saved ones if it is crashed. The role has saved the state at the base.
pub record IsPart (setup : SessionView) (r : ℕ) (own : Own) (base count : ℕ) (tail : TailView) : Type 0 where
  pub protocol : IsAcceptedProtocol setup.protocol
  pub planned : IsPlanned (roles_of setup) setup.plan
  pub declared : r < roles_of setup
  pub sound : AreOwn setup r own.events
  pub within : count ≤ length own.events
  pub states : AreFrom (state_at setup r own.events) tail.base count tail.states
  pub count_is : count ≡ made tail
  pub base_is : tail.base ≡ base
  pub saved : length own.events / (rules_of setup).every r * (rules_of setup).every r ≤ count
  pub running : own.numbers.crashed ≡ false → count ≡ length own.events
  pub step : (k : ℕ) × (k * (rules_of setup).every r ≡ base)
  pub low : base ≤ length own.events
  pub every_is : tail.every ≡ (rules_of setup).every r
  pub room_is : tail.room ≡ (rules_of setup).limit
  pub few : length own.events ≤ own.numbers.raw
  pub most : own.numbers.raw ≤ (rules_of setup).limit

-- The part after a recovery that leaves so many of its first events: one that then runs; and one that is crashed and stays so,
-- since it is another role's recovery.
abbrev pub gone_back : PartView → ℕ → ℕ → PartView
gone_back p keep clock = record p { own = own_back p.own keep true clock; held = keep }

abbrev pub cut_back : PartView → ℕ → ℕ → PartView
cut_back p keep clock = record p { own = own_back p.own keep false clock; held = min keep p.held }

-- The point of an event, if there is one.
abbrev pub point_there : Option Event → Option ℕ
point_there None = None
point_there (Some e) = Some e.point

-- The point of the first event that the role hasn't saved; none if it has saved all.
abbrev pub first_lost : PartView → Option ℕ
first_lost p = point_there (slice_get p.own.events (durable_of p))

-- If role q fails and goes back to point n, it reaches role r: r is of q's group, or n is a point of q, and it concerns r.
abbrev pub ReachesRole : SessionView → ℕ → ℕ → ℕ → Type 0
ReachesRole setup q n r =
    (is_listed (group_of (rules_of setup) q) r ≡ true)
    ⊎ (IsOwnPoint (net_for setup) q n × IsConcerned (net_for setup) q n r)
