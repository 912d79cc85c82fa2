-- What one poll did, by what it answers.
use Rattle.std.specs.Prelude.{◌≡◌, ◌⊎◌, ℕ, List, [], length}
use Rattle.rcv_tree.specs.declared.event.Event.{Event}
use Rattle.rcv_tree.specs.declared.event.Dir.TheVariants.{Sent, Got}
use Rattle.rcv_tree.specs.Events.{message_sent, message_got}
use Rattle.rcv_model.specs.Journal.{IsOwnDue}
use Rattle.rcv_session.specs.Session.{net_for, rules_of}
use Rattle.rcv_mailbox.specs.Ends.{End, WasFull, WasEmpty}
use Rattle.rcv_role.specs.declared.poll.Poll.{Poll}
use Rattle.rcv_role.specs.declared.poll.Poll.TheVariants.{Crashed, Done, Tired, Moved, Waiting}
use Rattle.rcv_role.specs.Part.{PartView, Offers, AllSends, AllRecvs, IsBelow, with_event, with_crash, entry_of_event}
use Rattle.rcv_role.specs.Ends.{slot, end_at, HasPut, HasTaken, OthersStay}
use Rattle.rcv_role.specs.Cell.{CellView, cell_of}

-- A crash line of the role has come.
abbrev pub IsDue : PartView → Type 0
IsDue p = IsOwnDue (rules_of p.setup) p.role p.own

-- None has; the role has a next point, and may make more events.
pub record IsReady (p : PartView) : Type 0 where
  pub calm : IsDue p → ⊥
  pub next : Offers p [] → ⊥
  pub below : IsBelow p

-- Who receives at a point, and who sends there.
abbrev pub receiver_at : CellView → ℕ → ℕ
receiver_at c point = (net_for c.part.setup).receiver point

abbrev pub sender_at : CellView → ℕ → ℕ
sender_at c point = (net_for c.part.setup).sender point

-- No inbox has changed, and no post but the one to this role; or no post has changed, and no inbox but the one from this role.
pub record OnePost (old new : CellView) (to : ℕ) : Type 0 where
  pub inboxes : new.inboxes ≡ old.inboxes
  pub others : OthersStay old.posts new.posts (slot old.part.role to)

pub record OneInbox (old new : CellView) (from : ℕ) : Type 0 where
  pub posts : new.posts ≡ old.posts
  pub others : OthersStay old.inboxes new.inboxes (slot old.part.role from)

-- The role sends next, at a point that its script chooses, and found that channel full. What it has put stays.
pub record FoundFull (old new : CellView) : Type 0 where
  pub offered : List ℕ
  pub next : Offers old.part offered
  pub sends : AllSends old.part offered
  pub point : ℕ
  pub chosen : point ≡ (rules_of old.part.setup).chosen old.part.role old.part.own.events old.part.own.numbers.attempt offered
  pub full : (d : End)
      → WasFull (end_at old.posts old.part.role (receiver_at old point) d)
      (end_at new.posts old.part.role (receiver_at old point) d)
  pub stay : OnePost old new (receiver_at old point)
  pub list : (d : End)
      → (end_at new.posts old.part.role (receiver_at old point) d).list
      ≡ (end_at old.posts old.part.role (receiver_at old point) d).list

-- The role receives next from this role, and found that channel empty. What it has taken stays, and so does how much of that
-- it has received.
pub record FoundEmpty (old new : CellView) : Type 0 where
  pub offered : List ℕ
  pub next : Offers old.part offered
  pub from : ℕ
  pub receives : AllRecvs old.part offered from
  pub received : (d : End)
      → (end_at old.inboxes old.part.role from d).got ≡ length (end_at old.inboxes old.part.role from d).list
  pub empty : (d : End) → WasEmpty (end_at old.inboxes old.part.role from d) (end_at new.inboxes old.part.role from d)
  pub stay : OneInbox old new from
  pub list : (d : End)
      → (end_at new.inboxes old.part.role from d).list ≡ (end_at old.inboxes old.part.role from d).list
  pub got : (d : End) → (end_at new.inboxes old.part.role from d).got ≡ (end_at old.inboxes old.part.role from d).got

-- A Send put its message on the post to the receiver.
pub record EndsOfSend (old new : CellView) (e : Event) : Type 0 where
  pub stay : OnePost old new (receiver_at old e.point)
  pub put : (d : End)
      → HasPut (end_at old.posts old.part.role (receiver_at old e.point) d)
      (end_at new.posts old.part.role (receiver_at old e.point) d) (message_sent e)

-- A Recv received its message from the inbox of the sender.
pub record EndsOfRecv (old new : CellView) (e : Event) : Type 0 where
  pub stay : OneInbox old new (sender_at old e.point)
  pub taken : (d : End)
      → HasTaken (end_at old.inboxes old.part.role (sender_at old e.point) d)
      (end_at new.inboxes old.part.role (sender_at old e.point) d) (message_got e)

-- The role made one step, a Send or a Recv.
pub record HasStepped (old new : CellView) : Type 0 where
  pub event : Event
  pub part : new.part ≡ with_event old.part event (entry_of_event event)
  pub sent : event.dir ≡ Sent → EndsOfSend old new event
  pub got : event.dir ≡ Got → EndsOfRecv old new event

abbrev pub Polled : CellView → CellView → Poll → Type 0
Polled old new Crashed = IsDue old.part × (new ≡ cell_of (with_crash old.part) old.posts old.inboxes)
Polled old new Done = (IsDue old.part → ⊥) × Offers old.part [] × (new ≡ old)
Polled old new Tired = (IsDue old.part → ⊥) × (Offers old.part [] → ⊥) × (IsBelow old.part → ⊥) × (new ≡ old)
Polled old new Moved = IsReady old.part × HasStepped old new
Polled old new Waiting = IsReady old.part × (FoundFull old new ⊎ FoundEmpty old new) × (new.part ≡ old.part)
