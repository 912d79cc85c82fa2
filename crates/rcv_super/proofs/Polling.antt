-- Where a role's step is a Send or a Recv, and its cell knows what the channel's other end did, a poll makes that step.
use Prim.Native.Nat.{zero, suc}
use Rattle.std.proofs.Common.{◌≡◌, ℕ, ◌+◌, ◌<◌, ◌≤◌, ◌^◌, List, [], ◌∷◌, ◌++◌, length, take, drop, refl, sym, ◌∙◌, ap, subst, ◌⊎◌, inl, inr, ⊎_elim, arith}
use Rattle.rcv_tree.specs.declared.entry.Entry.{Entry}
use Rattle.rcv_tree.specs.declared.entry.Timed.{Timed}
use Rattle.rcv_tree.specs.declared.event.Event.{Event}
use Rattle.rcv_tree.specs.declared.event.Message.{Message}
use Rattle.rcv_tree.specs.declared.event.Dir.{Dir}
use Rattle.rcv_tree.specs.declared.event.Dir.TheVariants.{Sent, Got}
use Rattle.rcv_tree.specs.Events.{message_got}
use Rattle.rcv_model.specs.Net.{IsIn, HasTwoEnds}
use Rattle.rcv_model.specs.Run.{put, taken, channel}
use Rattle.rcv_model.specs.Next.{AreNext}
use Rattle.rcv_model.specs.Journal.{State, own_of, own_place, IsOwnDue, MayOwnSend, MayOwnRecv, MaySend, MayRecv}
use Rattle.rcv_model.proofs.Located.{item}
use Rattle.rcv_model.proofs.Same.{one_next}
use Rattle.rcv_theory.specs.Own.{IsOwnLog}
use Rattle.rcv_mailbox.specs.Ends.{End, Knows, IsChannel, WasFull, WasEmpty}
use Rattle.rcv_session.specs.Session.{SessionView, roles_of, net_for, rules_of}
use Rattle.rcv_role.specs.declared.poll.Poll.{Poll}
use Rattle.rcv_role.specs.declared.poll.Poll.TheVariants as polls
use Rattle.rcv_role.specs.Part.{PartView, Offers, IsBelow, entry_by, entry_of_event}
use Rattle.rcv_role.specs.Ends.{end_at}
use Rattle.rcv_role.specs.Cell.{CellView}
use Rattle.rcv_role.specs.Poll.{IsDue, FoundFull, FoundEmpty, OnePost, OneInbox, receiver_at, Polled, HasStepped}
use Rattle.rcv_role.proofs.Slots.{taken_length}
use Rattle.rcv_super.specs.OneStep.{WasPolled}

drop_most : {A : Type 0} (xs : List A) (n : ℕ) → length xs ≤ n + length (drop n xs)
drop_most xs zero = omega arith
drop_most [] (suc n) = omega arith
drop_most (x ∷ xs) (suc n) = let le = drop_most xs n in omega (arith, le)

drop_all : {A : Type 0} (xs : List A) (n : ℕ) → length xs ≤ n → drop n xs ≡ []
drop_all [] zero le = refl
drop_all (x ∷ xs) zero le = absurd (omega (arith, le))
drop_all [] (suc n) le = refl
drop_all (x ∷ xs) (suc n) le = drop_all xs n (omega (arith, le))

-- a channel with room wasn't found full by an end that knows what was taken
full_never : (post post' inbox : End) (puts takens : List Message) (room : ℕ) → WasFull post post' → post'.list ≡ post.list → IsChannel post inbox → IsChannel post' inbox → Knows post (length inbox.list) → post.list ≡ puts → inbox.got ≡ length takens → take inbox.got inbox.list ≡ takens → post'.base.room ≡ room → length (drop (length takens) puts) < room → ⊥
full_never post post' inbox puts takens room full same old new knows list got first room_is few =
    let a = full.0.1 in
    let b = full.1 in
    let e = old.dropped_is in
    let f = new.dropped_is in
    let g = ap length same in
    let h = ap length list in
    let i = taken_length inbox.list inbox.got (got ∙ ap length (sym first)) in
    let j = drop_most puts (length takens) in
    omega (arith, a, b, e, f, g, h, i, j, knows, got, room_is, few)

-- nor was one with a message found empty by an end that knows what was put
empty_never : (inbox inbox' post : End) (puts takens : List Message) (m : Message) (rest : List Message) → WasEmpty inbox inbox' → inbox'.list ≡ inbox.list → IsChannel post inbox → IsChannel post inbox' → Knows inbox (length post.list) → post.list ≡ puts → inbox.got ≡ length takens → inbox.got ≡ length inbox.list → drop (length takens) puts ≡ m ∷ rest → ⊥
empty_never inbox inbox' post puts takens m rest empty same old new knows list got all front =
    let a = empty.0.1 in
    let b = empty.1 in
    let e = old.dropped_is in
    let f = new.dropped_is in
    let g = ap length same in
    let h = ap length list in
    let few : length puts ≤ length takens = omega (arith, a, b, e, f, g, h, knows, got, all) in
    let none : m ∷ rest ≡ [] = sym front ∙ drop_all puts (length takens) few in
    cc

-- what is known where a role's step is a Send, and what where it is a Recv
pub record CanSend (setup : SessionView) (r : ℕ) (s : State) (c : CellView) (e : Event) : Type 0 where
  pub own : own_of s r ≡ c.part.own
  pub clock : c.part.own.numbers.clock < 2 ^ 62
  pub two : HasTwoEnds (net_for setup)
  pub may : MaySend (rules_of setup) s e
  pub role : e.role ≡ r
  pub room : length (channel (net_for setup) r ((net_for setup).receiver e.point) s.kept) < (rules_of setup).room
  pub declared : (net_for setup).receiver e.point < roles_of setup
  pub apart : (net_for setup).receiver e.point ≡ r → ⊥
  pub inbox : End → End
  pub joined : (d : End) → IsChannel (end_at c.posts r ((net_for setup).receiver e.point) d) (inbox d)
  pub knows : (d : End) → Knows (end_at c.posts r ((net_for setup).receiver e.point) d) (length (inbox d).list)
  pub put : (d : End) → (end_at c.posts r ((net_for setup).receiver e.point) d).list ≡ put (net_for setup) r ((net_for setup).receiver e.point) s.kept
  pub got : (d : End) → (inbox d).got ≡ length (taken (net_for setup) r ((net_for setup).receiver e.point) s.kept)
  pub first : (d : End) → take (inbox d).got (inbox d).list ≡ taken (net_for setup) r ((net_for setup).receiver e.point) s.kept

pub record CanRecv (setup : SessionView) (r : ℕ) (s : State) (c : CellView) (e : Event) : Type 0 where
  pub own : own_of s r ≡ c.part.own
  pub clock : c.part.own.numbers.clock < 2 ^ 62
  pub two : HasTwoEnds (net_for setup)
  pub may : MayRecv (rules_of setup) s e
  pub role : e.role ≡ r
  pub declared : (net_for setup).sender e.point < roles_of setup
  pub apart : (net_for setup).sender e.point ≡ r → ⊥
  pub post : End → End
  pub joined : (d : End) → IsChannel (post d) (end_at c.inboxes r ((net_for setup).sender e.point) d)
  pub knows : (d : End) → Knows (end_at c.inboxes r ((net_for setup).sender e.point) d) (length (post d).list)
  pub put : (d : End) → (post d).list ≡ put (net_for setup) ((net_for setup).sender e.point) r s.kept
  pub got : (d : End) → (end_at c.inboxes r ((net_for setup).sender e.point) d).got ≡ length (taken (net_for setup) ((net_for setup).sender e.point) r s.kept)

-- the cell made one step, and of its ends only one on this channel changed
pub record HasMade (c c' : CellView) (from to : ℕ) : Type 0 where
  pub time : ℕ
  pub entry : Entry
  pub log : c'.part.log ≡ record { stamp = time; step = entry } ∷ []
  pub ends : ((c.part.role ≡ from) × OnePost c c' to) ⊎ ((c.part.role ≡ to) × OneInbox c c' from)

abbrev timed : Event → Entry → Timed
timed e x = record { stamp = e.stamp; step = x }

module _ (c c' : CellView) (none : c.part.log ≡ []) (was : WasPolled c c') where
  -- each answer but one is refused
  moves : (poll : Poll) → Polled c c' poll → (IsDue c.part → ⊥) → (zs : List ℕ) → Offers c.part zs → (zs ≡ [] → ⊥) → IsBelow c.part → (FoundFull c c' → ⊥) → (FoundEmpty c c' → ⊥) → HasStepped c c'
  moves polls.Crashed p calm zs next some below full empty = absurd (calm p.0)
  moves polls.Done p calm zs next some below full empty = absurd (some (one_next (net_for c.part.setup) c.part.role (own_place c.part.role c.part.own) zs [] next p.1))
  moves polls.Tired p calm zs next some below full empty = absurd (p.2 below)
  moves polls.Waiting p calm zs next some below full empty = absurd (⊎_elim full empty p.1)
  moves polls.Moved p calm zs next some below full empty = p.1

  -- what it logged
  log_is : (step : HasStepped c c') → c'.part.log ≡ timed step.event (entry_of_event step.event) ∷ []
  log_is step = ap (λ (p : PartView). p.log) step.part ∙ ap (λ l. l ++ timed step.event (entry_of_event step.event) ∷ []) none

  more_is : (step : HasStepped c c') → was.goes.more ≡ timed step.event (entry_of_event step.event) ∷ []
  more_is step = sym (was.goes.log ∙ ap (λ l. l ++ was.goes.more) none) ∙ log_is step

  made_by : (step : HasStepped c c') (dir : Dir) → step.event.dir ≡ dir → IsOwnLog (rules_of c.part.setup) c.part.role c.part.own (timed step.event (entry_by dir step.event) ∷ [])
  made_by step dir f = subst (λ (d : Dir). IsOwnLog (rules_of c.part.setup) c.part.role c.part.own (timed step.event (entry_by d step.event) ∷ [])) f (subst (IsOwnLog (rules_of c.part.setup) c.part.role c.part.own) (more_is step) was.goes.lawful)

  -- its ends are those of its channels
  an_end : (q : ℕ) → q < roles_of c'.part.setup → (q ≡ c'.part.role → ⊥) → End
  an_end q lt n = (item c'.posts 0 (let a = was.ends.post_count in let b = was.ends.declared in omega (arith, a, b, lt, n))).0

  room_is : (q : ℕ) (d : End) → q < roles_of c.part.setup → (q ≡ c.part.role → ⊥) → (end_at c'.posts c.part.role q d).base.room ≡ (rules_of c.part.setup).room
  room_is q d lt n = subst (λ (z : SessionView × ℕ). q < roles_of z.0 → (q ≡ z.1 → ⊥) → (end_at c'.posts z.1 q d).base.room ≡ (rules_of z.0).room) (λ i. (was.goes.setup i, was.goes.role i)) (λ l m. (was.ends.post q d l m).room) lt n

module _ (c c' : CellView) (s : State) (e : Event) (none : c.part.log ≡ []) (was : WasPolled c c') (can : CanSend c.part.setup c.part.role s c e) where
  may_send : MayOwnSend (rules_of c.part.setup) c.part.own e
  may_send = subst (λ o. MayOwnSend (rules_of c.part.setup) o e) (ap (own_of s) can.role ∙ can.own) can.may

  send_next : Offers c.part may_send.offered
  send_next = subst (λ r. AreNext (net_for c.part.setup) r (own_place r c.part.own) may_send.offered) can.role may_send.next

  send_some : may_send.offered ≡ [] → ⊥
  send_some f = let i : IsIn e.point [] = subst (IsIn e.point) f may_send.among in i

  same_offered : (zs : List ℕ) → Offers c.part zs → may_send.offered ≡ zs
  same_offered zs next = one_next (net_for c.part.setup) c.part.role (own_place c.part.role c.part.own) may_send.offered zs send_next next

  sends_all : (z : ℕ) → IsIn z may_send.offered → (net_for c.part.setup).sender z ≡ c.part.role
  sends_all z i = may_send.sends z i ∙ can.role

  not_empty : FoundEmpty c c' → ⊥
  not_empty found =
      let i : IsIn e.point found.offered = subst (IsIn e.point) (same_offered found.offered found.next) may_send.among in
      can.two e.point (sends_all e.point may_send.among ∙ sym (found.receives.receives e.point i).0)

  chosen : (point : ℕ) (zs : List ℕ) → Offers c.part zs → point ≡ (rules_of c.part.setup).chosen c.part.role c.part.own.events c.part.own.numbers.attempt zs → point ≡ e.point
  chosen point zs next f =
      f
      ∙ ap (λ l. (rules_of c.part.setup).chosen c.part.role c.part.own.events c.part.own.numbers.attempt l) (sym (same_offered zs next))
      ∙ ap (λ r. (rules_of c.part.setup).chosen r c.part.own.events c.part.own.numbers.attempt may_send.offered) (sym can.role)
      ∙ sym may_send.point

  not_full : FoundFull c c' → ⊥
  not_full found =
      let to : ℕ = (net_for c.part.setup).receiver e.point in
      let at : receiver_at c found.point ≡ to = ap (net_for c.part.setup).receiver (chosen found.point found.offered found.next found.chosen) in
      let d : End = an_end c c' none was to (subst (λ z. to < roles_of z) (sym was.goes.setup) can.declared) (λ f. can.apart (f ∙ was.goes.role)) in
      full_never
      (end_at c.posts c.part.role to d)
      (end_at c'.posts c.part.role to d)
      (can.inbox d)
      (put (net_for c.part.setup) c.part.role to s.kept)
      (taken (net_for c.part.setup) c.part.role to s.kept)
      (rules_of c.part.setup).room
      (subst (λ q. WasFull (end_at c.posts c.part.role q d) (end_at c'.posts c.part.role q d)) at (found.full d))
      (subst (λ q. (end_at c'.posts c.part.role q d).list ≡ (end_at c.posts c.part.role q d).list) at (found.list d))
      (can.joined d)
      (was.goes.posts to d (can.inbox d) can.declared can.apart (can.joined d))
      (can.knows d)
      (can.put d)
      (can.got d)
      (can.first d)
      (room_is c c' none was to d can.declared can.apart)
      can.room

  sent : HasStepped c c'
  sent = moves c c' none was was.poll was.polled (λ due. may_send.free.not_due (subst (λ r. IsOwnDue (rules_of c.part.setup) r c.part.own) (sym can.role) due)) may_send.offered send_next send_some (record { raw = may_send.free.below_limit; clock = can.clock }) not_full not_empty

  sent_ends : (step : HasStepped c c') (dir : Dir) → step.event.dir ≡ dir → OnePost c c' ((net_for c.part.setup).receiver e.point)
  sent_ends step Sent f =
      let log = made_by c c' none was step Sent f in
      let may : MayOwnSend (rules_of c.part.setup) c.part.own step.event = log.1.1 in
      let role : step.event.role ≡ c.part.role = log.0 in
      let next : Offers c.part may.offered = subst (λ r. AreNext (net_for c.part.setup) r (own_place r c.part.own) may.offered) role may.next in
      let point : step.event.point ≡ e.point = chosen step.event.point may.offered next (may.point ∙ ap (λ r. (rules_of c.part.setup).chosen r c.part.own.events c.part.own.numbers.attempt may.offered) role) in
      subst (OnePost c c') (ap (net_for c.part.setup).receiver point) (step.sent f).stay
  sent_ends step Got f =
      let log = made_by c c' none was step Got f in
      let may : MayOwnRecv (rules_of c.part.setup) c.part.own step.event = log.1.1 in
      let role : step.event.role ≡ c.part.role = log.0 in
      let next : Offers c.part may.offered = subst (λ r. AreNext (net_for c.part.setup) r (own_place r c.part.own) may.offered) role may.next in
      let i : IsIn e.point may.offered = subst (IsIn e.point) (same_offered may.offered next) may_send.among in
      absurd (can.two e.point (sends_all e.point may_send.among ∙ sym role ∙ sym (may.receives e.point i).0))

  pub send_made : HasMade c c' ((net_for c.part.setup).sender e.point) ((net_for c.part.setup).receiver e.point)
  send_made = record {
    time = sent.event.stamp;
    entry = entry_of_event sent.event;
    log = log_is c c' none was sent;
    ends = inl (sym (sends_all e.point may_send.among), sent_ends sent sent.event.dir refl);
  }

module _ (c c' : CellView) (s : State) (e : Event) (none : c.part.log ≡ []) (was : WasPolled c c') (can : CanRecv c.part.setup c.part.role s c e) where
  may_recv : MayOwnRecv (rules_of c.part.setup) c.part.own e
  may_recv = subst (λ o. MayOwnRecv (rules_of c.part.setup) o e) (ap (own_of s) can.role ∙ can.own) can.may.own

  recv_next : Offers c.part may_recv.offered
  recv_next = subst (λ r. AreNext (net_for c.part.setup) r (own_place r c.part.own) may_recv.offered) can.role may_recv.next

  same_waited : (zs : List ℕ) → Offers c.part zs → may_recv.offered ≡ zs
  same_waited zs next = one_next (net_for c.part.setup) c.part.role (own_place c.part.role c.part.own) may_recv.offered zs recv_next next

  -- one of the points that it waits at
  waited : (z : ℕ) × IsIn z may_recv.offered
  waited = first may_recv.offered may_recv.some
    where
      first : (zs : List ℕ) → (zs ≡ [] → ⊥) → (z : ℕ) × IsIn z zs
      first [] some = absurd (some refl)
      first (z ∷ zs) some = (z, inl refl)

  waited_in : (zs : List ℕ) → Offers c.part zs → IsIn waited.0 zs
  waited_in zs next = subst (IsIn waited.0) (same_waited zs next) waited.1

  recvs : (net_for c.part.setup).receiver waited.0 ≡ c.part.role
  recvs = (may_recv.receives waited.0 waited.1).0 ∙ can.role

  from_is : (net_for c.part.setup).sender waited.0 ≡ (net_for c.part.setup).sender e.point
  from_is = (may_recv.receives waited.0 waited.1).1 ∙ sym may_recv.sender

  never_full : FoundFull c c' → ⊥
  never_full found = can.two waited.0 (found.sends waited.0 (waited_in found.offered found.next) ∙ sym recvs)

  never_empty : FoundEmpty c c' → ⊥
  never_empty found =
      let from : ℕ = (net_for c.part.setup).sender e.point in
      let at : found.from ≡ from = sym (found.receives.receives waited.0 (waited_in found.offered found.next)).1 ∙ from_is in
      let d : End = an_end c c' none was from (subst (λ z. from < roles_of z) (sym was.goes.setup) can.declared) (λ f. can.apart (f ∙ was.goes.role)) in
      let sender : can.may.own.from ≡ from = sym can.may.own.sender in
      empty_never
      (end_at c.inboxes c.part.role from d)
      (end_at c'.inboxes c.part.role from d)
      (can.post d)
      (put (net_for c.part.setup) from c.part.role s.kept)
      (taken (net_for c.part.setup) from c.part.role s.kept)
      (message_got e)
      can.may.front.0
      (subst (λ q. WasEmpty (end_at c.inboxes c.part.role q d) (end_at c'.inboxes c.part.role q d)) at (found.empty d))
      (subst (λ q. (end_at c'.inboxes c.part.role q d).list ≡ (end_at c.inboxes c.part.role q d).list) at (found.list d))
      (can.joined d)
      (was.goes.inboxes from d (can.post d) can.declared can.apart (can.joined d))
      (can.knows d)
      (can.put d)
      (can.got d)
      (subst (λ q. (end_at c.inboxes c.part.role q d).got ≡ length (end_at c.inboxes c.part.role q d).list) at (found.received d))
      (subst (λ (z : ℕ × ℕ). channel (net_for c.part.setup) z.0 z.1 s.kept ≡ message_got e ∷ can.may.front.0) (λ i. (sender i, can.role i)) can.may.front.1)

  got : HasStepped c c'
  got = moves c c' none was was.poll was.polled (λ due. may_recv.free.not_due (subst (λ r. IsOwnDue (rules_of c.part.setup) r c.part.own) (sym can.role) due)) may_recv.offered recv_next may_recv.some (record { raw = may_recv.free.below_limit; clock = can.clock }) never_full never_empty

  got_ends : (step : HasStepped c c') (dir : Dir) → step.event.dir ≡ dir → OneInbox c c' ((net_for c.part.setup).sender e.point)
  got_ends step Sent f =
      let log = made_by c c' none was step Sent f in
      let may : MayOwnSend (rules_of c.part.setup) c.part.own step.event = log.1.1 in
      let role : step.event.role ≡ c.part.role = log.0 in
      let next : Offers c.part may.offered = subst (λ r. AreNext (net_for c.part.setup) r (own_place r c.part.own) may.offered) role may.next in
      absurd (can.two waited.0 (may.sends waited.0 (waited_in may.offered next) ∙ role ∙ sym recvs))
  got_ends step Got f =
      let log = made_by c c' none was step Got f in
      let may : MayOwnRecv (rules_of c.part.setup) c.part.own step.event = log.1.1 in
      let role : step.event.role ≡ c.part.role = log.0 in
      let next : Offers c.part may.offered = subst (λ r. AreNext (net_for c.part.setup) r (own_place r c.part.own) may.offered) role may.next in
      let sender : (net_for c.part.setup).sender step.event.point ≡ (net_for c.part.setup).sender e.point = may.sender ∙ sym (may.receives waited.0 (waited_in may.offered next)).1 ∙ from_is in
      subst (OneInbox c c') sender (step.got f).stay

  pub recv_made : HasMade c c' ((net_for c.part.setup).sender e.point) ((net_for c.part.setup).receiver e.point)
  recv_made = record {
    time = got.event.stamp;
    entry = entry_of_event got.event;
    log = log_is c c' none was got;
    ends = inr (sym ((can.may.own.receives e.point can.may.among).0 ∙ can.role), got_ends got got.event.dir refl);
  }
