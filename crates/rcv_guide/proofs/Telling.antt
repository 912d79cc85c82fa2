-- A Send or a Recv that may come, and the guide with it.
use Rattle.std.proofs.Common.{◌≡◌, ℕ, ℤ, zero, suc, ◌+◌, ◌<◌, ◌≤◌, ◌^◌, false, Some, List, [], ◌∷◌, ◌++◌, length, length-append, drop, replicate, refl, sym, ◌∙◌, ap, subst, inr, arith}
use Rattle.std.specs.Prelude.{max, pos, slice_get}
use Rattle.rcv_tree.specs.declared.event.Event.{Event}
use Rattle.rcv_tree.specs.declared.event.Message.{Message}
use Rattle.rcv_tree.specs.declared.event.Dir.TheVariants.{Sent, Got}
use Rattle.rcv_tree.specs.declared.entry.Entry.TheVariants.{Send, Recv}
use Rattle.rcv_tree.specs.declared.protocol.Protocol.{Protocol}
use Rattle.rcv_tree.specs.Events.{message_got}
use Rattle.rcv_model.specs.Plan.{PlanLine}
use Rattle.rcv_model.specs.Run.{acts, place_of, is_sent, put_by, put, taken}
use Rattle.rcv_model.specs.Journal.{events_of}
use Rattle.rcv_model.proofs.Located.{get_below}
use Rattle.rcv_model.proofs.Parts.{acts_own}
use Rattle.rcv_model.proofs.Queues.{from_of, get_here, put_by_true}
use Rattle.rcv_model.proofs.Steps.{send_queued, recv_queued}
use Rattle.rcv_checkpoint.specs.declared.state.State as checkpoints
use Rattle.rcv_tables.specs.Rows.{TableView}
use Rattle.rcv_ledger.specs.Channels.{ChannelView, channel_at, HasFront}
use Rattle.rcv_ledger.specs.Logs.{log_at}
use Rattle.rcv_ledger.specs.Ledger as ledgers
use Rattle.rcv_ledger.specs.Ledger.{LedgerView, with_send, with_recv, behind_event, state_behind, HasRoomToSend}
use Rattle.rcv_ledger.specs.Laws.{IsMore}
use Rattle.rcv_ledger.proofs.Holding.{sends_hold, recvs_hold}
use Rattle.rcv_told.specs.Told.{IsSend, IsRecv}
use Rattle.rcv_told.proofs.Memories.{place_join}
use Rattle.rcv_guide.specs.declared.news.News.{News}
use Rattle.rcv_guide.specs.declared.numbers.Numbers.{Numbers}
use Rattle.rcv_guide.specs.Numbers.{numbers_at, with_advanced}
use Rattle.rcv_guide.specs.Guide.{GuideView, guide_of, net_for, roles_of, stand, in_channel, no_vars, with_event, HasRoom, IsAfter, IsAble, MayBeSent, MayBeReceived, message, sent, received, stamp_to_send, stamp_to_receive, IsGuide}
use Rattle.rcv_guide.proofs.Memories.{declared_by, tells_send, tells_recv, lies}
use Rattle.rcv_guide.proofs.Guides.{low, log_is, carried, next_in, sender_in, receiver_in}
use Rattle.rcv_guide.proofs.Growing.{memory_more, rooms_more, IsFitting, guide_more}
use Rattle.rcv_guide.proofs.Reserved.{send_fits}
use Rattle.rcv_guide.proofs.Starting.{view_with}

-- the first of what is dropped to
head_dropped : {A : Type 0} (n : ℕ) (xs rest : List A) (x : A) → drop n xs ≡ x ∷ rest → slice_get xs n ≡ Some x
head_dropped zero [] rest x e = absurd (cc)
head_dropped zero (y ∷ xs) rest x e = cc
head_dropped (suc n) [] rest x e = absurd (cc)
head_dropped (suc n) (y ∷ xs) rest x e = head_dropped n xs rest x e

-- the state behind one event more
abbrev state_with : ℕ → List ℤ → checkpoints.State
state_with k vars = record { k = k; vars = vars }

pub behind_more : (events : List Event) (e : Event) → behind_event e (replicate 16 (pos 0)) ≡ state_behind no_vars e.role (events ++ e ∷ [])
behind_more events e = ap (λ k. state_with k (replicate 16 (pos 0))) (sym (ap (place_of 0) (acts_own events e) ∙ place_join 0 (acts e.role events) (record { dir = e.dir; point = e.point } ∷ [])))

-- the same guide with one event more
pub more_view : (protocol : Protocol) (plan : List PlanLine) (ledger now : LedgerView) (numbers new : List Numbers) (room told : ℕ) (e : Event) → now.logs ≡ ledgers.with_event ledger.logs e → length now.entries ≡ length ledger.entries + 1 → new ≡ with_advanced numbers e → guide_of protocol plan now new room (told + 1) ≡ with_event (guide_of protocol plan ledger numbers room told) e
more_view protocol plan ledger now numbers new room told e logs size is =
    ap (λ l. view_with protocol plan l new room (length now.entries) (told + 1)) logs
    ∙ ap (λ n. view_with protocol plan (ledgers.with_event ledger.logs e) n room (length now.entries) (told + 1)) is
    ∙ ap (λ n. view_with protocol plan (ledgers.with_event ledger.logs e) (with_advanced numbers e) room n (told + 1)) size

-- a message in front was put there by a Send
module _ {g : GuideView} {table : TableView} {ledger : LedgerView} (kept : IsGuide g table ledger) (from r : ℕ) (lt : from < roles_of g) (m : Message) (rest : List Message) (front : in_channel g from r ≡ m ∷ rest) where
  pub front_at : slice_get (put (net_for g) from r (log_at g.logs from)) (length (taken (net_for g) from r (log_at g.logs r))) ≡ Some m
  front_at = head_dropped (length (taken (net_for g) from r (log_at g.logs r))) (put (net_for g) from r (log_at g.logs from)) rest m front

  pub few_stamp : m.stamp ≤ g.told
  few_stamp =
      let f = from_of (put_by (net_for g) from r) (log_at g.logs from) (length (taken (net_for g) from r (log_at g.logs r))) m front_at in
      let at : slice_get (log_at g.logs from) (length f.front) ≡ Some f.item = ap (λ l. slice_get l (length f.front)) (sym f.whole) ∙ get_here f.front f.back f.item in
      let stamp = ap (λ (x : Message). x.stamp) (put_by_true (net_for g) from r f.item m f.gives).1 in
      let a = kept.stamped.within from (length f.front) f.item at in
      let b = (kept.few from lt).clocks in
      omega (arith, stamp, a, b)

module _ {g : GuideView} {table : TableView} {ledger : LedgerView} (kept : IsGuide g table ledger) (room : HasRoom g) (e : Event) where
  is_more : (1 ≤ e.point) × (e.point ≤ (net_for g).count) → e.role < roles_of g → IsMore (net_for g) (roles_of g) no_vars kept.holds.memory.held e (behind_event e (replicate 16 (pos 0)))
  is_more in_text lt = record {
    declared = lt;
    sound = record { role = refl; first = in_text.0; last = in_text.1; sender = low kept ((net_for g).sender e.point) (sender_in kept e.point in_text); receiver = low kept ((net_for g).receiver e.point) (receiver_in kept e.point in_text) };
    behind = behind_more (events_of e.role kept.holds.memory.held) e;
  }

  -- a Send
  module _ (may : IsSend (net_for g) (stand g e.role) e) where
    pub sender_declared : e.role < roles_of g
    sender_declared = declared_by g kept.holds.memory kept.holds.is e.role false may.up

    pub sent_in : (1 ≤ e.point) × (e.point ≤ (net_for g).count)
    sent_in = next_in kept e.role e.point may.next

    pub receiver_low : (net_for g).receiver e.point < 8
    receiver_low = low kept ((net_for g).receiver e.point) (receiver_in kept e.point sent_in)

    sent_fits : IsFitting g e
    sent_fits =
        let stamp : e.stamp ≡ (numbers_at g.numbers e.role).clock + 1 = may.stamp in
        record {
          declared = sender_declared;
          first = sent_in.0;
          last = sent_in.1;
          own = inr (sent_in.0, sent_in.1, may.next.own);
          later = omega (arith, stamp);
          within = let a = (kept.few e.role sender_declared).clocks in omega (arith, stamp, a);
          behind = λ got. absurd (let a = may.is_send in cc);
          sent = λ d. may.sent;
          ends = record { sends = λ t. sym may.sends; recvs = λ t. absurd (let a = ap is_sent may.is_send in cc) };
        }

    pub send_room : (end : ℕ) → end ≡ (net_for g).receiver e.point → HasRoomToSend ledger e.role end
    send_room end is = subst (HasRoomToSend ledger e.role) (sym is) (send_fits kept room.0 e.role e.point sender_declared sent_in may.sends)

    pub sent_after : IsAfter g (with_event g e) (Send e)
    sent_after = record {
      may = λ m is. tells_send g m is e may;
      memory = λ m is. memory_more g m is e sender_declared kept.logs (send_queued (net_for g) m.held e is.queued may.is_send);
    }

    pub sent_guide : (end : ℕ) (now : LedgerView) → end ≡ (net_for g).receiver e.point → now ≡ with_send ledger e end (behind_event e (replicate 16 (pos 0))) → IsGuide (with_event g e) table now
    sent_guide end now to is = subst (λ (l : LedgerView). IsGuide (with_event g e) table l) (sym (is ∙ ap (λ q. with_send ledger e q (behind_event e (replicate 16 (pos 0)))) to))
        (guide_more kept e sent_fits (with_send ledger e ((net_for g).receiver e.point) (behind_event e (replicate 16 (pos 0)))) room
        (send_queued (net_for g) kept.holds.memory.held e kept.holds.is.queued may.is_send)
        (sends_hold (net_for g) (roles_of g) no_vars kept.holds.memory.held e (behind_event e (replicate 16 (pos 0))) ledger kept.holds.holds may.is_send (is_more sent_in sender_declared))
        (record {
          entries = length-append ledger.entries (Send e ∷ []);
          most = refl;
          room = refl;
          rooms = λ r. rooms_more ledger.stacks e.role r (behind_event e (replicate 16 (pos 0))) (let a = kept.holds.holds.stacks in let b = sender_declared in omega (arith, a, b));
        }))

  -- a Recv
  module _ (may : IsRecv (net_for g) (stand g e.role) e) where
    pub receiver_declared : e.role < roles_of g
    receiver_declared = declared_by g kept.holds.memory kept.holds.is e.role false may.up

    pub received_in : (1 ≤ e.point) × (e.point ≤ (net_for g).count)
    received_in = next_in kept e.role e.point may.next

    pub sender_low : (net_for g).sender e.point < 8
    sender_low = low kept ((net_for g).sender e.point) (sender_in kept e.point received_in)

    abbrev from : ℕ
    from = (net_for g).sender e.point

    sent_few : e.sent ≤ g.told
    sent_few = few_stamp kept from e.role (sender_in kept e.point received_in) (message_got e) may.front.0 may.front.1

    recv_fits : IsFitting g e
    recv_fits =
        let stamp : e.stamp ≡ max (numbers_at g.numbers e.role).clock e.sent + 1 = may.stamp in
        record {
          declared = receiver_declared;
          first = received_in.0;
          last = received_in.1;
          own = inr (received_in.0, received_in.1, may.next.own);
          later = omega (arith, stamp);
          within = let a = (kept.few e.role receiver_declared).clocks in let b = sent_few in omega (arith, stamp, a, b);
          behind = λ got. omega (arith, stamp);
          sent = λ d. absurd (let a = may.is_recv in cc);
          ends = record { sends = λ t. absurd (let a = ap is_sent may.is_recv in cc); recvs = λ t. sym may.receives };
        }

    pub waits : (end : ℕ) → end ≡ (net_for g).sender e.point → HasFront (channel_at ledger.channels end e.role)
    waits end is =
        let here = (carried kept).each from e.role sender_low (low kept e.role receiver_declared) in
        let some = get_below (put (net_for g) from e.role (log_at g.logs from)) (length (taken (net_for g) from e.role (log_at g.logs e.role))) (message_got e) (front_at kept from e.role (sender_in kept e.point received_in) (message_got e) may.front.0 may.front.1) in
        subst (λ q. HasFront (channel_at ledger.channels q e.role)) (sym is)
        (subst (λ (c : ChannelView). c.taken < length c.put) (sym here)
        (subst (λ l. length (taken (net_for g) from e.role (log_at ledger.logs e.role)) < length (put (net_for g) from e.role l)) (sym (log_is kept from))
        (subst (λ l. length (taken (net_for g) from e.role l) < length (put (net_for g) from e.role (log_at g.logs from))) (sym (log_is kept e.role)) some)))

    pub received_after : IsAfter g (with_event g e) (Recv e)
    received_after = record {
      may = λ m is. tells_recv g m is e may;
      memory = λ m is. memory_more g m is e receiver_declared kept.logs (recv_queued (net_for g) m.held e from may.front.0 is.queued refl (lies g m is from e.role ∙ may.front.1));
    }

    pub received_guide : (end : ℕ) (now : LedgerView) → end ≡ (net_for g).sender e.point → now ≡ with_recv ledger e end (behind_event e (replicate 16 (pos 0))) → IsGuide (with_event g e) table now
    received_guide end now to is = subst (λ (l : LedgerView). IsGuide (with_event g e) table l) (sym (is ∙ ap (λ q. with_recv ledger e q (behind_event e (replicate 16 (pos 0)))) to))
        (guide_more kept e recv_fits (with_recv ledger e from (behind_event e (replicate 16 (pos 0)))) room
        (recv_queued (net_for g) kept.holds.memory.held e from may.front.0 kept.holds.is.queued refl (lies g kept.holds.memory kept.holds.is from e.role ∙ may.front.1))
        (recvs_hold (net_for g) (roles_of g) no_vars kept.holds.memory.held e (behind_event e (replicate 16 (pos 0))) ledger kept.holds.holds may.is_recv (is_more received_in receiver_declared))
        (record {
          entries = length-append ledger.entries (Recv e ∷ []);
          most = refl;
          room = refl;
          rooms = λ r. rooms_more ledger.stacks e.role r (behind_event e (replicate 16 (pos 0))) (let a = kept.holds.holds.stacks in let b = receiver_declared in omega (arith, a, b));
        }))

  -- raw counts can go up
  pub few_raw : (r : ℕ) → r < roles_of g → (numbers_at g.numbers r).raw + 1 < 2 ^ 64
  few_raw r lt = let a = (kept.few r lt).raw in let b = kept.told in omega (arith, a, b)

-- what is told as an event, with its number as the code has it
abbrev sent_with : News → ℤ → ℕ → Event
sent_with news v s = record { role = news.role; dir = Sent; point = news.point; value = v; stamp = s; sent = s }

abbrev received_with : News → ℤ → ℕ → ℕ → Event
received_with news v s own = record { role = news.role; dir = Got; point = news.point; value = v; stamp = own; sent = s }

pub sent_same : (g : GuideView) (news : News) (v : ℤ) (s : ℕ) → v ≡ news.value → s ≡ stamp_to_send g news.role → sent_with news v s ≡ sent g news
sent_same g news v s same is = ap (λ w. sent_with news w s) same ∙ ap (λ k. sent_with news news.value k) is

pub received_same : (g : GuideView) (news : News) (v : ℤ) (s own : ℕ) → v ≡ news.value → own ≡ stamp_to_receive g news.role s → received_with news v s own ≡ received g news s
received_same g news v s own same is = ap (λ w. received_with news w s own) same ∙ ap (λ k. received_with news news.value s k) is

pub is_send : (g : GuideView) (news : News) (v : ℤ) (s : ℕ) → MayBeSent g news → s ≡ stamp_to_send g news.role → IsSend (net_for g) (stand g news.role) (sent_with news v s)
is_send g news v s may is = record {
  up = may.able.up;
  next = may.turn.0;
  sends = may.turn.1;
  is_send = refl;
  stamp = is;
  sent = refl;
}

pub is_recv : (g : GuideView) (news : News) (v : ℤ) (s own : ℕ) → v ≡ news.value → MayBeReceived g news s → own ≡ stamp_to_receive g news.role s → IsRecv (net_for g) (stand g news.role) (received_with news v s own)
is_recv g news v s own same may is = subst (λ w. IsRecv (net_for g) (stand g news.role) (received_with news w s own)) (sym same) (record {
  up = may.able.up;
  next = may.turn.0;
  receives = may.turn.1;
  is_recv = refl;
  front = may.front;
  stamp = is;
})

module _ {g : GuideView} {table : TableView} {ledger : LedgerView} (kept : IsGuide g table ledger) (news : News) (able : IsAble g news) where
  pub able_declared : news.role < roles_of g
  able_declared = declared_by g kept.holds.memory kept.holds.is news.role false able.up

  pub few_clock : (numbers_at g.numbers news.role).clock ≤ 2 ^ 62
  few_clock = let a = (kept.few news.role able_declared).clocks in let b = kept.told in omega (arith, a, b)

  pub few_sent : (s : ℕ) → MayBeReceived g news s → s ≤ 2 ^ 62
  few_sent s may =
      let in_text = next_in kept news.role news.point may.turn.0 in
      let a = few_stamp kept ((net_for g).sender news.point) news.role (sender_in kept news.point in_text) (message news s) may.front.0 may.front.1 in
      let b = kept.told in
      omega (arith, a, b)
