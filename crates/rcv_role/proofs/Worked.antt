-- Examples of cells: a session of two roles, in which A sends B one message, from its start.
use Prim.Native.Nat.{zero, suc}
use Rattle.std.proofs.Common.{◌≡◌, ℕ, ◌+◌, ◌<◌, true, false, List, [], ◌∷◌, length, refl, sym, ◌∙◌, ap, subst, inl, inr, ⊎_elim, arith}
use Rattle.std.specs.Prelude.{◌-◌, ◌/◌, ◌%◌, ◌==◌, pos, slice_index, slice_index_or}
use Rattle.std.proofs.lemmas.Nat.Bits.{bit_at-zero}
use Rattle.rcv_tree.specs.Bits.{has_bit, has_point}
use Rattle.rcv_tree.specs.declared.event.Event.{Event}
use Rattle.rcv_tree.specs.declared.event.Message.{Message}
use Rattle.rcv_tree.specs.declared.event.Dir.TheVariants.{Sent}
use Rattle.rcv_tree.specs.declared.protocol.Protocol.{Protocol}
use Rattle.rcv_model.specs.Net.{Net}
use Rattle.rcv_model.specs.Next.{AreNext}
use Rattle.rcv_model.specs.Text.{Single, End as Ended}
use Rattle.rcv_model.specs.Places.{net_of}
use Rattle.rcv_model.proofs.Checked.{next_by}
use Rattle.rcv_model.proofs.OneLane.{one_lane}
use Rattle.rcv_model.proofs.Roles.{up}
use Rattle.rcv_model.specs.Journal.{Own, MayOwnSend}
use Rattle.rcv_theory.specs.Own.{own_back, own_through}
use Rattle.rcv_tree.specs.declared.entry.Timed.{Timed}
use Rattle.rcv_session.specs.Session.{SessionView, roles_of, net_for, rules_of}
use Rattle.rcv_ring.specs.Points.{HasPoint}
use Rattle.rcv_ring.specs.Shown.{RingId}
use Rattle.rcv_ring.specs.Shown as rings
use Rattle.rcv_mailbox.specs.Ends.{End, IsChannel, new_end}
use Rattle.rcv_role.specs.declared.poll.Poll.TheVariants.{Moved, Waiting}
use Rattle.rcv_role.specs.Part.{PartView, IsNextSend, first_own, first_part, own_by, with_event, entry_of_event}
use Rattle.rcv_role.specs.Ends.{end_at, IsPostTo, IsInboxFrom, AreEnds, IsSettledWith, HasPut, OthersStay}
use Rattle.rcv_role.specs.Cell.{CellView, cell_of, Goes}
use Rattle.rcv_role.specs.Poll.{IsReady, OnePost, FoundEmpty, Polled}

abbrev single : Net
single = net_of (Single [] [] 0 1 1 Ended)

abbrev session : Protocol → SessionView
session protocol = record { protocol = protocol; scripts = []; plan = [] }

abbrev the_event : Event
the_event = record { role = 0; dir = Sent; point = 1; value = pos 0; stamp = 1; sent = 1 }

abbrev the_message : Message
the_message = record { point = 1; value = pos 0; stamp = 1 }

-- the set of no point
abbrev no_words : List ℕ
no_words = 0 ∷ 0 ∷ 0 ∷ 0 ∷ []

no_word : (i : ℕ) → slice_index no_words i ≡ 0
no_word zero = refl
no_word (suc zero) = refl
no_word (suc (suc zero)) = refl
no_word (suc (suc (suc zero))) = refl
no_word (suc (suc (suc (suc i)))) = refl

no_point : (p : ℕ) → has_point no_words p ≡ false
no_point p = ap (λ w. has_bit w ((p - 1) % 64)) (no_word ((p - 1) / 64)) ∙ ap (λ b. b == 1) (bit_at-zero ((p - 1) % 64))

-- The ends of the channel from A to B, and of that back, which has no point.
abbrev there : RingId → End
there ring = new_end ring 64 10000 (1 ∷ 0 ∷ 0 ∷ 0 ∷ [])

abbrev back : RingId → End
back ring = new_end ring 64 10000 no_words

-- The post behind the Send; the inbox behind a look that found nothing, and one that took the message.
abbrev there_sent : RingId → End
there_sent ring = record (there ring) { base = rings.with_sent (rings.fresh ring 64 (1 ∷ 0 ∷ 0 ∷ 0 ∷ [])) the_message; list = the_message ∷ [] }

abbrev there_looked : RingId → List Message → End
there_looked ring list = record (there ring) { base = record (rings.fresh ring 64 (1 ∷ 0 ∷ 0 ∷ 0 ∷ [])) { looks = 1 }; list = list }

abbrev a_before : Protocol → RingId → RingId → CellView
a_before protocol to from = cell_of (first_part (session protocol) 0) (there to ∷ []) (back from ∷ [])

abbrev a_behind : Protocol → RingId → RingId → CellView
a_behind protocol to from = cell_of (with_event (first_part (session protocol) 0) the_event (entry_of_event the_event)) (there_sent to ∷ []) (back from ∷ [])

abbrev b_before : Protocol → RingId → RingId → CellView
b_before protocol to from = cell_of (first_part (session protocol) 1) (back to ∷ []) (there from ∷ [])

abbrev b_behind : Protocol → RingId → RingId → List Message → CellView
b_behind protocol to from list = cell_of (first_part (session protocol) 1) (back to ∷ []) (there_looked from list ∷ [])

-- of two roles the other one
other_of_a : (q n : ℕ) → n ≡ 2 → q < n → (q ≡ 0 → ⊥) → q ≡ 1
other_of_a zero n two lt apart = absurd (apart refl)
other_of_a (suc q) n two lt apart = omega (arith, two, lt)

other_of_b : (q n : ℕ) → n ≡ 2 → q < n → (q ≡ 1 → ⊥) → q ≡ 0
other_of_b zero n two lt apart = refl
other_of_b (suc q) n two lt apart = absurd (apart (omega (arith, two, lt)))

only_here : (x y : End) → OthersStay (x ∷ []) (y ∷ []) 0
only_here x y = record { count = refl; others = others }
  where
    others : (k : ℕ) (d : End) → (k ≡ 0 → ⊥) → slice_index_or (y ∷ []) k d ≡ slice_index_or (x ∷ []) k d
    others zero d n = absurd (n refl)
    others (suc k) d n = refl

module _ (protocol : Protocol) (is : net_for (session protocol) ≡ single) (two : roles_of (session protocol) ≡ 2) (to from : RingId) where
  -- A has a post to B and an inbox from it; no fewer will do
  ends_of_a : AreEnds (rules_of (session protocol)) 0 (there to ∷ []) (back from ∷ [])
  ends_of_a = record {
    declared = omega (arith, two);
    post_count = sym two;
    inbox_count = sym two;
    post = λ q d lt apart. subst (λ z. IsPostTo (rules_of (session protocol)) 0 z (end_at (there to ∷ []) 0 z d)) (sym (other_of_a q (roles_of (session protocol)) two lt apart)) to_b;
    inbox = λ q d lt apart. subst (λ z. IsInboxFrom (rules_of (session protocol)) 0 z (end_at (back from ∷ []) 0 z d)) (sym (other_of_a q (roles_of (session protocol)) two lt apart)) from_b;
  }
    where
      to_b : IsPostTo (rules_of (session protocol)) 0 1 (there to)
      to_b = record {
        limit = refl;
        room = refl;
        points = λ p first last sender receiver.
            let count : (net_for (session protocol)).count ≡ 1 = ap (λ (net : Net). net.count) is in
            let one : p ≡ 1 = omega (arith, first, last, count) in
            subst (HasPoint (1 ∷ 0 ∷ 0 ∷ 0 ∷ [])) (sym one) (record { first = omega arith; last = omega arith }, refl);
      }

      from_b : IsInboxFrom (rules_of (session protocol)) 0 1 (back from)
      from_b = record { limit = refl; points = λ p has. absurd (let none = no_point p in let some = has.1 in cc) }

  no_fewer_ends : AreEnds (rules_of (session protocol)) 0 [] (back from ∷ []) → ⊥
  no_fewer_ends ends = let n = ends.post_count in omega (arith, n, two)

  -- A sends next, and B receives next
  a_next : AreNext (net_for (session protocol)) 0 0 (1 ∷ [])
  a_next = subst (λ net. AreNext net 0 0 (1 ∷ [])) (sym is) (next_by single (one_lane (Single [] [] 0 1 1 Ended) tt) 0 0 refl)

  b_next : AreNext (net_for (session protocol)) 1 0 (1 ∷ [])
  b_next = subst (λ net. AreNext net 1 0 (1 ∷ [])) (sym is) (next_by single (one_lane (Single [] [] 0 1 1 Ended) tt) 1 0 refl)

  a_may : MayOwnSend (rules_of (session protocol)) (first_part (session protocol) 0).own the_event
  a_may = record {
    free = record { declared = omega (arith, two); running = refl; not_due = λ due. let lt = due.1 in omega (arith, lt); below_limit = omega arith };
    offered = 1 ∷ [];
    next = a_next;
    sends = λ z i. ⊎_elim (λ e. ap (λ (net : Net). net.sender z) is ∙ ap single.sender e) (λ none. absurd none) i;
    is_send = refl;
    among = inl refl;
    point = refl;
    value = refl;
    stamp = refl;
    sent = refl;
  }

  -- A makes this Send next; and not behind a recovery, which sets its clock
  a_chooses : IsNextSend (session protocol) 0 first_own the_event
  a_chooses = record {
    may = a_may;
    sends = record {
      own = record { role = refl; first = omega arith; last = omega (arith, count); of = inl sender; partner = λ e. absurd (cc) };
      dir = refl;
      sender = sender;
      receiver = omega (arith, receiver, two);
      apart = λ e. omega (arith, e, receiver);
      stamp = omega arith;
    };
  }
    where
      count : (net_for (session protocol)).count ≡ 1
      count = ap (λ (net : Net). net.count) is

      sender : (net_for (session protocol)).sender 1 ≡ 0
      sender = ap (λ (net : Net). net.sender 1) is

      receiver : (net_for (session protocol)).receiver 1 ≡ 1
      receiver = ap (λ (net : Net). net.receiver 1) is

  stale : IsNextSend (session protocol) 0 (own_back first_own 0 true 7) the_event → ⊥
  stale next = let stamp : 1 ≡ 7 + 1 = next.may.stamp in omega (arith, stamp)

  -- A goes on by that Send
  a_goes : Goes (a_before protocol to from) (a_behind protocol to from)
  a_goes = record {
    more = record { stamp = 1; step = entry_of_event the_event } ∷ [];
    setup = refl;
    role = refl;
    base = refl;
    log = refl;
    lawful = (refl, (refl, a_may), tt);
    own = refl;
    settled = λ q d lt apart. subst (λ z. IsSettledWith (net_for (session protocol)) 0 z (the_event ∷ []) 1 (end_at (there_sent to ∷ []) 0 z d) (end_at (back from ∷ []) 0 z d)) (sym (other_of_a q (roles_of (session protocol)) two lt apart)) with_b;
    strangers = λ t o. refl;
    posts = λ q d x lt apart h. subst (λ z. IsChannel (end_at (there_sent to ∷ []) 0 z d) x) (sym (other_of_a q (roles_of (session protocol)) two lt apart)) (channel x (subst (λ z. IsChannel (end_at (there to ∷ []) 0 z d) x) (other_of_a q (roles_of (session protocol)) two lt apart) h));
    inboxes = λ q d x lt apart h. h;
  }
    where
      with_b : IsSettledWith (net_for (session protocol)) 0 1 (the_event ∷ []) 1 (there_sent to) (back from)
      with_b = subst (λ net. IsSettledWith net 0 1 (the_event ∷ []) 1 (there_sent to) (back from)) (sym is) (record { put = refl; through = omega arith; got = refl; taken = refl })

      channel : (x : End) → IsChannel (there to) x → IsChannel (there_sent to) x
      channel x h = record { ring = h.ring; dropped_is = h.dropped_is; rewound_is = h.rewound_is; limit_is = h.limit_is; first = refl }

  -- and by nothing that it doesn't log
  not_unlogged : Goes (a_before protocol to from) (record (a_behind protocol to from) { part = record (with_event (first_part (session protocol) 0) the_event (entry_of_event the_event)) { log = [] } }) → ⊥
  not_unlogged goes = none goes.more goes.log goes.own
    where
      none : (more : List Timed) → [] ≡ more → own_by (the_event ∷ []) (up 1 0 0 1) ≡ own_through first_own more → ⊥
      none [] log own = let n = ap (λ (o : Own). o.numbers.raw) own in omega (arith, n)
      none (x ∷ more) log own = absurd (cc)

  a_ready : IsReady (first_part (session protocol) 0)
  a_ready = record {
    calm = λ due. let lt = due.1 in omega (arith, lt);
    next = λ none. none.complete 1 (a_next.sound 1 (inl refl));
    below = record { raw = omega arith; clock = omega arith };
  }

  -- a poll that answers so; and none that leaves the post as it is
  a_moved : Polled (a_before protocol to from) (a_behind protocol to from) Moved
  a_moved = (
    a_ready,
    record {
      event = the_event;
      part = refl;
      sent = λ f. record {
        stay = subst (OnePost (a_before protocol to from) (a_behind protocol to from)) receiver (record { inboxes = refl; others = only_here (there to) (there_sent to) });
        put = λ d. subst (λ t. HasPut (end_at (there to ∷ []) 0 t d) (end_at (there_sent to ∷ []) 0 t d) the_message) receiver (record { list = refl });
      };
      got = λ f. absurd (cc);
    },
  )
    where
      receiver : 1 ≡ (net_for (session protocol)).receiver 1
      receiver = sym (ap (λ (net : Net). net.receiver 1) is)

  not_moved : Polled (a_before protocol to from) (a_before protocol to from) Moved → ⊥
  not_moved polled = let n = ap (λ (p : PartView). p.own.numbers.raw) polled.1.part in omega (arith, n)

  -- B waits, and takes nothing as it does
  b_ready : IsReady (first_part (session protocol) 1)
  b_ready = record {
    calm = λ due. let lt = due.1 in omega (arith, lt);
    next = λ none. none.complete 1 (b_next.sound 1 (inl refl));
    below = record { raw = omega arith; clock = omega arith };
  }

  b_waits : Polled (b_before protocol to from) (b_behind protocol to from []) Waiting
  b_waits = (
    b_ready,
    inr (record {
      offered = 1 ∷ [];
      next = b_next;
      from = 0;
      receives = record {
        receives = λ z i. ⊎_elim (λ e. (ap (λ (net : Net). net.receiver z) is ∙ ap single.receiver e, ap (λ (net : Net). net.sender z) is ∙ ap single.sender e)) (λ none. absurd none) i;
        apart = λ e. omega (arith, e);
        declared = omega (arith, two);
      };
      received = λ d. refl;
      empty = λ d. ((refl, omega arith), refl);
      stay = record { posts = refl; others = only_here (there from) (there_looked from []) };
      list = λ d. refl;
      got = λ d. refl;
    }),
    refl,
  )

  takes_nothing : FoundEmpty (b_before protocol to from) (b_behind protocol to from (the_message ∷ [])) → ⊥
  takes_nothing found =
      let a : found.from ≡ 0 = other_of_b found.from (roles_of (session protocol)) two found.receives.declared found.receives.apart in
      let list = subst (λ q. (end_at (there_looked from (the_message ∷ []) ∷ []) 1 q (there from)).list ≡ (end_at (there from ∷ []) 1 q (there from)).list) a (found.list (there from)) in
      let n : 1 ≡ 0 = ap length list in
      omega (arith, n)
