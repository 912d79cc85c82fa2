-- A message comes from its inbox, or the inbox is empty.
use Rattle.std.proofs.Common.{◌≡◌, ◌≢◌, ℕ, ◌+◌, ◌^◌, ◌<◌, ◌≤◌, true, Option, Some, None, List, [], ◌∷◌, ◌++◌, length, take, refl, sym, ◌∙◌, ap, subst, inr, ⊎_elim, arith, append-nil, length-append}
use Rattle.std.specs.Prelude.{slice_index_or}
use Rattle.std.proofs.lemmas.Bool.{cases_eq}
use Rattle.rcv_tree.specs.declared.event.Event.{Event}
use Rattle.rcv_tree.specs.declared.event.Dir.{Dir}
use Rattle.rcv_tree.specs.declared.event.Dir.TheVariants.{Sent, Got}
use Rattle.rcv_tree.specs.declared.event.Message.{Message}
use Rattle.rcv_tree.specs.Events.{message_got}
use Rattle.rcv_model.specs.Run.{takes_on, taken_by, put, taken}
use Rattle.rcv_model.proofs.Keeping.{taken_none, taken_some, put_none}
use Rattle.rcv_model.proofs.Located.{item}
use Rattle.rcv_model.specs.Journal.{MayOwnRecv}
use Rattle.rcv_theory.proofs.Merging.{own_takes}
use Rattle.rcv_ledger.proofs.Lists.{take_left}
use Rattle.rcv_ring.specs.Points.{HasPoint, CanPass}
use Rattle.rcv_mailbox.specs.Ends.{End, IsChannel}
use Rattle.rcv_session.specs.Session.{roles_of, net_for, rules_of}
use Rattle.rcv_role.specs.declared.poll.Poll.TheVariants.{Moved, Waiting}
use Rattle.rcv_role.specs.Part.{PartView, IsOwn, IsRecvOf, Offers, AllRecvs, IsBelow, HasNoStrangers, with_event, entry_of_event}
use Rattle.rcv_role.specs.Ends.{slot, end_at, IsInboxFrom, AreEnds, IsSettledWith, HasReceived, HasTaken, OthersStay}
use Rattle.rcv_role.specs.Cell.{CellView, cell_of, IsSettled, Goes}
use Rattle.rcv_role.specs.Poll.{IsDue, FoundEmpty, EndsOfRecv, Polled}
use Rattle.rcv_role.proofs.Slots.{slot_apart, slot_within, fewer, recv_puts, else_takes, take_more, one_more, taken_length}
use Rattle.rcv_role.proofs.Going.{one_recv, ready}

not_both : (d : Dir) → d ≡ Sent → d ≡ Got → ⊥
not_both d f g = cc

module _ (p : PartView) (posts inboxes inboxes' : List End) (from : ℕ) (ends : AreEnds (rules_of p.setup) p.role posts inboxes) (settled : IsSettled (cell_of p posts inboxes)) (low : from < roles_of p.setup) (apart : from ≡ p.role → ⊥) (others : OthersStay inboxes inboxes' (slot p.role from)) where
  same_inbox : (q : ℕ) (d : End) → (q ≡ p.role → ⊥) → (q ≡ from → ⊥) → end_at inboxes' p.role q d ≡ end_at inboxes p.role q d
  same_inbox q d n m = others.others (slot p.role q) d (slot_apart p.role q from n apart m)

  module _ (o : Option Message) (received : (d : End) → HasReceived (end_at inboxes p.role from d) (end_at inboxes' p.role from d) o) where
    pub ends_received : AreEnds (rules_of p.setup) p.role posts inboxes'
    ends_received = record {
      declared = ends.declared;
      post_count = ends.post_count;
      inbox_count = ap (λ n. n + 1) others.count ∙ ends.inbox_count;
      post = ends.post;
      inbox = λ q d lt n. ⊎_elim
          (λ f. subst (λ z. IsInboxFrom (rules_of p.setup) p.role z (end_at inboxes' p.role z d)) (sym f) (let old = ends.inbox from d low apart in record { limit = (received d).limit ∙ old.limit; points = λ x h. old.points x (subst (λ ws. HasPoint ws x) (received d).points h) }))
          (λ m. subst (IsInboxFrom (rules_of p.setup) p.role q) (sym (same_inbox q d n m)) (ends.inbox q d lt n))
          (cases_eq q from);
    }

    received_channels : (q : ℕ) (d x : End) → q < roles_of p.setup → (q ≡ p.role → ⊥) → IsChannel x (end_at inboxes p.role q d) → IsChannel x (end_at inboxes' p.role q d)
    received_channels q d x lt n h = ⊎_elim
        (λ f. subst (λ z. IsChannel x (end_at inboxes' p.role z d)) (sym f) ((received d).channel x (subst (λ z. IsChannel x (end_at inboxes p.role z d)) f h)))
        (λ m. subst (λ y. IsChannel x y) (sym (same_inbox q d n m)) h)
        (cases_eq q from)

    -- what was taken first stays
    front_stays : (d : End) → take (end_at inboxes p.role from d).got (end_at inboxes' p.role from d).list ≡ taken (net_for p.setup) from p.role p.own.events
    front_stays d =
        let old = settled from d low apart in
        let b = (received d).begins in
        let le = taken_length (end_at inboxes p.role from d).list (end_at inboxes p.role from d).got (old.got ∙ ap length (sym old.taken)) in
        ap (take (end_at inboxes p.role from d).got) (sym b.1) ∙ take_left (end_at inboxes p.role from d).list b.0 (end_at inboxes p.role from d).got le ∙ old.taken

  recv_waits : HasNoStrangers p → ((d : End) → HasReceived (end_at inboxes p.role from d) (end_at inboxes' p.role from d) None) → Goes (cell_of p posts inboxes) (cell_of p posts inboxes')
  recv_waits strangers received = record {
    more = [];
    setup = refl;
    role = refl;
    base = refl;
    log = sym (append-nil p.log);
    lawful = tt;
    own = refl;
    settled = λ q d lt n. ⊎_elim
        (λ f. subst (λ z. IsSettledWith (net_for p.setup) p.role z p.own.events p.own.numbers.raw (end_at posts p.role z d) (end_at inboxes' p.role z d)) (sym f) (let old = settled from d low apart in record { put = old.put; through = old.through; got = (received d).got ∙ old.got; taken = ap (λ k. take k (end_at inboxes' p.role from d).list) (received d).got ∙ front_stays None received d }))
        (λ m. subst (λ y. IsSettledWith (net_for p.setup) p.role q p.own.events p.own.numbers.raw (end_at posts p.role q d) y) (sym (same_inbox q d n m)) (settled q d lt n))
        (cases_eq q from);
    strangers = strangers;
    posts = λ q d x lt n h. h;
    inboxes = received_channels None received;
  }

  found_empty : (zs : List ℕ) → Offers p zs → AllRecvs p zs from → ((d : End) → HasReceived (end_at inboxes p.role from d) (end_at inboxes' p.role from d) None) → FoundEmpty (cell_of p posts inboxes) (cell_of p posts inboxes')
  found_empty zs offers receives received = record {
    offered = zs;
    next = offers;
    from = from;
    receives = receives;
    received = λ d. ((received d).empty refl).0;
    empty = λ d. ((received d).empty refl).1;
    stay = record { posts = refl; others = others };
    list = λ d. (received d).kept refl;
    got = λ d. (received d).got;
  }

  ends_of_recv : (m : Message) (e : Event) (p' : PartView) → IsRecvOf p m e → (net_for p.setup).sender m.point ≡ from → ((d : End) → HasReceived (end_at inboxes p.role from d) (end_at inboxes' p.role from d) (Some m)) → EndsOfRecv (cell_of p posts inboxes) (cell_of p' posts inboxes') e
  ends_of_recv m e p' own sender received = record {
    stay = record { posts = refl; others = subst (λ t. OthersStay inboxes inboxes' (slot p.role t)) (sym of) others };
    taken = λ d. subst (λ t. HasTaken (end_at inboxes p.role t d) (end_at inboxes' p.role t d) (message_got e)) (sym of)
        (subst (HasTaken (end_at inboxes p.role from d) (end_at inboxes' p.role from d)) (sym own.message) (record { got = (received d).got; message = (received d).front.0; begins = (received d).begins; again = (received d).again; front = (received d).takes }));
  }
    where
      of : (net_for p.setup).sender e.point ≡ from
      of = ap (λ (y : Message). (net_for p.setup).sender y.point) own.message ∙ sender

  recv_moves : (m : Message) (e : Event) → HasNoStrangers p → IsRecvOf p m e → (net_for p.setup).sender m.point ≡ from → MayOwnRecv (rules_of p.setup) p.own e → ((d : End) → HasReceived (end_at inboxes p.role from d) (end_at inboxes' p.role from d) (Some m)) → Goes (cell_of p posts inboxes) (cell_of (with_event p e (entry_of_event e)) posts inboxes')
  recv_moves m e strangers own sender may received = record {
    more = record { stamp = e.stamp; step = entry_of_event e } ∷ [];
    setup = refl;
    role = refl;
    base = refl;
    log = refl;
    lawful = (one_recv p e own.role own.dir may).0;
    own = (one_recv p e own.role own.dir may).1;
    settled = λ q d lt n. ⊎_elim (λ f. subst (λ z. IsSettledWith (net_for p.setup) p.role z (p.own.events ++ e ∷ []) (p.own.numbers.raw + 1) (end_at posts p.role z d) (end_at inboxes' p.role z d)) (sym f) (here d)) (λ k. elsewhere q d lt n k) (cases_eq q from);
    strangers = λ t o. taken_none (net_for p.setup) t p.role p.own.events e (else_takes (net_for p.setup) t p.role e (λ f. ⊎_elim (λ g. apart (sym of ∙ f ∙ g)) (λ le. let g : from ≡ t = sym of ∙ f in omega (arith, le, low, g)) o)) ∙ strangers t o;
    posts = λ q d x lt n h. h;
    inboxes = received_channels (Some m) received;
  }
    where
      of : (net_for p.setup).sender e.point ≡ from
      of = ap (λ (y : Message). (net_for p.setup).sender y.point) own.message ∙ sender

      puts_same : (q : ℕ) → put (net_for p.setup) p.role q (p.own.events ++ e ∷ []) ≡ put (net_for p.setup) p.role q p.own.events
      puts_same q = put_none (net_for p.setup) p.role q p.own.events e (recv_puts (net_for p.setup) p.role q e own.dir)

      more_taken : taken (net_for p.setup) from p.role (p.own.events ++ e ∷ []) ≡ taken (net_for p.setup) from p.role p.own.events ++ m ∷ []
      more_taken =
          taken_some (net_for p.setup) from p.role p.own.events e (subst (λ r. takes_on (net_for p.setup) from r e ≡ true) own.role (own_takes (net_for p.setup) from e own.dir of))
          ∙ ap (λ y. taken (net_for p.setup) from p.role p.own.events ++ y ∷ []) own.message

      here : (d : End) → IsSettledWith (net_for p.setup) p.role from (p.own.events ++ e ∷ []) (p.own.numbers.raw + 1) (end_at posts p.role from d) (end_at inboxes' p.role from d)
      here d =
          let old = settled from d low apart in
          record {
            put = old.put ∙ sym (puts_same from);
            through = let o = old.through in omega (arith, o);
            got = (received d).got ∙ ap (λ n. n + 1) old.got ∙ sym (ap length more_taken ∙ length-append (taken (net_for p.setup) from p.role p.own.events) (m ∷ []));
            taken = ap (λ k. take k (end_at inboxes' p.role from d).list) ((received d).got ∙ one_more (end_at inboxes p.role from d).got) ∙ take_more (end_at inboxes' p.role from d).list (end_at inboxes p.role from d).got m (received d).front.0 ∙ ap (λ l. l ++ m ∷ []) (front_stays (Some m) received d) ∙ sym more_taken;
          }

      elsewhere : (q : ℕ) (d : End) → q < roles_of p.setup → (q ≡ p.role → ⊥) → (q ≡ from → ⊥) → IsSettledWith (net_for p.setup) p.role q (p.own.events ++ e ∷ []) (p.own.numbers.raw + 1) (end_at posts p.role q d) (end_at inboxes' p.role q d)
      elsewhere q d lt n k =
          let old = settled q d lt n in
          let same = same_inbox q d n k in
          let none = taken_none (net_for p.setup) q p.role p.own.events e (else_takes (net_for p.setup) q p.role e (λ f. k (sym f ∙ of))) in
          record {
            put = old.put ∙ sym (puts_same q);
            through = let o = old.through in omega (arith, o);
            got = ap (λ (y : End). y.got) same ∙ old.got ∙ ap length (sym none);
            taken = ap (λ (y : End). take y.got y.list) same ∙ old.taken ∙ sym none;
          }

-- a poll that receives, as its function has it
module _ (p : PartView) (posts inboxes : List End) (q : CellView) (from role at : ℕ) (zs : List ℕ) (is : cell_of p posts inboxes ≡ q) (ends : AreEnds (rules_of p.setup) p.role posts inboxes) (settled : IsSettled q) (recvs : AllRecvs q.part zs from) (role_is : role ≡ p.role) (at_is : at ≡ slot role from) where
  within : IsSettled (cell_of p posts inboxes)
  within = subst (λ (c : CellView). IsSettled c) (sym is) settled

  froms : AllRecvs p zs from
  froms = subst (λ (c : CellView). AllRecvs c.part zs from) (sym is) recvs

  at_from : at ≡ slot p.role from
  at_from = at_is ∙ ap (λ r. slot r from) role_is

  pub recv_apart : from ≡ role → ⊥
  recv_apart f = froms.apart (f ∙ role_is)

  pub recv_at : at < length inboxes
  recv_at =
      let c = ends.inbox_count in
      let d = ends.declared in
      slot_within p.role from (length inboxes) at (omega (arith, c, d)) (let l = froms.declared in omega (arith, c, l)) froms.apart at_from

  -- an end, where one is to be named
  pub some_end : End
  some_end = (item inboxes at recv_at).0

  pub recv_got : length p.own.events ≤ p.own.numbers.raw → IsBelow q.part → (d : End) → (slice_index_or inboxes at d).got < (slice_index_or inboxes at d).limit
  recv_got few low d = subst (λ k. (slice_index_or inboxes k d).got < (slice_index_or inboxes k d).limit) (sym at_from)
      (let s = (within from d froms.declared froms.apart).got in let l = (ends.inbox from d froms.declared froms.apart).limit in let n = fewer (taken_by (net_for p.setup) from p.role) p.own.events in let b = (subst (λ (c : CellView). IsBelow c.part) (sym is) low).raw in omega (arith, s, l, n, few, b))

  module _ (inboxes' : List End) (o : Option Message) (others : OthersStay inboxes inboxes' at) (received : (d : End) → HasReceived (slice_index_or inboxes at d) (slice_index_or inboxes' at d) o) where
    else' : OthersStay inboxes inboxes' (slot p.role from)
    else' = subst (OthersStay inboxes inboxes') at_from others

    received' : (d : End) → HasReceived (end_at inboxes p.role from d) (end_at inboxes' p.role from d) o
    received' d = subst (λ k. HasReceived (slice_index_or inboxes k d) (slice_index_or inboxes' k d) o) at_from (received d)

    pub received_ends : AreEnds (rules_of p.setup) p.role posts inboxes'
    received_ends = ends_received p posts inboxes inboxes' from ends within froms.declared froms.apart else' o received'

    pub received_ends_more : (p' : PartView) (e : Event) → p' ≡ with_event p e (entry_of_event e) → AreEnds (rules_of p'.setup) p'.role posts inboxes'
    received_ends_more p' e f = subst (λ (z : PartView). AreEnds (rules_of z.setup) z.role posts inboxes') (sym f) received_ends

    pub received_waits : o ≡ None → HasNoStrangers p → Goes q (cell_of p posts inboxes')
    received_waits f strangers = subst (λ c. Goes c (cell_of p posts inboxes')) is (recv_waits p posts inboxes inboxes' from ends within froms.declared froms.apart else' strangers (λ d. subst (HasReceived (end_at inboxes p.role from d) (end_at inboxes' p.role from d)) f (received' d)))

    module _ (calm : IsDue q.part → ⊥) (offers : Offers q.part zs) (some : zs ≢ []) (below : IsBelow q.part) where
      pub received_waiting : o ≡ None → Polled q (cell_of p posts inboxes') Waiting
      received_waiting f = (
        ready q.part zs calm offers some below,
        inr (subst (λ c. FoundEmpty c (cell_of p posts inboxes')) is (found_empty p posts inboxes inboxes' from ends within froms.declared froms.apart else' zs (subst (λ (c : CellView). Offers c.part zs) (sym is) offers) froms (λ d. subst (HasReceived (end_at inboxes p.role from d) (end_at inboxes' p.role from d)) f (received' d)))),
        ap (λ (c : CellView). c.part) is,
      )

    module _ (m : Message) (some : o ≡ Some m) (d : End) where
      front : CanPass (end_at inboxes p.role from d).base.points m
      front = (subst (HasReceived (end_at inboxes p.role from d) (end_at inboxes' p.role from d)) some (received' d)).front.1

      pub message_sender : (net_for p.setup).sender m.point ≡ from
      message_sender = ((ends.inbox from d froms.declared froms.apart).points m.point front.0).1

      pub message_stamp : m.stamp ≤ 2 ^ 62
      message_stamp = front.1

      pub own_recv : (e : Event) → IsRecvOf p m e → IsOwn p.setup p.role e
      own_recv e own =
          let points = (ends.inbox from d froms.declared froms.apart).points m.point front.0 in
          let at : m.point ≡ e.point = sym (ap (λ (y : Message). y.point) own.message) in
          let sender : (net_for p.setup).sender e.point ≡ from = ap (net_for p.setup).sender (sym at) ∙ points.1 in
          record {
            role = own.role;
            first = subst (λ n. 1 ≤ n) at front.0.0.first;
            last = subst (λ n. n ≤ (net_for p.setup).count) at points.0;
            of = inr (ap (net_for p.setup).receiver (sym at) ∙ points.2);
            partner = λ g. ((λ f. froms.apart (sym sender ∙ f)), subst (λ n. n < roles_of p.setup) (sym sender) froms.declared);
          }

      pub received_moves : (p' : PartView) (e : Event) → p' ≡ with_event p e (entry_of_event e) → HasNoStrangers p → IsRecvOf p m e → MayOwnRecv (rules_of p.setup) p.own e → Goes q (cell_of p' posts inboxes')
      received_moves p' e g strangers own may = subst (λ c. Goes c (cell_of p' posts inboxes')) is (subst (λ z. Goes (cell_of p posts inboxes) (cell_of z posts inboxes')) (sym g) (recv_moves p posts inboxes inboxes' from ends within froms.declared froms.apart else' m e strangers own message_sender may (λ x. subst (HasReceived (end_at inboxes p.role from x) (end_at inboxes' p.role from x)) some (received' x))))

      pub received_moved : (IsDue q.part → ⊥) → Offers q.part zs → zs ≢ [] → IsBelow q.part → (p' : PartView) (e : Event) → p' ≡ with_event p e (entry_of_event e) → IsRecvOf p m e → Polled q (cell_of p' posts inboxes') Moved
      received_moved calm offers next below p' e g own = (
        ready q.part zs calm offers next below,
        record {
          event = e;
          part = g ∙ ap (λ (c : CellView). with_event c.part e (entry_of_event e)) is;
          sent = λ f. absurd (not_both e.dir f own.dir);
          got = λ f. subst (λ c. EndsOfRecv c (cell_of p' posts inboxes') e) is (ends_of_recv p posts inboxes inboxes' from ends within froms.declared froms.apart else' m e p' own message_sender (λ x. subst (HasReceived (end_at inboxes p.role from x) (end_at inboxes' p.role from x)) some (received' x)));
        },
      )
