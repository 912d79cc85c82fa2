-- A Send goes onto its post, or finds it full.
use Rattle.std.proofs.Common.{◌≡◌, ◌≢◌, ℕ, ◌+◌, ◌^◌, ◌<◌, ◌≤◌, Bool, true, false, List, [], ◌∷◌, ◌++◌, length, refl, sym, ◌∙◌, ap, subst, inl, ⊎_elim, arith, append-nil}
use Rattle.std.specs.Prelude.{slice_index_or}
use Rattle.std.proofs.lemmas.Bool.{cases_eq}
use Rattle.rcv_tree.specs.declared.event.Event.{Event}
use Rattle.rcv_tree.specs.declared.event.Dir.TheVariants.{Got}
use Rattle.rcv_tree.specs.Events.{message_sent}
use Rattle.rcv_model.specs.Run.{put_by, taken}
use Rattle.rcv_model.proofs.Keeping.{taken_none, put_none}
use Rattle.rcv_model.proofs.Steps.{not_taken}
use Rattle.rcv_model.specs.Journal.{MayOwnSend}
use Rattle.rcv_ring.specs.Points.{HasPoint, CanPass}
use Rattle.rcv_mailbox.specs.Ends.{End, through, IsChannel, WasFull}
use Rattle.rcv_session.specs.Session.{roles_of, net_for, rules_of}
use Rattle.rcv_role.specs.declared.poll.Poll.TheVariants.{Moved, Waiting}
use Rattle.rcv_role.specs.Part.{PartView, IsOwn, IsOwnSend, IsNextSend, Offers, IsBelow, HasNoStrangers, with_event, entry_of_event}
use Rattle.rcv_role.specs.Ends.{slot, end_at, IsPostTo, AreEnds, IsSettledWith, HasSent, HasPut, OthersStay}
use Rattle.rcv_role.specs.Cell.{CellView, cell_of, IsSettled, Goes}
use Rattle.rcv_role.specs.Poll.{IsDue, OnePost, FoundFull, EndsOfSend, Polled}
use Rattle.rcv_role.proofs.Slots.{slot_apart, slot_within, fewer, put_some, own_puts, else_puts}
use Rattle.rcv_role.proofs.Going.{one_send, ready}

module _ (p : PartView) (posts posts' inboxes : List End) (e : Event) (to : ℕ) (ends : AreEnds (rules_of p.setup) p.role posts inboxes) (settled : IsSettled (cell_of p posts inboxes)) (own : IsOwnSend p.setup p.role e) (is : to ≡ (net_for p.setup).receiver e.point) (others : OthersStay posts posts' (slot p.role to)) where
  apart : to ≡ p.role → ⊥
  apart f = own.apart (sym is ∙ f)

  low : to < roles_of p.setup
  low = subst (λ n. n < roles_of p.setup) (sym is) own.receiver

  same_post : (q : ℕ) (d : End) → (q ≡ p.role → ⊥) → (q ≡ to → ⊥) → end_at posts' p.role q d ≡ end_at posts p.role q d
  same_post q d n m = others.others (slot p.role q) d (slot_apart p.role q to n apart m)

  module _ (ok : Bool) (sent : (d : End) → HasSent (end_at posts p.role to d) (end_at posts' p.role to d) (message_sent e) ok) where
    pub ends_sent : AreEnds (rules_of p.setup) p.role posts' inboxes
    ends_sent = record {
      declared = ends.declared;
      post_count = ap (λ n. n + 1) others.count ∙ ends.post_count;
      inbox_count = ends.inbox_count;
      post = λ q d lt n. ⊎_elim
          (λ f. subst (λ z. IsPostTo (rules_of p.setup) p.role z (end_at posts' p.role z d)) (sym f) (let old = ends.post to d low apart in record { limit = (sent d).limit ∙ old.limit; room = (sent d).room ∙ old.room; points = λ x a b g h. subst (λ ws. HasPoint ws x) (sym (sent d).points) (old.points x a b g h) }))
          (λ m. subst (IsPostTo (rules_of p.setup) p.role q) (sym (same_post q d n m)) (ends.post q d lt n))
          (cases_eq q to);
      inbox = ends.inbox;
    }

    channels : (q : ℕ) (d x : End) → q < roles_of p.setup → (q ≡ p.role → ⊥) → IsChannel (end_at posts p.role q d) x → IsChannel (end_at posts' p.role q d) x
    channels q d x lt n h = ⊎_elim
        (λ f. subst (λ z. IsChannel (end_at posts' p.role z d) x) (sym f) ((sent d).channel x (subst (λ z. IsChannel (end_at posts p.role z d) x) f h)))
        (λ m. subst (λ y. IsChannel y x) (sym (same_post q d n m)) h)
        (cases_eq q to)

  send_waits : HasNoStrangers p → ((d : End) → HasSent (end_at posts p.role to d) (end_at posts' p.role to d) (message_sent e) false) → Goes (cell_of p posts inboxes) (cell_of p posts' inboxes)
  send_waits strangers sent = record {
    more = [];
    setup = refl;
    role = refl;
    base = refl;
    log = sym (append-nil p.log);
    lawful = tt;
    own = refl;
    settled = λ q d lt n. ⊎_elim
        (λ f. subst (λ z. IsSettledWith (net_for p.setup) p.role z p.own.events p.own.numbers.raw (end_at posts' p.role z d) (end_at inboxes p.role z d)) (sym f) (let old = settled to d low apart in record { put = (sent d).list ∙ old.put; through = let t = (sent d).through in let o = old.through in omega (arith, t, o); got = old.got; taken = old.taken }))
        (λ m. subst (λ y. IsSettledWith (net_for p.setup) p.role q p.own.events p.own.numbers.raw y (end_at inboxes p.role q d)) (sym (same_post q d n m)) (settled q d lt n))
        (cases_eq q to);
    strangers = strangers;
    posts = channels false sent;
    inboxes = λ q d x lt n h. h;
  }

  send_moves : HasNoStrangers p → MayOwnSend (rules_of p.setup) p.own e → ((d : End) → HasSent (end_at posts p.role to d) (end_at posts' p.role to d) (message_sent e) true) → Goes (cell_of p posts inboxes) (cell_of (with_event p e (entry_of_event e)) posts' inboxes)
  send_moves strangers may sent = record {
    more = record { stamp = e.stamp; step = entry_of_event e } ∷ [];
    setup = refl;
    role = refl;
    base = refl;
    log = refl;
    lawful = (one_send p e own.own.role own.dir may).0;
    own = (one_send p e own.own.role own.dir may).1;
    settled = λ q d lt n. ⊎_elim (λ f. subst (λ z. IsSettledWith (net_for p.setup) p.role z (p.own.events ++ e ∷ []) (p.own.numbers.raw + 1) (end_at posts' p.role z d) (end_at inboxes p.role z d)) (sym f) (here d)) (λ m. elsewhere q d lt n m) (cases_eq q to);
    strangers = λ t o. taken_none (net_for p.setup) t p.role p.own.events e (not_taken (net_for p.setup) t p.role e own.dir) ∙ strangers t o;
    posts = channels true sent;
    inboxes = λ q d x lt n h. h;
  }
    where
      got_same : (q : ℕ) → taken (net_for p.setup) q p.role (p.own.events ++ e ∷ []) ≡ taken (net_for p.setup) q p.role p.own.events
      got_same q = taken_none (net_for p.setup) q p.role p.own.events e (not_taken (net_for p.setup) q p.role e own.dir)

      here : (d : End) → IsSettledWith (net_for p.setup) p.role to (p.own.events ++ e ∷ []) (p.own.numbers.raw + 1) (end_at posts' p.role to d) (end_at inboxes p.role to d)
      here d =
          let old = settled to d low apart in
          record {
            put = (sent d).list ∙ ap (λ l. l ++ message_sent e ∷ []) old.put ∙ sym (put_some (net_for p.setup) p.role to p.own.events e (own_puts (net_for p.setup) p.role to e own.dir own.own.role (sym is)));
            through = let t = (sent d).through in let o = old.through in omega (arith, t, o);
            got = old.got ∙ ap length (sym (got_same to));
            taken = old.taken ∙ sym (got_same to);
          }

      elsewhere : (q : ℕ) (d : End) → q < roles_of p.setup → (q ≡ p.role → ⊥) → (q ≡ to → ⊥) → IsSettledWith (net_for p.setup) p.role q (p.own.events ++ e ∷ []) (p.own.numbers.raw + 1) (end_at posts' p.role q d) (end_at inboxes p.role q d)
      elsewhere q d lt n m =
          let old = settled q d lt n in
          let same = same_post q d n m in
          record {
            put = ap (λ (y : End). y.list) same ∙ old.put ∙ sym (put_none (net_for p.setup) p.role q p.own.events e (else_puts (net_for p.setup) p.role q e (λ f. m (sym f ∙ sym is))));
            through = let o = old.through in let t = ap (λ (y : End). through y) same in omega (arith, o, t);
            got = old.got ∙ ap length (sym (got_same q));
            taken = old.taken ∙ sym (got_same q);
          }

  one_post : (p' : PartView) → OnePost (cell_of p posts inboxes) (cell_of p' posts' inboxes) ((net_for p.setup).receiver e.point)
  one_post p' = record { inboxes = refl; others = subst (λ t. OthersStay posts posts' (slot p.role t)) is others }

  found_full : MayOwnSend (rules_of p.setup) p.own e → ((d : End) → HasSent (end_at posts p.role to d) (end_at posts' p.role to d) (message_sent e) false) → FoundFull (cell_of p posts inboxes) (cell_of p posts' inboxes)
  found_full may sent = record {
    offered = may.offered;
    next = subst (λ r. Offers (record p { role = r }) may.offered) own.own.role may.next;
    sends = λ z i. may.sends z i ∙ own.own.role;
    point = e.point;
    chosen = may.point ∙ ap (λ r. (rules_of p.setup).chosen r p.own.events p.own.numbers.attempt may.offered) own.own.role;
    full = λ d. subst (λ t. WasFull (end_at posts p.role t d) (end_at posts' p.role t d)) is ((sent d).full refl);
    stay = one_post p;
    list = λ d. subst (λ t. (end_at posts' p.role t d).list ≡ (end_at posts p.role t d).list) is (sent d).list;
  }

  ends_of_send : (p' : PartView) → ((d : End) → HasSent (end_at posts p.role to d) (end_at posts' p.role to d) (message_sent e) true) → EndsOfSend (cell_of p posts inboxes) (cell_of p' posts' inboxes) e
  ends_of_send p' sent = record {
    stay = one_post p';
    put = λ d. subst (λ t. HasPut (end_at posts p.role t d) (end_at posts' p.role t d) (message_sent e)) is (record { list = (sent d).list });
  }

  no_recv : e.dir ≡ Got → ⊥
  no_recv got = let sent = own.dir in cc

-- a poll that sends, as its function has it
module _ (was p : PartView) (posts inboxes : List End) (q : CellView) (e : Event) (to role at : ℕ) (was_is : cell_of was posts inboxes ≡ q) (had : AreEnds (rules_of was.setup) was.role posts inboxes) (settled : IsSettled q) (chosen : IsNextSend was.setup was.role was.own e) (same : p ≡ was) (to_is : to ≡ (net_for p.setup).receiver e.point) (role_is : role ≡ p.role) (at_is : at ≡ slot role to) where
  -- a role that chooses stays where it was
  is : cell_of p posts inboxes ≡ q
  is = ap (λ x. cell_of x posts inboxes) same ∙ was_is

  ends : AreEnds (rules_of p.setup) p.role posts inboxes
  ends = subst (λ (x : PartView). AreEnds (rules_of x.setup) x.role posts inboxes) (sym same) had

  next : IsNextSend p.setup p.role p.own e
  next = subst (λ (x : PartView). IsNextSend x.setup x.role x.own e) (sym same) chosen

  own : IsOwnSend p.setup p.role e
  own = next.sends

  pub send_own : IsOwn p.setup p.role e
  send_own = own.own

  inside : IsSettled (cell_of p posts inboxes)
  inside = subst (λ (c : CellView). IsSettled c) (sym is) settled

  at_slot : at ≡ slot p.role to
  at_slot = at_is ∙ ap (λ r. slot r to) role_is

  to_low : to < roles_of p.setup
  to_low = subst (λ n. n < roles_of p.setup) (sym to_is) own.receiver

  to_apart : to ≡ p.role → ⊥
  to_apart f = own.apart (sym to_is ∙ f)

  pub send_apart : to ≡ role → ⊥
  send_apart f = to_apart (f ∙ role_is)

  pub send_at : at < length posts
  send_at =
      let c = ends.post_count in
      let d = ends.declared in
      slot_within p.role to (length posts) at (omega (arith, c, d)) (let l = to_low in omega (arith, c, l)) to_apart at_slot

  pub send_passes : (d : End) → CanPass (slice_index_or posts at d).base.points (message_sent e)
  send_passes d = (subst (λ k. HasPoint (slice_index_or posts k d).base.points e.point) (sym at_slot) ((ends.post to d to_low to_apart).points e.point own.own.first own.own.last own.sender (sym to_is)), own.stamp)

  pub send_room : length was.own.events ≤ was.own.numbers.raw → IsBelow q.part → (d : End) → length (slice_index_or posts at d).list < (slice_index_or posts at d).limit
  send_room had_few low d = subst (λ k. length (slice_index_or posts k d).list < (slice_index_or posts k d).limit) (sym at_slot)
      (let s = inside to d to_low to_apart in let l = (ends.post to d to_low to_apart).limit in let n = fewer (put_by (net_for p.setup) p.role to) p.own.events in let m = ap length s.put in let b = (subst (λ (c : CellView). IsBelow c.part) (sym is) low).raw in let few : length p.own.events ≤ p.own.numbers.raw = subst (λ (x : PartView). length x.own.events ≤ x.own.numbers.raw) (sym same) had_few in omega (arith, l, n, m, few, b))

  pub send_through : (rules_of p.setup).limit ≤ 100000 → IsBelow q.part → (d : End) → through (slice_index_or posts at d) < 2 ^ 62
  send_through limit low d = subst (λ k. through (slice_index_or posts k d) < 2 ^ 62) (sym at_slot) (let s = (inside to d to_low to_apart).through in let b = (subst (λ (c : CellView). IsBelow c.part) (sym is) low).raw in omega (arith, s, b, limit))

  module _ (posts' : List End) (ok : Bool) (others : OthersStay posts posts' at) (sent : (d : End) → HasSent (slice_index_or posts at d) (slice_index_or posts' at d) (message_sent e) ok) where
    others' : OthersStay posts posts' (slot p.role to)
    others' = subst (OthersStay posts posts') at_slot others

    sent' : (d : End) → HasSent (end_at posts p.role to d) (end_at posts' p.role to d) (message_sent e) ok
    sent' d = subst (λ k. HasSent (slice_index_or posts k d) (slice_index_or posts' k d) (message_sent e) ok) at_slot (sent d)

    pub sent_ends : AreEnds (rules_of p.setup) p.role posts' inboxes
    sent_ends = ends_sent p posts posts' inboxes e to ends inside own to_is others' ok sent'

    pub sent_ends_more : (p' : PartView) → p' ≡ with_event p e (entry_of_event e) → AreEnds (rules_of p'.setup) p'.role posts' inboxes
    sent_ends_more p' f = subst (λ (z : PartView). AreEnds (rules_of z.setup) z.role posts' inboxes) (sym f) sent_ends

    module _ (zs : List ℕ) (calm : IsDue q.part → ⊥) (offers : Offers q.part zs) (some : zs ≢ []) (below : IsBelow q.part) where
      strangers_none : HasNoStrangers was → HasNoStrangers p
      strangers_none none = subst HasNoStrangers (sym same) none

      pub sent_waits : ok ≡ false → HasNoStrangers was → Goes q (cell_of p posts' inboxes)
      sent_waits f strangers = subst (λ c. Goes c (cell_of p posts' inboxes)) is (send_waits p posts posts' inboxes e to ends inside own to_is others' (strangers_none strangers) (λ d. subst (HasSent (end_at posts p.role to d) (end_at posts' p.role to d) (message_sent e)) f (sent' d)))

      pub sent_waiting : ok ≡ false → Polled q (cell_of p posts' inboxes) Waiting
      sent_waiting f = (
        ready q.part zs calm offers some below,
        inl (subst (λ c. FoundFull c (cell_of p posts' inboxes)) is (found_full p posts posts' inboxes e to ends inside own to_is others' next.may (λ d. subst (HasSent (end_at posts p.role to d) (end_at posts' p.role to d) (message_sent e)) f (sent' d)))),
        ap (λ (c : CellView). c.part) is,
      )

      pub sent_moves : ok ≡ true → (p' : PartView) → p' ≡ with_event p e (entry_of_event e) → HasNoStrangers was → Goes q (cell_of p' posts' inboxes)
      sent_moves f p' g strangers = subst (λ c. Goes c (cell_of p' posts' inboxes)) is (subst (λ z. Goes (cell_of p posts inboxes) (cell_of z posts' inboxes)) (sym g) (send_moves p posts posts' inboxes e to ends inside own to_is others' (strangers_none strangers) next.may (λ d. subst (HasSent (end_at posts p.role to d) (end_at posts' p.role to d) (message_sent e)) f (sent' d))))

      pub sent_moved : ok ≡ true → (p' : PartView) → p' ≡ with_event p e (entry_of_event e) → Polled q (cell_of p' posts' inboxes) Moved
      sent_moved f p' g = (
        ready q.part zs calm offers some below,
        record {
          event = e;
          part = g ∙ ap (λ (c : CellView). with_event c.part e (entry_of_event e)) is;
          sent = λ d. subst (λ c. EndsOfSend c (cell_of p' posts' inboxes) e) is (ends_of_send p posts posts' inboxes e to ends inside own to_is others' p' (λ d. subst (HasSent (end_at posts p.role to d) (end_at posts' p.role to d) (message_sent e)) f (sent' d)));
          got = λ d. absurd (no_recv p posts posts' inboxes e to ends inside own to_is others' d);
        },
      )
