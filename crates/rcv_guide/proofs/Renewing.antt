-- The ledger holds what stays of the events that are gone over.
use Rattle.std.proofs.Common.{◌≡◌, ℕ, zero, suc, ◌+◌, ◌*◌, ◌-◌, ◌<◌, ◌^◌, Bool, true, false, cond, Some, List, [], ◌∷◌, ◌++◌, length, length-append, length-set, take, drop, length-drop, length-take-le, replicate, refl, sym, ◌∙◌, ap, subst, ⊎_elim, append-nil, arith}
use Rattle.std.specs.Prelude.{pos, nat_le, Option, slice_get, slice_index, slice_index_or}
use Rattle.std.specs.List.{sum_by, range_with_len}
use Rattle.std.proofs.Math.Seq.{take-length}
use Rattle.std.proofs.lemmas.Bool.{cases_eq, cases_lt}
use Rattle.std.proofs.lemmas.List.{length-replicate}
use Rattle.std.proofs.lemmas.List.Sums.{sum_by-cons}
use Rattle.std.proofs.lemmas.Option.{get_or_from_slice_get}
use Rattle.rcv_tree.specs.declared.entry.Entry.TheVariants.{Send, Recv}
use Rattle.rcv_tree.specs.declared.event.Event.{Event}
use Rattle.rcv_tree.specs.declared.event.Dir.{Dir}
use Rattle.rcv_tree.specs.declared.event.Dir.TheVariants.{Sent, Got}
use Rattle.rcv_model.specs.Net.{Net, IsPrefix}
use Rattle.rcv_model.specs.Run.{is_sent, put_by, put, taken, IsQueued}
use Rattle.rcv_model.specs.Journal.{events_of}
use Rattle.rcv_model.proofs.Explained.{by_role_own}
use Rattle.rcv_model.proofs.Keeping.{by_role_other, put_through, taken_through, queued_more, queued_nil}
use Rattle.rcv_model.proofs.Lists.{some_same}
use Rattle.rcv_model.proofs.Located.{get_below}
use Rattle.rcv_checkpoint.specs.declared.state.State as checkpoints
use Rattle.rcv_checkpoint.specs.Rows.{nowhere}
use Rattle.rcv_checkpoint.specs.Stack.{StackView, held, last_vars}
use Rattle.rcv_depend.specs.Logs.{between}
use Rattle.rcv_ledger.specs.Channels.{ChannelView, channel_at, HasFront}
use Rattle.rcv_ledger.specs.Logs.{log_at}
use Rattle.rcv_ledger.specs.Ledger as ledgers
use Rattle.rcv_ledger.specs.Ledger.{LedgerView, stack_at, with_state, with_send, with_recv, behind_event, state_behind, IsStart, HoldsKept}
use Rattle.rcv_ledger.specs.Laws.{IsMore}
use Rattle.rcv_depend.specs.Cuts.{put_within, taken_within}
use Rattle.rcv_ledger.proofs.Holding.{sends_hold, recvs_hold, starts_hold_nothing}
use Rattle.rcv_ledger.proofs.Lists.{none_there}
use Rattle.rcv_guide.specs.Failing.{all_events}
use Rattle.rcv_guide.specs.Guide.{no_vars}
use Rattle.rcv_guide.specs.Renewal.{AreOrdered, AreReceived, ArePassed, AreAllPassed, IsNextEvent, stays, stays_at, one_staying, staying, with_one, IsRenewing, IsRenewed}
use Rattle.rcv_guide.proofs.Growing.{all_more, rooms_more, sums_alike}
use Rattle.rcv_guide.proofs.Guides.{one_of_all}
use Rattle.rcv_guide.proofs.Starting.{get_replicate}
use Rattle.rcv_guide.proofs.Staying.{prefix_dropped, taken_up, put_staying, taken_staying, recv_stays, le_true}
use Rattle.rcv_guide.proofs.Reserved.{no_longer}
use Rattle.rcv_guide.proofs.Telling.{behind_more}
use Rattle.rcv_guide.proofs.Passing.{now, low, is_sound, count_own, count_other, even_more, left_less, queued_within}

-- a ledger with one event more of its role, behind which the role is in this state
record IsLonger (e : Event) (state : checkpoints.State) (old new : LedgerView) : Type 0 where
  pub logs : new.logs ≡ ledgers.with_event old.logs e
  pub entries : length new.entries ≡ length old.entries + 1
  pub stacks : new.stacks ≡ with_state old.stacks e.role state
  pub room : new.room ≡ old.room
  pub most : new.most ≡ old.most

-- what it says of a ledger that it holds events of roles without variables
module _ (net : Net) (roles : ℕ) (h : List Event) (ledger : LedgerView) (holds : HoldsKept net roles no_vars h ledger) (r : ℕ) (lt : r < roles) where
  pub held_of : held (stack_at ledger.stacks r) ≡ length (log_at ledger.logs r)
  held_of = let a = (holds.states r lt).all in let b = ap length (holds.log r) in omega (arith, a, b)

  pub vars_of : replicate 16 (pos 0) ≡ last_vars (stack_at ledger.stacks r)
  vars_of =
      let events = events_of r h in
      let last : held (stack_at ledger.stacks r) ≡ length events = (let a = (holds.states r lt).all in omega (arith, a)) in
      let at : slice_get (stack_at ledger.stacks r).states (held (stack_at ledger.stacks r)) ≡ Some (state_behind no_vars r events) =
      subst (λ n. slice_get (stack_at ledger.stacks r).states n ≡ Some (state_behind no_vars r events)) (sym last)
      ((holds.states r lt).each (length events) (omega arith) ∙ ap (λ l. Some (state_behind no_vars r l)) (take-length events)) in
      sym (ap (λ (x : checkpoints.State). x.vars) (get_or_from_slice_get (stack_at ledger.stacks r).states (held (stack_at ledger.stacks r)) (state_behind no_vars r events) nowhere at))

-- the event that stands there is the next one
abbrev pub next_as : (net : Net) (logs : List (List Event)) (counts : List ℕ) (r : ℕ) (e : Event) → IsNextEvent net logs counts r → slice_get (log_at logs r) (slice_index counts r) ≡ Some e → IsNextEvent net logs counts r
next_as net logs counts r e next at =
    let same = some_same (sym next.there ∙ at) in
    record {
      role = next.role;
      event = e;
      there = at;
      waits = subst (λ (f : Event). f.dir ≡ Got → length (taken net (net.sender f.point) r (take (slice_index counts r) (log_at logs r))) < put_within net logs counts (net.sender f.point) r) same next.waits;
    }

module _ (net : Net) (logs : List (List Event)) (ends : List ℕ) (room : ℕ) (o : AreOrdered net logs) (counts sent : List ℕ) (are : ArePassed net logs counts sent) (fresh : LedgerView) (is : IsRenewing net logs ends room counts fresh) where
  -- what the ledger holds of each channel
  put_held : (a b : ℕ) → put net a b is.held ≡ drop (taken_within net logs ends a b) (put net a b (take (slice_index counts a) (log_at logs a)))
  put_held a b = put_through net a b is.held ∙ ap (put net a b) (is.stay a) ∙ put_staying net logs ends a b (slice_index counts a)

  taken_held : (a b : ℕ) → taken net a b is.held ≡ drop (taken_within net logs ends a b) (taken net a b (take (slice_index counts b) (log_at logs b)))
  taken_held a b = taken_through net a b is.held ∙ ap (taken net a b) (is.stay b) ∙ taken_staying net logs ends a b (slice_index counts b)

  pub many_logs : length fresh.logs ≡ length logs
  many_logs = is.holds.logs

  pub few_entries : length fresh.entries < 2 ^ 31
  few_entries = let a = is.few in let b = o.small in omega (arith, a, b)

  pub few_held : (r : ℕ) → r < length logs → held (stack_at fresh.stacks r) < 2 ^ 31
  few_held r lt =
      let a = held_of net (length logs) is.held fresh is.holds r lt in
      let b = one_of_all fresh.logs r in
      let c = is.entries in
      let d = few_entries in
      omega (arith, a, b, c, d)

  pub unchanged : (r : ℕ) → r < length logs → replicate 16 (pos 0) ≡ last_vars (stack_at fresh.stacks r)
  unchanged r lt = vars_of net (length logs) is.held fresh is.holds r lt

  module _ (r : ℕ) (next : IsNextEvent net logs counts r) where
    own : next.event.role ≡ r
    own = (is_sound net logs o counts r next).role

    pub few_own : held (stack_at fresh.stacks next.event.role) + 1 < 2 ^ 32
    few_own = subst (λ q. held (stack_at fresh.stacks q) + 1 < 2 ^ 32) (sym own) (let a = few_held r next.role in omega (arith, a))

    -- a Recv that stays has its message in front
    pub waits : stays_at net logs ends r (slice_index counts r) next.event ≡ true → next.event.dir ≡ Got → HasFront (channel_at fresh.channels (net.sender next.event.point) next.event.role)
    waits t got =
        let a = net.sender next.event.point in
        let sound = is_sound net logs o counts r next in
        let here = is.holds.carry.each (net.sender next.event.point) r sound.sender (low net logs o counts r next) in
        let behind = taken_up net (net.sender next.event.point) r (slice_index ends r) (slice_index counts r) (log_at logs r) (le_true (slice_index ends r) (slice_index counts r) (sym (recv_stays net logs ends r (slice_index counts r) next.event (ap is_sent got)) ∙ t)) in
        let more = next.waits got in
        let p = ap length (put_held (net.sender next.event.point) r) in
        let q = ap length (taken_held (net.sender next.event.point) r) in
        let m = length-drop (taken_within net logs ends (net.sender next.event.point) r) (put net (net.sender next.event.point) r (take (slice_index counts (net.sender next.event.point)) (log_at logs (net.sender next.event.point)))) in
        let n = length-drop (taken_within net logs ends (net.sender next.event.point) r) (taken net (net.sender next.event.point) r (take (slice_index counts r) (log_at logs r))) in
        subst (λ k. HasFront (channel_at fresh.channels (net.sender next.event.point) k)) (sym own)
        (subst (λ (c : ChannelView). c.taken < length c.put) (sym here) (omega (arith, behind, more, p, q, m, n)))

    staying_own : staying net logs ends r (slice_index (now net logs o counts r next) r) ≡ staying net logs ends r (slice_index counts r) ++ cond (stays_at net logs ends r (slice_index counts r) next.event) (next.event ∷ []) []
    staying_own =
        let up : slice_index counts r + 1 ≡ suc (slice_index counts r) = omega arith in
        ap (staying net logs ends r) (count_own net logs o counts r next are.eight ∙ up)
        ∙ ap (λ (x : Option Event). staying net logs ends r (slice_index counts r) ++ one_staying net logs ends r (slice_index counts r) x) next.there

    others_stay : (q : ℕ) → (q ≡ r → ⊥) → events_of q is.held ≡ staying net logs ends q (slice_index (now net logs o counts r next) q)
    others_stay q other = is.stay q ∙ ap (staying net logs ends q) (sym (count_other net logs o counts r next are.eight q other))

    -- it doesn't stay
    pub left_out : stays_at net logs ends r (slice_index counts r) next.event ≡ false → IsRenewing net logs ends room (now net logs o counts r next) fresh
    left_out f = record {
      held = is.held;
      stay = λ q. ⊎_elim
          (λ g. subst (λ k. events_of k is.held ≡ staying net logs ends k (slice_index (now net logs o counts r next) k)) (sym g)
          (is.stay r ∙ sym (staying_own ∙ ap (λ b. staying net logs ends r (slice_index counts r) ++ cond b (next.event ∷ []) []) f ∙ append-nil (staying net logs ends r (slice_index counts r)))))
          (others_stay q)
          (cases_eq q r);
      queued = is.queued;
      holds = is.holds;
      entries = is.entries;
      few = let a = is.few in let b = left_less net logs o counts r next are.eight in omega (arith, a, b);
      rooms = is.rooms;
    }

    -- it stays
    module _ (t : stays_at net logs ends r (slice_index counts r) next.event ≡ true) where
      abbrev more : List Event
      more = is.held ++ next.event ∷ []

      stay_more : (q : ℕ) → events_of q more ≡ staying net logs ends q (slice_index (now net logs o counts r next) q)
      stay_more q = ⊎_elim
          (λ g. subst (λ k. events_of k more ≡ staying net logs ends k (slice_index (now net logs o counts r next) k)) (sym g)
          (by_role_own r is.held next.event own
          ∙ ap (λ l. l ++ next.event ∷ []) (is.stay r)
          ∙ sym (staying_own ∙ ap (λ b. staying net logs ends r (slice_index counts r) ++ cond b (next.event ∷ []) []) t)))
          (λ other. by_role_other q is.held next.event (λ f. other (sym f ∙ own)) ∙ others_stay q other)
          (cases_eq q r)

      put_more : (a b : ℕ) → put net a b more ≡ drop (taken_within net logs ends a b) (put net a b (take (slice_index (now net logs o counts r next) a) (log_at logs a)))
      put_more a b = put_through net a b more ∙ ap (put net a b) (stay_more a) ∙ put_staying net logs ends a b (slice_index (now net logs o counts r next) a)

      taken_more : (a b : ℕ) → taken net a b more ≡ drop (taken_within net logs ends a b) (taken net a b (take (slice_index (now net logs o counts r next) b) (log_at logs b)))
      taken_more a b = taken_through net a b more ∙ ap (taken net a b) (stay_more b) ∙ taken_staying net logs ends a b (slice_index (now net logs o counts r next) b)

      queued_now : IsQueued net more
      queued_now = queued_more net is.held next.event is.queued
          (λ a b. subst (λ l. IsPrefix l (put net a b more)) (sym (taken_more a b))
          (subst (λ l. IsPrefix (drop (taken_within net logs ends a b) (taken net a b (take (slice_index (now net logs o counts r next) b) (log_at logs b)))) l) (sym (put_more a b))
          (prefix_dropped (taken_within net logs ends a b) _ _ (queued_within net logs o (now net logs o counts r next) a b (even_more net logs o counts r next are.eight are.even a b)))))

      is_more : IsMore net (length logs) no_vars is.held next.event (behind_event next.event (replicate 16 (pos 0)))
      is_more =
          let sound = is_sound net logs o counts r next in
          record {
            declared = let lt = next.role in omega (arith, lt, own);
            sound = record { role = refl; first = sound.first; last = sound.last; sender = sound.sender; receiver = sound.receiver };
            behind = behind_more (events_of next.event.role is.held) next.event;
          }

      grown : (new : LedgerView) → IsLonger next.event (behind_event next.event (replicate 16 (pos 0))) fresh new → HoldsKept net (length logs) no_vars more new → IsRenewing net logs ends room (now net logs o counts r next) new
      grown new longer holds =
          let logged : next.event.role < length fresh.logs = (let lt = next.role in let a = many_logs in omega (arith, lt, own, a)) in
          let stacked : next.event.role < length fresh.stacks = (let lt = next.role in let a = is.holds.stacks in omega (arith, lt, own, a)) in
          record {
            held = more;
            stay = stay_more;
            queued = queued_now;
            holds = holds;
            entries = ap all_events longer.logs ∙ all_more fresh.logs next.event logged ∙ ap (λ n. n + 1) is.entries ∙ sym longer.entries;
            few = let a = is.few in let b = left_less net logs o counts r next are.eight in let c = longer.entries in omega (arith, a, b, c);
            rooms = record {
              events = longer.room ∙ is.rooms.events;
              most = longer.most ∙ is.rooms.most;
              states = λ q lt.
                  ap (λ l. (stack_at l q).room) longer.stacks
                  ∙ rooms_more fresh.stacks next.event.role q (behind_event next.event (replicate 16 (pos 0))) stacked
                  ∙ is.rooms.states q (let a = ap length longer.stacks ∙ length-set fresh.stacks next.event.role _ in omega (arith, a, lt));
            };
          }

      sent_one : next.event.dir ≡ Sent → IsRenewing net logs ends room (now net logs o counts r next) (with_send fresh next.event (net.receiver next.event.point) (behind_event next.event (replicate 16 (pos 0))))
      sent_one d = grown (with_send fresh next.event (net.receiver next.event.point) (behind_event next.event (replicate 16 (pos 0))))
          (record { logs = refl; entries = length-append fresh.entries (Send next.event ∷ []); stacks = refl; room = refl; most = refl })
          (sends_hold net (length logs) no_vars is.held next.event (behind_event next.event (replicate 16 (pos 0))) fresh is.holds d is_more)

      got_one : next.event.dir ≡ Got → IsRenewing net logs ends room (now net logs o counts r next) (with_recv fresh next.event (net.sender next.event.point) (behind_event next.event (replicate 16 (pos 0))))
      got_one d = grown (with_recv fresh next.event (net.sender next.event.point) (behind_event next.event (replicate 16 (pos 0))))
          (record { logs = refl; entries = length-append fresh.entries (Recv next.event ∷ []); stacks = refl; room = refl; most = refl })
          (recvs_hold net (length logs) no_vars is.held next.event (behind_event next.event (replicate 16 (pos 0))) fresh is.holds d is_more)

      abbrev either : Bool → LedgerView
      either b = cond b (with_send fresh next.event (net.receiver next.event.point) (behind_event next.event (replicate 16 (pos 0)))) (with_recv fresh next.event (net.sender next.event.point) (behind_event next.event (replicate 16 (pos 0))))

      by_dir : (d : Dir) → next.event.dir ≡ d → IsRenewing net logs ends room (now net logs o counts r next) (with_one net fresh next.event (replicate 16 (pos 0)))
      by_dir Sent d = subst (λ b. IsRenewing net logs ends room (now net logs o counts r next) (either b)) (sym (ap is_sent d)) (sent_one d)
      by_dir Got d = subst (λ b. IsRenewing net logs ends room (now net logs o counts r next) (either b)) (sym (ap is_sent d)) (got_one d)

      pub added : (new : LedgerView) → new ≡ with_one net fresh next.event (replicate 16 (pos 0)) → IsRenewing net logs ends room (now net logs o counts r next) new
      added new e = subst (IsRenewing net logs ends room (now net logs o counts r next)) (sym e) (by_dir next.event.dir refl)

  -- all are gone over
  pub all_held : AreAllPassed logs counts (length logs) → IsRenewed net logs ends room fresh
  all_held all = record {
    held = is.held;
    stay = λ r. is.stay r ∙ ap (staying net logs ends r) (whole r);
    queued = is.queued;
    holds = is.holds;
    entries = is.entries;
    few = let a = is.few in omega (arith, a);
    rooms = is.rooms;
  }
    where
      whole : (r : ℕ) → slice_index counts r ≡ length (log_at logs r)
      whole r = ⊎_elim
          (λ lt. let a = are.within r lt in let b = all r lt in omega (arith, a, b))
          (λ le. are.others r le ∙ sym (ap length (none_there logs r [] le)))
          (cases_lt r (length logs))

-- a list of one item
pub each_same : {A : Type 0} (n r : ℕ) (x : A) → slice_index_or (replicate n x) r x ≡ x
each_same zero r x = refl
each_same (suc n) zero x = refl
each_same (suc n) (suc r) x = each_same n r x

-- none is
nothing_held : (k a n : ℕ) → sum_by (λ r. length (log_at (replicate k []) r)) (range_with_len a n) ≡ 0
nothing_held k a zero = refl
nothing_held k a (suc n) =
    let here = ap (λ (l : List Event). length l) (each_same k a []) in
    let ih = nothing_held k (a + 1) n in
    omega (arith, here, ih, sum_by-cons (λ r. length (log_at (replicate k []) r)) a (range_with_len (a + 1) n))

module _ (net : Net) (logs : List (List Event)) (o : AreOrdered net logs) where
  no_count : (r : ℕ) → slice_index (replicate 8 0) r ≡ 0
  no_count r = each_same 8 r 0

  pub none_passed : ArePassed net logs (replicate 8 0) (replicate 64 0)
  none_passed = record {
    eight = refl;
    all = refl;
    within = λ r lt. let z = no_count r in omega (arith, z);
    others = λ r le. no_count r;
    sent_is = λ a b la lb. each_same 64 (a * 8 + b) 0 ∙ sym (ap (λ n. length (put net a b (take n (log_at logs a)))) (no_count a));
    even = λ a b. let z = ap (λ n. length (taken net a b (take n (log_at logs b)))) (no_count b) in omega (arith, z);
  }

  pub none_held : (ends : List ℕ) (room roles : ℕ) (fresh : LedgerView) → roles ≡ length logs → IsStart (replicate roles (replicate 16 (pos 0))) (replicate roles 1) room room fresh → IsRenewing net logs ends room (replicate 8 0) fresh
  none_held ends room roles fresh are begun = record {
    held = [];
    stay = λ r. sym (ap (staying net logs ends r) (no_count r));
    queued = queued_nil net;
    holds = subst (λ n. HoldsKept net n no_vars [] fresh) (size ∙ are)
        (starts_hold_nothing net no_vars (replicate roles (replicate 16 (pos 0))) (replicate roles 1) room room fresh (let few = o.few in omega (arith, few, size, are))
        (λ r lt. sym (get_or_from_slice_get (replicate roles (replicate 16 (pos 0))) r (replicate 16 (pos 0)) [] (get_replicate roles r (replicate 16 (pos 0)) (omega (arith, lt, size)))))
        begun);
    entries = ap all_events begun.logs ∙ nothing_held (length (replicate roles (replicate 16 (pos 0)))) 0 (length (replicate (length (replicate roles (replicate 16 (pos 0)))) [])) ∙ sym (ap length begun.entries);
    few = let a = ap length begun.entries in let b = sums_alike (λ r. length (log_at logs r) - slice_index (replicate 8 0) r) (λ r. length (log_at logs r)) 0 (length logs) (λ r low high. let z = no_count r in omega (arith, z)) in omega (arith, a, b);
    rooms = record {
      events = begun.room;
      most = begun.room_in_all;
      states = λ r lt. ap (λ (s : StackView). s.room) (begun.stacks r (let a = begun.all in omega (arith, a, lt)));
    };
  }
    where
      size : length (replicate roles (replicate 16 (pos 0))) ≡ roles
      size = length-replicate _ _

-- what the arrays say of an event is what the logs do
pub keeps_is : (net : Net) (logs : List (List Event)) (ends counts sent received : List ℕ) (r : ℕ) (e : Event) → ArePassed net logs counts sent → AreReceived net logs ends received → r < 8 → net.receiver e.point < 8
    → stays net (λ b. slice_index received (between r b)) (λ b. slice_index sent (between r b)) (slice_index ends r) (slice_index counts r) e ≡ stays_at net logs ends r (slice_index counts r) e
keeps_is net logs ends counts sent received r e are got lr lb =
    ap (λ k. cond (is_sent e.dir) (nat_le k (slice_index sent (between r (net.receiver e.point)))) (nat_le (slice_index ends r) (slice_index counts r))) (got.each r (net.receiver e.point) lr lb)
    ∙ ap (λ k. cond (is_sent e.dir) (nat_le (taken_within net logs ends r (net.receiver e.point)) k) (nat_le (slice_index ends r) (slice_index counts r))) (are.sent_is r (net.receiver e.point) lr lb)

-- what is counted is few
module _ (net : Net) (logs : List (List Event)) (o : AreOrdered net logs) (counts sent : List ℕ) (are : ArePassed net logs counts sent) (r : ℕ) (next : IsNextEvent net logs counts r) where
  pub few_count : slice_index counts r < 2 ^ 31
  few_count =
      let a = are.within r next.role in
      let b = one_of_all logs r in
      let c = o.small in
      omega (arith, a, b, c, get_below (log_at logs r) (slice_index counts r) next.event next.there)

  pub few_sent : slice_index sent (between r (net.receiver next.event.point)) < 2 ^ 31
  few_sent =
      let sound = is_sound net logs o counts r next in
      let is = are.sent_is r (net.receiver next.event.point) (low net logs o counts r next) sound.receiver in
      let a = no_longer (put_by net r (net.receiver next.event.point)) (take (slice_index counts r) (log_at logs r)) in
      let b = length-take-le (slice_index counts r) (log_at logs r) (are.within r next.role) in
      let c = few_count in
      omega (arith, is, a, b, c)
