-- A guide with one event more that is restored.
use Rattle.std.proofs.Common.{◌≡◌, ℕ, ◌+◌, ◌<◌, ◌≤◌, Bool, true, false, cond, Some, List, [], ◌∷◌, ◌++◌, length, length-append, length-set, take, replicate, refl, sym, ◌∙◌, ap, subst, ◌⊎◌, inl, inr, ⊎_elim, arith}
use Rattle.std.specs.Prelude.{pos, slice_get, slice_set}
use Rattle.std.proofs.lemmas.Bool.{cases_eq}
use Rattle.rcv_tree.specs.declared.event.Event.{Event}
use Rattle.rcv_tree.specs.declared.event.Dir.{Dir}
use Rattle.rcv_tree.specs.declared.event.Dir.TheVariants.{Sent, Got}
use Rattle.rcv_tree.specs.declared.entry.Entry.TheVariants.{Send, Recv}
use Rattle.rcv_tree.specs.Events.{message_got}
use Rattle.rcv_model.specs.Net.{Net}
use Rattle.rcv_model.specs.ByPoints.{IsByEnd}
use Rattle.rcv_model.specs.Run.{is_sent, put, taken, IsQueued}
use Rattle.rcv_model.specs.Next.{IsOf, IsPlaceOf}
use Rattle.rcv_model.specs.Journal.{events_of}
use Rattle.rcv_model.proofs.Explained.{by_role_own}
use Rattle.rcv_model.proofs.Keeping.{by_role_other}
use Rattle.rcv_model.proofs.Located.{get_below}
use Rattle.rcv_model.proofs.Steps.{send_queued, recv_queued}
use Rattle.rcv_checkpoint.specs.declared.state.State as checkpoints
use Rattle.rcv_tables.specs.Rows.{TableView}
use Rattle.rcv_ledger.specs.Channels.{ChannelView, channel_at, HasFront}
use Rattle.rcv_ledger.specs.Logs.{log_at, with_event_of}
use Rattle.rcv_depend.specs.Logs.{IsSound}
use Rattle.rcv_ledger.specs.Ledger.{LedgerView, stack_at, behind_event, with_send, with_recv, HoldsKept}
use Rattle.rcv_ledger.specs.Laws.{IsMore}
use Rattle.rcv_ledger.proofs.Holding.{sends_hold, recvs_hold}
use Rattle.rcv_ledger.proofs.Lists.{get_left, get_more}
use Rattle.rcv_guide.specs.declared.numbers.Numbers.{Numbers}
use Rattle.rcv_guide.specs.Numbers.{numbers_at}
use Rattle.rcv_guide.specs.Guide.{GuideView, net_for, roles_of, no_vars, IsMemory, IsSoundMemory, AreStamped, AreFewOf, IsGuide}
use Rattle.rcv_guide.specs.Renewal.{HasRoomToAdd, with_one}
use Rattle.rcv_guide.specs.Restoring.{FitsEvent, with_logged}
use Rattle.rcv_guide.proofs.Guides.{low, log_is, carried, sender_in, receiver_in}
use Rattle.rcv_guide.proofs.Growing.{log_own, log_other, all_more, rooms_more, IsGrown}
use Rattle.rcv_guide.proofs.Memories.{lies}
use Rattle.rcv_guide.proofs.Renumbering.{now_own, now_other, now_same, renumbered, renumbered_are}
use Rattle.rcv_guide.proofs.Reserved.{event_fits, send_fits}
use Rattle.rcv_guide.proofs.Telling.{behind_more, front_at}

-- an event by an end of its point is one of its role's
pub of_ends : (net : Net) (e : Event) → IsByEnd net e → IsOf net e.role e.point
of_ends net e ends = go (is_sent e.dir) refl
  where
    go : (b : Bool) → is_sent e.dir ≡ b → IsOf net e.role e.point
    go true t = inl (sym (ends.sends t))
    go false t = inr (sym (ends.recvs t))

-- the numbers with other seeds
abbrev pub seeded : Numbers → ℕ → Numbers
seeded x seeds = record x { seeds = seeds }

module _ {g : GuideView} {table : TableView} {ledger : LedgerView} (kept : IsGuide g table ledger) (e : Event) (k : ℕ) (fits : FitsEvent g e k) where
  abbrev new : List Numbers
  new = slice_set g.numbers e.role (seeded (numbers_at g.numbers e.role) k)

  abbrev logs_now : List (List Event)
  logs_now = with_event_of g.logs e.role e

  pub declared : e.role < roles_of g
  declared = fits.log.declared

  in_logs : e.role < length g.logs
  in_logs = let a = kept.logs in let b = declared in omega (arith, a, b)

  pub in_numbers : e.role < length g.numbers
  in_numbers = let a = kept.numbers in let b = declared in omega (arith, a, b)

  size_own : length (log_at logs_now e.role) ≡ length (log_at g.logs e.role) + 1
  size_own = ap length (log_own g.logs e in_logs e.role refl) ∙ length-append (log_at g.logs e.role) (e ∷ [])

  number_own : numbers_at new e.role ≡ seeded (numbers_at g.numbers e.role) k
  number_own = now_own g.numbers e.role (seeded (numbers_at g.numbers e.role) k) in_numbers

  -- what holds of the role with its new log and numbers, and of the others, holds of each
  each_role : (P : ℕ → List Event → Numbers → Type 0) → P e.role (log_at g.logs e.role ++ e ∷ []) (seeded (numbers_at g.numbers e.role) k) → (r : ℕ) → P r (log_at g.logs r) (numbers_at g.numbers r) → P r (log_at logs_now r) (numbers_at new r)
  each_role P own r old = ⊎_elim
      (λ same. subst (λ q. P q (log_at logs_now q) (numbers_at new q)) same
      (subst (λ (x : Numbers). P e.role (log_at logs_now e.role) x) (sym number_own)
      (subst (λ l. P e.role l (seeded (numbers_at g.numbers e.role) k)) (sym (log_own g.logs e in_logs e.role refl)) own)))
      (λ other. subst (λ (x : Numbers). P r (log_at logs_now r) x) (sym (now_other g.numbers e.role (seeded (numbers_at g.numbers e.role) k) in_numbers r other))
      (subst (λ l. P r l (numbers_at g.numbers r)) (sym (log_other g.logs e in_logs r other)) old))
      (cases_eq e.role r)

  -- an event of the new logs is an old one, or the new one
  old_or_new : (r n : ℕ) (f : Event) → slice_get (log_at logs_now r) n ≡ Some f → (slice_get (log_at g.logs r) n ≡ Some f) ⊎ ((e ≡ f) × (e.role ≡ r))
  old_or_new r n f at = ⊎_elim
      (λ same. ⊎_elim (λ old. inl old) (λ is. inr (is, same))
      (get_more (log_at g.logs r) e f n (subst (λ l. slice_get l n ≡ Some f) (log_own g.logs e in_logs r same) at)))
      (λ other. inl (subst (λ l. slice_get l n ≡ Some f) (log_other g.logs e in_logs r other) at))
      (cases_eq e.role r)

  memory_now : IsQueued (net_for g) (kept.holds.memory.held ++ e ∷ []) → IsMemory (with_logged g e k) (renumbered (kept.holds.memory.held ++ e ∷ []) kept.holds.memory e.role (seeded (numbers_at g.numbers e.role) k))
  memory_now queued = record {
    events = λ r. ⊎_elim
        (λ same. by_role_own r kept.holds.memory.held e same ∙ ap (λ l. l ++ e ∷ []) (kept.holds.is.events r) ∙ sym (log_own g.logs e in_logs r same))
        (λ other. by_role_other r kept.holds.memory.held e other ∙ kept.holds.is.events r ∙ sym (log_other g.logs e in_logs r other))
        (cases_eq e.role r);
    queued = queued;
    numbers_are = renumbered_are (roles_of g) (kept.holds.memory.held ++ e ∷ []) kept.holds.memory g.numbers kept.holds.is.numbers_are e.role (seeded (numbers_at g.numbers e.role) k) declared;
  }

  own_place : IsPlaceOf (net_for g) e.role e.point
  own_place = inr (fits.text.0, fits.text.1, of_ends (net_for g) e fits.ends)

  sound_now : IsSoundMemory (with_logged g e k)
  sound_now = record {
    points = λ r lt. each_role (λ q l x. IsPlaceOf (net_for g) q x.point) (kept.sound.points e.role declared) r (kept.sound.points r lt);
    events = λ r n f at. ⊎_elim
        (λ old. kept.sound.events r n f old)
        (λ is. subst (λ (x : Event). (r < roles_of g) × (1 ≤ x.point) × (x.point ≤ (net_for g).count) × IsPlaceOf (net_for g) r x.point) is.0
        (subst (λ q. q < roles_of g) is.1 declared, fits.text.0, fits.text.1, subst (λ q. IsPlaceOf (net_for g) q e.point) is.1 own_place))
        (old_or_new r n f at);
    seeds = λ r lt. each_role (λ q l x. x.seeds ≤ length l) (let a = fits.seeds in let b = length-append (log_at g.logs e.role) (e ∷ []) in omega (arith, a, b)) r (kept.sound.seeds r lt);
    seeds_are = λ a b. each_role (λ q l x. taken (net_for g) a q (take x.seeds l) ≡ []) (fits.seeds_are a) b (kept.sound.seeds_are a b);
    ends = λ r n f at. ⊎_elim
        (λ old. kept.sound.ends r n f old)
        (λ is. subst (IsByEnd (net_for g)) is.0 fits.ends)
        (old_or_new r n f at);
  }

  -- clocks stay
  clock_is : (r : ℕ) → (numbers_at new r).clock ≡ (numbers_at g.numbers r).clock
  clock_is r = now_same g.numbers e.role (seeded (numbers_at g.numbers e.role) k) in_numbers (λ (x : Numbers). x.clock) refl r

  -- what stands before the new event stood before
  stood_before : (r i j : ℕ) (d f : Event) → i < j → e.role ≡ r → slice_get (log_at logs_now r) i ≡ Some d → slice_get (log_at logs_now r) j ≡ Some f → slice_get (log_at g.logs r) i ≡ Some d
  stood_before r i j d f lt same at_i at_j =
      let within = get_below (log_at logs_now r) j f at_j in
      let size = ap length (log_own g.logs e in_logs r same) ∙ length-append (log_at g.logs r) (e ∷ []) in
      sym (get_left (log_at g.logs r) (e ∷ []) i (omega (arith, lt, within, size))) ∙ ap (λ l. slice_get l i) (sym (log_own g.logs e in_logs r same)) ∙ at_i

  stamped_now : AreStamped (with_logged g e k)
  stamped_now = record {
    grow = λ r i j d f lt at_i at_j. ⊎_elim
        (λ old_j. ⊎_elim
        (λ old_i. kept.stamped.grow r i j d f lt old_i old_j)
        (λ new_i. kept.stamped.grow r i j d f lt (stood_before r i j d f lt new_i.1 at_i at_j) old_j)
        (old_or_new r i d at_i))
        (λ new_j. subst (λ (x : Event). d.stamp < x.stamp) new_j.0
        (fits.log.later i d (subst (λ q. slice_get (log_at g.logs q) i ≡ Some d) (sym new_j.1) (stood_before r i j d f lt new_j.1 at_i at_j))))
        (old_or_new r j f at_j);
    within = λ r i d at. ⊎_elim
        (λ old. let a = kept.stamped.within r i d old in let b = clock_is r in omega (arith, a, b))
        (λ is.
        let a = ap (λ (x : Event). x.stamp) is.0 in
        let b = subst (λ q. e.stamp ≤ (numbers_at g.numbers q).clock) is.1 fits.log.within in
        let c = clock_is r in
        omega (arith, a, b, c))
        (old_or_new r i d at);
    after = λ r i d at got. ⊎_elim
        (λ old. kept.stamped.after r i d old got)
        (λ is. subst (λ (x : Event). x.sent < x.stamp) is.0 (fits.after (ap (λ (x : Event). x.dir) is.0 ∙ got)))
        (old_or_new r i d at);
    sent = λ r i d at put. ⊎_elim
        (λ old. kept.stamped.sent r i d old put)
        (λ is. subst (λ (x : Event). x.sent ≡ x.stamp) is.0 (fits.sent (ap (λ (x : Event). x.dir) is.0 ∙ put)))
        (old_or_new r i d at);
  }

  few_own : AreFewOf g.told (log_at g.logs e.role ++ e ∷ []) (seeded (numbers_at g.numbers e.role) k)
  few_own =
      let old = kept.few e.role declared in
      record {
        raw = old.raw;
        made = let a = fits.made in let b = length-append (log_at g.logs e.role) (e ∷ []) in omega (arith, a, b);
        attempts = old.attempts;
        clocks = old.clocks;
      }

  pub guide_logged : (now : LedgerView) → IsQueued (net_for g) (kept.holds.memory.held ++ e ∷ []) → HoldsKept (net_for g) (roles_of g) no_vars (kept.holds.memory.held ++ e ∷ []) now → IsGrown ledger now → IsGuide (with_logged g e k) table now
  guide_logged now queued holds grown = record {
    protocol = kept.protocol;
    planned = kept.planned;
    table_is = kept.table_is;
    logs = length-set g.logs e.role _ ∙ kept.logs;
    numbers = length-set g.numbers e.role _ ∙ kept.numbers;
    holds = record {
      memory = renumbered (kept.holds.memory.held ++ e ∷ []) kept.holds.memory e.role (seeded (numbers_at g.numbers e.role) k);
      is = memory_now queued;
      holds = holds;
    };
    sound = sound_now;
    stamped = stamped_now;
    told = kept.told;
    few = λ r lt. each_role (λ q l x. AreFewOf g.told l x) few_own r (kept.few r lt);
    rooms = record {
      few = kept.rooms.few;
      used = let a = kept.rooms.used in let b = grown.entries in omega (arith, a, b);
      filled = let a = fits.log.room in omega (arith, a);
      logged = let a = kept.rooms.logged in let b = all_more g.logs e in_logs in omega (arith, a, b);
      most = let a = kept.rooms.most in let b = grown.most in omega (arith, a, b);
      events = let a = kept.rooms.events in let b = grown.room in omega (arith, a, b);
      states = λ r lt. let a = kept.rooms.states r lt in let b = grown.rooms r in omega (arith, a, b);
    };
  }

  -- the ledger with it
  abbrev behind_it : checkpoints.State
  behind_it = behind_event e (replicate 16 (pos 0))

  pub is_sound : IsSound (net_for g) e.role e
  is_sound = record {
    role = refl;
    first = fits.text.0;
    last = fits.text.1;
    sender = low kept ((net_for g).sender e.point) (sender_in kept e.point fits.text);
    receiver = low kept ((net_for g).receiver e.point) (receiver_in kept e.point fits.text);
  }

  is_more : IsMore (net_for g) (roles_of g) no_vars kept.holds.memory.held e behind_it
  is_more = record {
    declared = declared;
    sound = is_sound;
    behind = behind_more (events_of e.role kept.holds.memory.held) e;
  }

  stacks_stay : (r : ℕ) → (stack_at (with_send ledger e 0 behind_it).stacks r).room ≡ (stack_at ledger.stacks r).room
  stacks_stay r = rooms_more ledger.stacks e.role r behind_it (let a = kept.holds.holds.stacks in let b = declared in omega (arith, a, b))

  guide_sent : e.dir ≡ Sent → IsGuide (with_logged g e k) table (with_send ledger e ((net_for g).receiver e.point) behind_it)
  guide_sent is = guide_logged (with_send ledger e ((net_for g).receiver e.point) behind_it)
      (send_queued (net_for g) kept.holds.memory.held e kept.holds.is.queued is)
      (sends_hold (net_for g) (roles_of g) no_vars kept.holds.memory.held e behind_it ledger kept.holds.holds is is_more)
      (record { entries = length-append ledger.entries (Send e ∷ []); most = refl; room = refl; rooms = stacks_stay })

  guide_got : e.dir ≡ Got → IsGuide (with_logged g e k) table (with_recv ledger e ((net_for g).sender e.point) behind_it)
  guide_got is =
      let front = fits.front is in
      guide_logged (with_recv ledger e ((net_for g).sender e.point) behind_it)
      (recv_queued (net_for g) kept.holds.memory.held e ((net_for g).sender e.point) front.0 kept.holds.is.queued refl
      (lies g kept.holds.memory kept.holds.is ((net_for g).sender e.point) e.role ∙ front.1))
      (recvs_hold (net_for g) (roles_of g) no_vars kept.holds.memory.held e behind_it ledger kept.holds.holds is is_more)
      (record { entries = length-append ledger.entries (Recv e ∷ []); most = refl; room = refl; rooms = stacks_stay })

  abbrev either : Bool → LedgerView
  either b = cond b (with_send ledger e ((net_for g).receiver e.point) behind_it) (with_recv ledger e ((net_for g).sender e.point) behind_it)

  by_dir : (d : Dir) → e.dir ≡ d → IsGuide (with_logged g e k) table (with_one (net_for g) ledger e (replicate 16 (pos 0)))
  by_dir Sent d = subst (λ b. IsGuide (with_logged g e k) table (either b)) (sym (ap is_sent d)) (guide_sent d)
  by_dir Got d = subst (λ b. IsGuide (with_logged g e k) table (either b)) (sym (ap is_sent d)) (guide_got d)

  pub logged_guide : (now : LedgerView) → now ≡ with_one (net_for g) ledger e (replicate 16 (pos 0)) → IsGuide (with_logged g e k) table now
  logged_guide now is = subst (λ (l : LedgerView). IsGuide (with_logged g e k) table l) (sym is) (by_dir e.dir refl)

  -- there is room for it
  pub room_for : (d : Dir) → e.dir ≡ d → HasRoomToAdd (net_for g) ledger e d
  room_for Sent is = send_fits kept fits.log.room e.role e.point declared fits.text (sym (fits.ends.sends (ap is_sent is)))
  room_for Got is = event_fits kept fits.log.room e.role declared

  -- and its message waits
  pub waits_for : e.dir ≡ Got → HasFront (channel_at ledger.channels ((net_for g).sender e.point) e.role)
  waits_for is =
      let from = (net_for g).sender e.point in
      let front = fits.front is in
      let sender = sender_in kept e.point fits.text in
      let here = (carried kept).each from e.role (low kept from sender) (low kept e.role declared) in
      let some = get_below (put (net_for g) from e.role (log_at g.logs from)) (length (taken (net_for g) from e.role (log_at g.logs e.role))) (message_got e) (front_at kept from e.role sender (message_got e) front.0 front.1) in
      subst (λ (c : ChannelView). c.taken < length c.put) (sym here)
      (subst (λ l. length (taken (net_for g) from e.role (log_at ledger.logs e.role)) < length (put (net_for g) from e.role l)) (sym (log_is kept from))
      (subst (λ l. length (taken (net_for g) from e.role l) < length (put (net_for g) from e.role (log_at g.logs from))) (sym (log_is kept e.role)) some))
