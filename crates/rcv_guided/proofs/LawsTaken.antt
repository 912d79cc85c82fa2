-- Each line of a snapshot fits when it comes.
use Rattle.std.proofs.Common.{◌≡◌, ℕ, zero, suc, ◌+◌, ◌-◌, ◌<◌, ◌≤◌, Bool, true, false, Some, List, [], ◌∷◌, ◌++◌, length, length-append, length-take-le, map, flat_map, replicate, take, drop, refl, sym, ◌∙◌, ap, subst, ⊎_elim, append-nil, append_assoc, eq-eqb, arith}
use Rattle.std.specs.Prelude.{◌==◌, ◌&&◌, not, slice_get, slice_set, All}
use Rattle.std.specs.List.{range_with_len, cons_option}
use Rattle.std.proofs.Math.Seq.{drop-append_seam, take-append_seam}
use Rattle.std.proofs.lemmas.Bool.{cases_lt}
use Rattle.std.proofs.lemmas.List.{take-append-drop, length-replicate}
use Rattle.std.proofs.lemmas.List.Concat.{flat_map-cons}
use Rattle.std.proofs.lemmas.List.Elements.{filter-append, filter_map-append, All-head, All-tail}
use Rattle.std.proofs.lemmas.Option.{get_or_from_slice_get}
use Rattle.rcv_tree.specs.declared.event.Event.{Event}
use Rattle.rcv_tree.specs.declared.event.Message.{Message}
use Rattle.rcv_tree.specs.declared.event.Dir.{Dir}
use Rattle.rcv_tree.specs.declared.event.Dir.TheVariants.{Sent, Got}
use Rattle.rcv_tree.specs.Events.{message_got}
use Rattle.rcv_model.specs.Net.{Net, IsPrefix}
use Rattle.rcv_model.specs.Run.{is_sent, acts, place_of, put_by, taken_by, put, taken}
use Rattle.rcv_model.specs.Next.{IsNext}
use Rattle.rcv_model.specs.Journal.{events_of}
use Rattle.rcv_model.proofs.Located.{get_below}
use Rattle.rcv_model.proofs.Queues.{From, from_of, get_here, put_by_true, taken_by_some}
use Rattle.rcv_ledger.specs.Logs.{log_at, with_event_of}
use Rattle.rcv_ledger.proofs.Lists.{get_left}
use Rattle.rcv_saves.specs.Counts.{with_count}
use Rattle.rcv_saves.specs.Saves.{told_of}
use Rattle.rcv_guide.specs.declared.numbers.Numbers.{Numbers}
use Rattle.rcv_guide.specs.Numbers.{at_start, numbers_at}
use Rattle.rcv_guide.specs.Guide.{net_for}
use Rattle.rcv_guide.specs.Remembered.{seeds_at, seeds_of, IsDeclaredIn, AreRemembered}
use Rattle.rcv_guide.specs.Restoring.{FitsLog, IsTurn}
use Rattle.rcv_guide.proofs.Renewing.{each_same}
use Rattle.rcv_dialogue.specs.declared.line.Again.{Again}
use Rattle.rcv_dialogue.specs.declared.line.Again.TheVariants as again
use Rattle.rcv_guided.specs.Session.{SessionView, roles_in, incarnation_of, begun}
use Rattle.rcv_guided.specs.Counts.{made_of}
use Rattle.rcv_guided.specs.Restoring.{role_again, flight_again, saves_again, snapshot_of, restored_by, MayRestore, AreTaken}
use Rattle.rcv_guided.specs.Laws.{IsSentBy, HasForm, IsRestorable, restored_whole, SnapshotsAreTaken}
use Rattle.rcv_guided.proofs.LawsLists.{set_all, item_listed, cut_at, get_behind, one_of, first_own, log_all, log_last, as_many_logs, all_logged, seeded, with_seed_of, seed_all, seed_last, all_seeded, counts_at, save_all}
use Rattle.rcv_guided.proofs.LawsRestored.{restored_all, standing_numbers, so_far, sent_same, all_seeds, seeds_own, first_is, many_first, count_is, numbers_are, logs_are, whole_is}

-- each of these lines may be told when it comes
abbrev MayAll : SessionView → List Again → Type 0
MayAll x [] = Unit {0}
MayAll x (told ∷ lines) = MayRestore x told × MayAll (restored_by x told) lines

are_taken : (x : SessionView) (lines : List Again) → MayAll x lines → AreTaken x lines (restored_all x lines)
are_taken x [] may = refl
are_taken x (told ∷ lines) may = (may.0, are_taken (restored_by x told) lines may.1)

-- ---- what is in front of a channel
module _ (net : Net) (a r : ℕ) (sender receiver before : List Event) (e : Event) (behind : List Event) (m : Message) (whole : before ++ e ∷ behind ≡ receiver) (takes : taken_by net a r e ≡ Some m) (queued : IsPrefix (taken net a r receiver) (put net a r sender)) where
  all_taken : taken net a r receiver ≡ taken net a r before ++ m ∷ taken net a r behind
  all_taken =
      ap (taken net a r) (sym whole)
      ∙ filter_map-append (taken_by net a r) before (e ∷ behind)
      ∙ ap (λ o. taken net a r before ++ cons_option o (taken net a r behind)) takes

  -- the sender put it there
  put_there : From (put_by net a r) sender (length (taken net a r before)) m
  put_there = from_of (put_by net a r) sender (length (taken net a r before)) m
      (ap (λ l. slice_get l (length (taken net a r before))) (sym queued.1 ∙ ap (λ l. l ++ queued.0) all_taken ∙ append_assoc (taken net a r before) (m ∷ taken net a r behind) queued.0)
      ∙ get_here (taken net a r before) (taken net a r behind ++ queued.0) m)

  put_stamp : put_there.item.stamp ≡ m.stamp
  put_stamp = ap (λ (x : Message). x.stamp) (put_by_true net a r put_there.item m put_there.gives).1

  put_at : slice_get sender (length put_there.front) ≡ Some put_there.item
  put_at = ap (λ l. slice_get l (length put_there.front)) (sym put_there.whole) ∙ get_here put_there.front put_there.back put_there.item

  -- and where it isn't among the last of these, it lies there
  in_front : (part more : List Event) → part ++ more ≡ sender → ((n : ℕ) (f : Event) → slice_get more n ≡ Some f → f.stamp ≡ m.stamp → ⊥) → (rest : List Message) × (drop (length (taken net a r before)) (put net a r part) ≡ m ∷ rest)
  in_front part more joined others =
      let low : length put_there.front < length part = ⊎_elim
      (λ lt. lt)
      (λ le.
      let place : length put_there.front ≡ length part + (length put_there.front - length part) = omega (arith, le) in
      absurd (others (length put_there.front - length part) put_there.item (sym (get_behind part more (length put_there.front - length part)) ∙ ap (λ l. slice_get l (length part + (length put_there.front - length part))) joined ∙ ap (slice_get sender) (sym place) ∙ put_at) put_stamp))
      (cases_lt (length put_there.front) (length part)) in
      let cut = cut_at part more put_there.front put_there.item put_there.back (joined ∙ sym put_there.whole) low in (
        put net a r cut.0,
        ap (λ n. drop n (put net a r part)) (sym put_there.number)
            ∙ ap (λ l. drop (length (put net a r put_there.front)) (put net a r l)) cut.1
            ∙ ap (drop (length (put net a r put_there.front))) (filter_map-append (put_by net a r) put_there.front (put_there.item ∷ cut.0) ∙ ap (λ o. put net a r put_there.front ++ cons_option o (put net a r cut.0)) put_there.gives)
            ∙ drop-append_seam (put net a r put_there.front) (m ∷ put net a r cut.0),
      )

-- ---- line by line
module _ (s : SessionView) (form : HasForm s) (can : IsRestorable s) (events : List Event) (are : AreRemembered s.guide events) where
  abbrev roles : ℕ
  roles = roles_in s

  abbrev seeds : List Event
  seeds = seeds_of s.guide

  abbrev no_logs : List (List Event)
  no_logs = replicate roles []

  abbrev no_saves : List (List ℕ)
  no_saves = replicate (length s.saves.steps) []

  abbrev numbers_first : List Numbers
  numbers_first = set_all (standing_numbers s) (replicate roles at_start) (range_with_len 0 roles)

  abbrev incarnations_first : List ℕ
  incarnations_first = set_all (incarnation_of s) (replicate roles 0) (range_with_len 0 roles)

  total : length seeds + length events ≤ s.guide.room
  total = let a = count_is s form events are in let b = can.filled in omega (arith, a, b)

  -- where roles stand
  roles_may : (n a : ℕ) → a + n ≡ roles → (rest : List Again) (numbers : List Numbers) (incarnations : List ℕ) → MayAll (so_far s (set_all (standing_numbers s) numbers (range_with_len a n)) no_logs 0 (set_all (incarnation_of s) incarnations (range_with_len a n)) no_saves) rest → MayAll (so_far s numbers no_logs 0 incarnations no_saves) (map (role_again s) (range_with_len a n) ++ rest)
  roles_may zero a whole rest numbers incarnations may = may
  roles_may (suc n) a whole rest numbers incarnations may =
      let low : a < roles = omega (arith, whole) in
      let few = can.few a low in (
        record {
          restoring = refl;
          stand = record {
            declared = low;
            nothing = each_same roles a [];
            place = can.sound.points a low;
            forgotten = let m = few.made in omega (arith, m);
            raw = few.raw;
            attempt = few.attempts;
            clock = few.clocks;
          };
          incarnation = can.incarnations a low;
          unsaved = each_same (length s.saves.steps) a [];
        },
        roles_may n (a + 1) (omega (arith, whole)) rest (slice_set numbers a (standing_numbers s a)) (slice_set incarnations a (incarnation_of s a)) may,
      )

  -- an event fits behind those of its role that come before it
  event_at : (r : ℕ) (before behind : List Event) (e : Event) → before ++ e ∷ behind ≡ log_at s.guide.logs r → slice_get (log_at s.guide.logs r) (length before) ≡ Some e
  event_at r before behind e whole = ap (λ l. slice_get l (length before)) (sym whole) ∙ get_here before behind e

  fits_log : (numbers : List Numbers) (logs : List (List Event)) (used : ℕ) (incarnations : List ℕ) (told : List (List ℕ)) (r : ℕ) (before behind : List Event) (e : Event) → r < roles → used < s.guide.room → log_at logs r ≡ before → before ++ e ∷ behind ≡ log_at s.guide.logs r → (numbers_at numbers r).clock ≡ (numbers_at s.guide.numbers r).clock → FitsLog (so_far s numbers logs used incarnations told).guide r e.stamp
  fits_log numbers logs used incarnations told r before behind e lt free is whole clock = record {
    declared = lt;
    room = free;
    later = λ n f there.
        let here : slice_get before n ≡ Some f = ap (λ l. slice_get l n) (sym is) ∙ there in
        let low = get_below before n f here in
        can.stamped.grow r n (length before) f e low (ap (λ l. slice_get l n) (sym whole) ∙ get_left before (e ∷ behind) n low ∙ here) (event_at r before behind e whole);
    within = let a = can.stamped.within r (length before) e (event_at r before behind e whole) in omega (arith, a, clock);
  }

  -- the events of a role around one of them
  around : (r : ℕ) (done es : List Event) (e : Event) → e.role ≡ r → events_of r (done ++ e ∷ es) ≡ events_of r done ++ e ∷ events_of r es
  around r done es e own = filter-append (λ (f : Event). f.role == r) done (e ∷ es) ∙ ap (λ l. events_of r done ++ l) (first_own r e es own)

  -- ---- the messages of what is forgotten
  abbrev flying : List Event → SessionView
  flying done = so_far s (seed_all numbers_first done) (log_all no_logs done) (0 + length done) incarnations_first no_saves

  module _ (done es : List Event) (e : Event) (whole : done ++ e ∷ es ≡ seeds) (lt : e.role < roles) (is : IsSentBy e.role e) where
    log_then : log_at (log_all no_logs done) e.role ≡ events_of e.role done
    log_then = all_logged done no_logs e.role (let l = length-replicate {A = List Event} roles [] in omega (arith, lt, l)) ∙ ap (λ l. l ++ events_of e.role done) (each_same roles e.role [])

    number_then : numbers_at (seed_all numbers_first done) e.role ≡ seeded (standing_numbers s e.role) (0 + length (events_of e.role done))
    number_then =
        all_seeded done numbers_first e.role (let l = many_first s form events are in omega (arith, lt, l))
        ∙ ap (λ (x : Numbers). seeded x (x.seeds + length (events_of e.role done))) (ap (λ (l : List Numbers). numbers_at l e.role) (first_is s form events are) ∙ item_listed (standing_numbers s) roles e.role at_start lt)

    in_log : events_of e.role done ++ e ∷ (events_of e.role es ++ drop (numbers_at s.guide.numbers e.role).seeds (log_at s.guide.logs e.role)) ≡ log_at s.guide.logs e.role
    in_log =
        sym (append_assoc (events_of e.role done) (e ∷ events_of e.role es) (drop (numbers_at s.guide.numbers e.role).seeds (log_at s.guide.logs e.role)))
        ∙ ap (λ l. l ++ drop (numbers_at s.guide.numbers e.role).seeds (log_at s.guide.logs e.role)) (sym (around e.role done es e refl) ∙ ap (events_of e.role) whole ∙ seeds_own s form events are e.role lt)
        ∙ take-append-drop (numbers_at s.guide.numbers e.role).seeds (log_at s.guide.logs e.role)

    may_fly : MayRestore (flying done) (flight_again s e)
    may_fly =
        let there = event_at e.role (events_of e.role done) (events_of e.role es ++ drop (numbers_at s.guide.numbers e.role).seeds (log_at s.guide.logs e.role)) e in_log in
        let text = can.sound.events e.role (length (events_of e.role done)) e there in
        let ends = can.sound.ends e.role (length (events_of e.role done)) e there in
        let all = total in
        let long = ap (λ (l : List Event). length l) whole in
        let sum = length-append done (e ∷ es) in
        record {
          restoring = refl;
          lie = record {
            log = fits_log (seed_all numbers_first done) (log_all no_logs done) (0 + length done) incarnations_first no_saves e.role (events_of e.role done) (events_of e.role es ++ drop (numbers_at s.guide.numbers e.role).seeds (log_at s.guide.logs e.role)) e lt (omega (arith, all, long, sum)) log_then in_log (ap (λ (x : Numbers). x.clock) number_then);
            only = let a = ap (λ (l : List Event). length l) log_then in let b = ap (λ (x : Numbers). x.seeds) number_then in omega (arith, a, b);
            text = (text.1, text.2);
            sender = sym (ends.sends (ap is_sent is.dir));
          };
          receiver = refl;
        }

    flown : restored_by (flying done) (flight_again s e) ≡ flying (done ++ e ∷ [])
    flown =
        let one : 0 + length done + 1 ≡ 0 + length (done ++ e ∷ []) = (let l = length-append done (e ∷ []) in omega (arith, l)) in
        ap (λ (f : Event). so_far s (with_seed_of (seed_all numbers_first done) e.role) (with_event_of (log_all no_logs done) e.role f) (0 + length done + 1) incarnations_first no_saves) (sent_same e.role e is)
        ∙ ap (λ (n : List Numbers). so_far s n (with_event_of (log_all no_logs done) e.role e) (0 + length done + 1) incarnations_first no_saves) (sym (seed_last done numbers_first e))
        ∙ ap (λ (l : List (List Event)). so_far s (seed_all numbers_first (done ++ e ∷ [])) l (0 + length done + 1) incarnations_first no_saves) (sym (log_last done no_logs e))
        ∙ ap (λ k. so_far s (seed_all numbers_first (done ++ e ∷ [])) (log_all no_logs (done ++ e ∷ [])) k incarnations_first no_saves) one

  abbrev IsSeed : Event → Type 0
  IsSeed e = (e.role < roles) × IsSentBy e.role e

  flights_may : (es done : List Event) → done ++ es ≡ seeds → All IsSeed es → (rest : List Again) → MayAll (flying seeds) rest → MayAll (flying done) (map (flight_again s) es ++ rest)
  flights_may [] done whole all rest may = subst (λ l. MayAll (flying l) rest) (sym (sym (append-nil done) ∙ whole)) may
  flights_may (e ∷ es) done whole all rest may =
      let own = All-head IsSeed e es all in (
        may_fly done es e whole own.0 own.1,
        subst (λ (x : SessionView). MayAll x (map (flight_again s) es ++ rest)) (sym (flown done es e whole own.0 own.1))
            (flights_may es (done ++ e ∷ []) (append_assoc done (e ∷ []) es ∙ whole) (All-tail IsSeed e es all) rest may),
      )

  -- ---- the events
  abbrev logs_first : List (List Event)
  logs_first = log_all no_logs seeds

  abbrev coming : List Event → SessionView
  coming done = so_far s s.guide.numbers (log_all logs_first done) (0 + length seeds + length done) incarnations_first no_saves

  abbrev so_much : List Event → ℕ → List Event
  so_much done r = seeds_at s.guide r ++ events_of r done

  log_now : (done : List Event) (r : ℕ) → r < roles → log_at (log_all logs_first done) r ≡ so_much done r
  log_now done r lt =
      all_logged done logs_first r (let l = as_many_logs seeds no_logs in let k = length-replicate {A = List Event} roles [] in omega (arith, lt, l, k))
      ∙ ap (λ l. l ++ events_of r done) (all_logged seeds no_logs r (let k = length-replicate {A = List Event} roles [] in omega (arith, lt, k)) ∙ ap (λ l. l ++ events_of r seeds) (each_same roles r []) ∙ seeds_own s form events are r lt)

  -- what has come of a role, and what comes yet, is its log
  whole_log : (done es : List Event) (r : ℕ) → done ++ es ≡ events → so_much done r ++ events_of r es ≡ log_at s.guide.logs r
  whole_log done es r whole =
      append_assoc (seeds_at s.guide r) (events_of r done) (events_of r es)
      ∙ ap (λ l. seeds_at s.guide r ++ l) (sym (filter-append (λ (f : Event). f.role == r) done es) ∙ ap (events_of r) whole ∙ are.each r)
      ∙ take-append-drop (numbers_at s.guide.numbers r).seeds (log_at s.guide.logs r)

  module _ (done es : List Event) (e : Event) (whole : done ++ e ∷ es ≡ events) (lt : e.role < roles) where
    before_it : so_much done e.role ++ e ∷ events_of e.role es ≡ log_at s.guide.logs e.role
    before_it = ap (λ l. so_much done e.role ++ l) (sym (first_own e.role e es refl)) ∙ whole_log done (e ∷ es) e.role whole

    there : slice_get (log_at s.guide.logs e.role) (length (so_much done e.role)) ≡ Some e
    there = event_at e.role (so_much done e.role) (events_of e.role es) e before_it

    behind_seeds : (numbers_at s.guide.numbers e.role).seeds ≤ length (so_much done e.role)
    behind_seeds =
        let a = length-append (seeds_at s.guide e.role) (events_of e.role done) in
        let b = length-take-le (numbers_at s.guide.numbers e.role).seeds (log_at s.guide.logs e.role) (form.seeds e.role lt) in
        omega (arith, a, b)

    next_is : IsNext (net_for s.guide) e.role (place_of (numbers_at s.guide.numbers e.role).point (drop (numbers_at s.guide.numbers e.role).seeds (acts e.role (log_at (log_all logs_first done) e.role)))) e.point
    next_is = subst (λ l. IsNext (net_for s.guide) e.role (place_of (numbers_at s.guide.numbers e.role).point (drop (numbers_at s.guide.numbers e.role).seeds (acts e.role l))) e.point)
        (ap (take (length (so_much done e.role))) (sym before_it) ∙ take-append_seam (so_much done e.role) (e ∷ events_of e.role es) ∙ sym (log_now done e.role lt))
        (can.turns e.role (length (so_much done e.role)) e lt behind_seeds there)

    -- what comes yet has no lower stamp
    none_earlier : (n : ℕ) (f : Event) → slice_get (e ∷ es) n ≡ Some f → e.stamp ≤ f.stamp
    none_earlier n f at_n =
        let place : slice_get events (length done + n) ≡ Some f = ap (λ l. slice_get l (length done + n)) (sym whole) ∙ get_behind done (e ∷ es) n ∙ at_n in
        let first : slice_get events (length done) ≡ Some e = ap (λ l. slice_get l (length done)) (sym whole) ∙ get_here done es e in
        let low = get_below events (length done + n) f place in
        let sorted = are.sorted (length done) (length done + n) e (omega arith) low in
        let a = ap (λ (x : Event). x.stamp) (get_or_from_slice_get events (length done) e e first) in
        let b = ap (λ (x : Event). x.stamp) (get_or_from_slice_get events (length done + n) f e place) in
        omega (arith, sorted, a, b)

    module _ (got : e.dir ≡ Got) where
      abbrev from : ℕ
      from = (net_for s.guide).sender e.point

      takes : taken_by (net_for s.guide) from e.role e ≡ Some (message_got e)
      takes = taken_by_some (net_for s.guide) from e.role e (both (is_sent e.dir) (e.role == e.role) (from == from) (ap is_sent got) (eq-eqb e.role e.role refl) (eq-eqb from from refl))
        where
          both : (a b c : Bool) → a ≡ false → b ≡ true → c ≡ true → (not a && (b && c)) ≡ true
          both true b c f g h = absurd (cc)
          both false false c f g h = absurd (cc)
          both false true false f g h = absurd (cc)
          both false true true f g h = refl

      declared : from < roles
      declared = (can.sound.events from _ _ (put_at (net_for s.guide) from e.role (log_at s.guide.logs from) (log_at s.guide.logs e.role) (so_much done e.role) e (events_of e.role es) (message_got e) before_it takes (can.queued from e.role))).0

      lies : (rest : List Message) × (drop (length (taken (net_for s.guide) from e.role (log_at (log_all logs_first done) e.role))) (put (net_for s.guide) from e.role (log_at (log_all logs_first done) from)) ≡ message_got e ∷ rest)
      lies =
          let front = in_front (net_for s.guide) from e.role (log_at s.guide.logs from) (log_at s.guide.logs e.role) (so_much done e.role) e (events_of e.role es) (message_got e) before_it takes (can.queued from e.role)
          (so_much done from) (events_of from (e ∷ es)) (whole_log done (e ∷ es) from whole)
          (λ n f at_n same.
          let one = one_of from (e ∷ es) n f at_n in
          let high = none_earlier one.0 f one.1 in
          let low = can.stamped.after e.role (length (so_much done e.role)) e there got in
          omega (arith, same, high, low)) in (
            front.0,
            ap (λ l. drop (length (taken (net_for s.guide) from e.role l)) (put (net_for s.guide) from e.role (log_at (log_all logs_first done) from))) (log_now done e.role lt)
                ∙ ap (λ l. drop (length (taken (net_for s.guide) from e.role (so_much done e.role))) (put (net_for s.guide) from e.role l)) (log_now done from declared)
                ∙ front.1,
          )

    turn_is : (d : Dir) → e.dir ≡ d → IsTurn (coming done).guide e d
    turn_is Sent is = (
      record { next = next_is; end_is = sym ((can.sound.ends e.role (length (so_much done e.role)) e there).sends (ap is_sent is)) },
      can.stamped.sent e.role (length (so_much done e.role)) e there is,
    )
    turn_is Got is = (
      record { next = next_is; end_is = sym ((can.sound.ends e.role (length (so_much done e.role)) e there).recvs (ap is_sent is)) },
      lies is,
      can.stamped.after e.role (length (so_much done e.role)) e there is,
    )

    may_come : MayRestore (coming done) (again.Event e)
    may_come =
        let all = total in
        let long = ap (λ (l : List Event). length l) whole in
        let sum = length-append done (e ∷ es) in
        record {
          restoring = refl;
          again = record {
            log = fits_log s.guide.numbers (log_all logs_first done) (0 + length seeds + length done) incarnations_first no_saves e.role (so_much done e.role) (events_of e.role es) e lt (omega (arith, all, long, sum)) (log_now done e.role lt) before_it refl;
            made =
                let a = ap (λ (l : List Event). length l) (log_now done e.role lt) in
                let b = ap (λ (l : List Event). length l) before_it in
                let c = length-append (so_much done e.role) (e ∷ events_of e.role es) in
                let d = (can.few e.role lt).made in
                let k = behind_seeds in
                omega (arith, a, b, c, d, k);
            turn = turn_is e.dir refl;
          };
        }

    came : restored_by (coming done) (again.Event e) ≡ coming (done ++ e ∷ [])
    came =
        let one : 0 + length seeds + length done + 1 ≡ 0 + length seeds + length (done ++ e ∷ []) = (let l = length-append done (e ∷ []) in omega (arith, l)) in
        ap (λ (l : List (List Event)). so_far s s.guide.numbers l (0 + length seeds + length done + 1) incarnations_first no_saves) (sym (log_last done logs_first e))
        ∙ ap (λ k. so_far s s.guide.numbers (log_all logs_first (done ++ e ∷ [])) k incarnations_first no_saves) one

  events_may : (es done : List Event) → done ++ es ≡ events → All (IsDeclaredIn s.guide) es → (rest : List Again) → MayAll (coming events) rest → MayAll (coming done) (map (λ e. again.Event e) es ++ rest)
  events_may [] done whole all rest may = subst (λ l. MayAll (coming l) rest) (sym (sym (append-nil done) ∙ whole)) may
  events_may (e ∷ es) done whole all rest may =
      let lt = (All-head (IsDeclaredIn s.guide) e es all).role in (
        may_come done es e whole lt,
        subst (λ (x : SessionView). MayAll x (map (λ e. again.Event e) es ++ rest)) (sym (came done es e whole lt))
            (events_may es (done ++ e ∷ []) (append_assoc done (e ∷ []) es ∙ whole) (All-tail (IsDeclaredIn s.guide) e es all) rest may),
      )

  -- ---- the saves
  saves_may : (r : ℕ) (cs : List ℕ) → All (λ count. count ≤ made_of s r) cs → (used : ℕ) (incarnations : List ℕ) (told : List (List ℕ)) (rest : List Again) → MayAll (so_far s s.guide.numbers s.guide.logs used incarnations (save_all told r cs)) rest → MayAll (so_far s s.guide.numbers s.guide.logs used incarnations told) (map (λ count. again.Save r count) cs ++ rest)
  saves_may r [] all used incarnations told rest may = may
  saves_may r (c ∷ cs) all used incarnations told rest may = (
    record { restoring = refl; made = All-head (λ count. count ≤ made_of s r) c cs all },
    saves_may r cs (All-tail (λ count. count ≤ made_of s r) c cs all) used incarnations (slice_set told r (with_count c (counts_at told r))) rest may,
  )

  all_saves_may : (n a : ℕ) → a + n ≡ roles → (used : ℕ) (incarnations : List ℕ) (told : List (List ℕ)) → MayAll (so_far s s.guide.numbers s.guide.logs used incarnations told) (flat_map (saves_again s) (range_with_len a n))
  all_saves_may zero a whole used incarnations told = tt
  all_saves_may (suc n) a whole used incarnations told =
      subst (MayAll (so_far s s.guide.numbers s.guide.logs used incarnations told)) (sym (flat_map-cons (saves_again s) a (range_with_len (a + 1) n)))
      (saves_may a (told_of s.saves a) (can.saved a (omega (arith, whole))) used incarnations told (flat_map (saves_again s) (range_with_len (a + 1) n))
      (all_saves_may n (a + 1) (omega (arith, whole)) used incarnations (save_all told a (told_of s.saves a))))

  -- ---- all of them
  abbrev last_lines : List Again
  last_lines = flat_map (saves_again s) (range_with_len 0 roles)

  abbrev event_lines : List Again
  event_lines = map (λ e. again.Event e) events

  events_then : MayAll (coming []) (event_lines ++ last_lines)
  events_then = events_may events [] refl are.declared last_lines
      (subst (λ (l : List (List Event)). MayAll (so_far s s.guide.numbers l (0 + length seeds + length events) incarnations_first no_saves) last_lines) (sym (logs_are s form events are))
      (all_saves_may roles 0 (omega arith) (0 + length seeds + length events) incarnations_first no_saves))

  flights_then : MayAll (flying []) (map (flight_again s) seeds ++ (event_lines ++ last_lines))
  flights_then =
      let none : 0 + length seeds + 0 ≡ 0 + length seeds = omega arith in
      flights_may seeds [] refl (all_seeds IsSeed s roles 0 (omega arith) (λ r k e lt at_k. let is = form.seeds_are r k e lt at_k in let own = is.role in (omega (arith, lt, own), record { role = refl; dir = is.dir; sent = is.sent })))
      (event_lines ++ last_lines)
      (subst (λ (n : List Numbers). MayAll (so_far s n logs_first (0 + length seeds) incarnations_first no_saves) (event_lines ++ last_lines)) (sym (numbers_are s form events are))
      (subst (λ k. MayAll (so_far s s.guide.numbers logs_first k incarnations_first no_saves) (event_lines ++ last_lines)) none events_then))

  pub all_may : (room : ℕ) → MayAll (begun s.guide.protocol s.guide.plan room s.saves.steps) (snapshot_of s events)
  all_may room = (
    record { nothing = refl; unsaved = λ r lt. each_same (length s.saves.steps) r []; told_is = can.told; least = can.least; most = can.most },
    subst (MayAll (so_far s (replicate roles at_start) no_logs 0 (replicate roles 0) no_saves))
        (sym (append_assoc (map (role_again s) (range_with_len 0 roles) ++ map (flight_again s) seeds) event_lines last_lines
        ∙ append_assoc (map (role_again s) (range_with_len 0 roles)) (map (flight_again s) seeds) (event_lines ++ last_lines)))
        (roles_may roles 0 (omega arith) (map (flight_again s) seeds ++ (event_lines ++ last_lines)) (replicate roles at_start) (replicate roles 0) flights_then),
  )

pub snapshots_are_taken : SnapshotsAreTaken
snapshots_are_taken s lines room form can are =
    subst (λ l. AreTaken (begun s.guide.protocol s.guide.plan room s.saves.steps) l (restored_whole s)) (sym are.lines_are)
    (subst (AreTaken (begun s.guide.protocol s.guide.plan room s.saves.steps) (snapshot_of s are.events)) (whole_is s form are.events are.remembered room)
    (are_taken (begun s.guide.protocol s.guide.plan room s.saves.steps) (snapshot_of s are.events) (all_may s form can are.events are.remembered room)))
