-- What a snapshot restores is the session: its lines are gone over part by part.
use Rattle.std.proofs.Common.{◌≡◌, ℕ, zero, suc, ◌+◌, ◌<◌, ◌≤◌, Some, List, [], ◌∷◌, ◌++◌, length, length-set, length-take-le, map, flat_map, replicate, refl, sym, ◌∙◌, ap, subst, ⊎_elim, append-nil, append_assoc, arith}
use Rattle.std.specs.Prelude.{◌==◌, slice_get, slice_set, All}
use Rattle.std.specs.List.{range_with_len}
use Rattle.std.proofs.lemmas.Bool.{cases_eq}
use Rattle.std.proofs.lemmas.List.{get_or-set_other, length-replicate, take-append-drop}
use Rattle.std.proofs.lemmas.List.Concat.{flat_map-cons}
use Rattle.std.proofs.lemmas.List.Elements.{filter-append, All-nil, All-cons, All-head, All-tail}
use Rattle.std.proofs.lemmas.Option.{slice_get-get_or}
use Rattle.rcv_tree.specs.declared.event.Event.{Event}
use Rattle.rcv_tree.specs.declared.event.Dir.{Dir}
use Rattle.rcv_tree.specs.declared.event.Dir.TheVariants.{Sent}
use Rattle.rcv_model.specs.Journal.{events_of}
use Rattle.rcv_ledger.specs.Logs.{log_at, with_event_of}
use Rattle.rcv_saves.specs.Counts.{with_count}
use Rattle.rcv_saves.specs.Saves.{told_of}
use Rattle.rcv_guide.specs.declared.numbers.Numbers.{Numbers}
use Rattle.rcv_guide.specs.Numbers.{at_start, numbers_at}
use Rattle.rcv_guide.specs.Failing.{all_events}
use Rattle.rcv_guide.specs.Remembered.{seeds_at, seeds_of, IsDeclaredIn, AreRemembered}
use Rattle.rcv_guide.specs.Restoring.{numbers_of, standing_of}
use Rattle.rcv_guide.proofs.Starting.{view_with}
use Rattle.rcv_guide.proofs.Renewing.{each_same}
use Rattle.rcv_dialogue.specs.declared.line.Again.{Again}
use Rattle.rcv_dialogue.specs.declared.line.Again.TheVariants as again
use Rattle.rcv_guided.specs.Session.{SessionView, roles_in, incarnation_of, begun}
use Rattle.rcv_guided.specs.Restoring.{role_again, flight_again, saves_again, snapshot_of, restored_by, AreTaken}
use Rattle.rcv_guided.specs.Laws.{IsSentBy, HasForm, restored_whole, SnapshotsRestore}
use Rattle.rcv_guided.proofs.LawsLists.{lists_same, set_all, set_each, listed, item_listed, many_listed, all_own, none_own, log_all, as_many_logs, all_logged, all_counted, none_logged, seeded, with_seed_of, seed_all, as_many_numbers, all_seeded, counts_at, save_all, saved_is}

-- the session that these lines restore
abbrev pub restored_all : SessionView → List Again → SessionView
restored_all x [] = x
restored_all x (told ∷ lines) = restored_all (restored_by x told) lines

pub taken_is : (x : SessionView) (lines : List Again) (last : SessionView) → AreTaken x lines last → last ≡ restored_all x lines
taken_is x [] last taken = taken
taken_is x (told ∷ lines) last taken = taken_is (restored_by x told) lines last taken.1

-- where a role stands, without seeds
abbrev pub standing_numbers : SessionView → ℕ → Numbers
standing_numbers s r = numbers_of (standing_of s.guide r)

-- a session on the way, of which so much is restored
abbrev pub so_far : SessionView → List Numbers → List (List Event) → ℕ → List ℕ → List (List ℕ) → SessionView
so_far s numbers logs used incarnations told =
    record {
      guide = view_with s.guide.protocol s.guide.plan logs numbers s.guide.room used s.guide.told;
      saves = record { steps = s.saves.steps; told = told };
      incarnations = incarnations;
      restored = Some s.guide.told;
    }

-- a Send whose message has its stamp is the one of its message
abbrev pub event_with : Event → Dir → ℕ → Event
event_with e dir sent = record { role = e.role; dir = dir; point = e.point; value = e.value; stamp = e.stamp; sent = sent }

pub sent_same : (r : ℕ) (e : Event) → IsSentBy r e → event_with e Sent e.stamp ≡ e
sent_same r e is = ap (λ (d : Dir). event_with e d e.stamp) (sym is.dir) ∙ ap (λ n. event_with e e.dir n) (sym is.sent)

-- each of these is such a Send
abbrev AreSent : List Event → Type 0
AreSent es = All (λ (e : Event). event_with e Sent e.stamp ≡ e) es

-- ---- the parts
module _ (s : SessionView) where
  roles_part : (rs : List ℕ) (rest : List Again) (numbers : List Numbers) (logs : List (List Event)) (used : ℕ) (incarnations : List ℕ) (told : List (List ℕ)) → restored_all (so_far s numbers logs used incarnations told) (map (role_again s) rs ++ rest) ≡ restored_all (so_far s (set_all (standing_numbers s) numbers rs) logs used (set_all (incarnation_of s) incarnations rs) told) rest
  roles_part [] rest numbers logs used incarnations told = refl
  roles_part (r ∷ rs) rest numbers logs used incarnations told = roles_part rs rest (slice_set numbers r (standing_numbers s r)) logs used (slice_set incarnations r (incarnation_of s r)) told

  flights_part : (es : List Event) → AreSent es → (rest : List Again) (numbers : List Numbers) (logs : List (List Event)) (used : ℕ) (incarnations : List ℕ) (told : List (List ℕ)) → restored_all (so_far s numbers logs used incarnations told) (map (flight_again s) es ++ rest) ≡ restored_all (so_far s (seed_all numbers es) (log_all logs es) (used + length es) incarnations told) rest
  flights_part [] sent rest numbers logs used incarnations told =
      let same : used ≡ used + 0 = omega arith in
      ap (λ n. restored_all (so_far s numbers logs n incarnations told) rest) same
  flights_part (e ∷ es) sent rest numbers logs used incarnations told =
      let more : used + 1 + length es ≡ used + length (e ∷ es) = omega arith in
      ap (λ (f : Event). restored_all (so_far s (with_seed_of numbers e.role) (with_event_of logs e.role f) (used + 1) incarnations told) (map (flight_again s) es ++ rest)) (All-head (λ (f : Event). event_with f Sent f.stamp ≡ f) e es sent)
      ∙ flights_part es (All-tail (λ (f : Event). event_with f Sent f.stamp ≡ f) e es sent) rest (with_seed_of numbers e.role) (with_event_of logs e.role e) (used + 1) incarnations told
      ∙ ap (λ n. restored_all (so_far s (seed_all numbers (e ∷ es)) (log_all logs (e ∷ es)) n incarnations told) rest) more

  events_part : (es : List Event) (rest : List Again) (numbers : List Numbers) (logs : List (List Event)) (used : ℕ) (incarnations : List ℕ) (told : List (List ℕ)) → restored_all (so_far s numbers logs used incarnations told) (map (λ e. again.Event e) es ++ rest) ≡ restored_all (so_far s numbers (log_all logs es) (used + length es) incarnations told) rest
  events_part [] rest numbers logs used incarnations told =
      let same : used ≡ used + 0 = omega arith in
      ap (λ n. restored_all (so_far s numbers logs n incarnations told) rest) same
  events_part (e ∷ es) rest numbers logs used incarnations told =
      let more : used + 1 + length es ≡ used + length (e ∷ es) = omega arith in
      events_part es rest numbers (with_event_of logs e.role e) (used + 1) incarnations told
      ∙ ap (λ n. restored_all (so_far s numbers (log_all logs (e ∷ es)) n incarnations told) rest) more

  saves_part : (r : ℕ) (cs : List ℕ) (rest : List Again) (numbers : List Numbers) (logs : List (List Event)) (used : ℕ) (incarnations : List ℕ) (told : List (List ℕ)) → restored_all (so_far s numbers logs used incarnations told) (map (λ count. again.Save r count) cs ++ rest) ≡ restored_all (so_far s numbers logs used incarnations (save_all told r cs)) rest
  saves_part r [] rest numbers logs used incarnations told = refl
  saves_part r (c ∷ cs) rest numbers logs used incarnations told = saves_part r cs rest numbers logs used incarnations (slice_set told r (with_count c (counts_at told r)))

  all_saves : HasForm s → (n a : ℕ) → a + n ≡ roles_in s → (numbers : List Numbers) (logs : List (List Event)) (used : ℕ) (incarnations : List ℕ) (told : List (List ℕ)) → length told ≡ roles_in s → ((q : ℕ) → a ≤ q → counts_at told q ≡ []) → restored_all (so_far s numbers logs used incarnations told) (flat_map (saves_again s) (range_with_len a n)) ≡ so_far s numbers logs used incarnations (set_all (told_of s.saves) told (range_with_len a n))
  all_saves form zero a whole numbers logs used incarnations told size none = refl
  all_saves form (suc n) a whole numbers logs used incarnations told size none =
      let here : a < length told = omega (arith, whole, size) in
      let low : a < roles_in s = omega (arith, whole) in
      let now : save_all told a (told_of s.saves a) ≡ slice_set told a (told_of s.saves a) = saved_is (told_of s.saves a) told a here (none a (omega arith)) (form.ascending a low) in
      ap (restored_all (so_far s numbers logs used incarnations told)) (flat_map-cons (saves_again s) a (range_with_len (a + 1) n))
      ∙ saves_part a (told_of s.saves a) (flat_map (saves_again s) (range_with_len (a + 1) n)) numbers logs used incarnations told
      ∙ ap (λ l. restored_all (so_far s numbers logs used incarnations l) (flat_map (saves_again s) (range_with_len (a + 1) n))) now
      ∙ all_saves form n (a + 1) (omega (arith, whole)) numbers logs used incarnations (slice_set told a (told_of s.saves a))
      (let l = length-set told a (told_of s.saves a) in omega (arith, size, l))
      (λ q le. get_or-set_other told a q (told_of s.saves a) [] (λ x. absurd (omega (arith, le, x))) ∙ none q (omega (arith, le)))

-- ---- what the parts come to
-- the seeds of a role among those of all
seeds_from : (s : SessionView) → HasForm s → (r : ℕ) → r < roles_in s → (n a : ℕ) → a ≤ r → r < a + n → a + n ≡ roles_in s → events_of r (flat_map (seeds_at s.guide) (range_with_len a n)) ≡ seeds_at s.guide r
seeds_from s form r declared zero a le lt whole = absurd (omega (arith, le, lt))
seeds_from s form r declared (suc n) a le lt whole =
    ap (events_of r) (flat_map-cons (seeds_at s.guide) a (range_with_len (a + 1) n))
    ∙ filter-append (λ (e : Event). e.role == r) (seeds_at s.guide a) (flat_map (seeds_at s.guide) (range_with_len (a + 1) n))
    ∙ ⊎_elim
    (λ same.
    ap (λ l. l ++ events_of r (flat_map (seeds_at s.guide) (range_with_len (a + 1) n))) (subst (λ q. events_of r (seeds_at s.guide q) ≡ seeds_at s.guide r) (sym same) (all_own r (seeds_at s.guide r) (λ k e at_k. (form.seeds_are r k e declared at_k).role)))
    ∙ ap (λ l. seeds_at s.guide r ++ l) (none_behind s form r n (a + 1) (omega (arith, same)) (omega (arith, whole)))
    ∙ append-nil (seeds_at s.guide r))
    (λ other.
    ap (λ l. l ++ events_of r (flat_map (seeds_at s.guide) (range_with_len (a + 1) n))) (none_own r (seeds_at s.guide a) (λ k e at_k own. other (sym (form.seeds_are a k e (omega (arith, whole)) at_k).role ∙ own)))
    ∙ seeds_from s form r declared n (a + 1) (omega (arith, le, other)) (omega (arith, lt)) (omega (arith, whole)))
    (cases_eq a r)
  where
    none_behind : (s : SessionView) → HasForm s → (r n a : ℕ) → r < a → a + n ≡ roles_in s → events_of r (flat_map (seeds_at s.guide) (range_with_len a n)) ≡ []
    none_behind s form r zero a lt whole = refl
    none_behind s form r (suc n) a lt whole =
        ap (events_of r) (flat_map-cons (seeds_at s.guide) a (range_with_len (a + 1) n))
        ∙ filter-append (λ (e : Event). e.role == r) (seeds_at s.guide a) (flat_map (seeds_at s.guide) (range_with_len (a + 1) n))
        ∙ ap (λ l. l ++ events_of r (flat_map (seeds_at s.guide) (range_with_len (a + 1) n))) (none_own r (seeds_at s.guide a) (λ k e at_k own. let is = (form.seeds_are a k e (omega (arith, whole)) at_k).role in absurd (omega (arith, lt, is, own))))
        ∙ none_behind s form r n (a + 1) (omega (arith, lt)) (omega (arith, whole))

-- all seeds hold what each role's hold
pub all_seeds : (P : Event → Type 0) (s : SessionView) (n a : ℕ) → a + n ≡ roles_in s → ((r k : ℕ) (e : Event) → r < roles_in s → slice_get (seeds_at s.guide r) k ≡ Some e → P e) → All P (flat_map (seeds_at s.guide) (range_with_len a n))
all_seeds P s zero a whole each = All-nil P
all_seeds P s (suc n) a whole each =
    subst (All P) (sym (flat_map-cons (seeds_at s.guide) a (range_with_len (a + 1) n)))
    (joined (seeds_at s.guide a) (flat_map (seeds_at s.guide) (range_with_len (a + 1) n)) (λ k e at_k. each a k e (omega (arith, whole)) at_k) (all_seeds P s n (a + 1) (omega (arith, whole)) each))
  where
    joined : (xs ys : List Event) → ((k : ℕ) (e : Event) → slice_get xs k ≡ Some e → P e) → All P ys → All P (xs ++ ys)
    joined [] ys here rest = rest
    joined (x ∷ xs) ys here rest = All-cons P x (xs ++ ys) (here 0 x refl) (joined xs ys (λ k e at_k. here (suc k) e at_k) rest)

module _ (s : SessionView) (form : HasForm s) (events : List Event) (are : AreRemembered s.guide events) where
  abbrev roles : ℕ
  roles = roles_in s

  abbrev seeds : List Event
  seeds = seeds_of s.guide

  pub seeds_own : (r : ℕ) → r < roles → events_of r seeds ≡ seeds_at s.guide r
  seeds_own r lt = seeds_from s form r lt roles 0 (omega arith) (omega (arith, lt)) (omega arith)

  are_sent : AreSent seeds
  are_sent = all_seeds (λ (e : Event). event_with e Sent e.stamp ≡ e) s roles 0 (omega arith) (λ r k e lt at_k. sent_same r e (form.seeds_are r k e lt at_k))

  -- the logs
  abbrev no_logs : List (List Event)
  no_logs = replicate roles []

  abbrev logs_then : List (List Event)
  logs_then = log_all (log_all no_logs seeds) events

  many_logs : length (log_all no_logs seeds) ≡ roles
  many_logs = as_many_logs seeds no_logs ∙ length-replicate _ _

  log_then : (r : ℕ) → r < roles → log_at logs_then r ≡ log_at s.guide.logs r
  log_then r lt =
      all_logged events (log_all no_logs seeds) r (let l = many_logs in omega (arith, lt, l))
      ∙ ap (λ l. l ++ events_of r events) (all_logged seeds no_logs r (let l = length-replicate {A = List Event} roles [] in omega (arith, lt, l)) ∙ ap (λ l. l ++ events_of r seeds) (each_same roles r []) ∙ seeds_own r lt)
      ∙ ap (λ l. seeds_at s.guide r ++ l) (are.each r)
      ∙ take-append-drop (numbers_at s.guide.numbers r).seeds (log_at s.guide.logs r)

  pub logs_are : logs_then ≡ s.guide.logs
  logs_are =
      let many : length logs_then ≡ roles = as_many_logs events (log_all no_logs seeds) ∙ many_logs in
      lists_same logs_then s.guide.logs (many ∙ sym form.logs) (λ r lt.
      let low : r < roles = omega (arith, lt, many) in
      let there = form.logs in
      slice_get-get_or logs_then r [] lt ∙ ap Some (log_then r low) ∙ sym (slice_get-get_or s.guide.logs r [] (omega (arith, low, there))))

  -- how many they are
  pub count_is : 0 + length seeds + length events ≡ all_events s.guide.logs
  count_is =
      let declared : (e : Event) → e.role < roles → e.role < length no_logs = (λ e lt. let l = length-replicate {A = List Event} roles [] in omega (arith, lt, l)) in
      let first = all_counted seeds no_logs (all_seeds (λ (e : Event). e.role < length no_logs) s roles 0 (omega arith) (λ r k e lt at_k. let is = (form.seeds_are r k e lt at_k).role in declared e (omega (arith, lt, is)))) in
      let second = all_counted events (log_all no_logs seeds) (all_among events are.declared) in
      let none = none_logged roles in
      let same = ap all_events logs_are in
      omega (arith, first, second, none, same)
    where
      all_among : (es : List Event) → All (IsDeclaredIn s.guide) es → All (λ (e : Event). e.role < length (log_all no_logs seeds)) es
      all_among [] all = All-nil (λ (e : Event). e.role < length (log_all no_logs seeds))
      all_among (e ∷ es) all = All-cons (λ (f : Event). f.role < length (log_all no_logs seeds)) e es (let lt = (All-head (IsDeclaredIn s.guide) e es all).role in let l = many_logs in omega (arith, lt, l)) (all_among es (All-tail (IsDeclaredIn s.guide) e es all))

  -- the numbers
  abbrev numbers_first : List Numbers
  numbers_first = set_all (standing_numbers s) (replicate roles at_start) (range_with_len 0 roles)

  pub first_is : numbers_first ≡ map (standing_numbers s) (range_with_len 0 roles)
  first_is = set_each (standing_numbers s) roles (replicate roles at_start) (length-replicate _ _)

  pub many_first : length numbers_first ≡ roles
  many_first = ap (λ (l : List Numbers). length l) first_is ∙ many_listed (standing_numbers s) roles

  number_then : (r : ℕ) → r < roles → numbers_at (seed_all numbers_first seeds) r ≡ numbers_at s.guide.numbers r
  number_then r lt =
      let stands : numbers_at numbers_first r ≡ standing_numbers s r = ap (λ (l : List Numbers). numbers_at l r) first_is ∙ item_listed (standing_numbers s) roles r at_start lt in
      let many : length (events_of r seeds) ≡ (numbers_at s.guide.numbers r).seeds = ap (λ (l : List Event). length l) (seeds_own r lt) ∙ length-take-le (numbers_at s.guide.numbers r).seeds (log_at s.guide.logs r) (form.seeds r lt) in
      let sum : 0 + length (events_of r seeds) ≡ (numbers_at s.guide.numbers r).seeds = omega (arith, many) in
      all_seeded seeds numbers_first r (let l = many_first in omega (arith, lt, l))
      ∙ ap (λ (x : Numbers). seeded x (x.seeds + length (events_of r seeds))) stands
      ∙ ap (seeded (standing_numbers s r)) sum

  pub numbers_are : seed_all numbers_first seeds ≡ s.guide.numbers
  numbers_are =
      let many : length (seed_all numbers_first seeds) ≡ roles = as_many_numbers seeds numbers_first ∙ many_first in
      lists_same (seed_all numbers_first seeds) s.guide.numbers (many ∙ sym form.numbers) (λ r lt.
      let low : r < roles = omega (arith, lt, many) in
      let there = form.numbers in
      slice_get-get_or (seed_all numbers_first seeds) r at_start lt ∙ ap Some (number_then r low) ∙ sym (slice_get-get_or s.guide.numbers r at_start (omega (arith, low, there))))

  -- the incarnations, and the saves
  incarnations_are : set_all (incarnation_of s) (replicate roles 0) (range_with_len 0 roles) ≡ s.incarnations
  incarnations_are =
      let there = form.incarnations in
      set_each (incarnation_of s) roles (replicate roles 0) (length-replicate _ _)
      ∙ listed (incarnation_of s) s.incarnations roles form.incarnations (λ i lt. slice_get-get_or s.incarnations i 0 (omega (arith, lt, there)))

  abbrev no_saves : List (List ℕ)
  no_saves = replicate (length s.saves.steps) []

  many_saves : length no_saves ≡ roles
  many_saves = length-replicate _ _ ∙ form.steps

  saves_are : set_all (told_of s.saves) no_saves (range_with_len 0 roles) ≡ s.saves.told
  saves_are =
      let there = form.told in
      set_each (told_of s.saves) roles no_saves many_saves
      ∙ listed (told_of s.saves) s.saves.told roles form.told (λ i lt. slice_get-get_or s.saves.told i [] (omega (arith, lt, there)))

  pub whole_is : (room : ℕ) → restored_all (begun s.guide.protocol s.guide.plan room s.saves.steps) (snapshot_of s events) ≡ restored_whole s
  whole_is room =
      ap (restored_all (so_far s (replicate roles at_start) no_logs 0 (replicate roles 0) no_saves))
      (append_assoc (map (role_again s) (range_with_len 0 roles) ++ map (flight_again s) seeds) (map (λ e. again.Event e) events) (flat_map (saves_again s) (range_with_len 0 roles))
      ∙ append_assoc (map (role_again s) (range_with_len 0 roles)) (map (flight_again s) seeds) (map (λ e. again.Event e) events ++ flat_map (saves_again s) (range_with_len 0 roles)))
      ∙ roles_part s (range_with_len 0 roles) (map (flight_again s) seeds ++ (map (λ e. again.Event e) events ++ flat_map (saves_again s) (range_with_len 0 roles))) (replicate roles at_start) no_logs 0 (replicate roles 0) no_saves
      ∙ flights_part s seeds are_sent (map (λ e. again.Event e) events ++ flat_map (saves_again s) (range_with_len 0 roles)) numbers_first no_logs 0 (set_all (incarnation_of s) (replicate roles 0) (range_with_len 0 roles)) no_saves
      ∙ events_part s events (flat_map (saves_again s) (range_with_len 0 roles)) (seed_all numbers_first seeds) (log_all no_logs seeds) (0 + length seeds) (set_all (incarnation_of s) (replicate roles 0) (range_with_len 0 roles)) no_saves
      ∙ all_saves s form roles 0 (omega arith) (seed_all numbers_first seeds) logs_then (0 + length seeds + length events) (set_all (incarnation_of s) (replicate roles 0) (range_with_len 0 roles)) no_saves many_saves (λ q le. each_same (length s.saves.steps) q [])
      ∙ ap (λ (n : List Numbers). so_far s n logs_then (0 + length seeds + length events) (set_all (incarnation_of s) (replicate roles 0) (range_with_len 0 roles)) (set_all (told_of s.saves) no_saves (range_with_len 0 roles))) numbers_are
      ∙ ap (λ (l : List (List Event)). so_far s s.guide.numbers l (0 + length seeds + length events) (set_all (incarnation_of s) (replicate roles 0) (range_with_len 0 roles)) (set_all (told_of s.saves) no_saves (range_with_len 0 roles))) logs_are
      ∙ ap (λ k. so_far s s.guide.numbers s.guide.logs k (set_all (incarnation_of s) (replicate roles 0) (range_with_len 0 roles)) (set_all (told_of s.saves) no_saves (range_with_len 0 roles))) count_is
      ∙ ap (λ l. so_far s s.guide.numbers s.guide.logs (all_events s.guide.logs) l (set_all (told_of s.saves) no_saves (range_with_len 0 roles))) incarnations_are
      ∙ ap (λ l. so_far s s.guide.numbers s.guide.logs (all_events s.guide.logs) s.incarnations l) saves_are

pub snapshots_restore : SnapshotsRestore
snapshots_restore s last lines room form are taken =
    taken_is (begun s.guide.protocol s.guide.plan room s.saves.steps) lines last taken
    ∙ ap (restored_all (begun s.guide.protocol s.guide.plan room s.saves.steps)) are.lines_are
    ∙ whole_is s form are.events are.remembered room
