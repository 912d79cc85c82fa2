-- A guide that forgets has a shorter memory of the same session.
use Rattle.std.proofs.Common.{◌≡◌, ℕ, zero, suc, ◌+◌, ◌-◌, ◌<◌, ◌≤◌, true, false, cond, Some, List, [], ◌∷◌, ◌++◌, length, length-append, length-drop, take, drop, map, drop-drop, take-add, refl, sym, ◌∙◌, ap, subst, ⊎_elim, append-nil, arith}
use Rattle.std.specs.Prelude.{◌==◌, nat_lt, slice_get, slice_index}
use Rattle.std.proofs.Math.ListN.{drop_of_length-le}
use Rattle.std.proofs.lemmas.Bool.{cases_lt}
use Rattle.std.proofs.lemmas.Bool.Decides.{nat_tests}
use Rattle.std.proofs.lemmas.List.{length-map}
use Rattle.std.proofs.lemmas.Option.{get_or_from_slice_get}
use Rattle.rcv_tree.specs.declared.event.Event.{Event}
use Rattle.rcv_tree.specs.declared.event.Message.{Message}
use Rattle.rcv_model.specs.Run.{acts, place_of, put, taken}
use Rattle.rcv_model.specs.Journal.{events_of}
use Rattle.rcv_model.proofs.Located.{item}
use Rattle.rcv_model.proofs.Parts.{acts_own}
use Rattle.rcv_ledger.specs.Logs.{log_at}
use Rattle.rcv_ledger.specs.Ledger.{LedgerView}
use Rattle.rcv_ledger.proofs.Lists.{none_there, take_left, take_whole}
use Rattle.rcv_told.specs.Told.{Remembered}
use Rattle.rcv_told.specs.Forgetting.{since, seeds_of, Lacks, lacked, LacksMessages, IsShorter}
use Rattle.rcv_told.proofs.Memories.{place_join}
use Rattle.rcv_guide.specs.declared.numbers.Numbers.{Numbers}
use Rattle.rcv_guide.specs.Numbers.{numbers_at, AreNumbersOf}
use Rattle.rcv_tree.specs.Events.{point_or_none}
use Rattle.rcv_guide.specs.Guide.{GuideView, net_for, roles_of, IsMemory, MayForget, HasForgotten}
use Rattle.rcv_guide.specs.Renewal.{AreOrdered, AreEnds, MayEnd, staying, forgotten_from, AreForgotten, IsRenewed}
use Rattle.rcv_guide.proofs.Memories.{seeds_at, forgotten_at, point_at, no_seeds, no_forgotten}
use Rattle.rcv_guide.proofs.Passing.{queued_within}
use Rattle.rcv_guide.proofs.Shortening.{get_behind, prefix_rest, closed_all, all_staying}
use Rattle.rcv_guide.proofs.Staying.{take_more, put_staying, taken_staying}
use Rattle.rcv_guide.proofs.Tracking.{none_taken}

-- a number of each role, in a list of its own
got_of : {A : Type 0} (f : Numbers → A) (xs : List Numbers) (r : ℕ) → r < length xs → slice_get (map f xs) r ≡ Some (f (numbers_at xs r))
got_of f [] r lt = absurd (omega (arith, lt))
got_of f (x ∷ xs) zero lt = refl
got_of f (x ∷ xs) (suc r) lt = got_of f xs r (omega (arith, lt))

at_of : (f : Numbers → ℕ) (xs : List Numbers) (r : ℕ) → r < length xs → slice_index (map f xs) r ≡ f (numbers_at xs r)
at_of f xs r lt = get_or_from_slice_get (map f xs) r (f (numbers_at xs r)) 0 (got_of f xs r lt)

none_of : (f : Numbers → ℕ) (xs : List Numbers) (r : ℕ) → length xs ≤ r → slice_index (map f xs) r ≡ 0
none_of f xs r le = none_there (map f xs) r 0 (let n = length-map xs f in omega (arith, n, le))

-- the place behind some more events of a role, none or the last one's point
place_more : (k r n : ℕ) (xs : List Event) (e : Event) → slice_get xs n ≡ Some e → e.role ≡ r → place_of k (acts r (take (suc n) xs)) ≡ e.point
place_more k r n xs e at own =
    subst (λ q. place_of k (acts q (take (suc n) xs)) ≡ e.point) own
    (ap (λ l. place_of k (acts e.role l)) (take_more n xs e at)
    ∙ ap (place_of k) (acts_own (take n xs) e)
    ∙ place_join k (acts e.role (take n xs)) (record { dir = e.dir; point = e.point } ∷ []))

module _ (g : GuideView) (counts ends : List ℕ) (many : length g.logs ≡ roles_of g) (numbered : length g.numbers ≡ roles_of g) (o : AreOrdered (net_for g) g.logs) (forget : MayForget g counts) (are : AreEnds g.numbers counts ends) where
  end_is : (r : ℕ) → r < roles_of g → slice_index ends r ≡ (numbers_at g.numbers r).seeds + slice_index counts r
  end_is r lt = are.each r (omega (arith, lt, numbered))

  pub may_end : MayEnd (net_for g) g.logs ends
  may_end = record {
    eight = are.eight;
    made = λ r lt.
        let low : r < roles_of g = omega (arith, lt, many) in
        let a = end_is r low in
        let b = forget.held r low in
        omega (arith, a, b);
    closed = λ a b la lb.
        let a_low : a < roles_of g = omega (arith, la, many) in
        let b_low : b < roles_of g = omega (arith, lb, many) in
        let x = ap (λ n. length (put (net_for g) a b (take n (log_at g.logs a)))) (end_is a a_low) in
        let y = ap (λ n. length (taken (net_for g) a b (take n (log_at g.logs b)))) (end_is b b_low) in
        let z = forget.closed a b a_low b_low in
        omega (arith, x, y, z);
  }

  -- how many more of each role are forgotten
  abbrev gone : ℕ → ℕ
  gone r = cond (nat_lt r (roles_of g)) (slice_index counts r) 0

  gone_is : (r : ℕ) → r < roles_of g → gone r ≡ slice_index counts r
  gone_is r lt = let t : nat_lt r (roles_of g) ≡ true = grind (arith, nat_tests) in ap (λ b. cond b (slice_index counts r) 0) t

  gone_none : (r : ℕ) → roles_of g ≤ r → gone r ≡ 0
  gone_none r le = let t : nat_lt r (roles_of g) ≡ false = grind (arith, nat_tests) in ap (λ b. cond b (slice_index counts r) 0) t

  no_log : (r : ℕ) → roles_of g ≤ r → log_at g.logs r ≡ []
  no_log r le = none_there g.logs r [] (omega (arith, le, many))

  module _ (room : ℕ) (fresh : LedgerView) (is : IsRenewed (net_for g) g.logs ends room fresh) (new : List Numbers) (set : AreForgotten g.numbers new g.logs fresh.logs counts ends) where
    numbered_new : length new ≡ roles_of g
    numbered_new = set.all ∙ numbered

    abbrev seeds_left : ℕ → List Event
    seeds_left r = staying (net_for g) g.logs ends r (slice_index ends r)

    abbrev rest_of : ℕ → List Event
    rest_of r = drop (slice_index ends r) (log_at g.logs r)

    pub held_is : (r : ℕ) → r < roles_of g → events_of r is.held ≡ seeds_left r ++ rest_of r
    held_is r lt = is.stay r ∙ all_staying (net_for g) g.logs ends o may_end r (omega (arith, lt, many))

    pub fresh_log : (r : ℕ) → r < roles_of g → log_at fresh.logs r ≡ seeds_left r ++ rest_of r
    fresh_log r lt = is.holds.log r ∙ held_is r lt

    pub number_is : (r : ℕ) → r < roles_of g → numbers_at new r ≡ forgotten_from (log_at g.logs r) (slice_index ends r) (slice_index counts r) (length (log_at fresh.logs r)) (numbers_at g.numbers r)
    number_is r lt = set.each r (omega (arith, lt, numbered))

    pub new_seeds : (r : ℕ) → r < roles_of g → (numbers_at new r).seeds ≡ length (seeds_left r)
    new_seeds r lt =
        let a = ap (λ (x : Numbers). x.seeds) (number_is r lt) in
        let b = ap length (fresh_log r lt) in
        let c = length-append (seeds_left r) (rest_of r) in
        let d = length-drop (slice_index ends r) (log_at g.logs r) in
        omega (arith, a, b, c, d)

    -- the shorter memory
    abbrev pub short : Remembered → Remembered
    short m =
        record m {
          held = is.held;
          seeds = map (λ (x : Numbers). x.seeds) new;
          forgotten = map (λ (x : Numbers). x.forgotten) new;
          points = map (λ (x : Numbers). x.point) new;
        }

    abbrev pub forgot : ℕ → GuideView
    forgot used = record g { logs = fresh.logs; numbers = new; room = room; used = used }

    module _ (m : Remembered) (mem : IsMemory g m) where
      numbers_short : (r : ℕ) → r < roles_of g → AreNumbersOf (short m) r (numbers_at new r)
      numbers_short r lt =
          let old = mem.numbers_are.each r lt in
          let low : r < length new = omega (arith, lt, numbered_new) in
          record {
            seeds = got_of (λ (x : Numbers). x.seeds) new r low;
            forgotten = got_of (λ (x : Numbers). x.forgotten) new r low;
            point = got_of (λ (x : Numbers). x.point) new r low;
            raw = old.raw ∙ ap (λ (x : Numbers). x.raw) (sym (number_is r lt));
            attempt = old.attempt ∙ ap (λ (x : Numbers). x.attempt) (sym (number_is r lt));
            clock = old.clock ∙ ap (λ (x : Numbers). x.clock) (sym (number_is r lt));
            down = old.down ∙ ap (λ (x : Numbers). x.down) (sym (number_is r lt));
          }

      pub memory_short : (used : ℕ) → IsMemory (forgot used) (short m)
      memory_short used = record {
        events = λ r. sym (is.holds.log r);
        queued = is.queued;
        numbers_are = record {
          have = record {
            seeds = length-map new (λ (x : Numbers). x.seeds) ∙ numbered_new;
            forgotten = length-map new (λ (x : Numbers). x.forgotten) ∙ numbered_new;
            points = length-map new (λ (x : Numbers). x.point) ∙ numbered_new;
            numbers = mem.numbers_are.have.numbers;
          };
          all = numbered_new;
          each = numbers_short;
        };
      }

      -- of a declared role
      module _ (r : ℕ) (lt : r < roles_of g) where
        abbrev seeds : ℕ
        seeds = (numbers_at g.numbers r).seeds

        abbrev count : ℕ
        count = slice_index counts r

        low_new : r < length new
        low_new = omega (arith, lt, numbered_new)

        since_old : since m r ≡ drop seeds (log_at g.logs r)
        since_old = ap (λ n. drop n (events_of r m.held)) (seeds_at g m mem r lt) ∙ ap (drop seeds) (mem.events r)

        short_seeds : slice_index (short m).seeds r ≡ length (seeds_left r)
        short_seeds = at_of (λ (x : Numbers). x.seeds) new r low_new ∙ new_seeds r lt

        pub since_short : since (short m) r ≡ rest_of r
        since_short = ap (λ n. drop n (events_of r is.held)) short_seeds ∙ ap (drop (length (seeds_left r))) (held_is r lt) ∙ drop_front (seeds_left r) (rest_of r)
          where
            drop_front : {A : Type 0} (xs ys : List A) → drop (length xs) (xs ++ ys) ≡ ys
            drop_front [] ys = refl
            drop_front (x ∷ xs) ys = drop_front xs ys

        pub seeds_short : seeds_of (short m) r ≡ seeds_left r
        seeds_short =
            ap (λ n. take n (events_of r is.held)) short_seeds
            ∙ ap (take (length (seeds_left r))) (held_is r lt)
            ∙ take_left (seeds_left r) (rest_of r) (length (seeds_left r)) (omega arith)
            ∙ take_whole (seeds_left r)

        pub point_none : count ≡ 0 → (numbers_at new r).point ≡ (numbers_at g.numbers r).point
        point_none e =
            let t : (count == 0) ≡ true = grind (arith, nat_tests) in
            ap (λ (x : Numbers). x.point) (number_is r lt)
            ∙ ap (λ b. cond b (numbers_at g.numbers r).point (point_or_none (slice_get (log_at g.logs r) (slice_index ends r - 1)))) t

        pub point_some : (n : ℕ) → count ≡ suc n → (e : Event) → slice_get (drop seeds (log_at g.logs r)) n ≡ Some e → (numbers_at new r).point ≡ e.point
        point_some n some e at =
            let f : (count == 0) ≡ false = grind (arith, nat_tests) in
            let here : slice_index ends r - 1 ≡ seeds + n = (let a = end_is r lt in omega (arith, a, some)) in
            ap (λ (x : Numbers). x.point) (number_is r lt)
            ∙ ap (λ b. cond b (numbers_at g.numbers r).point (point_or_none (slice_get (log_at g.logs r) (slice_index ends r - 1)))) f
            ∙ ap (λ i. point_or_none (slice_get (log_at g.logs r) i)) here
            ∙ ap point_or_none (sym (get_behind seeds n (log_at g.logs r)) ∙ at)

        enough_log : count ≤ length (drop seeds (log_at g.logs r))
        enough_log = let a = forget.held r lt in let b = length-drop seeds (log_at g.logs r) in omega (arith, a, b)

        point_is : (c : ℕ) → count ≡ c → (numbers_at new r).point ≡ place_of (numbers_at g.numbers r).point (acts r (take c (drop seeds (log_at g.logs r))))
        point_is zero e = point_none e
        point_is (suc n) e =
            let x = item (drop seeds (log_at g.logs r)) n (let a = enough_log in omega (arith, a, e)) in
            let own = (o.sound r (seeds + n) x.0 (sym (get_behind seeds n (log_at g.logs r)) ∙ x.1)).role in
            point_some n e x.0 x.1 ∙ sym (place_more (numbers_at g.numbers r).point r n (drop seeds (log_at g.logs r)) x.0 x.1 own)

        pub lacks_own : Lacks m (short m) r (gone r)
        lacks_own = subst (Lacks m (short m) r) (sym (gone_is r lt)) (record {
          enough = let a = ap length since_old in let b = enough_log in omega (arith, a, b);
          forgotten =
              at_of (λ (x : Numbers). x.forgotten) new r low_new
              ∙ ap (λ (x : Numbers). x.forgotten) (number_is r lt)
              ∙ ap (λ n. n + count) (sym (forgotten_at g m mem r lt));
          since_is =
              since_short
              ∙ ap (λ n. drop n (log_at g.logs r)) (end_is r lt)
              ∙ sym (drop-drop count seeds (log_at g.logs r))
              ∙ ap (drop count) (sym since_old);
          point =
              at_of (λ (x : Numbers). x.point) new r low_new
              ∙ point_is count refl
              ∙ ap (λ k. place_of k (acts r (take count (drop seeds (log_at g.logs r))))) (sym (point_at g m mem r lt))
              ∙ ap (λ l. place_of (slice_index m.points r) (acts r (take count l))) (sym since_old);
          old_seeds = let a = seeds_at g m mem r lt in let b = ap length (mem.events r) in let c = forget.held r lt in omega (arith, a, b, c);
          new_seeds = let a = short_seeds in let b = ap length (held_is r lt) in let c = length-append (seeds_left r) (rest_of r) in omega (arith, a, b, c);
        })

        pub lacked_own : lacked m r (gone r) ≡ take (slice_index ends r) (log_at g.logs r)
        lacked_own =
            ap (λ n. seeds_of m r ++ take n (since m r)) (gone_is r lt)
            ∙ ap (λ n. take n (events_of r m.held) ++ take count (since m r)) (seeds_at g m mem r lt)
            ∙ ap (λ l. take seeds l ++ take count (since m r)) (mem.events r)
            ∙ ap (λ l. take seeds (log_at g.logs r) ++ take count l) since_old
            ∙ sym (take-add seeds count (log_at g.logs r))
            ∙ ap (λ n. take n (log_at g.logs r)) (sym (end_is r lt))

      -- of another role
      module _ (r : ℕ) (le : roles_of g ≤ r) where
        high_new : length new ≤ r
        high_new = omega (arith, le, numbered_new)

        no_events : events_of r m.held ≡ []
        no_events = mem.events r ∙ no_log r le

        no_fresh : events_of r is.held ≡ []
        no_fresh = sym (is.holds.log r) ∙ none_there fresh.logs r [] (let a = is.holds.logs in omega (arith, a, le, many))

        since_none : since m r ≡ []
        since_none = ap (λ n. drop n (events_of r m.held)) (no_seeds g m mem r le) ∙ no_events

        short_none : slice_index (short m).seeds r ≡ 0
        short_none = none_of (λ (x : Numbers). x.seeds) new r high_new

        no_points : slice_index m.points r ≡ 0
        no_points = none_there m.points r 0 (let a = mem.numbers_are.have.points in omega (arith, a, le))

        lacks_other : Lacks m (short m) r (gone r)
        lacks_other = subst (Lacks m (short m) r) (sym (gone_none r le)) (record {
          enough = omega arith;
          forgotten = let a = none_of (λ (x : Numbers). x.forgotten) new r high_new in let b = no_forgotten g m mem r le in omega (arith, a, b);
          since_is = ap (λ n. drop n (events_of r is.held)) short_none ∙ no_fresh ∙ sym since_none;
          point = none_of (λ (x : Numbers). x.point) new r high_new ∙ sym no_points;
          old_seeds = let a = no_seeds g m mem r le in omega (arith, a);
          new_seeds = let a = short_none in omega (arith, a);
        })

        lacked_other : lacked m r (gone r) ≡ take (slice_index ends r) (log_at g.logs r)
        lacked_other =
            ap (λ n. seeds_of m r ++ take n (since m r)) (gone_none r le)
            ∙ append-nil (seeds_of m r)
            ∙ ap (λ n. take n (events_of r m.held)) (no_seeds g m mem r le)
            ∙ sym (ap (take (slice_index ends r)) (no_log r le) ∙ none_taken (slice_index ends r))

        seeds_other : seeds_of (short m) r ≡ []
        seeds_other = ap (λ n. take n (events_of r is.held)) short_none

      lacked_is : (r : ℕ) → lacked m r (gone r) ≡ take (slice_index ends r) (log_at g.logs r)
      lacked_is r = ⊎_elim (lacked_own r) (lacked_other r) (cases_lt r (roles_of g))

      lacks_all : (r : ℕ) → Lacks m (short m) r (gone r)
      lacks_all r = ⊎_elim (lacks_own r) (lacks_other r) (cases_lt r (roles_of g))

      -- what of the forgotten events is left, by channel
      module _ (a b : ℕ) where
        abbrev within_sent : List Message
        within_sent = put (net_for g) a b (take (slice_index ends a) (log_at g.logs a))

        abbrev within_taken : List Message
        within_taken = taken (net_for g) a b (take (slice_index ends b) (log_at g.logs b))

        put_left : put (net_for g) a b (seeds_of (short m) a) ≡ drop (length within_taken) within_sent
        put_left = ⊎_elim
            (λ lt. ap (put (net_for g) a b) (seeds_short a lt) ∙ put_staying (net_for g) g.logs ends a b (slice_index ends a))
            (λ le.
            let none : within_sent ≡ [] = ap (λ l. put (net_for g) a b (take (slice_index ends a) l)) (no_log a le) ∙ ap (put (net_for g) a b) (none_taken (slice_index ends a)) in
            ap (put (net_for g) a b) (seeds_other a le)
            ∙ sym (ap (drop (length within_taken)) none ∙ drop_of_length-le [] (omega arith)))
            (cases_lt a (roles_of g))

        taken_left : taken (net_for g) a b (seeds_of (short m) b) ≡ []
        taken_left = ⊎_elim
            (λ lt. ap (taken (net_for g) a b) (seeds_short b lt) ∙ taken_staying (net_for g) g.logs ends a b (slice_index ends b) ∙ drop_of_length-le within_taken (omega arith))
            (λ le. ap (taken (net_for g) a b) (seeds_other b le))
            (cases_lt b (roles_of g))

        messages_all : LacksMessages (net_for g) m (short m) gone a b
        messages_all = record {
          received = within_taken;
          sent_is =
              ap (put (net_for g) a b) (lacked_is a)
              ∙ prefix_rest within_taken within_sent (queued_within (net_for g) g.logs o ends a b (closed_all (net_for g) g.logs ends o may_end a b))
              ∙ ap (λ l. within_taken ++ l) (sym put_left);
          received_is = ap (taken (net_for g) a b) (lacked_is b);
          seeds_are = taken_left;
        }

      pub shorter : IsShorter (net_for g) m (short m)
      shorter = record {
        gone = gone;
        lacks = lacks_all;
        messages = messages_all;
        old_queued = mem.queued;
        new_queued = is.queued;
        roles = refl;
      }

    pub has_forgotten : (used : ℕ) → used ≡ length fresh.entries → HasForgotten g (forgot used) counts room
    has_forgotten used all = record {
      shorter = λ m mem. (short m, memory_short m mem used, shorter m mem);
      gone = λ r lt. ap (λ (x : Numbers). x.forgotten) (number_is r lt);
      used = all ∙ sym is.entries;
      few = let a = is.few in let b = is.entries in omega (arith, a, b);
      rest = refl;
    }
