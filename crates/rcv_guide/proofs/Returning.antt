-- A guide that went back to what a failure leaves.
use Rattle.std.proofs.Common.{◌≡◌, ℕ, zero, suc, ◌+◌, ◌<◌, ◌≤◌, ◌^◌, Bool, true, false, cond, Some, List, [], ◌∷◌, length, take, refl, sym, ◌∙◌, ap, subst, ◌⊎◌, inl, inr, ⊎_elim, arith}
use Rattle.std.specs.Prelude.{◌==◌, max, slice_get, slice_index}
use Rattle.std.specs.List.{sum_by, range_with_len}
use Rattle.std.proofs.lemmas.Bool.{cases_Bool, cases_lt}
use Rattle.std.proofs.lemmas.List.{length-take, take-take}
use Rattle.std.proofs.lemmas.List.Sums.{sum_by-cons}
use Rattle.rcv_tree.specs.Bits.{has_bit, is_listed}
use Rattle.rcv_tree.specs.declared.event.Event.{Event}
use Rattle.rcv_tree.specs.declared.numbers.Numbers as counts
use Rattle.rcv_tree.specs.declared.entry.Entry.{Entry}
use Rattle.rcv_tree.specs.declared.protocol.Protocol.{Protocol}
use Rattle.rcv_model.specs.Run.{acts, taken}
use Rattle.rcv_model.specs.Plan.{PlanLine}
use Rattle.rcv_model.specs.Next.{IsPlaceOf}
use Rattle.rcv_model.specs.Journal.{events_of, numbers_at as counted_at, greatest, map_roles, numbers_behind}
use Rattle.rcv_model.proofs.Bystanders.{as_many}
use Rattle.rcv_model.proofs.Keeping.{scan_of}
use Rattle.rcv_model.proofs.Roles.{length_mapped, mapped_at}
use Rattle.rcv_model.proofs.Scanning.{is_member}
use Rattle.rcv_theory.specs.Counts.{kept_counts}
use Rattle.rcv_checkpoint.specs.Stack.{StackView}
use Rattle.rcv_plan.specs.Plans.{IsGroup}
use Rattle.rcv_tables.specs.Rows.{TableView}
use Rattle.rcv_ledger.specs.Logs.{log_at}
use Rattle.rcv_ledger.specs.Ledger.{LedgerView, stack_at, HoldsKept, MayCut, IsCutTo}
use Rattle.rcv_ledger.proofs.Holding.{kept_may_be_cut_to, cuts_hold_what_is_kept}
use Rattle.rcv_ledger.proofs.Lists.{get_taken, take_prefix, none_there}
use Rattle.rcv_told.specs.Told.{Remembered, state_of, made_of, group_of, held_of, bound_at, left_at, roles_in, after_recovery}
use Rattle.rcv_guide.specs.declared.numbers.Numbers.{Numbers}
use Rattle.rcv_guide.specs.declared.recovery.Recovery.{Recovery}
use Rattle.rcv_guide.specs.Numbers.{at_start, numbers_at, latest_from, back_from, AreNumbersOf, AreBack}
use Rattle.rcv_guide.specs.Failing.{all_events}
use Rattle.rcv_guide.specs.Guide.{GuideView, guide_of, net_for, roles_of, terms_of, no_vars, IsMemory, MayRecover, listed_of, left_in, IsFailureOf, AreLeft, IsSoundMemory, AreStamped, AreFewOf, IsGuide, IsAfter, recovery_entry}
use Rattle.rcv_guide.proofs.Starting.{view_with}
use Rattle.rcv_guide.proofs.Recutting.{same_cut}
use Rattle.rcv_guide.proofs.Sets.{in_set, not_in_set}
use Rattle.rcv_guide.proofs.Memories.{many_held, seeds_at, down_held}
use Rattle.rcv_guide.proofs.Guides.{low, log_is, many_logs, none_beyond}
use Rattle.rcv_guide.proofs.Leaving.{left_begins, left_within, seeds_left}

-- the greatest clock, by the roles' bits and by their list
latest_is : (bits : ℕ) (qs : List ℕ) (r : ℕ) (xs : List Numbers) (ns : List counts.Numbers) → length xs ≡ length ns → ((i : ℕ) → i < length xs → has_bit bits (r + i) ≡ is_listed qs (r + i)) → ((i : ℕ) → i < length xs → (numbers_at xs i).clock ≡ (counted_at ns i).clock) → latest_from bits r xs ≡ greatest (is_listed qs) r ns
latest_is bits qs r [] [] size has clock = refl
latest_is bits qs r [] (n ∷ ns) size has clock = absurd (omega (arith, size))
latest_is bits qs r (x ∷ xs) [] size has clock = absurd (omega (arith, size))
latest_is bits qs r (x ∷ xs) (n ∷ ns) size has clock =
    let here : has_bit bits r ≡ is_listed qs r = subst (λ n. has_bit bits n ≡ is_listed qs n) (omega arith) (has 0 (omega arith)) in
    let now : x.clock ≡ n.clock = clock 0 (omega arith) in
    let ih : latest_from bits (r + 1) xs ≡ greatest (is_listed qs) (r + 1) ns = latest_is bits qs (r + 1) xs ns (omega (arith, size))
    (λ i lt. subst (λ n. has_bit bits n ≡ is_listed qs n) (omega arith) (has (suc i) (omega (arith, lt))))
    (λ i lt. clock (suc i) (omega (arith, lt))) in
    ap (λ b. max (cond b x.clock 0) (latest_from bits (r + 1) xs)) here
    ∙ ap (λ v. max (cond (is_listed qs r) v 0) (latest_from bits (r + 1) xs)) now
    ∙ ap (λ v. max (cond (is_listed qs r) n.clock 0) v) ih

-- it is one of the clocks at most, and each of the set's at least
latest_most : (bits r n : ℕ) (xs : List Numbers) → ((i : ℕ) → i < length xs → (numbers_at xs i).clock ≤ n) → latest_from bits r xs ≤ n
latest_most bits r n [] most = omega arith
latest_most bits r n (x ∷ xs) most =
    let here : x.clock ≤ n = most 0 (omega arith) in
    let others = latest_most bits (r + 1) n xs (λ i lt. most (suc i) (omega (arith, lt))) in
    go (has_bit bits r) here others
  where
    go : (b : Bool) → x.clock ≤ n → latest_from bits (r + 1) xs ≤ n → max (cond b x.clock 0) (latest_from bits (r + 1) xs) ≤ n
    go true here others = omega (arith, here, others)
    go false here others = omega (arith, others)

latest_least : (bits r i : ℕ) (xs : List Numbers) → i < length xs → has_bit bits (r + i) ≡ true → (numbers_at xs i).clock ≤ latest_from bits r xs
latest_least bits r i [] lt t = absurd (omega (arith, lt))
latest_least bits r zero (x ∷ xs) lt t = go (has_bit bits r) (subst (λ n. has_bit bits n ≡ true) (omega arith) t)
  where
    go : (b : Bool) → b ≡ true → x.clock ≤ max (cond b x.clock 0) (latest_from bits (r + 1) xs)
    go true e = omega arith
    go false e = absurd (cc)
latest_least bits r (suc i) (x ∷ xs) lt t =
    let ih = latest_least bits (r + 1) i xs (omega (arith, lt)) (subst (λ n. has_bit bits n ≡ true) (omega arith) t) in
    omega (arith, ih)

sums_below : (f g : ℕ → ℕ) (a n : ℕ) → ((r : ℕ) → f r ≤ g r) → sum_by f (range_with_len a n) ≤ sum_by g (range_with_len a n)
sums_below f g a zero below = omega arith
sums_below f g a (suc n) below =
    let here = below a in
    let ih = sums_below f g (a + 1) n below in
    omega (arith, here, ih, sum_by-cons f a (range_with_len (a + 1) n), sum_by-cons g a (range_with_len (a + 1) n))

take_none : (n : ℕ) → take {A = Event} n [] ≡ []
take_none zero = refl
take_none (suc n) = refl

false_or_true : false ≡ true → ⊥
false_or_true e = absurd (cc)

-- the same session with these logs and numbers, with one thing more that was told
abbrev pub back_to : GuideView → List (List Event) → List Numbers → GuideView
back_to g logs numbers = record g { logs = logs; numbers = numbers; told = g.told + 1 }

pub gone_view : (protocol : Protocol) (plan : List PlanLine) (ledger now : LedgerView) (old new : List Numbers) (room told : ℕ) → now.entries ≡ ledger.entries → guide_of protocol plan now new room (told + 1) ≡ back_to (guide_of protocol plan ledger old room told) now.logs new
gone_view protocol plan ledger now old new room told e = ap (λ (es : List Entry). view_with protocol plan now.logs new room (length es) (told + 1)) e

module _ {g : GuideView} {table : TableView} {ledger : LedgerView} (kept : IsGuide g table ledger) (p group : ℕ) (saved : List ℕ) (may : MayRecover g p saved) (is_group : IsGroup g.plan p group) (left : List ℕ) (are : AreLeft g p saved left) (back : Recovery) (failure : IsFailureOf g p saved back) where
  -- what is left of a memory
  module _ (m : Remembered) (is : IsMemory g m) where
    beyond : (q : ℕ) → roles_of g ≤ q → length (acts q m.held) ≡ 0
    beyond q le = many_held g m is q ∙ ap length (none_beyond kept q le)

    none_left : (q : ℕ) → (q < 8 → ⊥) → (length (acts q m.held) ≡ 0) × (length (acts q (left_in g m p saved)) ≡ 0)
    none_left q high =
        let le : roles_of g ≤ q = ⊎_elim (λ lt. absurd (high (low kept q lt))) (λ le. le) (cases_lt q (roles_of g)) in
        let none = beyond q le in
        let fewer = left_within kept p group saved may is_group m is q in
        let size = many_held g m is q in
        (none, omega (arith, none, fewer, size))

    -- who isn't concerned isn't one of those that failed
    outside : (q : ℕ) → q < 8 → has_bit back.concerned.0 q ≡ false → is_listed (group_of (terms_of g) p) q ≡ false
    outside q lt free = ⊎_elim
        (λ t. absurd (false_or_true (sym free ∙ ((failure.failed m is).concerned_is q lt).1 (inl (is_member q (group_of (terms_of g) p) t)))))
        (λ f. f)
        (cases_Bool (is_listed (group_of (terms_of g) p) q))

    -- what the line lists of a concerned role is what it has left
    counted : (q : ℕ) → q < 8 → has_bit back.concerned.0 q ≡ true → held_of m (slice_index (listed_of back)) q ≡ length (acts q (left_in g m p saved))
    counted q lt t =
        let listed = (failure.failed m is).counts q lt ∙ ap (λ b. cond b (made_of m (left_in g m p saved) q) 0) t in
        let seeds = seeds_left kept p group saved may is_group m is q in
        omega (arith, listed, seeds)

    -- so its bound is what it has left, or the one that it had
    bound_is : (q : ℕ) → (bound_at m (roles_in back.concerned) (slice_index (listed_of back)) q ≡ length (acts q (left_in g m p saved))) ⊎ (bound_at m (roles_in back.concerned) (slice_index (listed_of back)) q ≡ bound_at m (group_of (terms_of g) p) (slice_index saved) q)
    bound_is q = ⊎_elim
        (λ lt. go lt (has_bit back.concerned.0 q) (in_set back.concerned q lt) refl)
        (λ le.
        let high : q < 8 → ⊥ = λ lt. absurd (omega (arith, lt, le)) in
        let n = none_left q high in
        inl (ap (λ b. cond b (held_of m (slice_index (listed_of back)) q) (length (acts q m.held))) (not_in_set back.concerned q high) ∙ n.0 ∙ sym n.1))
        (cases_lt q 8)
      where
        go : q < 8 → (b : Bool) → is_listed (roles_in back.concerned) q ≡ b → has_bit back.concerned.0 q ≡ b → (bound_at m (roles_in back.concerned) (slice_index (listed_of back)) q ≡ length (acts q (left_in g m p saved))) ⊎ (bound_at m (roles_in back.concerned) (slice_index (listed_of back)) q ≡ bound_at m (group_of (terms_of g) p) (slice_index saved) q)
        go lt true e t = inl (ap (λ b. cond b (held_of m (slice_index (listed_of back)) q) (length (acts q m.held))) e ∙ counted q lt t)
        go lt false e f = inr
            (ap (λ b. cond b (held_of m (slice_index (listed_of back)) q) (length (acts q m.held))) e
            ∙ sym (ap (λ b. cond b (held_of m (slice_index saved) q) (length (acts q m.held))) (outside q lt f)))

    -- what the line leaves is what the failure leaves
    left_is : left_at (net_for g) m (roles_in back.concerned) (slice_index (listed_of back)) ≡ left_in g m p saved
    left_is = same_cut (net_for g) (bound_at m (group_of (terms_of g) p) (slice_index saved)) (bound_at m (roles_in back.concerned) (slice_index (listed_of back))) m.held bound_is

    module _ (logs : List (List Event)) (numbers : List Numbers) (log : (r : ℕ) → log_at logs r ≡ take (slice_index left r) (log_at g.logs r)) (numbers_are : AreBack g.numbers numbers group back.concerned.0 g.logs left) where
      latest_told : latest_from back.concerned.0 0 g.numbers ≡ greatest (is_listed (roles_in back.concerned)) 0 m.roles
      latest_told = latest_is back.concerned.0 (roles_in back.concerned) 0 g.numbers m.roles (let a = is.numbers_are.all in let b = is.numbers_are.have.numbers in omega (arith, a, b))
          (λ i lt. subst (λ n. has_bit back.concerned.0 n ≡ is_listed (roles_in back.concerned) n) (omega arith) (sym (in_set back.concerned i (low kept i (let a = is.numbers_are.all in omega (arith, a, lt))))))
          (λ i lt. sym (is.numbers_are.each i (let a = is.numbers_are.all in omega (arith, a, lt))).clock)

      -- what a recovery makes of a role's numbers in the memory
      abbrev told_behind : ℕ → counts.Numbers → counts.Numbers
      told_behind = numbers_behind (state_of m) (group_of (terms_of g) p) (roles_in back.concerned) (left_in g m p saved)

      module _ (r : ℕ) (lt : r < roles_of g) where
        abbrev x : Numbers
        x = numbers_at g.numbers r

        abbrev old : counts.Numbers
        old = counted_at m.roles r

        told_now : counted_at (map_roles told_behind 0 m.roles) r ≡ told_behind r old
        told_now = mapped_at told_behind r m.roles (let a = is.numbers_are.have.numbers in omega (arith, a, lt))

        attempt_now : (told_behind r old).attempt ≡ cond (slice_index left r == length (log_at g.logs r)) x.attempt (x.attempt + 1)
        attempt_now =
            ap (λ n. cond (n == length (acts r m.held)) old.attempt (old.attempt + 1)) (sym (are m is r))
            ∙ ap (λ n. cond (slice_index left r == n) old.attempt (old.attempt + 1)) (many_held g m is r)
            ∙ ap (λ n. cond (slice_index left r == length (log_at g.logs r)) n (n + 1)) (is.numbers_are.each r lt).attempt

        clock_now : (told_behind r old).clock ≡ cond (has_bit back.concerned.0 r) (latest_from back.concerned.0 0 g.numbers + 1) x.clock
        clock_now =
            ap (λ b. cond b (greatest (is_listed (roles_in back.concerned)) 0 m.roles + 1) old.clock) (in_set back.concerned r (low kept r lt))
            ∙ ap (λ n. cond (has_bit back.concerned.0 r) (n + 1) old.clock) (sym latest_told)
            ∙ ap (λ n. cond (has_bit back.concerned.0 r) (latest_from back.concerned.0 0 g.numbers + 1) n) (is.numbers_are.each r lt).clock

        down_now : (told_behind r old).crashed ≡ cond (has_bit group r) false x.down
        down_now =
            ap (λ b. cond b false old.crashed) (sym (is_group r (low kept r lt)))
            ∙ ap (λ b. cond (has_bit group r) false b) (is.numbers_are.each r lt).down

        numbers_now : AreNumbersOf (after_recovery m (group_of (terms_of g) p) (roles_in back.concerned) (left_in g m p saved)) r (numbers_at numbers r)
        numbers_now =
            let before = is.numbers_are.each r lt in
            subst (λ (y : Numbers). AreNumbersOf (after_recovery m (group_of (terms_of g) p) (roles_in back.concerned) (left_in g m p saved)) r y) (sym (numbers_are.each r (let a = is.numbers_are.all in omega (arith, a, lt))))
            (record {
              seeds = before.seeds;
              forgotten = before.forgotten;
              point = before.point;
              raw = ap (λ (n : counts.Numbers). n.raw) told_now ∙ before.raw;
              attempt = ap (λ (n : counts.Numbers). n.attempt) told_now ∙ attempt_now;
              clock = ap (λ (n : counts.Numbers). n.clock) told_now ∙ clock_now;
              down = ap (λ (n : counts.Numbers). n.crashed) told_now ∙ down_now;
            })

      memory_left : IsMemory (back_to g logs numbers) (after_recovery m (group_of (terms_of g) p) (roles_in back.concerned) (left_in g m p saved))
      memory_left = record {
        events = λ r.
            sym (take_prefix (events_of r (left_in g m p saved)) (events_of r m.held) (left_begins kept p group saved may is_group m is r))
            ∙ ap (λ n. take n (events_of r m.held)) (sym (as_many r (left_in g m p saved)) ∙ sym (are m is r))
            ∙ ap (take (slice_index left r)) (is.events r)
            ∙ sym (log r);
        queued = (scan_of (net_for g) (bound_at m (group_of (terms_of g) p) (slice_index saved)) m.held is.queued).queued;
        numbers_are = record {
          have = record {
            seeds = is.numbers_are.have.seeds;
            forgotten = is.numbers_are.have.forgotten;
            points = is.numbers_are.have.points;
            numbers = length_mapped told_behind 0 m.roles ∙ is.numbers_are.have.numbers;
          };
          all = numbers_are.all ∙ is.numbers_are.all;
          each = numbers_now;
        };
      }

      pub memory_back : IsMemory (back_to g logs numbers) (after_recovery m (group_of (terms_of g) p) (roles_in back.concerned) (left_at (net_for g) m (roles_in back.concerned) (slice_index (listed_of back))))
      memory_back = subst (λ h. IsMemory (back_to g logs numbers) (after_recovery m (group_of (terms_of g) p) (roles_in back.concerned) h)) (sym left_is) memory_left

  -- what the guide keeps behind it
  module _ (logs : List (List Event)) (numbers : List Numbers) (now : LedgerView) (log : (r : ℕ) → log_at logs r ≡ take (slice_index left r) (log_at g.logs r)) (size : length logs ≡ length g.logs) (numbers_are : AreBack g.numbers numbers group back.concerned.0 g.logs left) where
    number_at : (r : ℕ) → (numbers_at numbers r ≡ back_from g.numbers group back.concerned.0 (length (log_at g.logs r)) (slice_index left r) r (numbers_at g.numbers r)) ⊎ ((numbers_at numbers r ≡ at_start) × (numbers_at g.numbers r ≡ at_start))
    number_at r = ⊎_elim
        (λ lt. inl (numbers_are.each r lt))
        (λ le. inr (none_there numbers r at_start (let a = numbers_are.all in omega (arith, a, le)), none_there g.numbers r at_start le))
        (cases_lt r (length g.numbers))

    -- what is forgotten stays so
    seeds_same : (r : ℕ) → (numbers_at numbers r).seeds ≡ (numbers_at g.numbers r).seeds
    seeds_same r = ⊎_elim
        (λ e. ap (λ (y : Numbers). y.seeds) e)
        (λ e. ap (λ (y : Numbers). y.seeds) (e.0 ∙ sym e.1))
        (number_at r)

    point_same : (r : ℕ) → (numbers_at numbers r).point ≡ (numbers_at g.numbers r).point
    point_same r = ⊎_elim
        (λ e. ap (λ (y : Numbers). y.point) e)
        (λ e. ap (λ (y : Numbers). y.point) (e.0 ∙ sym e.1))
        (number_at r)

    -- and the seeds are left
    seeds_low : (r : ℕ) → (numbers_at g.numbers r).seeds ≤ slice_index left r
    seeds_low r = ⊎_elim
        (λ lt.
        let own = seeds_at g kept.holds.memory kept.holds.is r lt in
        let behind = seeds_left kept p group saved may is_group kept.holds.memory kept.holds.is r in
        let a = are kept.holds.memory kept.holds.is r in
        omega (arith, own, behind, a))
        (λ le. let a = ap (λ (y : Numbers). y.seeds) (none_there g.numbers r at_start (let n = kept.numbers in omega (arith, n, le))) in omega (arith, a))
        (cases_lt r (roles_of g))

    -- an event that is left was there
    was_there : (r n : ℕ) (e : Event) → slice_get (log_at logs r) n ≡ Some e → slice_get (log_at g.logs r) n ≡ Some e
    was_there r n e at = get_taken (slice_index left r) (log_at g.logs r) n e (subst (λ l. slice_get l n ≡ Some e) (log r) at)

    shorter : (r : ℕ) → length (log_at logs r) ≤ length (log_at g.logs r)
    shorter r = let a = ap length (log r) in let b = length-take (slice_index left r) (log_at g.logs r) in omega (arith, a, b)

    sound_back : IsSoundMemory (back_to g logs numbers)
    sound_back = record {
      points = λ r lt. subst (IsPlaceOf (net_for g) r) (sym (point_same r)) (kept.sound.points r lt);
      events = λ r n e at. kept.sound.events r n e (was_there r n e at);
      seeds = λ r lt.
          let a = seeds_same r in
          let b = seeds_low r in
          let c = ap length (log r) in
          let d = length-take (slice_index left r) (log_at g.logs r) in
          let e = kept.sound.seeds r lt in
          omega (arith, a, b, c, d, e);
      seeds_are = λ a b.
          ap (λ n. taken (net_for g) a b (take n (log_at logs b))) (seeds_same b)
          ∙ ap (λ l. taken (net_for g) a b (take (numbers_at g.numbers b).seeds l)) (log b)
          ∙ ap (taken (net_for g) a b) (take-take (numbers_at g.numbers b).seeds (slice_index left b) (log_at g.logs b) (seeds_low b))
          ∙ kept.sound.seeds_are a b;
      ends = λ r n e at. kept.sound.ends r n e (was_there r n e at);
    }

    clock_of : (b : Bool) (r : ℕ) → r < length g.numbers → has_bit back.concerned.0 r ≡ b → (numbers_at g.numbers r).clock ≤ cond b (latest_from back.concerned.0 0 g.numbers + 1) (numbers_at g.numbers r).clock
    clock_of true r lt e = let a = latest_least back.concerned.0 0 r g.numbers lt (subst (λ n. has_bit back.concerned.0 n ≡ true) (omega arith) e) in omega (arith, a)
    clock_of false r lt e = omega arith

    -- clocks never fall
    clock_up : (r : ℕ) → (numbers_at g.numbers r).clock ≤ (numbers_at numbers r).clock
    clock_up r = ⊎_elim
        (λ lt. let a = clock_of (has_bit back.concerned.0 r) r lt refl in let b = ap (λ (y : Numbers). y.clock) (numbers_are.each r lt) in omega (arith, a, b))
        (λ le. let a = ap (λ (y : Numbers). y.clock) (none_there g.numbers r at_start le) in omega (arith, a))
        (cases_lt r (length g.numbers))

    stamped_back : AreStamped (back_to g logs numbers)
    stamped_back = record {
      grow = λ r i j d f lt at_i at_j. kept.stamped.grow r i j d f lt (was_there r i d at_i) (was_there r j f at_j);
      within = λ r i d at. let a = kept.stamped.within r i d (was_there r i d at) in let b = clock_up r in omega (arith, a, b);
      after = λ r i d at got. kept.stamped.after r i d (was_there r i d at) got;
      sent = λ r i d at is. kept.stamped.sent r i d (was_there r i d at) is;
    }

    latest_few : latest_from back.concerned.0 0 g.numbers ≤ g.told
    latest_few = latest_most back.concerned.0 0 g.told g.numbers (λ i lt. (kept.few i (let a = kept.numbers in omega (arith, a, lt))).clocks)

    few_of : (b : Bool) (n : ℕ) → n ≤ g.told → cond b n (n + 1) ≤ g.told + 1
    few_of true n a = omega (arith, a)
    few_of false n a = omega (arith, a)

    one_of : (b : Bool) (k l : ℕ) → k ≤ g.told → l ≤ g.told → cond b (l + 1) k ≤ g.told + 1
    one_of true k l a c = omega (arith, c)
    one_of false k l a c = omega (arith, a)

    few_back : (r : ℕ) → r < roles_of g → AreFewOf (g.told + 1) (log_at logs r) (numbers_at numbers r)
    few_back r lt =
        let old = kept.few r lt in
        let less = shorter r in
        subst (λ (y : Numbers). AreFewOf (g.told + 1) (log_at logs r) y) (sym (numbers_are.each r (let a = kept.numbers in omega (arith, a, lt))))
        (record {
          raw = let a = old.raw in omega (arith, a);
          made = let a = old.made in omega (arith, a, less);
          attempts = few_of (slice_index left r == length (log_at g.logs r)) (numbers_at g.numbers r).attempt old.attempts;
          clocks = one_of (has_bit back.concerned.0 r) (numbers_at g.numbers r).clock (latest_from back.concerned.0 0 g.numbers) old.clocks latest_few;
        })

    all_fewer : all_events logs ≤ all_events g.logs
    all_fewer =
        let a = sums_below (λ r. length (log_at logs r)) (λ r. length (log_at g.logs r)) 0 (length logs) shorter in
        let b = ap (λ n. sum_by (λ r. length (log_at g.logs r)) (range_with_len 0 n)) size in
        omega (arith, a, b)

    pub guide_back : HoldsKept (net_for g) (roles_of g) no_vars (left_in g kept.holds.memory p saved) now → length now.entries ≡ length ledger.entries → now.most ≡ ledger.most → now.room ≡ ledger.room → ((r : ℕ) → r < roles_of g → (stack_at now.stacks r).room ≡ (stack_at ledger.stacks r).room) → IsGuide (back_to g logs numbers) table now
    guide_back holds entries most room rooms = record {
      protocol = kept.protocol;
      planned = kept.planned;
      table_is = kept.table_is;
      logs = size ∙ kept.logs;
      numbers = numbers_are.all ∙ kept.numbers;
      holds = record {
        memory = after_recovery kept.holds.memory (group_of (terms_of g) p) (roles_in back.concerned) (left_in g kept.holds.memory p saved);
        is = memory_left kept.holds.memory kept.holds.is logs numbers log numbers_are;
        holds = holds;
      };
      sound = sound_back;
      stamped = stamped_back;
      told = let a = may.told in omega (arith, a);
      few = few_back;
      rooms = record {
        few = kept.rooms.few;
        used = let a = kept.rooms.used in omega (arith, a, entries);
        filled = kept.rooms.filled;
        logged = let a = kept.rooms.logged in let b = all_fewer in omega (arith, a, b);
        most = let a = kept.rooms.most in omega (arith, a, most);
        events = let a = kept.rooms.events in omega (arith, a, room);
        states = λ r lt. let a = kept.rooms.states r lt in let b = rooms r lt in omega (arith, a, b);
      };
    }

  -- the ledger can be cut to what is left
  held_counts : (r : ℕ) → r < roles_of g → slice_index left r ≡ kept_counts (net_for g) (bound_at kept.holds.memory (group_of (terms_of g) p) (slice_index saved)) kept.holds.memory.held r
  held_counts r lt = are kept.holds.memory kept.holds.is r

  pub may_cut : MayCut (net_for g) ledger left
  may_cut = kept_may_be_cut_to (net_for g) (roles_of g) no_vars kept.holds.memory.held (bound_at kept.holds.memory (group_of (terms_of g) p) (slice_index saved)) left ledger kept.holds.holds kept.holds.is.queued held_counts

  module _ (now : LedgerView) (numbers : List Numbers) (cut : IsCutTo (net_for g) ledger now left) (numbers_are : AreBack g.numbers numbers group back.concerned.0 g.logs left) where
    pub log_cut : (r : ℕ) → log_at now.logs r ≡ take (slice_index left r) (log_at g.logs r)
    log_cut r = ⊎_elim
        (λ lt. cut.log r lt ∙ ap (take (slice_index left r)) (log_is kept r))
        (λ le.
        none_there now.logs r [] (let a = cut.as_many_logs in omega (arith, a, le))
        ∙ sym (ap (take (slice_index left r)) (none_beyond kept r (let a = many_logs kept in omega (arith, a, le))) ∙ take_none (slice_index left r)))
        (cases_lt r (length ledger.logs))

    pub guide_cut : IsGuide (back_to g now.logs numbers) table now
    guide_cut = guide_back now.logs numbers now log_cut (cut.as_many_logs ∙ many_logs kept ∙ sym kept.logs) numbers_are
        (cuts_hold_what_is_kept (net_for g) (roles_of g) no_vars kept.holds.memory.held (bound_at kept.holds.memory (group_of (terms_of g) p) (slice_index saved)) left ledger now kept.holds.holds kept.holds.is.queued held_counts cut)
        (ap length cut.entries) cut.room_in_all cut.room
        (λ r lt. ap (λ (s : StackView). s.room) (cut.stack r (let a = many_logs kept in omega (arith, a, lt))))

    pub after_cut : IsAfter g (back_to g now.logs numbers) (recovery_entry p back)
    after_cut = record {
      may = λ m is. (down_held g m is p true may.down, (slice_index saved, failure.failed m is));
      memory = λ m is. memory_back m is now.logs numbers log_cut numbers_are;
    }

  -- attempts and clocks can go up
  pub few_attempts : (r : ℕ) → r < length g.numbers → (numbers_at g.numbers r).attempt + 1 < 2 ^ 64
  few_attempts r lt = let a = (kept.few r (let n = kept.numbers in omega (arith, n, lt))).attempts in let b = kept.told in omega (arith, a, b)

  pub few_clocks : (r : ℕ) → r < length g.numbers → (numbers_at g.numbers r).clock + 1 < 2 ^ 64
  few_clocks r lt = let a = (kept.few r (let n = kept.numbers in omega (arith, n, lt))).clocks in let b = kept.told in omega (arith, a, b)
