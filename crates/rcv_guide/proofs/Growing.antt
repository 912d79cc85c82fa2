-- A guide with one event more.
use Rattle.std.proofs.Common.{◌≡◌, ℕ, zero, suc, ◌+◌, ◌<◌, ◌≤◌, Some, List, [], ◌∷◌, ◌++◌, length, length-append, length-set, take, refl, sym, ◌∙◌, ap, subst, ◌⊎◌, inl, inr, ⊎_elim, arith}
use Rattle.std.specs.Prelude.{slice_get, slice_set}
use Rattle.std.specs.List.{sum_by, range_with_len}
use Rattle.std.proofs.lemmas.Bool.{cases_eq, cases_lt}
use Rattle.std.proofs.lemmas.List.{get_or-set_same, get_or-set_other}
use Rattle.std.proofs.lemmas.Grind.{get_or-set_at}
use Rattle.std.proofs.lemmas.List.Sums.{sum_by-cons}
use Rattle.std.proofs.lemmas.Option.{slice_get-get_or}
use Rattle.rcv_tree.specs.declared.event.Event.{Event}
use Rattle.rcv_tree.specs.declared.numbers.Numbers as counts
use Rattle.rcv_tree.specs.declared.event.Dir.TheVariants.{Sent, Got}
use Rattle.rcv_model.specs.ByPoints.{IsByEnd}
use Rattle.rcv_model.specs.Run.{taken, IsQueued}
use Rattle.rcv_model.specs.Next.{IsPlaceOf}
use Rattle.rcv_model.specs.Journal.{numbers_at as counted_at, advanced as counted_more}
use Rattle.rcv_model.proofs.Explained.{by_role_own}
use Rattle.rcv_model.proofs.Keeping.{by_role_other}
use Rattle.rcv_model.proofs.Located.{get_below}
use Rattle.rcv_model.proofs.Roles.{set_here as counted_here, set_else as counted_else}
use Rattle.rcv_checkpoint.specs.declared.state.State as checkpoints
use Rattle.rcv_checkpoint.specs.Stack.{StackView, with_states}
use Rattle.rcv_tables.specs.Rows.{TableView}
use Rattle.rcv_ledger.specs.Logs.{log_at, with_event_of}
use Rattle.rcv_ledger.specs.Ledger.{LedgerView, stack_at, with_state, HoldsKept}
use Rattle.rcv_ledger.proofs.Lists.{get_left, get_more, none_there, take_left}
use Rattle.rcv_told.specs.Told.{Remembered, after_event}
use Rattle.rcv_guide.specs.declared.numbers.Numbers.{Numbers}
use Rattle.rcv_guide.specs.Numbers.{at_start, numbers_at, with_advanced, AreNumbersOf}
use Rattle.rcv_guide.specs.Failing.{all_events}
use Rattle.rcv_guide.specs.Guide.{GuideView, net_for, roles_of, no_vars, with_event, HasRoom, IsMemory, IsSoundMemory, AreStamped, AreFewOf, IsGuide}

pub set_here : {A : Type 0} (xs : List A) (i : ℕ) (y : A) → i < length xs → slice_get (slice_set xs i y) i ≡ Some y
set_here xs i y lt = slice_get-get_or (slice_set xs i y) i y (omega (arith, lt, length-set xs i y)) ∙ ap Some (get_or-set_same xs i y y lt)

-- sums of numbers that agree; and one more in one of them is one more in the sum
pub sums_alike : (f g : ℕ → ℕ) (a n : ℕ) → ((r : ℕ) → a ≤ r → r < a + n → f r ≡ g r) → sum_by f (range_with_len a n) ≡ sum_by g (range_with_len a n)
sums_alike f g a zero same = refl
sums_alike f g a (suc n) same =
    let here = same a (omega arith) (omega arith) in
    let ih = sums_alike f g (a + 1) n (λ r le lt. same r (omega (arith, le)) (omega (arith, lt))) in
    omega (arith, here, ih, sum_by-cons f a (range_with_len (a + 1) n), sum_by-cons g a (range_with_len (a + 1) n))

pub one_more_in : (f g : ℕ → ℕ) (k a n : ℕ) → a ≤ k → k < a + n → f k ≡ g k + 1 → ((r : ℕ) → (k ≡ r → ⊥) → f r ≡ g r) → sum_by f (range_with_len a n) ≡ sum_by g (range_with_len a n) + 1
one_more_in f g k a zero le lt more same = absurd (omega (arith, le, lt))
one_more_in f g k a (suc n) le lt more same = ⊎_elim
    (λ e.
    let here : f a ≡ g a + 1 = subst (λ x. f x ≡ g x + 1) e more in
    let rest = sums_alike f g (a + 1) n (λ r low high. same r (λ w. absurd (omega (arith, low, e, w)))) in
    omega (arith, here, rest, sum_by-cons f a (range_with_len (a + 1) n), sum_by-cons g a (range_with_len (a + 1) n)))
    (λ other.
    let here = same a other in
    let ih = one_more_in f g k (a + 1) n (omega (arith, le, other)) (omega (arith, lt)) more same in
    omega (arith, here, ih, sum_by-cons f a (range_with_len (a + 1) n), sum_by-cons g a (range_with_len (a + 1) n)))
    (cases_eq k a)

-- a stack's room stays with a state more
abbrev no_stack : StackView
no_stack = record { states = []; every = 1; room = 0 }

pub rooms_more : (stacks : List StackView) (p r : ℕ) (state : checkpoints.State) → p < length stacks → (stack_at (with_state stacks p state) r).room ≡ (stack_at stacks r).room
rooms_more stacks p r state lt = ⊎_elim
    (λ f. subst (λ q. (stack_at (with_state stacks p state) q).room ≡ (stack_at stacks q).room) f
    (ap (λ (s : StackView). s.room) (get_or-set_same stacks p (with_states (stack_at stacks p) ((stack_at stacks p).states ++ state ∷ [])) no_stack lt)))
    (λ other. ap (λ (s : StackView). s.room) (get_or-set_other stacks p r (with_states (stack_at stacks p) ((stack_at stacks p).states ++ state ∷ [])) no_stack (λ f. other (sym f))))
    (cases_eq p r)

-- the logs with one event more
module _ (logs : List (List Event)) (e : Event) (lt : e.role < length logs) where
  pub log_own : (r : ℕ) → e.role ≡ r → log_at (with_event_of logs e.role e) r ≡ log_at logs r ++ e ∷ []
  log_own r same = get_or-set_at logs e.role r _ [] (sym same) lt ∙ ap (λ q. log_at logs q ++ e ∷ []) same

  pub log_other : (r : ℕ) → (e.role ≡ r → ⊥) → log_at (with_event_of logs e.role e) r ≡ log_at logs r
  log_other r other = get_or-set_other logs e.role r _ [] (λ x. other (sym x))

  pub all_more : all_events (with_event_of logs e.role e) ≡ all_events logs + 1
  all_more =
      ap (λ n. sum_by (λ r. length (log_at (with_event_of logs e.role e) r)) (range_with_len 0 n)) (length-set logs e.role _)
      ∙ one_more_in (λ r. length (log_at (with_event_of logs e.role e) r)) (λ r. length (log_at logs r)) e.role 0 (length logs) (omega arith) (omega (arith, lt))
      (ap length (log_own e.role refl) ∙ length-append (log_at logs e.role) (e ∷ []))
      (λ r other. ap length (log_other r other))

-- the numbers with one event more
abbrev advanced : Numbers → Event → Numbers
advanced x e = record x { raw = x.raw + 1; clock = e.stamp }

module _ (numbers : List Numbers) (e : Event) (lt : e.role < length numbers) where
  pub more_own : numbers_at (with_advanced numbers e) e.role ≡ advanced (numbers_at numbers e.role) e
  more_own = get_or-set_same numbers e.role (advanced (numbers_at numbers e.role) e) at_start lt

  pub more_other : (r : ℕ) → (e.role ≡ r → ⊥) → numbers_at (with_advanced numbers e) r ≡ numbers_at numbers r
  more_other r other = get_or-set_other numbers e.role r (advanced (numbers_at numbers e.role) e) at_start (λ f. other (sym f))

  -- a number that isn't set stays
  pub more_same : {A : Type 0} (f : Numbers → A) → f (advanced (numbers_at numbers e.role) e) ≡ f (numbers_at numbers e.role) → (r : ℕ) → f (numbers_at (with_advanced numbers e) r) ≡ f (numbers_at numbers r)
  more_same f same r = ⊎_elim
      (λ own. subst (λ q. f (numbers_at (with_advanced numbers e) q) ≡ f (numbers_at numbers q)) own (ap f more_own ∙ same))
      (λ other. ap f (more_other r other))
      (cases_eq e.role r)

-- a memory with one event more
module _ (g : GuideView) (m : Remembered) (is : IsMemory g m) (e : Event) (lt : e.role < roles_of g) (logs : length g.logs ≡ roles_of g) where
  in_logs : e.role < length g.logs
  in_logs = omega (arith, lt, logs)

  in_numbers : e.role < length g.numbers
  in_numbers = let a = is.numbers_are.all in omega (arith, lt, a)

  own_numbers : AreNumbersOf (after_event m e) e.role (numbers_at (with_advanced g.numbers e) e.role)
  own_numbers =
      let old = is.numbers_are.each e.role lt in
      let have = is.numbers_are.have in
      let counted = counted_here m.roles e.role (counted_more (counted_at m.roles e.role) e.stamp) (let a = have.numbers in omega (arith, lt, a)) in
      subst (λ (x : Numbers). AreNumbersOf (after_event m e) e.role x) (sym (more_own g.numbers e in_numbers))
      (record {
        seeds = old.seeds;
        forgotten = old.forgotten;
        point = old.point;
        raw = ap (λ (x : counts.Numbers). x.raw) counted ∙ ap (λ n. n + 1) old.raw;
        attempt = ap (λ (x : counts.Numbers). x.attempt) counted ∙ old.attempt;
        clock = ap (λ (x : counts.Numbers). x.clock) counted;
        down = ap (λ (x : counts.Numbers). x.crashed) counted ∙ old.down;
      })

  other_numbers : (r : ℕ) → r < roles_of g → (e.role ≡ r → ⊥) → AreNumbersOf (after_event m e) r (numbers_at (with_advanced g.numbers e) r)
  other_numbers r low other =
      let old = is.numbers_are.each r low in
      let counted = counted_else m.roles e.role r (counted_more (counted_at m.roles e.role) e.stamp) other in
      subst (λ (x : Numbers). AreNumbersOf (after_event m e) r x) (sym (more_other g.numbers e in_numbers r other))
      (record {
        seeds = old.seeds;
        forgotten = old.forgotten;
        point = old.point;
        raw = ap (λ (x : counts.Numbers). x.raw) counted ∙ old.raw;
        attempt = ap (λ (x : counts.Numbers). x.attempt) counted ∙ old.attempt;
        clock = ap (λ (x : counts.Numbers). x.clock) counted ∙ old.clock;
        down = ap (λ (x : counts.Numbers). x.crashed) counted ∙ old.down;
      })

  pub memory_more : IsQueued (net_for g) (m.held ++ e ∷ []) → IsMemory (with_event g e) (after_event m e)
  memory_more queued = record {
    events = λ r. ⊎_elim
        (λ same. by_role_own r m.held e same ∙ ap (λ l. l ++ e ∷ []) (is.events r) ∙ sym (log_own g.logs e in_logs r same))
        (λ other. by_role_other r m.held e other ∙ is.events r ∙ sym (log_other g.logs e in_logs r other))
        (cases_eq e.role r);
    queued = queued;
    numbers_are = record {
      have = record {
        seeds = is.numbers_are.have.seeds;
        forgotten = is.numbers_are.have.forgotten;
        points = is.numbers_are.have.points;
        numbers = length-set m.roles e.role _ ∙ is.numbers_are.have.numbers;
      };
      all = length-set g.numbers e.role _ ∙ is.numbers_are.all;
      each = λ r low. ⊎_elim
          (λ same. subst (λ q. AreNumbersOf (after_event m e) q (numbers_at (with_advanced g.numbers e) q)) same own_numbers)
          (λ other. other_numbers r low other)
          (cases_eq e.role r);
    };
  }

-- what is known of an event that may come
pub record IsFitting (g : GuideView) (e : Event) : Type 0 where
  pub declared : e.role < roles_of g
  pub first : 1 ≤ e.point
  pub last : e.point ≤ (net_for g).count
  pub own : IsPlaceOf (net_for g) e.role e.point
  pub later : (numbers_at g.numbers e.role).clock < e.stamp
  pub within : e.stamp ≤ g.told + 1
  pub behind : e.dir ≡ Got → e.sent < e.stamp
  pub sent : e.dir ≡ Sent → e.sent ≡ e.stamp
  pub ends : IsByEnd (net_for g) e

-- and of the ledger with it
pub record IsGrown (ledger now : LedgerView) : Type 0 where
  pub entries : length now.entries ≡ length ledger.entries + 1
  pub most : now.most ≡ ledger.most
  pub room : now.room ≡ ledger.room
  pub rooms : (r : ℕ) → (stack_at now.stacks r).room ≡ (stack_at ledger.stacks r).room

module _ {g : GuideView} {table : TableView} {ledger : LedgerView} (kept : IsGuide g table ledger) (e : Event) (fits : IsFitting g e) where
  in_logs' : e.role < length g.logs
  in_logs' = let a = kept.logs in let b = fits.declared in omega (arith, a, b)

  in_numbers' : e.role < length g.numbers
  in_numbers' = let a = kept.numbers in let b = fits.declared in omega (arith, a, b)

  -- an event of the new logs is an old one, or the new one
  told_or_new : (r n : ℕ) (f : Event) → slice_get (log_at (with_event g e).logs r) n ≡ Some f → (slice_get (log_at g.logs r) n ≡ Some f) ⊎ ((e ≡ f) × (e.role ≡ r))
  told_or_new r n f at = ⊎_elim
      (λ same. ⊎_elim (λ old. inl old) (λ new. inr (new, same))
      (get_more (log_at g.logs r) e f n (subst (λ l. slice_get l n ≡ Some f) (log_own g.logs e in_logs' r same) at)))
      (λ other. inl (subst (λ l. slice_get l n ≡ Some f) (log_other g.logs e in_logs' r other) at))
      (cases_eq e.role r)

  longer : (r : ℕ) → length (log_at g.logs r) ≤ length (log_at (with_event g e).logs r)
  longer r = ⊎_elim
      (λ same. let a = ap length (log_own g.logs e in_logs' r same) in let b = length-append (log_at g.logs r) (e ∷ []) in omega (arith, a, b))
      (λ other. let a = ap length (log_other g.logs e in_logs' r other) in omega (arith, a))
      (cases_eq e.role r)

  first_stay : (r n : ℕ) → n ≤ length (log_at g.logs r) → take n (log_at (with_event g e).logs r) ≡ take n (log_at g.logs r)
  first_stay r n le = ⊎_elim
      (λ same. ap (take n) (log_own g.logs e in_logs' r same) ∙ take_left (log_at g.logs r) (e ∷ []) n le)
      (λ other. ap (take n) (log_other g.logs e in_logs' r other))
      (cases_eq e.role r)

  seeds_stay : (r : ℕ) → (numbers_at (with_event g e).numbers r).seeds ≡ (numbers_at g.numbers r).seeds
  seeds_stay r = more_same g.numbers e in_numbers' (λ (x : Numbers). x.seeds) refl r

  seeds_in : (r : ℕ) → (numbers_at g.numbers r).seeds ≤ length (log_at g.logs r)
  seeds_in r = ⊎_elim
      (λ lt. kept.sound.seeds r lt)
      (λ le. let a = ap (λ (x : Numbers). x.seeds) (none_there g.numbers r at_start (let n = kept.numbers in omega (arith, n, le))) in omega (arith, a))
      (cases_lt r (roles_of g))

  sound_more : IsSoundMemory (with_event g e)
  sound_more = record {
    points = λ r lt. subst (IsPlaceOf (net_for g) r) (sym (more_same g.numbers e in_numbers' (λ (x : Numbers). x.point) refl r)) (kept.sound.points r lt);
    events = λ r n f at. ⊎_elim
        (λ old. kept.sound.events r n f old)
        (λ new. subst (λ (x : Event). (r < roles_of g) × (1 ≤ x.point) × (x.point ≤ (net_for g).count) × IsPlaceOf (net_for g) r x.point) new.0 (subst (λ q. q < roles_of g) new.1 fits.declared, fits.first, fits.last, subst (λ q. IsPlaceOf (net_for g) q e.point) new.1 fits.own))
        (told_or_new r n f at);
    seeds = λ r lt. let a = seeds_stay r in let b = seeds_in r in let c = longer r in omega (arith, a, b, c);
    seeds_are = λ a b. ap (λ n. taken (net_for g) a b (take n (log_at (with_event g e).logs b))) (seeds_stay b) ∙ ap (taken (net_for g) a b) (first_stay b (numbers_at g.numbers b).seeds (seeds_in b)) ∙ kept.sound.seeds_are a b;
    ends = λ r n f at. ⊎_elim
        (λ old. kept.sound.ends r n f old)
        (λ new. subst (IsByEnd (net_for g)) new.0 fits.ends)
        (told_or_new r n f at);
  }

  -- clocks never fall
  clock_up : (r : ℕ) → (numbers_at g.numbers r).clock ≤ (numbers_at (with_event g e).numbers r).clock
  clock_up r = ⊎_elim
      (λ same. subst (λ q. (numbers_at g.numbers q).clock ≤ (numbers_at (with_event g e).numbers q).clock) same (let a = ap (λ (x : Numbers). x.clock) (more_own g.numbers e in_numbers') in let b = fits.later in omega (arith, a, b)))
      (λ other. let a = ap (λ (x : Numbers). x.clock) (more_other g.numbers e in_numbers' r other) in omega (arith, a))
      (cases_eq e.role r)

  -- what stands before the new event stood before
  stood_before : (r i j : ℕ) (d f : Event) → i < j → e.role ≡ r → slice_get (log_at (with_event g e).logs r) i ≡ Some d → slice_get (log_at (with_event g e).logs r) j ≡ Some f → slice_get (log_at g.logs r) i ≡ Some d
  stood_before r i j d f lt same at_i at_j =
      let within = get_below (log_at (with_event g e).logs r) j f at_j in
      let size = ap length (log_own g.logs e in_logs' r same) ∙ length-append (log_at g.logs r) (e ∷ []) in
      sym (get_left (log_at g.logs r) (e ∷ []) i (omega (arith, lt, within, size))) ∙ ap (λ l. slice_get l i) (sym (log_own g.logs e in_logs' r same)) ∙ at_i

  stamped_more : AreStamped (with_event g e)
  stamped_more = record {
    grow = λ r i j d f lt at_i at_j. ⊎_elim
        (λ old_j. ⊎_elim
        (λ old_i. kept.stamped.grow r i j d f lt old_i old_j)
        (λ new_i. kept.stamped.grow r i j d f lt (stood_before r i j d f lt new_i.1 at_i at_j) old_j)
        (told_or_new r i d at_i))
        (λ new_j.
        let before = kept.stamped.within r i d (stood_before r i j d f lt new_j.1 at_i at_j) in
        let later = subst (λ q. (numbers_at g.numbers q).clock < e.stamp) new_j.1 fits.later in
        let is = ap (λ (x : Event). x.stamp) new_j.0 in
        omega (arith, before, later, is))
        (told_or_new r j f at_j);
    within = λ r i d at. ⊎_elim
        (λ old. let a = kept.stamped.within r i d old in let b = clock_up r in omega (arith, a, b))
        (λ new.
        let is = ap (λ (x : Event). x.stamp) new.0 in
        let own = subst (λ q. (numbers_at (with_event g e).numbers q).clock ≡ e.stamp) new.1 (ap (λ (x : Numbers). x.clock) (more_own g.numbers e in_numbers')) in
        omega (arith, is, own))
        (told_or_new r i d at);
    after = λ r i d at got. ⊎_elim
        (λ old. kept.stamped.after r i d old got)
        (λ new. subst (λ (x : Event). x.sent < x.stamp) new.0 (fits.behind (ap (λ (x : Event). x.dir) new.0 ∙ got)))
        (told_or_new r i d at);
    sent = λ r i d at is. ⊎_elim
        (λ old. kept.stamped.sent r i d old is)
        (λ new. subst (λ (x : Event). x.sent ≡ x.stamp) new.0 (fits.sent (ap (λ (x : Event). x.dir) new.0 ∙ is)))
        (told_or_new r i d at);
  }

  few_own : AreFewOf (g.told + 1) (log_at (with_event g e).logs e.role) (numbers_at (with_event g e).numbers e.role)
  few_own = subst (λ (x : Numbers). AreFewOf (g.told + 1) (log_at (with_event g e).logs e.role) x) (sym (more_own g.numbers e in_numbers'))
      (let old = kept.few e.role fits.declared in
      let size = ap length (log_own g.logs e in_logs' e.role refl) ∙ length-append (log_at g.logs e.role) (e ∷ []) in
      let seeds = seeds_in e.role in
      record {
        raw = let a = old.raw in omega (arith, a);
        made = let a = old.made in omega (arith, a, size, seeds);
        attempts = let a = old.attempts in omega (arith, a);
        clocks = fits.within;
      })

  few_other : (r : ℕ) → r < roles_of g → (e.role ≡ r → ⊥) → AreFewOf (g.told + 1) (log_at (with_event g e).logs r) (numbers_at (with_event g e).numbers r)
  few_other r lt other =
      subst (λ (x : Numbers). AreFewOf (g.told + 1) (log_at (with_event g e).logs r) x) (sym (more_other g.numbers e in_numbers' r other))
      (subst (λ l. AreFewOf (g.told + 1) l (numbers_at g.numbers r)) (sym (log_other g.logs e in_logs' r other))
      (let old = kept.few r lt in
      record {
        raw = let a = old.raw in omega (arith, a);
        made = old.made;
        attempts = let a = old.attempts in omega (arith, a);
        clocks = let a = old.clocks in omega (arith, a);
      }))

  pub guide_more : (now : LedgerView) → HasRoom g → IsQueued (net_for g) (kept.holds.memory.held ++ e ∷ []) → HoldsKept (net_for g) (roles_of g) no_vars (kept.holds.memory.held ++ e ∷ []) now → IsGrown ledger now → IsGuide (with_event g e) table now
  guide_more now room queued holds grown = record {
    protocol = kept.protocol;
    planned = kept.planned;
    table_is = kept.table_is;
    logs = length-set g.logs e.role _ ∙ kept.logs;
    numbers = length-set g.numbers e.role _ ∙ kept.numbers;
    holds = record {
      memory = after_event kept.holds.memory e;
      is = memory_more g kept.holds.memory kept.holds.is e fits.declared kept.logs queued;
      holds = holds;
    };
    sound = sound_more;
    stamped = stamped_more;
    told = let a = room.1 in omega (arith, a);
    few = λ r lt. ⊎_elim
        (λ same. subst (λ q. AreFewOf (g.told + 1) (log_at (with_event g e).logs q) (numbers_at (with_event g e).numbers q)) same few_own)
        (λ other. few_other r lt other)
        (cases_eq e.role r);
    rooms = record {
      few = kept.rooms.few;
      used = let a = kept.rooms.used in let b = grown.entries in omega (arith, a, b);
      filled = let a = room.0 in omega (arith, a);
      logged = let a = kept.rooms.logged in let b = all_more g.logs e in_logs' in omega (arith, a, b);
      most = let a = kept.rooms.most in let b = grown.most in omega (arith, a, b);
      events = let a = kept.rooms.events in let b = grown.room in omega (arith, a, b);
      states = λ r lt. let a = kept.rooms.states r lt in let b = grown.rooms r in omega (arith, a, b);
    };
  }
