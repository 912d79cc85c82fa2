-- What a guide keeps stays where it forgets.
use Rattle.std.proofs.Common.{◌≡◌, ℕ, zero, suc, ◌+◌, ◌-◌, ◌<◌, ◌≤◌, ◌^◌, Bool, true, false, cond, Option, Some, None, List, [], ◌∷◌, ◌++◌, length, length-append, length-drop, take, drop, refl, sym, ◌∙◌, ap, subst, ⊎_elim, append-nil, arith}
use Rattle.std.specs.Prelude.{slice_get, slice_index}
use Rattle.std.proofs.Math.ListN.{drop_of_length-le}
use Rattle.std.proofs.lemmas.Bool.{cases_lt}
use Rattle.rcv_tree.specs.declared.event.Event.{Event}
use Rattle.rcv_model.specs.Net.{Net}
use Rattle.rcv_model.specs.Run.{taken}
use Rattle.rcv_model.specs.Next.{IsPlaceOf}
use Rattle.rcv_model.proofs.Lists.{some_same}
use Rattle.rcv_model.proofs.Located.{item, get_below}
use Rattle.rcv_ledger.specs.Logs.{log_at}
use Rattle.rcv_ledger.specs.Ledger.{LedgerView, HoldsKept}
use Rattle.rcv_ledger.proofs.Lists.{get_left, none_there, take_left, take_whole}
use Rattle.rcv_told.specs.Told.{Remembered}
use Rattle.rcv_guide.specs.declared.numbers.Numbers.{Numbers}
use Rattle.rcv_guide.specs.Numbers.{at_start, numbers_at}
use Rattle.rcv_guide.specs.Failing.{all_events}
use Rattle.rcv_guide.specs.Guide.{GuideView, net_for, roles_of, no_vars, IsMemory, IsSoundMemory, AreStamped, AreFewOf, HasRooms, MayForget}
use Rattle.rcv_guide.specs.Renewal.{AreOrdered, AreEnds, stays_at, one_staying, staying, AreForgotten, IsRenewed}
use Rattle.rcv_guide.proofs.Forgetting.{forgot, fresh_log, number_is, new_seeds, point_none, point_some}
use Rattle.rcv_guide.proofs.Passing.{logged}
use Rattle.rcv_guide.proofs.Shortening.{get_behind}
use Rattle.rcv_guide.proofs.Staying.{taken_staying}

-- an event that stays is one of the log, and they stay in their order
record StandsAt (log : List Event) (n : ℕ) (e : Event) : Type 0 where
  pub place : ℕ
  pub low : place < n
  pub there : slice_get log place ≡ Some e

record StandBoth (log : List Event) (n : ℕ) (e f : Event) : Type 0 where
  pub place : ℕ
  pub first : slice_get log place ≡ Some e
  pub other : ℕ
  pub then : slice_get log other ≡ Some f
  pub later : place < other

-- an item of a list with one or none more
in_more : {A : Type 0} (xs : List A) (b : Bool) (x y : A) (i : ℕ) → slice_get (xs ++ cond b (x ∷ []) []) i ≡ Some y → length xs ≤ i → (x ≡ y) × (i ≡ length xs)
in_more [] true x y zero at le = (some_same at, refl)
in_more [] true x y (suc i) at le = absurd (cc)
in_more [] false x y i at le = absurd (cc)
in_more (z ∷ xs) b x y zero at le = absurd (omega (arith, le))
in_more (z ∷ xs) b x y (suc i) at le = let r = in_more xs b x y i at (omega (arith, le)) in (r.0, ap suc r.1)

module _ (net : Net) (logs : List (List Event)) (ends : List ℕ) (r : ℕ) where
  stands_one : (n : ℕ) → ((i : ℕ) (e : Event) → slice_get (staying net logs ends r n) i ≡ Some e → StandsAt (log_at logs r) n e) → (x : Option Event) → slice_get (log_at logs r) n ≡ x
      → (i : ℕ) (e : Event) → slice_get (staying net logs ends r n ++ one_staying net logs ends r n x) i ≡ Some e → StandsAt (log_at logs r) (suc n) e
  stands_one n ih x at i e here = ⊎_elim
      (λ lt. let a = ih i e (sym (get_left (staying net logs ends r n) (one_staying net logs ends r n x) i lt) ∙ here) in let low = a.low in record { place = a.place; low = omega (arith, low); there = a.there })
      (λ le. new x at here le)
      (cases_lt i (length (staying net logs ends r n)))
    where
      new : (x : Option Event) → slice_get (log_at logs r) n ≡ x → slice_get (staying net logs ends r n ++ one_staying net logs ends r n x) i ≡ Some e → length (staying net logs ends r n) ≤ i → StandsAt (log_at logs r) (suc n) e
      new None at here le = absurd (let below = get_below (staying net logs ends r n ++ []) i e here in let size = ap length (append-nil (staying net logs ends r n)) in omega (arith, le, below, size))
      new (Some f) at here le =
          let m = in_more (staying net logs ends r n) (stays_at net logs ends r n f) f e i here le in
          record { place = n; low = omega arith; there = at ∙ ap Some m.0 }

  stands_at : (n i : ℕ) (e : Event) → slice_get (staying net logs ends r n) i ≡ Some e → StandsAt (log_at logs r) n e
  stands_at zero i e at = absurd (cc)
  stands_at (suc n) i e at = stands_one n (stands_at n) (slice_get (log_at logs r) n) refl i e at

  both_one : (n : ℕ) → ((i j : ℕ) (e f : Event) → i < j → slice_get (staying net logs ends r n) i ≡ Some e → slice_get (staying net logs ends r n) j ≡ Some f → StandBoth (log_at logs r) n e f) → (x : Option Event) → slice_get (log_at logs r) n ≡ x
      → (i j : ℕ) (e f : Event) → i < j → slice_get (staying net logs ends r n ++ one_staying net logs ends r n x) i ≡ Some e → slice_get (staying net logs ends r n ++ one_staying net logs ends r n x) j ≡ Some f → StandBoth (log_at logs r) (suc n) e f
  both_one n ih x at i j e f lt here there = ⊎_elim
      (λ low.
      let a = ih i j e f lt
      (sym (get_left (staying net logs ends r n) (one_staying net logs ends r n x) i (omega (arith, lt, low))) ∙ here)
      (sym (get_left (staying net logs ends r n) (one_staying net logs ends r n x) j low) ∙ there) in
      record { place = a.place; first = a.first; other = a.other; then = a.then; later = a.later })
      (λ le. new x at here there le)
      (cases_lt j (length (staying net logs ends r n)))
    where
      new : (x : Option Event) → slice_get (log_at logs r) n ≡ x → slice_get (staying net logs ends r n ++ one_staying net logs ends r n x) i ≡ Some e → slice_get (staying net logs ends r n ++ one_staying net logs ends r n x) j ≡ Some f → length (staying net logs ends r n) ≤ j → StandBoth (log_at logs r) (suc n) e f
      new None at here there le = absurd (let below = get_below (staying net logs ends r n ++ []) j f there in let size = ap length (append-nil (staying net logs ends r n)) in omega (arith, le, below, size))
      new (Some g) at here there le =
          let m = in_more (staying net logs ends r n) (stays_at net logs ends r n g) g f j there le in
          let last = m.1 in
          let a = stands_at n i e (sym (get_left (staying net logs ends r n) (one_staying net logs ends r n (Some g)) i (omega (arith, lt, last))) ∙ here) in
          record { place = a.place; first = a.there; other = n; then = at ∙ ap Some m.0; later = a.low }

  stand_both : (n i j : ℕ) (e f : Event) → i < j → slice_get (staying net logs ends r n) i ≡ Some e → slice_get (staying net logs ends r n) j ≡ Some f → StandBoth (log_at logs r) n e f
  stand_both zero i j e f lt at_i at_j = absurd (cc)
  stand_both (suc n) i j e f lt at_i at_j = both_one n (stand_both n) (slice_get (log_at logs r) n) refl i j e f lt at_i at_j

module _ (g : GuideView) (counts ends : List ℕ) (many : length g.logs ≡ roles_of g) (numbered : length g.numbers ≡ roles_of g) (o : AreOrdered (net_for g) g.logs) (forget : MayForget g counts) (are : AreEnds g.numbers counts ends) (room : ℕ) (fresh : LedgerView) (is : IsRenewed (net_for g) g.logs ends room fresh) (new : List Numbers) (set : AreForgotten g.numbers new g.logs fresh.logs counts ends) where
  log_staying : (r : ℕ) → log_at fresh.logs r ≡ staying (net_for g) g.logs ends r (length (log_at g.logs r))
  log_staying r = is.holds.log r ∙ is.stay r

  old_event : (r i : ℕ) (e : Event) → slice_get (log_at fresh.logs r) i ≡ Some e → StandsAt (log_at g.logs r) (length (log_at g.logs r)) e
  old_event r i e at = stands_at (net_for g) g.logs ends r (length (log_at g.logs r)) i e (ap (λ l. slice_get l i) (sym (log_staying r)) ∙ at)

  declared : (r i : ℕ) (e : Event) → slice_get (log_at fresh.logs r) i ≡ Some e → r < roles_of g
  declared r i e at = let lt = logged fresh.logs r i e at in let a = is.holds.logs in omega (arith, lt, a, many)

  abbrev now : GuideView
  now = forgot g counts ends many numbered o forget are room fresh is new set (length fresh.entries)

  seeds_now : (r : ℕ) → r < roles_of g → (numbers_at new r).seeds ≡ length (staying (net_for g) g.logs ends r (slice_index ends r))
  seeds_now r lt = new_seeds g counts ends many numbered o forget are room fresh is new set r lt

  size_now : (r : ℕ) → r < roles_of g → length (log_at fresh.logs r) ≡ (numbers_at new r).seeds + (length (log_at g.logs r) - slice_index ends r)
  size_now r lt =
      let a = ap length (fresh_log g counts ends many numbered o forget are room fresh is new set r lt) in
      let b = length-append (staying (net_for g) g.logs ends r (slice_index ends r)) (drop (slice_index ends r) (log_at g.logs r)) in
      let c = length-drop (slice_index ends r) (log_at g.logs r) in
      let d = seeds_now r lt in
      omega (arith, a, b, c, d)

  module _ (sound : IsSoundMemory g) where
    own_point : (m : Remembered) (mem : IsMemory g m) (r : ℕ) → r < roles_of g → (c : ℕ) → slice_index counts r ≡ c → IsPlaceOf (net_for g) r (numbers_at new r).point
    own_point m mem r lt zero e = subst (IsPlaceOf (net_for g) r) (sym (point_none g counts ends many numbered o forget are room fresh is new set m mem r lt e)) (sound.points r lt)
    own_point m mem r lt (suc n) e =
        let seeds = (numbers_at g.numbers r).seeds in
        let x = item (drop (numbers_at g.numbers r).seeds (log_at g.logs r)) n (let a = forget.held r lt in let b = length-drop (numbers_at g.numbers r).seeds (log_at g.logs r) in omega (arith, a, b, e)) in
        subst (IsPlaceOf (net_for g) r) (sym (point_some g counts ends many numbered o forget are room fresh is new set m mem r lt n e x.0 x.1))
        (sound.events r ((numbers_at g.numbers r).seeds + n) x.0 (sym (get_behind (numbers_at g.numbers r).seeds n (log_at g.logs r)) ∙ x.1)).3

    pub sound_now : (m : Remembered) → IsMemory g m → IsSoundMemory now
    sound_now m mem = record {
      points = λ r lt. own_point m mem r lt (slice_index counts r) refl;
      events = λ r n e at. let a = old_event r n e at in sound.events r a.place e a.there;
      seeds = λ r lt. let a = size_now r lt in omega (arith, a);
      seeds_are = λ a b. ⊎_elim
          (λ lt.
          ap (λ n. taken (net_for g) a b (take n (log_at fresh.logs b))) (seeds_now b lt)
          ∙ ap (λ l. taken (net_for g) a b (take (length (staying (net_for g) g.logs ends b (slice_index ends b))) l)) (fresh_log g counts ends many numbered o forget are room fresh is new set b lt)
          ∙ ap (taken (net_for g) a b) (take_left (staying (net_for g) g.logs ends b (slice_index ends b)) (drop (slice_index ends b) (log_at g.logs b)) (length (staying (net_for g) g.logs ends b (slice_index ends b))) (omega arith) ∙ take_whole (staying (net_for g) g.logs ends b (slice_index ends b)))
          ∙ taken_staying (net_for g) g.logs ends a b (slice_index ends b)
          ∙ drop_of_length-le (taken (net_for g) a b (take (slice_index ends b) (log_at g.logs b))) (omega arith))
          (λ le. ap (λ (x : Numbers). taken (net_for g) a b (take x.seeds (log_at fresh.logs b))) (none_there new b at_start (let a = set.all in omega (arith, a, numbered, le))))
          (cases_lt b (roles_of g));
      ends = λ r n e at. let a = old_event r n e at in sound.ends r a.place e a.there;
    }

  pub stamped_now : AreStamped g → AreStamped now
  stamped_now stamped = record {
    grow = λ r i j e f lt at_i at_j.
        let a = stand_both (net_for g) g.logs ends r (length (log_at g.logs r)) i j e f lt (ap (λ l. slice_get l i) (sym (log_staying r)) ∙ at_i) (ap (λ l. slice_get l j) (sym (log_staying r)) ∙ at_j) in
        stamped.grow r a.place a.other e f a.later a.first a.then;
    within = λ r i e at.
        let a = old_event r i e at in
        let b = stamped.within r a.place e a.there in
        let same = ap (λ (x : Numbers). x.clock) (number_is g counts ends many numbered o forget are room fresh is new set r (declared r i e at)) in
        omega (arith, b, same);
    after = λ r i e at got. let a = old_event r i e at in stamped.after r a.place e a.there got;
    sent = λ r i e at d. let a = old_event r i e at in stamped.sent r a.place e a.there d;
  }

  pub few_now : ((r : ℕ) → r < roles_of g → AreFewOf g.told (log_at g.logs r) (numbers_at g.numbers r)) → (r : ℕ) → r < roles_of g → AreFewOf g.told (log_at fresh.logs r) (numbers_at new r)
  few_now few r lt =
      let old = few r lt in
      let number = number_is g counts ends many numbered o forget are room fresh is new set r lt in
      let raw = ap (λ (x : Numbers). x.raw) number in
      let attempt = ap (λ (x : Numbers). x.attempt) number in
      let clock = ap (λ (x : Numbers). x.clock) number in
      let forgotten = ap (λ (x : Numbers). x.forgotten) number in
      let a = old.raw in
      let b = old.made in
      let c = old.attempts in
      let d = old.clocks in
      let size = size_now r lt in
      let end = are.each r (omega (arith, lt, numbered)) in
      let held = forget.held r lt in
      record {
        raw = omega (arith, raw, a);
        made = omega (arith, raw, forgotten, b, size, end, held);
        attempts = omega (arith, attempt, c);
        clocks = omega (arith, clock, d);
      }

  pub rooms_now : room < 2 ^ 31 → all_events g.logs ≤ room → HasRooms now fresh
  rooms_now small fits = record {
    few = small;
    used = refl;
    filled = let a = is.few in omega (arith, a, fits);
    logged = let a = is.entries in omega (arith, a);
    most = let a = is.rooms.most in omega (arith, a);
    events = let a = is.rooms.events in omega (arith, a);
    states = λ r lt. let a = is.rooms.states r (let b = is.holds.stacks in omega (arith, b, lt, many)) in omega (arith, a);
  }

  pub holds_now : (h : List Event) → h ≡ is.held → HoldsKept (net_for g) (roles_of g) no_vars h fresh
  holds_now h e = subst (λ l. HoldsKept (net_for g) (roles_of g) no_vars l fresh) (sym e) (subst (λ n. HoldsKept (net_for g) n no_vars is.held fresh) many is.holds)
