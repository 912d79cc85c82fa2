-- The events of all logs are merged in the order of their stamps.
use Rattle.std.proofs.Common.{◌≡◌, ℕ, zero, suc, ◌+◌, ◌-◌, ◌<◌, ◌≤◌, Bool, true, false, cond, Some, List, [], ◌∷◌, ◌++◌, length, length-set, take, drop, flat_map, refl, sym, ◌∙◌, ap, subst, ◌⊎◌, inl, inr, ⊎_elim, append-nil, append_assoc, eq-eqb, arith}
use Rattle.std.specs.Prelude.{◌==◌, All, slice_get, slice_index, slice_set}
use Rattle.std.specs.List.{range_with_len}
use Rattle.std.proofs.Math.ListN.{drop_of_length-le}
use Rattle.std.proofs.lemmas.Bool.{cases_eq, cases_lt}
use Rattle.std.proofs.lemmas.List.{get_or-set_same, get_or-set_other}
use Rattle.std.proofs.lemmas.Grind.{flat_map-append}
use Rattle.std.proofs.lemmas.List.Concat.{flat_map-cons}
use Rattle.std.proofs.lemmas.List.Elements.{All-nil, All-cons, All-append, All-take}
use Rattle.std.proofs.lemmas.List.Sorted.{IsNonDecreasingBy-short, IsNonDecreasingBy-push}
use Rattle.std.proofs.lemmas.Option.{slice_get-get_or}
use Rattle.rcv_tree.specs.declared.event.Event.{Event}
use Rattle.rcv_model.specs.Journal.{events_of}
use Rattle.rcv_model.proofs.Explained.{by_role_own}
use Rattle.rcv_model.proofs.Keeping.{by_role_other}
use Rattle.rcv_model.proofs.Lists.{some_same}
use Rattle.rcv_model.proofs.Located.{get_below}
use Rattle.rcv_tables.specs.Rows.{TableView}
use Rattle.rcv_ledger.specs.Logs.{log_at}
use Rattle.rcv_ledger.specs.Ledger.{LedgerView}
use Rattle.rcv_ledger.proofs.Lists.{none_there}
use Rattle.rcv_guide.specs.declared.renewal.Front.{Front}
use Rattle.rcv_guide.specs.Numbers.{numbers_at}
use Rattle.rcv_guide.specs.Guide.{GuideView, roles_of, IsGuide}
use Rattle.rcv_guide.specs.Renewal.{AreAllPassed, IsLeast, left_in}
use Rattle.rcv_guide.specs.Remembered.{seeds_at, seeds_of, IsDeclaredIn, AreRemembered, AreInOrder, IsMerge, IsMerging}
use Rattle.rcv_guide.proofs.Growing.{one_more_in}
use Rattle.rcv_guide.proofs.Guides.{few_log}
use Rattle.rcv_guide.proofs.Ordering.{guide_ordered}
use Rattle.rcv_guide.proofs.Passing.{logged}
use Rattle.rcv_guide.proofs.Shortening.{get_behind}

-- ---- lists

-- what is dropped to begins with the item there
drop_here : {A : Type 0} (n : ℕ) (xs : List A) (x : A) → slice_get xs n ≡ Some x → drop n xs ≡ x ∷ drop (suc n) xs
drop_here n [] x at = absurd (cc)
drop_here zero (y ∷ xs) x at = ap (λ z. z ∷ xs) (some_same at)
drop_here (suc n) (y ∷ xs) x at = drop_here n xs x at

-- an item of a list with one more
pushed : {A : Type 0} (xs : List A) (y x : A) (i : ℕ) → slice_get (xs ++ y ∷ []) i ≡ Some x → (slice_get xs i ≡ Some x) ⊎ (y ≡ x)
pushed [] y x zero at = inr (some_same at)
pushed [] y x (suc i) at = absurd (cc)
pushed (z ∷ xs) y x zero at = inl at
pushed (z ∷ xs) y x (suc i) at = pushed xs y x i at

-- what holds at each place holds of all
from_places : {A : Type 0} (P : A → Type 0) (xs : List A) → ((n : ℕ) (x : A) → slice_get xs n ≡ Some x → P x) → All P xs
from_places P xs each k d lt = each k _ (slice_get-get_or xs k d lt)

-- and so does what holds of each role's events
of_each : (P : Event → Type 0) (h : List Event) → ((r n : ℕ) (e : Event) → slice_get (events_of r h) n ≡ Some e → P e) → All P h
of_each P [] each = All-nil P
of_each P (e ∷ h) each =
    All-cons P e h
    (each e.role 0 e (ap (λ b. slice_get (cond b (e ∷ events_of e.role h) (events_of e.role h)) 0) (eq-eqb e.role e.role refl)))
    (of_each P h (λ r n f at. later r n f at (e.role == r) refl))
  where
    later : (r n : ℕ) (f : Event) → slice_get (events_of r h) n ≡ Some f → (b : Bool) → (e.role == r) ≡ b → P f
    later r n f at true t = each r (suc n) f (ap (λ b. slice_get (cond b (e ∷ events_of r h) (events_of r h)) (suc n)) t ∙ at)
    later r n f at false t = each r n f (ap (λ b. slice_get (cond b (e ∷ events_of r h) (events_of r h)) n) t ∙ at)

-- one number more
range_more : (a n : ℕ) → range_with_len a (suc n) ≡ range_with_len a n ++ (a + n) ∷ []
range_more a zero = ap (λ k. k ∷ []) (omega arith)
range_more a (suc n) = ap (λ l. a ∷ l) (range_more (a + 1) n ∙ ap (λ k. range_with_len (a + 1) n ++ k ∷ []) (omega arith))

pub seeds_more : (f : ℕ → List Event) (n : ℕ) → flat_map f (range_with_len 0 (n + 1)) ≡ flat_map f (range_with_len 0 n) ++ f n
seeds_more f n =
    let up : n + 1 ≡ suc n = omega arith in
    let same : 0 + n ≡ n = omega arith in
    ap (λ k. flat_map f (range_with_len 0 k)) up ∙ ap (flat_map f) (range_more 0 n) ∙ flat_map-append f (range_with_len 0 n) ((0 + n) ∷ [])
    ∙ ap (λ l. flat_map f (range_with_len 0 n) ++ l) (flat_map-cons f (0 + n) [] ∙ append-nil (f (0 + n)) ∙ ap f same)

all_mapped : (P : Event → Type 0) (f : ℕ → List Event) (rs : List ℕ) → ((r : ℕ) → All P (f r)) → All P (flat_map f rs)
all_mapped P f [] each = All-nil P
all_mapped P f (r ∷ rs) each = subst (All P) (sym (flat_map-cons f r rs)) (All-append P (f r) (flat_map f rs) (each r) (all_mapped P f rs each))

-- ---- the merge

pub merge_first : (logs : List (List Event)) (starts : List ℕ) → length starts ≡ 8 → IsMerging logs starts starts []
merge_first logs starts eight = record {
  eight = eight;
  each = λ r. refl;
  sorted = IsNonDecreasingBy-short (λ (e : Event). e.stamp) [] (omega arith);
  below = λ r i e f at next. absurd (none i e at);
}
  where
    none : (i : ℕ) (e : Event) → slice_get [] i ≡ Some e → ⊥
    none i e at = absurd (cc)

-- the next event with the least stamp is added
module _ (logs : List (List Event)) (o : AreInOrder logs) (starts places : List ℕ) (events : List Event) (is : IsMerging logs starts places events) (front : Front) (least : IsLeast logs places (length logs) front) (e : Event) (there : slice_get (log_at logs front.role) (slice_index places front.role) ≡ Some e) where
  abbrev n : ℕ
  n = slice_index places front.role

  abbrev now : List ℕ
  now = slice_set places front.role (n + 1)

  stamp : e.stamp ≡ front.stamp
  stamp = ap (λ (f : Event). f.stamp) (some_same (sym there ∙ least.there)) ∙ least.stamp

  own : e.role ≡ front.role
  own = o.own front.role n e there

  count_own : slice_index now front.role ≡ n + 1
  count_own = get_or-set_same places front.role (n + 1) 0 (let a = is.eight in let b = least.role in let c = o.few in omega (arith, a, b, c))

  count_other : (q : ℕ) → (q ≡ front.role → ⊥) → slice_index now q ≡ slice_index places q
  count_other q other = get_or-set_other places front.role q (n + 1) 0 other

  each_own : events_of front.role (events ++ e ∷ []) ++ drop (slice_index now front.role) (log_at logs front.role) ≡ drop (slice_index starts front.role) (log_at logs front.role)
  each_own =
      let up : slice_index now front.role ≡ suc n = (let a = count_own in omega (arith, a)) in
      ap (λ l. l ++ drop (slice_index now front.role) (log_at logs front.role)) (by_role_own front.role events e own)
      ∙ append_assoc (events_of front.role events) (e ∷ []) (drop (slice_index now front.role) (log_at logs front.role))
      ∙ ap (λ k. events_of front.role events ++ e ∷ drop k (log_at logs front.role)) up
      ∙ ap (λ l. events_of front.role events ++ l) (sym (drop_here n (log_at logs front.role) e there))
      ∙ is.each front.role

  each_other : (q : ℕ) → (q ≡ front.role → ⊥) → events_of q (events ++ e ∷ []) ++ drop (slice_index now q) (log_at logs q) ≡ drop (slice_index starts q) (log_at logs q)
  each_other q other =
      ap (λ l. l ++ drop (slice_index now q) (log_at logs q)) (by_role_other q events e (λ f. other (sym f ∙ own)))
      ∙ ap (λ k. events_of q events ++ drop k (log_at logs q)) (count_other q other)
      ∙ is.each q

  -- it isn't above the next ones
  next_own : (f : Event) → slice_get (log_at logs front.role) (slice_index now front.role) ≡ Some f → e.stamp < f.stamp
  next_own f at = o.grow front.role n (n + 1) e f (omega arith) there (ap (slice_get (log_at logs front.role)) (sym count_own) ∙ at)

  next_other : (q : ℕ) (f : Event) → (q ≡ front.role → ⊥) → slice_get (log_at logs q) (slice_index now q) ≡ Some f → e.stamp ≤ f.stamp
  next_other q f other at =
      let here = ap (slice_get (log_at logs q)) (sym (count_other q other)) ∙ at in
      let a = least.least q f (logged logs q (slice_index places q) f here) here in
      let b = stamp in
      omega (arith, a, b)

  old_below : (i : ℕ) (d : Event) → slice_get events i ≡ Some d → d.stamp ≤ e.stamp
  old_below i d at = is.below front.role i d e at there

  below_more : (q i : ℕ) (d f : Event) → slice_get (events ++ e ∷ []) i ≡ Some d → slice_get (log_at logs q) (slice_index now q) ≡ Some f → d.stamp ≤ f.stamp
  below_more q i d f at next = ⊎_elim
      (λ same.
      let after = next_own f (subst (λ r. slice_get (log_at logs r) (slice_index now r) ≡ Some f) same next) in
      ⊎_elim
      (λ old. let a = old_below i d old in omega (arith, a, after))
      (λ new. let b = ap (λ (x : Event). x.stamp) new in omega (arith, b, after))
      (pushed events e d i at))
      (λ other. ⊎_elim
      (λ old. is.below q i d f old (ap (slice_get (log_at logs q)) (sym (count_other q other)) ∙ next))
      (λ new. let a = next_other q f other next in let b = ap (λ (x : Event). x.stamp) new in omega (arith, a, b))
      (pushed events e d i at))
      (cases_eq q front.role)

  pub merge_more : IsMerging logs starts now (events ++ e ∷ [])
  merge_more = record {
    eight = length-set places front.role (n + 1) ∙ is.eight;
    each = λ r. ⊎_elim
        (λ same. subst (λ q. events_of q (events ++ e ∷ []) ++ drop (slice_index now q) (log_at logs q) ≡ drop (slice_index starts q) (log_at logs q)) (sym same) each_own)
        (λ other. each_other r other)
        (cases_eq r front.role);
    sorted = IsNonDecreasingBy-push (λ (x : Event). x.stamp) events e is.sorted
        (λ d some. old_below (length events - 1) _ (slice_get-get_or events (length events - 1) d (omega (arith, some))));
    below = below_more;
  }

  pub merge_less : left_in logs places ≡ left_in logs now + 1
  merge_less = one_more_in (λ q. length (log_at logs q) - slice_index places q) (λ q. length (log_at logs q) - slice_index now q) front.role 0 (length logs) (omega arith) (let lt = least.role in omega (arith, lt))
      (let a = count_own in let b = get_below (log_at logs front.role) n e there in omega (arith, a, b))
      (λ q other. ap (λ k. length (log_at logs q) - k) (sym (count_other q (λ f. other (sym f)))))

-- in the end all are there
pub merge_last : (logs : List (List Event)) (starts places : List ℕ) (events : List Event) → IsMerging logs starts places events → AreAllPassed logs places (length logs) → IsMerge logs starts events
merge_last logs starts places events is passed = record {
  each = λ r. sym (ap (λ l. events_of r events ++ l) (drop_of_length-le (log_at logs r) (none_left r)) ∙ append-nil (events_of r events)) ∙ is.each r;
  sorted = is.sorted;
}
  where
    none_left : (r : ℕ) → length (log_at logs r) ≤ slice_index places r
    none_left r = ⊎_elim (λ lt. passed r lt) (λ le. let a = ap length (none_there logs r [] le) in omega (arith, a)) (cases_lt r (length logs))

-- ---- those of a guide

module _ {g : GuideView} {table : TableView} {ledger : LedgerView} (kept : IsGuide g table ledger) where
  pub in_order : AreInOrder g.logs
  in_order = record {
    few = (guide_ordered kept).few;
    small = few_log kept;
    own = λ r n e at. ((guide_ordered kept).sound r n e at).role;
    grow = kept.stamped.grow;
  }

  declared_at : (r n : ℕ) (e : Event) → slice_get (log_at g.logs r) n ≡ Some e → IsDeclaredIn g e
  declared_at r n e at =
      let s = kept.sound.events r n e at in
      record { role = subst (λ q. q < roles_of g) (sym (((guide_ordered kept).sound r n e at).role)) s.0; first = s.1; last = s.2 }

  -- its seeds
  pub seeds_are : seeds_of g ≡ flat_map (λ r. take (numbers_at g.numbers r).seeds (log_at g.logs r)) (range_with_len 0 (length g.numbers))
  seeds_are = ap (λ n. flat_map (seeds_at g) (range_with_len 0 n)) (sym kept.numbers)

  pub seeds_declared : All (IsDeclaredIn g) (seeds_of g)
  seeds_declared = all_mapped (IsDeclaredIn g) (seeds_at g) (range_with_len 0 (roles_of g)) (λ r. All-take (IsDeclaredIn g) (numbers_at g.numbers r).seeds (log_at g.logs r) (from_places (IsDeclaredIn g) (log_at g.logs r) (declared_at r)))

  -- and what is behind them
  pub remembers : (starts : List ℕ) (events : List Event) → ((r : ℕ) → r < length g.numbers → slice_index starts r ≡ (numbers_at g.numbers r).seeds) → IsMerge g.logs starts events → AreRemembered g events
  remembers starts events start is = record {
    each = each_is;
    sorted = is.sorted;
    declared = of_each (IsDeclaredIn g) events (λ r n e at. declared_at r ((numbers_at g.numbers r).seeds + n) e (sym (get_behind (numbers_at g.numbers r).seeds n (log_at g.logs r)) ∙ ap (λ l. slice_get l n) (sym (each_is r)) ∙ at));
  }
    where
      each_is : (r : ℕ) → events_of r events ≡ drop (numbers_at g.numbers r).seeds (log_at g.logs r)
      each_is r = is.each r ∙ ⊎_elim
          (λ lt. ap (λ k. drop k (log_at g.logs r)) (start r lt))
          (λ le.
          let none = ap length (none_there g.logs r [] (let a = kept.logs in let b = kept.numbers in omega (arith, a, b, le))) in
          drop_of_length-le (log_at g.logs r) (omega (arith, none)) ∙ sym (drop_of_length-le (log_at g.logs r) (omega (arith, none))))
          (cases_lt r (length g.numbers))
