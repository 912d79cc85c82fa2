-- Lists that are set place by place, or to which items are added one by one.
use Rattle.std.proofs.Common.{◌≡◌, ℕ, zero, suc, ◌+◌, ◌<◌, Bool, true, false, cond, Some, List, [], ◌∷◌, ◌++◌, length, length-set, length-append, replicate, map, take, drop, refl, sym, ◌∙◌, ap, subst, ⊎_elim, append_assoc, append-nil, eq-eqb, arith}
use Rattle.std.specs.Prelude.{◌==◌, nat_lt, slice_get, slice_set, slice_index, slice_index_or, All}
use Rattle.std.specs.List.{range_with_len, sum_by}
use Rattle.std.proofs.lemmas.Bool.{cases_eq}
use Rattle.std.proofs.lemmas.Bool.Decides.{nat_tests}
use Rattle.std.proofs.lemmas.List.{get_or-set_same, get_or-set_other, set-get_or, get_or_append_left}
use Rattle.std.proofs.lemmas.List.Elements.{All-head, All-tail}
use Rattle.std.proofs.lemmas.List.Sums.{sum_by-cons}
use Rattle.rcv_tree.specs.declared.event.Event.{Event}
use Rattle.rcv_model.specs.Journal.{events_of}
use Rattle.rcv_model.proofs.Lists.{some_same}
use Rattle.rcv_ledger.specs.Logs.{log_at, with_event_of}
use Rattle.rcv_ledger.proofs.Lists.{take_whole}
use Rattle.rcv_saves.specs.Counts.{IsAscending, with_count, below, above}
use Rattle.rcv_guide.specs.declared.numbers.Numbers.{Numbers}
use Rattle.rcv_guide.specs.Numbers.{at_start, numbers_at}
use Rattle.rcv_guide.specs.Failing.{all_events}
use Rattle.rcv_guide.proofs.Growing.{all_more}
use Rattle.rcv_guide.proofs.Renewing.{each_same}

-- lists are one where they agree at each place
pub lists_same : {A : Type 0} (xs ys : List A) → length xs ≡ length ys → ((r : ℕ) → r < length xs → slice_get xs r ≡ slice_get ys r) → xs ≡ ys
lists_same [] [] size same = refl
lists_same [] (y ∷ ys) size same = absurd (omega (arith, size))
lists_same (x ∷ xs) [] size same = absurd (omega (arith, size))
lists_same (x ∷ xs) (y ∷ ys) size same =
    ap (λ z. z ∷ xs) (some_same (same 0 (omega arith))) ∙ ap (λ l. y ∷ l) (lists_same xs ys (omega (arith, size)) (λ r lt. same (suc r) (omega (arith, lt))))

-- ---- each place is set to its item
abbrev pub set_all : {A : Type 0} → (ℕ → A) → List A → List ℕ → List A
set_all f xs [] = xs
set_all f xs (r ∷ rs) = set_all f (slice_set xs r (f r)) rs

take_set : {A : Type 0} (xs : List A) (a : ℕ) (v : A) → a < length xs → take (suc a) (slice_set xs a v) ≡ take a xs ++ v ∷ []
take_set [] a v lt = absurd (omega (arith, lt))
take_set (x ∷ xs) zero v lt = refl
take_set (x ∷ xs) (suc a) v lt = ap (λ l. x ∷ l) (take_set xs a v (omega (arith, lt)))

set_from : {A : Type 0} (f : ℕ → A) (n a : ℕ) (xs : List A) → length xs ≡ a + n → set_all f xs (range_with_len a n) ≡ take a xs ++ map f (range_with_len a n)
set_from f zero a xs size =
    let whole : a ≡ length xs = omega (arith, size) in
    sym (append-nil (take a xs) ∙ ap (λ k. take k xs) whole ∙ take_whole xs)
set_from f (suc n) a xs size =
    let long : length (slice_set xs a (f a)) ≡ a + 1 + n = (let l = length-set xs a (f a) in omega (arith, size, l)) in
    let here : a < length xs = omega (arith, size) in
    let next : a + 1 ≡ suc a = omega arith in
    set_from f n (a + 1) (slice_set xs a (f a)) long
    ∙ ap (λ l. l ++ map f (range_with_len (a + 1) n)) (ap (λ k. take k (slice_set xs a (f a))) next ∙ take_set xs a (f a) here)
    ∙ append_assoc (take a xs) (f a ∷ []) (map f (range_with_len (a + 1) n))

pub set_each : {A : Type 0} (f : ℕ → A) (n : ℕ) (xs : List A) → length xs ≡ n → set_all f xs (range_with_len 0 n) ≡ map f (range_with_len 0 n)
set_each f n xs size = set_from f n 0 xs (omega (arith, size))

-- and these are a list whose items they are
listed_from : {A : Type 0} (f : ℕ → A) (ys : List A) (a : ℕ) → ((i : ℕ) → i < length ys → slice_get ys i ≡ Some (f (a + i))) → map f (range_with_len a (length ys)) ≡ ys
listed_from f [] a each = refl
listed_from f (y ∷ ys) a each =
    let start : a + 0 ≡ a = omega arith in
    ap (λ z. z ∷ map f (range_with_len (a + 1) (length ys))) (sym (some_same (each 0 (omega arith)) ∙ ap f start))
    ∙ ap (λ l. y ∷ l) (listed_from f ys (a + 1) (λ i lt. let on : a + suc i ≡ a + 1 + i = omega arith in each (suc i) (omega (arith, lt)) ∙ ap (λ k. Some (f k)) on))

pub listed : {A : Type 0} (f : ℕ → A) (ys : List A) (n : ℕ) → length ys ≡ n → ((i : ℕ) → i < n → slice_get ys i ≡ Some (f i)) → map f (range_with_len 0 n) ≡ ys
listed f ys n size each = ap (λ k. map f (range_with_len 0 k)) (sym size) ∙ listed_from f ys 0 (λ i lt. let same : i ≡ 0 + i = omega arith in each i (omega (arith, lt, size)) ∙ ap (λ k. Some (f k)) same)

at_listed : {A : Type 0} (f : ℕ → A) (n a r : ℕ) (d : A) → r < n → slice_index_or (map f (range_with_len a n)) r d ≡ f (a + r)
at_listed f zero a r d lt = absurd (omega (arith, lt))
at_listed f (suc n) a zero d lt = let start : a ≡ a + 0 = omega arith in ap f start
at_listed f (suc n) a (suc r) d lt = let on : a + 1 + r ≡ a + suc r = omega arith in at_listed f n (a + 1) r d (omega (arith, lt)) ∙ ap f on

pub item_listed : {A : Type 0} (f : ℕ → A) (n r : ℕ) (d : A) → r < n → slice_index_or (map f (range_with_len 0 n)) r d ≡ f r
item_listed f n r d lt = let same : 0 + r ≡ r = omega arith in at_listed f n 0 r d lt ∙ ap f same

pub many_listed : {A : Type 0} (f : ℕ → A) (n : ℕ) → length (map f (range_with_len 0 n)) ≡ n
many_listed f n = many_from f n 0
  where
    many_from : {A : Type 0} (f : ℕ → A) (n a : ℕ) → length (map f (range_with_len a n)) ≡ n
    many_from f zero a = refl
    many_from f (suc n) a = ap suc (many_from f n (a + 1))

-- ---- cuts of lists
pub get_behind : {A : Type 0} (xs ys : List A) (k : ℕ) → slice_get (xs ++ ys) (length xs + k) ≡ slice_get ys k
get_behind [] ys k = let same : 0 + k ≡ k = omega arith in ap (slice_get ys) same
get_behind (x ∷ xs) ys k = let on : suc (length xs) + k ≡ suc (length xs + k) = omega arith in ap (slice_get (x ∷ (xs ++ ys))) on ∙ get_behind xs ys k

-- an item that stands within the first part of a list cuts that
pub cut_at : {A : Type 0} (part more front : List A) (x : A) (back : List A) → part ++ more ≡ front ++ x ∷ back → length front < length part → (mid : List A) × (part ≡ front ++ x ∷ mid)
cut_at [] more front x back same lt = absurd (omega (arith, lt))
cut_at (y ∷ part) more [] x back same lt = (part, ap (λ z. z ∷ part) (some_same (ap (λ l. slice_get l 0) same)))
cut_at (y ∷ part) more (f ∷ front) x back same lt =
    let rest = cut_at part more front x back (ap (drop 1) same) (omega (arith, lt)) in
    (rest.0, ap (λ z. z ∷ part) (some_same (ap (λ l. slice_get l 0) same)) ∙ ap (λ l. f ∷ l) rest.1)

-- ---- events are added one by one
-- one of a role's events is one of all
pub one_of : (r : ℕ) (es : List Event) (n : ℕ) (f : Event) → slice_get (events_of r es) n ≡ Some f → (m : ℕ) × (slice_get es m ≡ Some f)
one_of r [] n f there = absurd (cc)
one_of r (e ∷ es) n f there = go (e.role == r) n there (λ k g. one_of r es k f g)
  where
    go : (b : Bool) (n : ℕ) → slice_get (cond b (e ∷ events_of r es) (events_of r es)) n ≡ Some f → ((k : ℕ) → slice_get (events_of r es) k ≡ Some f → (m : ℕ) × (slice_get es m ≡ Some f)) → (m : ℕ) × (slice_get (e ∷ es) m ≡ Some f)
    go true zero g ih = (0, g)
    go true (suc k) g ih = let x = ih k g in (suc x.0, x.1)
    go false k g ih = let x = ih k g in (suc x.0, x.1)

pub first_own : (r : ℕ) (e : Event) (es : List Event) → e.role ≡ r → events_of r (e ∷ es) ≡ e ∷ events_of r es
first_own r e es same = ap (λ b. cond b (e ∷ events_of r es) (events_of r es)) (eq-eqb e.role r same)

pub first_other : (r : ℕ) (e : Event) (es : List Event) → (e.role ≡ r → ⊥) → events_of r (e ∷ es) ≡ events_of r es
first_other r e es other = let no : (e.role == r) ≡ false = grind (arith, nat_tests, other) in ap (λ b. cond b (e ∷ events_of r es) (events_of r es)) no

pub all_own : (r : ℕ) (es : List Event) → ((n : ℕ) (e : Event) → slice_get es n ≡ Some e → e.role ≡ r) → events_of r es ≡ es
all_own r [] own = refl
all_own r (e ∷ es) own = first_own r e es (own 0 e refl) ∙ ap (λ l. e ∷ l) (all_own r es (λ n f at_n. own (suc n) f at_n))

pub none_own : (r : ℕ) (es : List Event) → ((n : ℕ) (e : Event) → slice_get es n ≡ Some e → e.role ≡ r → ⊥) → events_of r es ≡ []
none_own r [] others = refl
none_own r (e ∷ es) others = first_other r e es (others 0 e refl) ∙ none_own r es (λ n f at_n. others (suc n) f at_n)

abbrev pub log_all : List (List Event) → List Event → List (List Event)
log_all logs [] = logs
log_all logs (e ∷ es) = log_all (with_event_of logs e.role e) es

pub log_last : (es : List Event) (logs : List (List Event)) (e : Event) → log_all logs (es ++ e ∷ []) ≡ with_event_of (log_all logs es) e.role e
log_last [] logs e = refl
log_last (f ∷ es) logs e = log_last es (with_event_of logs f.role f) e

pub as_many_logs : (es : List Event) (logs : List (List Event)) → length (log_all logs es) ≡ length logs
as_many_logs [] logs = refl
as_many_logs (e ∷ es) logs = as_many_logs es (with_event_of logs e.role e) ∙ length-set logs e.role _

pub all_logged : (es : List Event) (logs : List (List Event)) (r : ℕ) → r < length logs → log_at (log_all logs es) r ≡ log_at logs r ++ events_of r es
all_logged [] logs r lt = sym (append-nil (log_at logs r))
all_logged (e ∷ es) logs r lt = all_logged es (with_event_of logs e.role e) r (let l = length-set logs e.role (log_at logs e.role ++ e ∷ []) in omega (arith, lt, l)) ∙ ⊎_elim
    (λ same.
    ap (λ l. l ++ events_of r es) (subst (λ q. log_at (with_event_of logs q e) r ≡ log_at logs r ++ e ∷ []) (sym same) (get_or-set_same logs r (log_at logs r ++ e ∷ []) [] lt))
    ∙ append_assoc (log_at logs r) (e ∷ []) (events_of r es)
    ∙ ap (λ l. log_at logs r ++ l) (sym (first_own r e es same)))
    (λ other.
    ap (λ l. l ++ events_of r es) (get_or-set_other logs e.role r (log_at logs e.role ++ e ∷ []) [] (λ x. other (sym x)))
    ∙ ap (λ l. log_at logs r ++ l) (sym (first_other r e es other)))
    (cases_eq e.role r)

pub all_counted : (es : List Event) (logs : List (List Event)) → All (λ (e : Event). e.role < length logs) es → all_events (log_all logs es) ≡ all_events logs + length es
all_counted [] logs all = omega arith
all_counted (e ∷ es) logs all =
    let size = length-set logs e.role (log_at logs e.role ++ e ∷ []) in
    let rest = subst (λ n. All (λ (f : Event). f.role < n) es) (sym size) (All-tail (λ (f : Event). f.role < length logs) e es all) in
    let ih = all_counted es (with_event_of logs e.role e) rest in
    let here = all_more logs e (All-head (λ (f : Event). f.role < length logs) e es all) in
    omega (arith, ih, here)

pub none_logged : (k : ℕ) → all_events (replicate k []) ≡ 0
none_logged k = none_from k 0 (length (replicate k []))
  where
    none_from : (k a n : ℕ) → sum_by (λ r. length (log_at (replicate k []) r)) (range_with_len a n) ≡ 0
    none_from k a zero = refl
    none_from k a (suc n) =
        let here = ap (λ (l : List Event). length l) (each_same k a []) in
        let ih = none_from k (a + 1) n in
        omega (arith, here, ih, sum_by-cons (λ r. length (log_at (replicate k []) r)) a (range_with_len (a + 1) n))

-- seeds are counted one by one
abbrev pub seeded : Numbers → ℕ → Numbers
seeded x seeds = record x { seeds = seeds }

abbrev pub with_seed_of : List Numbers → ℕ → List Numbers
with_seed_of numbers r = slice_set numbers r (seeded (numbers_at numbers r) ((numbers_at numbers r).seeds + 1))

abbrev pub seed_all : List Numbers → List Event → List Numbers
seed_all numbers [] = numbers
seed_all numbers (e ∷ es) = seed_all (with_seed_of numbers e.role) es

pub seed_last : (es : List Event) (numbers : List Numbers) (e : Event) → seed_all numbers (es ++ e ∷ []) ≡ with_seed_of (seed_all numbers es) e.role
seed_last [] numbers e = refl
seed_last (f ∷ es) numbers e = seed_last es (with_seed_of numbers f.role) e

pub as_many_numbers : (es : List Event) (numbers : List Numbers) → length (seed_all numbers es) ≡ length numbers
as_many_numbers [] numbers = refl
as_many_numbers (e ∷ es) numbers = as_many_numbers es (with_seed_of numbers e.role) ∙ length-set numbers e.role _

pub all_seeded : (es : List Event) (numbers : List Numbers) (r : ℕ) → r < length numbers → numbers_at (seed_all numbers es) r ≡ seeded (numbers_at numbers r) ((numbers_at numbers r).seeds + length (events_of r es))
all_seeded [] numbers r lt = let none : (numbers_at numbers r).seeds ≡ (numbers_at numbers r).seeds + 0 = omega arith in ap (seeded (numbers_at numbers r)) none
all_seeded (e ∷ es) numbers r lt = all_seeded es (with_seed_of numbers e.role) r (let l = length-set numbers e.role (seeded (numbers_at numbers e.role) ((numbers_at numbers e.role).seeds + 1)) in omega (arith, lt, l)) ∙ ⊎_elim
    (λ same.
    let here : numbers_at (with_seed_of numbers e.role) r ≡ seeded (numbers_at numbers r) ((numbers_at numbers r).seeds + 1) = subst (λ q. numbers_at (with_seed_of numbers q) r ≡ seeded (numbers_at numbers r) ((numbers_at numbers r).seeds + 1)) (sym same) (get_or-set_same numbers r (seeded (numbers_at numbers r) ((numbers_at numbers r).seeds + 1)) at_start lt) in
    let long = ap (λ (l : List Event). length l) (first_own r e es same) in
    let sum : (numbers_at numbers r).seeds + 1 + length (events_of r es) ≡ (numbers_at numbers r).seeds + length (events_of r (e ∷ es)) = omega (arith, long) in
    ap (λ (x : Numbers). seeded x (x.seeds + length (events_of r es))) here
    ∙ ap (seeded (numbers_at numbers r)) sum)
    (λ other.
    let here : numbers_at (with_seed_of numbers e.role) r ≡ numbers_at numbers r = get_or-set_other numbers e.role r (seeded (numbers_at numbers e.role) ((numbers_at numbers e.role).seeds + 1)) at_start (λ x. other (sym x)) in
    ap (λ (x : Numbers). seeded x (x.seeds + length (events_of r es))) here
    ∙ ap (λ (l : List Event). seeded (numbers_at numbers r) ((numbers_at numbers r).seeds + length l)) (sym (first_other r e es other)))
    (cases_eq e.role r)

-- ---- ascending counts are added one by one
abbrev AreBelow : ℕ → List ℕ → Type 0
AreBelow c xs = (i : ℕ) → i < length xs → slice_index xs i < c

below_is : (c : ℕ) (xs : List ℕ) → AreBelow c xs → below c xs ≡ xs
below_is c [] all = refl
below_is c (x ∷ xs) all =
    let yes : nat_lt x c ≡ true = (let lt = all 0 (omega arith) in grind (arith, nat_tests)) in
    ap (λ b. cond b (x ∷ below c xs) (below c xs)) yes ∙ ap (λ l. x ∷ l) (below_is c xs (λ i lt. all (suc i) (omega (arith, lt))))

above_is : (c : ℕ) (xs : List ℕ) → AreBelow c xs → above c xs ≡ []
above_is c [] all = refl
above_is c (x ∷ xs) all =
    let no : nat_lt c x ≡ false = (let lt = all 0 (omega arith) in grind (arith, nat_tests)) in
    ap (λ b. cond b (x ∷ above c xs) (above c xs)) no ∙ above_is c xs (λ i lt. all (suc i) (omega (arith, lt)))

last_count : (c : ℕ) (xs : List ℕ) → AreBelow c xs → with_count c xs ≡ xs ++ c ∷ []
last_count c xs all = ap (λ l. l ++ c ∷ above c xs) (below_is c xs all) ∙ ap (λ l. xs ++ c ∷ l) (above_is c xs all)

abbrev Follows : List ℕ → List ℕ → Type 0
Follows xs [] = Unit {0}
Follows xs (c ∷ cs) = AreBelow c xs × Follows (xs ++ c ∷ []) cs

follows : (xs cs : List ℕ) → IsAscending (xs ++ cs) → Follows xs cs
follows xs [] up = tt
follows xs (c ∷ cs) up = (
  (λ i lt.
      let low = get_or_append_left xs (c ∷ cs) 0 i lt in
      let high = at_end xs c cs in
      let more = length-append xs (c ∷ cs) in
      let less = up i (length xs) lt (omega (arith, more)) in
      omega (arith, low, high, less)),
  follows (xs ++ c ∷ []) cs (subst IsAscending (sym (append_assoc xs (c ∷ []) cs)) up),
)
  where
    at_end : (xs : List ℕ) (c : ℕ) (cs : List ℕ) → slice_index (xs ++ c ∷ cs) (length xs) ≡ c
    at_end [] c cs = refl
    at_end (x ∷ xs) c cs = at_end xs c cs

abbrev pub counts_at : List (List ℕ) → ℕ → List ℕ
counts_at told r = slice_index_or told r []

abbrev pub save_all : List (List ℕ) → ℕ → List ℕ → List (List ℕ)
save_all told r [] = told
save_all told r (c ∷ cs) = save_all (slice_set told r (with_count c (counts_at told r))) r cs

set_twice : {A : Type 0} (xs : List A) (i : ℕ) (x y : A) → slice_set (slice_set xs i x) i y ≡ slice_set xs i y
set_twice [] i x y = refl
set_twice (z ∷ xs) zero x y = refl
set_twice (z ∷ xs) (suc i) x y = ap (λ l. z ∷ l) (set_twice xs i x y)

saved_on : (cs : List ℕ) (told : List (List ℕ)) (r : ℕ) (xs : List ℕ) → r < length told → counts_at told r ≡ xs → Follows xs cs → save_all told r cs ≡ slice_set told r (xs ++ cs)
saved_on [] told r xs lt is all = sym (ap (slice_set told r) (append-nil xs ∙ sym is) ∙ set-get_or told r [])
saved_on (c ∷ cs) told r xs lt is all =
    let more : with_count c (counts_at told r) ≡ xs ++ c ∷ [] = ap (with_count c) is ∙ last_count c xs all.0 in
    saved_on cs (slice_set told r (with_count c (counts_at told r))) r (xs ++ c ∷ []) (let l = length-set told r (with_count c (counts_at told r)) in omega (arith, lt, l)) (get_or-set_same told r (with_count c (counts_at told r)) [] lt ∙ more) all.1
    ∙ set_twice told r (with_count c (counts_at told r)) ((xs ++ c ∷ []) ++ cs)
    ∙ ap (slice_set told r) (append_assoc xs (c ∷ []) cs)

-- where none was added before, they are the list
pub saved_is : (cs : List ℕ) (told : List (List ℕ)) (r : ℕ) → r < length told → counts_at told r ≡ [] → IsAscending cs → save_all told r cs ≡ slice_set told r cs
saved_is cs told r lt none up = saved_on cs told r [] lt none (follows [] cs up)
