-- Rows that are joined place by place have all that is reached.
use Rattle.std.proofs.Common.{◌≡◌, ℕ, zero, suc, ◌+◌, ◌<◌, ◌≤◌, Bool, true, false, cond, ◌==◌, ◌||◌, ◌&&◌, Option, Some, None, List, [], ◌∷◌, ◌++◌, length, take, drop, get_or, set, append-nil, refl, sym, ap, subst, ◌∙◌, ◌⊎◌, inl, inr, ⊎_elim, eq-eqb, ne_eqb, arith}
use Rattle.std.specs.Prelude.{slice_get, All}
use Rattle.std.proofs.lemmas.Bool.{cases_eq, cases_lt, or_cases, or_left, or_right}
use Rattle.std.proofs.lemmas.Bool.Decides.{nat_tests}
use Rattle.std.proofs.lemmas.List.{get_or-set_same, get_or-set_other}
use Rattle.rcv_tree.specs.Bits.{has_bit}
use Rattle.rcv_do.specs.declared.calls.Call.{Call}
use Rattle.rcv_do.specs.declared.set.Set.{Set}
use Rattle.rcv_do.specs.Rows.{has, IsInside, is_target, is_call, Comes, itself, by_call, AreRows}

-- ---- tests

pub and_cases : (a b : Bool) → (a && b) ≡ true → (a ≡ true) × (b ≡ true)
and_cases true b e = (refl, e)
and_cases false b e = absurd (cc)

pub and_both : (a b : Bool) → a ≡ true → b ≡ true → (a && b) ≡ true
and_both true b e f = f
and_both false b e f = absurd (cc)

pub test_eq : (a b : ℕ) → (a == b) ≡ true → a ≡ b
test_eq a b e = grind (arith, nat_tests)

-- ---- calls

is_leading : (c : Call) (i j : ℕ) → is_call c i j ≡ true → (c.holder ≡ i) × (c.target ≡ Some j)
is_leading c i j e = let x = and_cases (c.holder == i) (is_target c.target j) e in (test_eq c.holder i x.0, go c.target x.1)
  where
    go : (o : Option ℕ) → is_target o j ≡ true → o ≡ Some j
    go None h = absurd (cc)
    go (Some t) h = ap (λ n. Some n) (test_eq t j h)

leading_is : (c : Call) (i j : ℕ) → c.holder ≡ i → c.target ≡ Some j → is_call c i j ≡ true
leading_is c i j h t = and_both (c.holder == i) (is_target c.target j) (eq-eqb c.holder i h) (ap (λ o. is_target o j) t ∙ eq-eqb j j refl)

-- ---- rows

-- The first calls of these are in the rows, and who comes to one of so many places comes on from there.
pub record AreJoined (calls : List Call) (count first through : ℕ) (rows : List Set) : Type 0 where
  pub long : length rows ≡ count
  pub inside : (i j : ℕ) → i < count → j < 64 → has rows i j ≡ true → j < count
  pub sound : (i j : ℕ) → i < count → j < 64 → has rows i j ≡ true → Comes calls i j
  pub own : (i : ℕ) → i < count → has rows i i ≡ true
  pub leads : (m : ℕ) (c : Call) (j : ℕ) → m < first → slice_get calls m ≡ Some c → c.target ≡ Some j → has rows c.holder j ≡ true
  pub joined : (i j m : ℕ) → i < count → j < count → m < count → m < through → has rows i m ≡ true → has rows m j ≡ true → has rows i j ≡ true

-- each row has its own place alone
pub record AreAlone (count : ℕ) (rows : List Set) : Type 0 where
  pub long : length rows ≡ count
  pub alone : (i j : ℕ) → i < count → j < 64 → has rows i j ≡ (i == j)

pub none_alone : (rows : List Set) → rows ≡ [] → AreAlone 0 rows
none_alone rows e = record { long = ap length e; alone = λ i j lt lj. absurd (omega (arith, lt)) }

get_before : {A : Type 0} (xs : List A) (x d : A) (i : ℕ) → i < length xs → get_or (xs ++ x ∷ []) i d ≡ get_or xs i d
get_before [] x d i lt = absurd (omega (arith, lt))
get_before (y ∷ xs) x d zero lt = refl
get_before (y ∷ xs) x d (suc i) lt = get_before xs x d i (omega (arith, lt))

get_last : {A : Type 0} (xs : List A) (x d : A) (i : ℕ) → i ≡ length xs → get_or (xs ++ x ∷ []) i d ≡ x
get_last [] x d zero e = refl
get_last [] x d (suc i) e = absurd (omega (arith, e))
get_last (y ∷ xs) x d zero e = absurd (omega (arith, e))
get_last (y ∷ xs) x d (suc i) e = get_last xs x d i (omega (arith, e))

long_push : {A : Type 0} (xs : List A) (x : A) → length (xs ++ x ∷ []) ≡ length xs + 1
long_push [] x = refl
long_push (y ∷ xs) x = let e = long_push xs x in omega (arith, e)

pub alone_next : (count : ℕ) (old new : List Set) (v : Set) → new ≡ old ++ v ∷ [] → ((j : ℕ) → j < 64 → has_bit v.0 j ≡ (count == j)) → AreAlone count old → AreAlone (count + 1) new
alone_next count old new v pushed bits a = record {
  long = ap length pushed ∙ long_push old v ∙ ap (λ n. n + 1) a.long;
  alone = λ i j lt lj. ⊎_elim
      (λ old_row. ap (λ l. has l i j) pushed ∙ ap (λ (s : Set). has_bit s.0 j) (get_before old v (record { 0 = 0 }) i (let h = a.long in omega (arith, old_row, h))) ∙ a.alone i j old_row lj)
      (λ last. let e : i ≡ count = omega (arith, last, lt) in ap (λ l. has l i j) pushed ∙ ap (λ (s : Set). has_bit s.0 j) (get_last old v (record { 0 = 0 }) i (let h = a.long in omega (arith, e, h))) ∙ bits j lj ∙ ap (λ n. n == j) (sym e))
      (cases_lt i count);
}

pub joined_at_first : (calls : List Call) (count first : ℕ) (rows : List Set) → count ≤ 64 → first ≡ 0 → AreAlone count rows → AreJoined calls count first 0 rows
joined_at_first calls count first rows few e a = record {
  long = a.long;
  inside = λ i j lt lj h. let same = test_eq i j (sym (a.alone i j lt lj) ∙ h) in omega (arith, same, lt);
  sound = λ i j lt lj h. subst (Comes calls i) (test_eq i j (sym (a.alone i j lt lj) ∙ h)) (itself i);
  own = λ i lt. a.alone i i lt (omega (arith, lt, few)) ∙ eq-eqb i i refl;
  leads = λ m c j lt. absurd (omega (arith, lt, e));
  joined = λ i j m li lj lm lt. absurd (omega (arith, lt));
}

item_at : {A : Type 0} (xs : List A) (m : ℕ) (x d : A) → slice_get xs m ≡ Some x → (m < length xs) × (get_or xs m d ≡ x)
item_at [] m x d e = absurd (cc)
item_at (y ∷ xs) zero x d e = let h : y ≡ x = cc in (omega arith, h)
item_at (y ∷ xs) (suc m) x d e = let h = item_at xs m x d e in let lt = h.0 in (omega (arith, lt), h.1)

-- the places of one of the calls
pub inside_at : (calls : List Call) (count m : ℕ) (c : Call) → All (IsInside count) calls → slice_get calls m ≡ Some c → IsInside count c
inside_at calls count m c all is = let h = item_at calls m c c is in subst (IsInside count) h.1 (all m c h.0)

pub call_added : (calls : List Call) (count k : ℕ) (c : Call) (old new : List Set) → count ≤ 64 → All (IsInside count) calls → slice_get calls k ≡ Some c → length new ≡ length old
    → ((i j : ℕ) → j < 64 → has new i j ≡ (has old i j || is_call c i j)) → AreJoined calls count k 0 old → AreJoined calls count (k + 1) 0 new
call_added calls count k c old new few all at long added a = record {
  long = long ∙ a.long;
  inside = λ i j lt lj h. ⊎_elim (λ x. a.inside i j lt lj x) (λ y. in_count.target j (is_leading c i j y).1) (or_cases (has old i j) (is_call c i j) (sym (added i j lj) ∙ h));
  sound = λ i j lt lj h. ⊎_elim (λ x. a.sound i j lt lj x)
      (λ y. let l = is_leading c i j y in by_call i j j (record { number = k; call = c; is = at; holds = l.0; calls_it = l.1 }) (itself j))
      (or_cases (has old i j) (is_call c i j) (sym (added i j lj) ∙ h));
  own = λ i lt. added i i (omega (arith, lt, few)) ∙ or_left (has old i i) (is_call c i i) (a.own i lt);
  leads = λ m d j lt is to.
      let lj = (inside_at calls count m d all is).target j to in
      added d.holder j (omega (arith, lj, few)) ∙ ⊎_elim
      (λ before. or_left (has old d.holder j) (is_call c d.holder j) (a.leads m d j before is to))
      (λ last.
      let e : m ≡ k = omega (arith, last, lt) in
      let some : Some d ≡ Some c = sym is ∙ ap (slice_get calls) e ∙ at in
      let same : d ≡ c = cc in
      or_right (has old d.holder j) (is_call c d.holder j) (leading_is c d.holder j (ap (λ (x : Call). x.holder) (sym same)) (ap (λ (x : Call). x.target) (sym same) ∙ to)))
      (cases_lt m k);
  joined = λ i j m li lj lm lt. absurd (omega (arith, lt));
}
  where
    in_count : IsInside count c
    in_count = inside_at calls count k c all at

comes_on : {calls : List Call} {i j k : ℕ} → Comes calls i j → Comes calls j k → Comes calls i k
comes_on (itself i) y = y
comes_on {k = k} (by_call i m j l x) y = by_call i m k l (comes_on x y)

comes_inside : (calls : List Call) (count i j : ℕ) → All (IsInside count) calls → i < count → Comes calls i j → j < count
comes_inside calls count i j all lt (itself k) = lt
comes_inside calls count i j all lt (by_call k m n l x) = comes_inside calls count m n all ((inside_at calls count l.number l.call all l.is).target m l.calls_it) x

pub place_joined : (calls : List Call) (count first k : ℕ) (old new : List Set) → count ≤ 64 → All (IsInside count) calls → k < count → length new ≡ length old
    → ((i j : ℕ) → i < count → j < 64 → has new i j ≡ (has old i j || (has old i k && has old k j))) → AreJoined calls count first k old → AreJoined calls count first (k + 1) new
place_joined calls count first k old new few all lk long joins a = record {
  long = long ∙ a.long;
  inside = λ i j lt lj h. ⊎_elim (λ x. a.inside i j lt lj x) (λ y. a.inside k j lk lj y.1) (from i j lt lj h);
  sound = λ i j lt lj h. ⊎_elim (λ x. a.sound i j lt lj x) (λ y. comes_on (a.sound i k lt (omega (arith, lk, few)) y.0) (a.sound k j lk lj y.1)) (from i j lt lj h);
  own = λ i lt. still i i lt (omega (arith, lt, few)) (a.own i lt);
  leads = λ m c j lt is to. let x = inside_at calls count m c all is in let lj = x.target j to in still c.holder j x.holder (omega (arith, lj, few)) (a.leads m c j lt is to);
  joined = λ i j m li lj lm lt x y. ⊎_elim
      (λ before. ⊎_elim
      (λ p. ⊎_elim (λ q. still i j li (omega (arith, lj, few)) (a.joined i j m li lj lm before p q)) (λ q. through i j li (omega (arith, lj, few)) (a.joined i k m li lk lm before p q.0) q.1) (from m j lm (omega (arith, lj, few)) y))
      (λ p. ⊎_elim (λ q. through i j li (omega (arith, lj, few)) p.0 (a.joined k j m lk lj lm before p.1 q)) (λ q. through i j li (omega (arith, lj, few)) p.0 q.1) (from m j lm (omega (arith, lj, few)) y))
      (from i m li (omega (arith, lm, few)) x))
      (λ last.
      let e : m ≡ k = omega (arith, last, lt) in
      let p = from i k li (omega (arith, lk, few)) (subst (λ n. has new i n ≡ true) e x) in
      let q = from k j lk (omega (arith, lj, few)) (subst (λ n. has new n j ≡ true) e y) in
      through i j li (omega (arith, lj, few)) (⊎_elim (λ z. z) (λ z. z.0) p) (⊎_elim (λ z. z) (λ z. z.1) q))
      (cases_lt m k);
}
  where
    from : (i j : ℕ) → i < count → j < 64 → has new i j ≡ true → (has old i j ≡ true) ⊎ ((has old i k ≡ true) × (has old k j ≡ true))
    from i j lt lj h = ⊎_elim (λ x. inl x) (λ y. inr (and_cases (has old i k) (has old k j) y)) (or_cases (has old i j) (has old i k && has old k j) (sym (joins i j lt lj) ∙ h))

    still : (i j : ℕ) → i < count → j < 64 → has old i j ≡ true → has new i j ≡ true
    still i j lt lj h = joins i j lt lj ∙ or_left (has old i j) (has old i k && has old k j) h

    through : (i j : ℕ) → i < count → j < 64 → has old i k ≡ true → has old k j ≡ true → has new i j ≡ true
    through i j lt lj h g = joins i j lt lj ∙ or_right (has old i j) (has old i k && has old k j) (and_both (has old i k) (has old k j) h g)

pub all_joined : (calls : List Call) (count first k : ℕ) (rows : List Set) → count ≤ 64 → All (IsInside count) calls → length calls ≤ first → count ≤ k → AreJoined calls count first k rows → AreRows calls count rows
all_joined calls count first k rows few all past end a = record {
  long = a.long;
  inside = a.inside;
  sound = λ i j lt lj h. a.sound i j lt (omega (arith, lj, few)) h;
  complete = λ i j lt x. complete i j lt x;
}
  where
    complete : (i j : ℕ) → i < count → Comes calls i j → has rows i j ≡ true
    complete i j lt (itself n) = a.own n lt
    complete i j lt (by_call n m o l x) =
        let c = inside_at calls count l.number l.call all l.is in
        let lm = c.target m l.calls_it in
        let lo = comes_inside calls count m o all lm x in
        let at = item_at calls l.number l.call l.call l.is in
        let before = at.0 in
        a.joined n o m lt lo lm (omega (arith, lm, end))
        (subst (λ z. has rows z m ≡ true) l.holds (a.leads l.number l.call m (omega (arith, before, past)) l.is l.calls_it))
        (complete m o lm x)

-- a row is replaced
pub has_set : (rows : List Set) (h i j : ℕ) (v : Set) → h < length rows → has (set rows h v) i j ≡ cond (i == h) (has_bit v.0 j) (has rows i j)
has_set rows h i j v lt = ⊎_elim
    (λ e. ap (λ (s : Set). has_bit s.0 j) (ap (λ n. get_or (set rows h v) n (record { 0 = 0 })) e ∙ get_or-set_same rows h v (record { 0 = 0 }) lt) ∙ sym (ap (λ b. cond b (has_bit v.0 j) (has rows i j)) (eq-eqb i h e)))
    (λ n. ap (λ (s : Set). has_bit s.0 j) (get_or-set_other rows h i v (record { 0 = 0 }) n) ∙ sym (ap (λ b. cond b (has_bit v.0 j) (has rows i j)) (ne_eqb i h n)))
    (cases_eq i h)

-- a slice of a whole list is written back
pub written : (n : ℕ) (xs ys : List Set) → n ≡ length ys → length xs ≡ length ys → take n (xs ++ drop (length xs) ys) ≡ xs
written n xs ys e f = ap (λ l. take n (xs ++ l)) (none_left ys (length xs) (omega (arith, f))) ∙ ap (take n) (append-nil xs) ∙ all_of xs n (omega (arith, e, f))
  where
    none_left : (ys : List Set) (k : ℕ) → length ys ≤ k → drop k ys ≡ []
    none_left [] zero le = refl
    none_left [] (suc k) le = refl
    none_left (y ∷ ys) zero le = absurd (omega (arith, le))
    none_left (y ∷ ys) (suc k) le = none_left ys k (omega (arith, le))

    all_of : (xs : List Set) (k : ℕ) → length xs ≤ k → take k xs ≡ xs
    all_of [] zero le = refl
    all_of [] (suc k) le = refl
    all_of (x ∷ xs) zero le = absurd (omega (arith, le))
    all_of (x ∷ xs) (suc k) le = ap (λ l. x ∷ l) (all_of xs k (omega (arith, le)))
