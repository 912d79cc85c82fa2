-- An order of places in which each stands behind all others in its row: rows with fewer places are smaller numbers.
use Rattle.std.proofs.Common.{◌≡◌, ℕ, zero, suc, ◌+◌, ◌<◌, ◌≤◌, ◌^◌, Bool, true, false, cond, ◌==◌, ◌||◌, max, bit_or, Option, Some, None, List, [], ◌∷◌, ◌++◌, length, get_or, set, refl, sym, ap, subst, ◌∙◌, ◌⊎◌, inl, inr, ⊎_elim, eq-eqb, append-nil, append_assoc, arith}
use Rattle.std.specs.Int.{bit_at}
use Rattle.std.specs.Prelude.{not}
use Rattle.std.proofs.lemmas.Bool.{cases_Bool, cases_eq, cases_lt, or_cases, or_left, or_right}
use Rattle.std.proofs.lemmas.Nat.{le_or_l}
use Rattle.std.proofs.lemmas.Nat.Bits.{bit_at_or, bit_at-lt, bit_at_above, same_from_bits}
use Rattle.std.proofs.lemmas.List.{get_or-set_same, get_or-set_other}
use Rattle.rcv_tree.specs.Bits.{has_bit}
use Rattle.rcv_model.specs.Net.{IsIn}
use Rattle.rcv_do.specs.declared.set.Set.{Set}
use Rattle.rcv_do.specs.Rows.{word, has, AreAcyclic, StandBehind, IsOrder, IsListed, IsLeast}
use Rattle.rcv_do.proofs.Reaching.{test_eq}

-- ---- words

-- fewer bits are a smaller number
pub word_less : (a b p : ℕ) → a < 2 ^ 64 → ((i : ℕ) → i < 64 → has_bit a i ≡ true → has_bit b i ≡ true) → has_bit b p ≡ true → has_bit a p ≡ false → a < b
word_less a b p fits within more less =
    let same : bit_or a b ≡ b = same_from_bits (bit_or a b) b (λ i. bit_at_or a b i ∙ larger i) in
    let le : a ≤ b = subst (λ n. a ≤ n) same (le_or_l a b) in
    let ne : (a ≡ b → ⊥) = λ e. two (ap (λ n. has_bit n p) e ∙ more) less in
    ⊎_elim (λ lt. lt) (λ ge. absurd (ne (omega (arith, le, ge)))) (cases_lt a b)
  where
    two : {t : Bool} → t ≡ true → t ≡ false → ⊥
    two e f = cc

    one : (n i : ℕ) → has_bit n i ≡ true → bit_at n i ≡ 1
    one n i h = test_eq (bit_at n i) 1 h

    low : (n i : ℕ) → has_bit n i ≡ false → bit_at n i ≡ 0
    low n i h = let lt = bit_at-lt n i in ⊎_elim (λ e. absurd (two (eq-eqb (bit_at n i) 1 e) h)) (λ n. omega (arith, lt, n)) (cases_eq (bit_at n i) 1)

    larger : (i : ℕ) → max (bit_at a i) (bit_at b i) ≡ bit_at b i
    larger i = ⊎_elim
        (λ lt. ⊎_elim
        (λ t. let x = one a i t in let y = one b i (within i lt t) in omega (arith, x, y))
        (λ f. let x = low a i f in omega (arith, x))
        (cases_Bool (has_bit a i)))
        (λ ge. let x = bit_at_above a 64 i fits ge in omega (arith, x))
        (cases_lt i 64)

-- ---- lists

pub in_push : (j p : ℕ) (xs : List ℕ) → IsIn j (xs ++ p ∷ []) → IsIn j xs ⊎ (j ≡ p)
in_push j p [] (inl e) = inr e
in_push j p [] (inr i) = absurd i
in_push j p (x ∷ xs) (inl e) = inl (inl e)
in_push j p (x ∷ xs) (inr i) = ⊎_elim (λ a. inl (inr a)) (λ b. inr b) (in_push j p xs i)

pub in_before : (j p : ℕ) (xs : List ℕ) → IsIn j xs → IsIn j (xs ++ p ∷ [])
in_before j p [] i = absurd i
in_before j p (x ∷ xs) (inl e) = inl e
in_before j p (x ∷ xs) (inr i) = inr (in_before j p xs i)

pub in_last : (p : ℕ) (xs : List ℕ) → IsIn p (xs ++ p ∷ [])
in_last p [] = inl refl
in_last p (x ∷ xs) = inr (in_last p xs)

behind_more : (rows : List Set) (done xs : List ℕ) (p : ℕ) → StandBehind rows done xs
    → ((j : ℕ) → j < length rows → has rows p j ≡ true → (j ≡ p → ⊥) → IsIn j (done ++ xs)) → StandBehind rows done (xs ++ p ∷ [])
behind_more rows done [] p b f = ((λ j lt h n. subst (IsIn j) (append-nil done) (f j lt h n)), tt)
behind_more rows done (x ∷ xs) p b f =
    (b.0, behind_more rows (done ++ x ∷ []) xs p b.1 (λ j lt h n. subst (IsIn j) (sym (append_assoc done (x ∷ []) xs)) (f j lt h n)))

-- ---- places that are listed

-- So far these places are skipped: the first one, and those to which it doesn't come.
pub record AreSkipped (rows : List Set) (listed : List Bool) (n : ℕ) : Type 0 where
  pub long : length listed ≡ n
  pub skips : (i : ℕ) → i < n → get_or listed i false ≡ (i == 0 || not (has rows 0 i))

get_push_old : {A : Type 0} (xs : List A) (x d : A) (i : ℕ) → i < length xs → get_or (xs ++ x ∷ []) i d ≡ get_or xs i d
get_push_old [] x d i lt = absurd (omega (arith, lt))
get_push_old (y ∷ xs) x d zero lt = refl
get_push_old (y ∷ xs) x d (suc i) lt = get_push_old xs x d i (omega (arith, lt))

get_push_new : {A : Type 0} (xs : List A) (x d : A) (i : ℕ) → i ≡ length xs → get_or (xs ++ x ∷ []) i d ≡ x
get_push_new [] x d zero e = refl
get_push_new [] x d (suc i) e = absurd (omega (arith, e))
get_push_new (y ∷ xs) x d zero e = absurd (omega (arith, e))
get_push_new (y ∷ xs) x d (suc i) e = get_push_new xs x d i (omega (arith, e))

long_push : {A : Type 0} (xs : List A) (x : A) → length (xs ++ x ∷ []) ≡ length xs + 1
long_push [] x = refl
long_push (y ∷ xs) x = let e = long_push xs x in omega (arith, e)

pub none_skipped : (rows : List Set) (listed : List Bool) → listed ≡ [] → AreSkipped rows listed 0
none_skipped rows listed e = record { long = ap length e; skips = λ i lt. absurd (omega (arith, lt)) }

pub skipped_next : (rows : List Set) (old new : List Bool) (n : ℕ) (b : Bool) → new ≡ old ++ b ∷ [] → b ≡ (n == 0 || not (has rows 0 n)) → AreSkipped rows old n → AreSkipped rows new (n + 1)
skipped_next rows old new n b pushed is a = record {
  long = ap length pushed ∙ long_push old b ∙ ap (λ k. k + 1) a.long;
  skips = λ i lt. ⊎_elim
      (λ before. ap (λ l. get_or l i false) pushed ∙ get_push_old old b false i (let h = a.long in omega (arith, before, h)) ∙ a.skips i before)
      (λ last. let e : i ≡ n = omega (arith, last, lt) in ap (λ l. get_or l i false) pushed ∙ get_push_new old b false i (let h = a.long in omega (arith, e, h)) ∙ is ∙ ap (λ k. k == 0 || not (has rows 0 k)) (sym e))
      (cases_lt i n);
}

pub record IsOrdered (rows : List Set) (order : List ℕ) (listed : List Bool) : Type 0 where
  pub long : length listed ≡ length rows
  pub inside : (i : ℕ) → IsIn i order → i < length rows
  pub listed_in : (i : ℕ) → i < length rows → IsListed listed i → IsIn i order ⊎ ((i ≡ 0) ⊎ (has rows 0 i ≡ false))
  pub open_in : (i : ℕ) → i < length rows → (IsListed listed i → ⊥) → (has rows 0 i ≡ true) × (i ≡ 0 → ⊥)
  pub behind : StandBehind rows [] order

not_true : (b : Bool) → not b ≡ true → b ≡ false
not_true true e = absurd (cc)
not_true false e = refl

pub ordered_at_first : (rows : List Set) (order : List ℕ) (listed : List Bool) (n : ℕ) → order ≡ [] → n ≡ length rows → AreSkipped rows listed n → IsOrdered rows order listed
ordered_at_first rows order listed n none all a = record {
  long = a.long ∙ all;
  inside = λ i k. absurd (subst (IsIn i) none k);
  listed_in = λ i lt h. inr (⊎_elim (λ e. inl (test_eq i 0 e)) (λ f. inr (not_true (has rows 0 i) f)) (or_cases (i == 0) (not (has rows 0 i)) (sym (a.skips i (omega (arith, lt, all))) ∙ h)));
  open_in = λ i lt h. (reached i lt h, λ e. h (a.skips i (omega (arith, lt, all)) ∙ or_left (i == 0) (not (has rows 0 i)) (eq-eqb i 0 e)));
  behind = subst (StandBehind rows []) (sym none) tt;
}
  where
    reached : (i : ℕ) → i < length rows → (IsListed listed i → ⊥) → has rows 0 i ≡ true
    reached i lt h = ⊎_elim (λ t. t) (λ f. absurd (h (a.skips i (omega (arith, lt, all)) ∙ or_right (i == 0) (not (has rows 0 i)) (ap not f)))) (cases_Bool (has rows 0 i))

pub ordered_next : (rows : List Set) (order new : List ℕ) (listed now : List Bool) (p : ℕ) → length rows ≤ 64 → AreAcyclic rows → IsLeast rows listed (length rows) (Some p)
    → new ≡ order ++ p ∷ [] → now ≡ set listed p true → length now ≡ length listed → IsOrdered rows order listed → IsOrdered rows new now
ordered_next rows order new listed now p few acyclic least pushed marked long a = record {
  long = long ∙ a.long;
  inside = λ i k. ⊎_elim (λ x. a.inside i x) (λ e. subst (λ n. n < length rows) (sym e) least.0) (in_push i p order (subst (IsIn i) pushed k));
  listed_in = λ i lt h. subst (λ l. IsIn i l ⊎ ((i ≡ 0) ⊎ (has rows 0 i ≡ false))) (sym pushed) (⊎_elim
      (λ e. inl (subst (λ n. IsIn n (order ++ p ∷ [])) (sym e) (in_last p order)))
      (λ n. ⊎_elim (λ x. inl (in_before i p order x)) (λ y. inr y) (a.listed_in i lt (sym (other i n) ∙ h)))
      (cases_eq i p));
  open_in = λ i lt h. a.open_in i lt (λ k. ⊎_elim (λ e. h (here i e)) (λ n. h (other i n ∙ k)) (cases_eq i p));
  behind = subst (StandBehind rows []) (sym pushed) (behind_more rows [] order p a.behind before);
}
  where
    inside_p : p < length listed
    inside_p = let x = least.0 in let y = a.long in omega (arith, x, y)

    here : (i : ℕ) → i ≡ p → IsListed now i
    here i e = ap (λ l. get_or l i false) marked ∙ ap (λ n. get_or (set listed p true) n false) e ∙ get_or-set_same listed p true false inside_p

    other : (i : ℕ) → (i ≡ p → ⊥) → get_or now i false ≡ get_or listed i false
    other i n = ap (λ l. get_or l i false) marked ∙ get_or-set_other listed p i true false n

    two : {t : Bool} → t ≡ true → t ≡ false → ⊥
    two e f = cc

    -- what isn't listed has a row that isn't less, so all others in the row are listed
    listed_by_row : (j : ℕ) → j < length rows → has rows p j ≡ true → (j ≡ p → ⊥) → IsListed listed j
    listed_by_row j lt h n = ⊎_elim (λ t. t)
        (λ f.
        let here = least.2 j lt (λ t. two t f) in
        let le : word rows p ≤ word rows j = here.0 in
        let not_back : has rows j p ≡ false = ⊎_elim (λ t. absurd (n (acyclic.once j p lt least.0 t h))) (λ g. g) (cases_Bool (has rows j p)) in
        let less : word rows j < word rows p = word_less (word rows j) (word rows p) p here.1
        (λ i li k. let lj = acyclic.inside j i lt li k in acyclic.joined p j i least.0 lt lj h k) (acyclic.own p least.0) not_back in
        absurd (omega (arith, le, less)))
        (cases_Bool (get_or listed j false))

    before : (j : ℕ) → j < length rows → has rows p j ≡ true → (j ≡ p → ⊥) → IsIn j order
    before j lt h n =
        let open_p = a.open_in p least.0 least.1 in
        ⊎_elim (λ x. x)
        (⊎_elim
        (λ zero_j. absurd (open_p.1 (acyclic.once p 0 least.0 (omega (arith, lt)) (subst (λ k. has rows p k ≡ true) zero_j h) open_p.0)))
        (λ none. absurd (two (acyclic.joined 0 p j (omega (arith, lt)) least.0 lt open_p.0 h) none)))
        (a.listed_in j lt (listed_by_row j lt h n))

pub ordered_all : (rows : List Set) (order : List ℕ) (listed : List Bool) → IsLeast rows listed (length rows) None → IsOrdered rows order listed → IsOrder rows order
ordered_all rows order listed least a = record {
  inside = a.inside;
  all = λ i lt h n. ⊎_elim (λ x. x) (⊎_elim (λ e. absurd (n e)) (λ f. absurd (two h f))) (a.listed_in i lt (least i lt));
  behind = a.behind;
}
  where
    two : {t : Bool} → t ≡ true → t ≡ false → ⊥
    two e f = cc

-- How many places aren't listed: each one that is listed makes it less.
abbrev pub open_places : List Bool → ℕ
open_places [] = 0
open_places (b ∷ bs) = cond b (open_places bs) (suc (open_places bs))

pub open_less : (xs : List Bool) (i : ℕ) → i < length xs → (IsListed xs i → ⊥) → open_places (set xs i true) < open_places xs
open_less [] i lt n = absurd (omega (arith, lt))
open_less (true ∷ xs) zero lt n = absurd (n refl)
open_less (false ∷ xs) zero lt n = omega arith
open_less (true ∷ xs) (suc i) lt n = open_less xs i (omega (arith, lt)) n
open_less (false ∷ xs) (suc i) lt n = let h = open_less xs i (omega (arith, lt)) n in omega (arith, h)

-- ---- the least

pub least_more : (rows : List Set) (listed : List Bool) (n : ℕ) (found : Option ℕ) → IsListed listed n → IsLeast rows listed n found → IsLeast rows listed (n + 1) found
least_more rows listed n None here a = λ i lt. ⊎_elim (λ b. a i b) (λ l. let e : i ≡ n = omega (arith, l, lt) in subst (IsListed listed) (sym e) here) (cases_lt i n)
least_more rows listed n (Some p) here a = (
  let lt = a.0 in omega (arith, lt),
  a.1,
  λ i lt k. ⊎_elim (λ b. a.2 i b k) (λ l. let e : i ≡ n = omega (arith, l, lt) in absurd (k (subst (IsListed listed) (sym e) here))) (cases_lt i n),
)

pub least_first : (rows : List Set) (listed : List Bool) (n w : ℕ) → (IsListed listed n → ⊥) → w ≡ word rows n → w < 2 ^ 64 → IsLeast rows listed n None → IsLeast rows listed (n + 1) (Some n)
least_first rows listed n w free is fits a = (
  omega arith,
  free,
  λ i lt k. ⊎_elim (λ b. absurd (k (a i b))) (λ l. let e : i ≡ n = omega (arith, l, lt) in subst (λ j. (word rows n ≤ word rows j) × (word rows j < 2 ^ 64)) (sym e) (omega arith, subst (λ v. v < 2 ^ 64) is fits)) (cases_lt i n),
)

pub least_kept : (rows : List Set) (listed : List Bool) (n p w : ℕ) → w ≡ word rows n → w < 2 ^ 64 → word rows p ≤ w → IsLeast rows listed n (Some p) → IsLeast rows listed (n + 1) (Some p)
least_kept rows listed n p w is fits le a = (
  let lt = a.0 in omega (arith, lt),
  a.1,
  λ i lt k. ⊎_elim (λ b. a.2 i b k) (λ l. let e : i ≡ n = omega (arith, l, lt) in subst (λ j. (word rows p ≤ word rows j) × (word rows j < 2 ^ 64)) (sym e) (subst (λ v. word rows p ≤ v) is le, subst (λ v. v < 2 ^ 64) is fits)) (cases_lt i n),
)

pub least_new : (rows : List Set) (listed : List Bool) (n p w : ℕ) → (IsListed listed n → ⊥) → w ≡ word rows n → w < 2 ^ 64 → w ≤ word rows p → IsLeast rows listed n (Some p) → IsLeast rows listed (n + 1) (Some n)
least_new rows listed n p w free is fits below a =
    let le : word rows n ≤ word rows p = subst (λ v. v ≤ word rows p) is below in (
      omega arith,
      free,
      λ i lt k. ⊎_elim (λ b. let x = a.2 i b k in let y = x.0 in (omega (arith, y, le), x.1)) (λ l. let e : i ≡ n = omega (arith, l, lt) in subst (λ j. (word rows n ≤ word rows j) × (word rows j < 2 ^ 64)) (sym e) (omega arith, subst (λ v. v < 2 ^ 64) is fits)) (cases_lt i n),
    )
