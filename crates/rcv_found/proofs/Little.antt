-- Lists and their slices.
use Rattle.std.proofs.Common.{Bool, ◌≡◌, ◌≤◌, ℕ, zero, suc, ◌+◌, ◌-◌, List, [], ◌∷◌, ◌++◌, length, take, drop, refl, ◌∙◌, ap, subst, arith, length-append}
use Rattle.std.specs.Prelude.{slice_range, slice_get, take_while, Some}
use Rattle.std.proofs.lemmas.List.Sums.{take_while-cons}
use Rattle.std.proofs.lemmas.Bool.Decides.{nat_tests}
use Rattle.std.proofs.lemmas.Option.{get_or_from_slice_get, slice_get_within}
use Rattle.std.specs.List.{All}

-- What holds of all of a list holds of the first and of the others.
pub first_of_all : {A : Type 0} (P : A → Type 0) (x : A) (xs : List A) → All P (x ∷ xs) → P x
first_of_all P x xs h = h 0 x (omega arith)

pub others_of_all : {A : Type 0} (P : A → Type 0) (x : A) (xs : List A) → All P (x ∷ xs) → All P xs
others_of_all P x xs h = λ k d l. h (suc k) d (omega (arith, l))

pub all_of : {A : Type 0} (P : A → Type 0) (x : A) (xs : List A) → P x → All P xs → All P (x ∷ xs)
all_of P x xs one others zero d l = one
all_of P x xs one others (suc k) d l = others k d (omega (arith, l))

-- It holds of the first ones.
pub all_before : {A : Type 0} (P : A → Type 0) (n : ℕ) (xs : List A) → All P xs → All P (take n xs)
all_before P zero xs h = λ k d l. absurd (omega (arith, l))
all_before P (suc n) [] h = h
all_before P (suc n) (x ∷ xs) h =
    all_of P x (take n xs) (first_of_all P x xs h) (all_before P n xs (others_of_all P x xs h))

-- It holds of the one at a place.
pub one_of_all : {A : Type 0} (P : A → Type 0) (xs : List A) (k : ℕ) (x : A) → slice_get xs k ≡ Some x → All P xs → P x
one_of_all P xs k x e h = subst P (get_or_from_slice_get xs k x x e) (h k x (slice_get_within xs k x e))

-- Two cuts of one list with as much behind them have the same behind them.
pub same_behind : {A : Type 0} (xs ys us vs : List A) → xs ++ ys ≡ us ++ vs → length ys ≡ length vs → ys ≡ vs
same_behind [] ys [] vs e l = e
same_behind [] ys (u ∷ us) vs e l = let long = ap length e in absurd (omega (arith, long, length-append us vs, l))
same_behind (x ∷ xs) ys [] vs e l = let long = ap length e in absurd (omega (arith, long, length-append xs ys, l))
same_behind (x ∷ xs) ys (u ∷ us) vs e l = let rest : xs ++ ys ≡ us ++ vs = cc in same_behind xs ys us vs rest l

drop_front : (a : ℕ) (xs ys : List ℕ) → a ≤ length xs → drop a (xs ++ ys) ≡ drop a xs ++ ys
drop_front zero xs ys h = refl
drop_front (suc a) [] ys h = absurd (omega (arith, h))
drop_front (suc a) (x ∷ xs) ys h = drop_front a xs ys (omega (arith, h))

take_front : (k : ℕ) (xs ys : List ℕ) → k ≤ length xs → take k (xs ++ ys) ≡ take k xs
take_front zero xs ys h = refl
take_front (suc k) [] ys h = absurd (omega (arith, h))
take_front (suc k) (x ∷ xs) ys h = ap (λ (l : List ℕ). x ∷ l) (take_front k xs ys (omega (arith, h)))

dropped : (a : ℕ) (xs : List ℕ) → a ≤ length xs → length (drop a xs) + a ≡ length xs
dropped zero xs h = omega arith
dropped (suc a) [] h = absurd (omega (arith, h))
dropped (suc a) (x ∷ xs) h = let e = dropped a xs (omega (arith, h)) in omega (arith, e)

-- A slice of the front is the same with more behind it.
pub slice_of_front : (front more : List ℕ) (start end : ℕ) → start ≤ end → end ≤ length front
    → slice_range (front ++ more) start end ≡ slice_range front start end
slice_of_front front more start end in_order within =
    ap (take (end - start)) (drop_front start front more (omega (arith, in_order, within)))
    ∙ take_front (end - start) (drop start front) more
    (let e = dropped start front (omega (arith, in_order, within)) in omega (arith, e, in_order, within))

drop_all_of : (xs ys : List ℕ) → drop (length xs) (xs ++ ys) ≡ ys
drop_all_of [] ys = refl
drop_all_of (x ∷ xs) ys = drop_all_of xs ys

take_all_of : (ys : List ℕ) → take (length ys) ys ≡ ys
take_all_of [] = refl
take_all_of (y ∷ ys) = ap (λ (l : List ℕ). y ∷ l) (take_all_of ys)

-- What stands behind the front is its slice.
pub slice_behind : (front more : List ℕ) → slice_range (front ++ more) (length front) (length front + length more) ≡ more
slice_behind front more =
    let k : length front + length more - length front ≡ length more = omega arith in
    ap (λ (n : ℕ). take n (drop (length front) (front ++ more))) k
    ∙ ap (take (length more)) (drop_all_of front more) ∙ take_all_of more

-- A run of bytes at the front is no longer than the whole.
pub run_within : (p : ℕ → Bool) (text : List ℕ) → length (take_while p text) ≤ length text
run_within p [] = omega arith
run_within p (b ∷ bs) =
    let cons = take_while-cons p b bs in
    let more = run_within p bs in
    grind (arith, nat_tests)
