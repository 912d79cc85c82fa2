-- Lists in two parts.
use Rattle.std.proofs.Common.{◌≡◌, ℕ, ◌+◌, ◌-◌, ◌<◌, ◌≤◌, List, ◌++◌, length, refl, sym, subst, ⊎_elim, arith, length-append, slice_index_or}
use Rattle.std.proofs.lemmas.Bool.{cases_lt}
use Rattle.std.proofs.lemmas.List.{get_or_append_left, get_or-append_right}

-- the elements of the first part
pub in_front : {T : Type 0} (xs ys : List T) (i : ℕ) (d : T) → i < length xs → slice_index_or (xs ++ ys) i d ≡ slice_index_or xs i d
in_front xs ys i d lt = get_or_append_left xs ys d i lt

-- the elements of the second part
pub behind : {T : Type 0} (xs ys : List T) (i : ℕ) (d : T) → slice_index_or (xs ++ ys) (length xs + i) d ≡ slice_index_or ys i d
behind xs ys i d =
    let at : slice_index_or (xs ++ ys) (length xs + i) d ≡ slice_index_or ys ((length xs + i) - length xs) d = get_or-append_right xs ys (length xs) (length xs + i) d refl (omega arith) in
    let same : (length xs + i) - length xs ≡ i = omega arith in
    subst (λ k. slice_index_or (xs ++ ys) (length xs + i) d ≡ slice_index_or ys k d) same at

-- what holds place by place of both parts holds of the whole
pub each_append :
    {T : Type 0} (R : T → T → Type 0) (xs ys xs' ys' : List T) → length xs' ≡ length xs
    → ((i : ℕ) (d : T) → i < length xs → R (slice_index_or xs i d) (slice_index_or xs' i d))
    → ((i : ℕ) (d : T) → i < length ys → R (slice_index_or ys i d) (slice_index_or ys' i d))
    → (i : ℕ) (d : T) → i < length (xs ++ ys) → R (slice_index_or (xs ++ ys) i d) (slice_index_or (xs' ++ ys') i d)
each_append R xs ys xs' ys' same front back i d li = ⊎_elim early late (cases_lt i (length xs))
  where
    early : i < length xs → R (slice_index_or (xs ++ ys) i d) (slice_index_or (xs' ++ ys') i d)
    early l =
        subst (λ z. R (slice_index_or (xs ++ ys) i d) z) (sym (in_front xs' ys' i d (omega (arith, same, l))))
        (subst (λ z. R z (slice_index_or xs' i d)) (sym (in_front xs ys i d l)) (front i d l))

    late : length xs ≤ i → R (slice_index_or (xs ++ ys) i d) (slice_index_or (xs' ++ ys') i d)
    late le =
        let k : i - length xs < length ys = omega (arith, length-append xs ys, li, le) in
        let old : slice_index_or (xs ++ ys) i d ≡ slice_index_or ys (i - length xs) d = get_or-append_right xs ys (length xs) i d refl le in
        let new : slice_index_or (xs' ++ ys') i d ≡ slice_index_or ys' (i - length xs) d = get_or-append_right xs' ys' (length xs) i d same le in
        subst (λ z. R (slice_index_or (xs ++ ys) i d) z) (sym new)
        (subst (λ z. R z (slice_index_or ys' (i - length xs) d)) (sym old) (back (i - length xs) d k))
