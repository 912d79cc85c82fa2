-- The number whose text a word is.
use Rattle.std.proofs.Common.{◌≡◌, ◌∙◌, ◌<◌, ◌^◌, ◌==◌, ◌&&◌, ℕ, ℤ, pos, negsuc, suc, Bool, true, false, true≢false, cond, List, [], ◌∷◌, ◌++◌, Some, None, FitsSigned, length, refl, sym, ap, ap₂, subst, arith, decimal, length-append, drop_of_length-le, ◌-◌, ◌+◌}
use Rattle.std.specs.Prelude.{nat_lt, slice_index, take, neg_ℤ}
use mir.Syntax.{w64}
use Rattle.std.specs.Int.Signed.{mag}
use Rattle.std.specs.Fmt.{signed_decimal}
use Rattle.std.specs.Str.Parse.{digits_value, signed_digits_value, IsNumeral}
use Rattle.std.specs.Cmp.Lexicographic.{bytes_decides}
use Rattle.std.proofs.lemmas.Bool.Decides.{nat_tests}
use Rattle.std.proofs.lemmas.Fmt.{decimal_is_IsNumeral}
use Rattle.std.proofs.lemmas.Str.Parse.{digit_from_value}
use Rattle.std.proofs.lemmas.List.{take_at, take-append-drop, drop_more, get_or-append-add}
use Rattle.rcv_dialogue.specs.Numbers.{is_word, number_if, number_in, signed_if, signed_in, marked_in, number_before}

-- ---- answers that hang on a test

pub some_if : {A : Type 0} (b : Bool) (x y : A) → cond b (Some x) None ≡ Some y → (b ≡ true) × (x ≡ y)
some_if true x y e = (refl, cc)
some_if false x y e = absurd cc

pub some_so : {A : Type 0} (b : Bool) (x : A) → b ≡ true → cond b (Some x) None ≡ Some x
some_so true x so = refl
some_so false x so = absurd (true≢false (sym so))

pub none_so : {A : Type 0} (b : Bool) (x : A) → (b ≡ true → ⊥) → None ≡ cond b (Some x) None
none_so true x never = absurd (never refl)
none_so false x never = refl

pub both_so : (b c : Bool) → (b && c) ≡ true → (b ≡ true) × (c ≡ true)
both_so true true e = (refl, refl)
both_so true false e = absurd (true≢false (sym e))
both_so false c e = absurd (true≢false (sym e))

pub are_both : (b c : Bool) → b ≡ true → c ≡ true → (b && c) ≡ true
are_both true c on also = also
are_both false c on also = on

pub same_word : (w v : List ℕ) → is_word w v ≡ true → w ≡ v
same_word w v e = (bytes_decides w v).0 e

pub is_same : (w v : List ℕ) → w ≡ v → is_word w v ≡ true
is_same w v e = (bytes_decides w v).1 e

pub is_itself : (w : List ℕ) → is_word w w ≡ true
is_itself w = (bytes_decides w w).1 refl

-- ---- numbers

below : (n m : ℕ) → nat_lt n m ≡ true → n < m
below n m e = grind (arith, nat_tests)

is_below : (n m : ℕ) → n < m → nat_lt n m ≡ true
is_below n m lt = grind (arith, nat_tests)

number_if_so : (n : ℕ) → n < 2 ^ 64 → number_if n (decimal n) ≡ Some n
number_if_so n fits =
    some_so (is_word (decimal n) (decimal n) && nat_lt n (2 ^ 64)) n (are_both _ _ (is_itself (decimal n)) (is_below n (2 ^ 64) fits))

pub number_takes : (w : List ℕ) (n : ℕ) → number_in w ≡ Some n → (w ≡ decimal n) × (n < 2 ^ 64)
number_takes w n e =
    let v = digits_value 10 w in
    let s = some_if (is_word w (decimal v) && nat_lt v (2 ^ 64)) v n e in
    let b = both_so (is_word w (decimal v)) (nat_lt v (2 ^ 64)) s.0 in
    (same_word w (decimal v) b.0 ∙ ap decimal s.1, subst (λ m. m < 2 ^ 64) s.1 (below v (2 ^ 64) b.1))

pub number_again : (n : ℕ) → n < 2 ^ 64 → number_in (decimal n) ≡ Some n
number_again n fits = ap (λ v. number_if v (decimal n)) (decimal_is_IsNumeral n fits).1 ∙ number_if_so n fits

-- What a parse has read is the word's number, where it has the word as its text; and where no number has, there is none.
pub a_number : (w : List ℕ) (n : ℕ) → n < 2 ^ 64 → w ≡ decimal n → Some n ≡ number_in w
a_number w n fits is = sym (ap number_in is ∙ number_again n fits)

pub no_number : (w : List ℕ) → ((n : ℕ) → n < 2 ^ 64 → w ≡ decimal n → ⊥) → None ≡ number_in w
no_number w none =
    let v = digits_value 10 w in
    none_so (is_word w (decimal v) && nat_lt v (2 ^ 64)) v (λ so.
    let b = both_so (is_word w (decimal v)) (nat_lt v (2 ^ 64)) so in
    none v (below v (2 ^ 64) b.1) (same_word w (decimal v) b.0))

-- ---- signed numbers

no_sign : (c : ℕ) (ds : List ℕ) → IsNumeral 10 (c ∷ ds) → ((c == 45) ≡ false) × ((c == 43) ≡ false)
no_sign c ds is =
    let range = digit_from_value c is.1.0 in
    (grind (arith, nat_tests), grind (arith, nat_tests))

unsigned_is : (ds : List ℕ) → IsNumeral 10 ds → signed_digits_value 10 ds ≡ pos (digits_value 10 ds)
unsigned_is [] is = absurd (omega (arith, is.0))
unsigned_is (c ∷ ds) is = let none = no_sign c ds is in rw (none.0, none.1) refl

pub signed_value : (z : ℤ) → mag z < 2 ^ 63 → signed_digits_value 10 (signed_decimal z) ≡ z
signed_value (pos n) fits =
    let is = decimal_is_IsNumeral n (omega (arith, fits)) in unsigned_is (decimal n) is.0 ∙ ap pos is.1
signed_value (negsuc n) fits =
    let is = decimal_is_IsNumeral (suc n) (omega (arith, fits)) in ap (λ v. neg_ℤ (pos v)) is.1

signed_if_so : (z : ℤ) → mag z < 2 ^ 63 → signed_if z (signed_decimal z) ≡ Some z
signed_if_so z fits =
    some_so (is_word (signed_decimal z) (signed_decimal z) && nat_lt (mag z) (2 ^ 63)) z
    (are_both _ _ (is_itself (signed_decimal z)) (is_below (mag z) (2 ^ 63) fits))

pub signed_takes : (w : List ℕ) (z : ℤ) → signed_in w ≡ Some z → (w ≡ signed_decimal z) × (mag z < 2 ^ 63)
signed_takes w z e =
    let v = signed_digits_value 10 w in
    let s = some_if (is_word w (signed_decimal v) && nat_lt (mag v) (2 ^ 63)) v z e in
    let b = both_so (is_word w (signed_decimal v)) (nat_lt (mag v) (2 ^ 63)) s.0 in
    (same_word w (signed_decimal v) b.0 ∙ ap signed_decimal s.1, subst (λ x. mag x < 2 ^ 63) s.1 (below (mag v) (2 ^ 63) b.1))

pub signed_again : (z : ℤ) → mag z < 2 ^ 63 → signed_in (signed_decimal z) ≡ Some z
signed_again z fits = ap (λ v. signed_if v (signed_decimal z)) (signed_value z fits) ∙ signed_if_so z fits

pub a_signed : (w : List ℕ) (z : ℤ) → mag z < 2 ^ 63 → w ≡ signed_decimal z → Some z ≡ signed_in w
a_signed w z fits is = sym (ap signed_in is ∙ signed_again z fits)

pub no_signed : (w : List ℕ) → ((z : ℤ) → mag z < 2 ^ 63 → w ≡ signed_decimal z → ⊥) → None ≡ signed_in w
no_signed w none =
    let v = signed_digits_value 10 w in
    none_so (is_word w (signed_decimal v) && nat_lt (mag v) (2 ^ 63)) v (λ so.
    let b = both_so (is_word w (signed_decimal v)) (nat_lt (mag v) (2 ^ 63)) so in
    none v (below (mag v) (2 ^ 63) b.1) (same_word w (signed_decimal v) b.0))

-- A signed number fits 64 bits exactly where it is below 2 ^ 63 without its sign.
pub is_within : (z : ℤ) → mag z < 2 ^ 63 → FitsSigned w64 z
is_within (pos n) fits = record { sfits = fits }
is_within (negsuc n) fits = record { sfits = fits }

-- ---- marks

pub marked_takes : (mark : ℕ) (w : List ℕ) (n : ℕ) → marked_in mark w ≡ Some n → (w ≡ mark ∷ decimal n) × (n < 2 ^ 64)
marked_takes mark [] n e = absurd cc
marked_takes mark (b ∷ w) n e = go (b == mark) refl e
  where
    go : (t : Bool) → (b == mark) ≡ t → cond t (number_in w) None ≡ Some n → (b ∷ w ≡ mark ∷ decimal n) × (n < 2 ^ 64)
    go true same is =
        let t = number_takes w n is in
        let first : b ≡ mark = grind (arith, nat_tests) in
        ((λ i. first i ∷ t.0 i), t.1)
    go false other is = absurd cc

pub marked_again : (mark n : ℕ) → n < 2 ^ 64 → marked_in mark (mark ∷ decimal n) ≡ Some n
marked_again mark n fits =
    let same : (mark == mark) ≡ true = grind (arith, nat_tests) in
    rw same (number_again n fits)

-- ---- a colon behind a number

split_last : (w : List ℕ) → 0 < length w → w ≡ take (length w - 1) w ++ slice_index w (length w - 1) ∷ []
split_last w some =
    let one : length w - 1 + 1 ≡ length w = omega (arith, some) in
    let inside : length w - 1 < length w = omega (arith, some) in
    sym (take-append-drop (length w - 1) w)
    ∙ ap (λ xs. take (length w - 1) w ++ xs) (drop_more w (length w - 1) 0 inside ∙ ap (λ xs. slice_index w (length w - 1) ∷ xs) (drop_of_length-le w (omega (arith, one))))

pub colon_takes : (w : List ℕ) (n : ℕ) → number_before w ≡ Some n → (w ≡ decimal n ++ 58 ∷ []) × (n < 2 ^ 64)
colon_takes [] n is = absurd cc
colon_takes (b ∷ v) n is = go (slice_index (b ∷ v) (length (b ∷ v) - 1) == 58) refl is
  where
    go : (t : Bool) → (slice_index (b ∷ v) (length (b ∷ v) - 1) == 58) ≡ t → cond t (number_in (take (length (b ∷ v) - 1) (b ∷ v))) None ≡ Some n
        → (b ∷ v ≡ decimal n ++ 58 ∷ []) × (n < 2 ^ 64)
    go true same is =
        let t = number_takes (take (length (b ∷ v) - 1) (b ∷ v)) n is in
        let colon : slice_index (b ∷ v) (length (b ∷ v) - 1) ≡ 58 = grind (arith, nat_tests) in
        (split_last (b ∷ v) (omega arith) ∙ ap₂ (λ xs x. xs ++ x ∷ []) t.0 colon, t.1)
    go false other is = absurd cc

pub colon_again : (n : ℕ) → n < 2 ^ 64 → number_before (decimal n ++ 58 ∷ []) ≡ Some n
colon_again n fits =
    let w = decimal n in
    let long : length (w ++ 58 ∷ []) ≡ length w + 1 = length-append w (58 ∷ []) in
    let last : length (w ++ 58 ∷ []) - 1 ≡ length w = omega (arith, long) in
    let plus : length w + 0 ≡ length w = omega arith in
    let here : slice_index (w ++ 58 ∷ []) (length w) ≡ 58 = subst (λ j. slice_index (w ++ 58 ∷ []) j ≡ 58) plus (get_or-append-add w (58 ∷ []) 0 0) in
    let front : take (length w) (w ++ 58 ∷ []) ≡ w = take_at w (58 ∷ []) (length w) refl in
    ap (λ k. cond (slice_index (w ++ 58 ∷ []) k == 58) (number_in (take k (w ++ 58 ∷ []))) None) last
    ∙ ap₂ (λ x xs. cond (x == 58) (number_in xs) None) here front
    ∙ number_again n fits
