-- The lines of sessions: which of them is which.
use Rattle.std.proofs.Common.{◌≡◌, ◌+◌, ◌%◌, ◌^◌, ◌<◌, ◌≤◌, ◌&&◌, ℕ, zero, suc, Bool, true, false, List, [], ◌∷◌, ◌++◌, length, drop, get_or, Some, None, refl, sym, ap, ap₂, ◌∙◌, arith, decimal}
use Rattle.std.specs.Prelude.{◌==◌, nat_eq, if◌then◌else◌}
use Rattle.std.specs.List.{starts_with}
use Rattle.std.proofs.lemmas.Bool.Decides.{Decides-eqb, nat_tests}
use Rattle.std.proofs.lemmas.Fmt.{decimal_by_steps, decimal_injective}
use Rattle.std.proofs.lemmas.List.{append_cancel_left}
use Rattle.std.proofs.lemmas.Slice.Eq.{starts_is}
use Rattle.std.proofs.Math.Seq.{drop-append_seam}
use Rattle.rcv_lexer.specs.Parts.{begins_with_lf, line_end, line_of}
use Rattle.rcv_section.specs.Lines.{LineAt, IsWhole}
use Rattle.rcv_section.specs.Sections.{IsHeading, IsTitle, heading_word, title}
use Rattle.rcv_section.proofs.Places.{NoFeed}

-- Each byte is as great as a digit.
abbrev AreGreat : List ℕ → Type 0
AreGreat [] = Unit {0}
AreGreat (b ∷ bs) = (48 ≤ b) × AreGreat bs

one_more : (xs : List ℕ) (d : ℕ) → AreGreat xs → 48 ≤ d → AreGreat (xs ++ d ∷ [])
one_more [] d all great = (great, tt)
one_more (x ∷ xs) d all great = (all.0, one_more xs d all.1 great)

decimal_is_great : (n : ℕ) → n < 2 ^ 64 → AreGreat (decimal n)
decimal_is_great = decimal_by_steps (λ n ds. AreGreat ds) (λ n small. (omega arith, tt)) (λ n ds large all. one_more ds (48 + n % 10) all (omega arith))

not_ten : (b : ℕ) → 48 ≤ b → (b == 10) ≡ false
not_ten b great = grind (arith, nat_tests)

no_feed : (xs : List ℕ) → AreGreat xs → NoFeed xs
no_feed [] all = tt
no_feed (x ∷ xs) all = (not_ten x all.0, no_feed xs all.1)

pub title_has_no_feed : (n : ℕ) → n < 2 ^ 64 → NoFeed (title n)
title_has_no_feed n small = (refl, (refl, (refl, (refl, (refl, (refl, (refl, (refl, no_feed (decimal n) (decimal_is_great n small)))))))))

pub heading_has_no_feed : NoFeed heading_word
heading_has_no_feed = (refl, (refl, (refl, (refl, (refl, (refl, (refl, (refl, tt))))))))

-- What a line ends with is less than a digit, or nothing.
abbrev IsEnd : List ℕ → Type 0
IsEnd [] = Unit {0}
IsEnd (b ∷ bs) = b < 48

ends_at : (n : ℕ) (text : List ℕ) (len : ℕ) → line_end n text ≡ Some len → IsEnd text
ends_at n [] len e = tt
ends_at n (b ∷ bs) len e = go (b == 10) (b == 13) refl refl e
  where
    go : (lf cr : Bool) → (b == 10) ≡ lf → (b == 13) ≡ cr → (if lf then Some (n + 1) else (if cr && begins_with_lf bs then Some (n + 2) else None)) ≡ Some len → b < 48
    go true cr is_lf is_cr e = let same = (Decides-eqb b 10).0 is_lf in omega (arith, same)
    go false true is_lf is_cr e = let same = (Decides-eqb b 13).0 is_cr in omega (arith, same)
    go false false is_lf is_cr e = cc

-- The digits of a line are those before its end.
same_digits : (xs ys us vs : List ℕ) → AreGreat xs → AreGreat ys → IsEnd us → IsEnd vs → xs ++ us ≡ ys ++ vs → xs ≡ ys
same_digits [] [] us vs x y a b e = refl
same_digits [] (y ∷ ys) [] vs great_x great_y a b e = cc
same_digits [] (y ∷ ys) (c ∷ us) vs great_x great_y a b e = let same : c ≡ y = ap (λ l. get_or l 0 0) e in absurd (omega (arith, same, great_y.0, a))
same_digits (x ∷ xs) [] us [] great_x great_y a b e = cc
same_digits (x ∷ xs) [] us (c ∷ vs) great_x great_y a b e = let same : x ≡ c = ap (λ l. get_or l 0 0) e in absurd (omega (arith, same, great_x.0, b))
same_digits (x ∷ xs) (y ∷ ys) us vs great_x great_y a b e = ap₂ (λ d ds. d ∷ ds) (ap (λ l. get_or l 0 0) e) (same_digits xs ys us vs great_x.1 great_y.1 a b (ap (drop 1) e))

pub starts : (text word rest : List ℕ) → text ≡ word ++ rest → starts_with nat_eq text word ≡ true
starts text word rest e = (starts_is Decides-eqb text word (starts_with nat_eq text word) refl).1 rest e

pub started : (text word : List ℕ) → starts_with nat_eq text word ≡ true → text ≡ word ++ drop (length word) text
started text word e = (starts_is Decides-eqb text word (starts_with nat_eq text word) refl).0 e

-- A first line that is this one is it and its end.
cut : (word text : List ℕ) (len : ℕ) → line_of word text ≡ Some len → (text ≡ word ++ drop (length word) text) × IsEnd (drop (length word) text)
cut word text len e = go (starts_with nat_eq text word) refl e
  where
    go : (b : Bool) → starts_with nat_eq text word ≡ b → (if b then line_end (length word) (drop (length word) text) else None) ≡ Some len → (text ≡ word ++ drop (length word) text) × IsEnd (drop (length word) text)
    go true is e = (started text word is, ends_at (length word) (drop (length word) text) len e)
    go false is e = cc

-- The line of a session is that of no other.
pub one_title : (m n : ℕ) → m < 2 ^ 64 → n < 2 ^ 64 → (rest : List ℕ) (len : ℕ) → line_of (title n) (title m ++ 10 ∷ rest) ≡ Some len → m ≡ n
one_title m n small_m small_n rest len e =
    let parts = cut (title n) (title m ++ 10 ∷ rest) len e in
    let tail = drop (length (title n)) (title m ++ 10 ∷ rest) in
    let same : decimal m ++ 10 ∷ rest ≡ decimal n ++ tail = append_cancel_left heading_word (decimal m ++ 10 ∷ rest) (decimal n ++ tail) parts.0 in
    decimal_injective m n small_m small_n (same_digits (decimal m) (decimal n) (10 ∷ rest) tail (decimal_is_great m small_m) (decimal_is_great n small_n) (omega arith) parts.1 same)

-- A line is itself, with its end.
pub is_itself : (word rest : List ℕ) → line_of word (word ++ 10 ∷ rest) ≡ Some (length word + 1)
is_itself word rest =
    ap (λ (b : Bool). if b then line_end (length word) (drop (length word) (word ++ 10 ∷ rest)) else None) (starts (word ++ 10 ∷ rest) word (10 ∷ rest) refl)
    ∙ ap (line_end (length word)) (drop-append_seam word (10 ∷ rest))

-- The line of a session begins as each of them does.
pub title_is_heading : (n len : ℕ) (text : List ℕ) → IsTitle (title n) len text → IsHeading text
title_is_heading n len text e = starts text heading_word (decimal n ++ drop (length (title n)) text) (cut (title n) text len e).0

-- A word without a line feed at the front of a text, which is whole lines with more behind, lies in the lines.
pub fits : (word : List ℕ) (x : ℕ) (xs ys rest : List ℕ) → NoFeed word → IsWhole (x == 10) xs → (x ∷ xs) ++ ys ≡ word ++ rest → (more : List ℕ) × ((x ∷ xs) ≡ word ++ more)
fits [] x xs ys rest quiet whole e = (x ∷ xs, refl)
fits (c ∷ word) x [] ys rest quiet whole e =
    let same : x ≡ c = ap (λ l. get_or l 0 0) e in
    let ten = (Decides-eqb x 10).0 whole in
    let is_ten = (Decides-eqb c 10).1 (sym same ∙ ten) in
    let not = quiet.0 in
    cc
fits (c ∷ word) x (y ∷ xs) ys rest quiet whole e =
    let more = fits word y xs ys rest quiet.1 whole (ap (drop 1) e) in
    (more.0, ap₂ (λ d ds. d ∷ ds) (ap (λ l. get_or l 0 0) e) more.1)

-- Where none of its lines begins so, none does with a text behind it.
pub quiet_before : (xs ys : List ℕ) (fresh : Bool) → IsWhole fresh xs → ((p : ℕ) → LineAt IsHeading fresh xs p → ⊥) → (q : ℕ) → q < length xs → LineAt IsHeading fresh (xs ++ ys) q → ⊥
quiet_before [] ys fresh whole quiet q less at = omega (arith, less)
quiet_before (x ∷ xs) ys fresh whole quiet zero less at =
    let it = fits heading_word x xs ys (drop (length heading_word) ((x ∷ xs) ++ ys)) heading_has_no_feed whole (started ((x ∷ xs) ++ ys) heading_word at.1) in
    quiet 0 (at.0, starts (x ∷ xs) heading_word it.0 it.1)
quiet_before (x ∷ xs) ys fresh whole quiet (suc q) less at = quiet_before xs ys (x == 10) whole (λ p. quiet (suc p)) q (omega (arith, less)) at
