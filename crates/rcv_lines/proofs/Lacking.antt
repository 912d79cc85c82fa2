-- Bytes that no field holds.
use Rattle.std.proofs.Common.{◌≡◌, ◌∙◌, ◌<◌, ◌^◌, ◌&&◌, ℕ, ℤ, pos, negsuc, zero, suc, Bool, true, false, true≢false, List, [], ◌∷◌, ◌++◌, flat_map, get_or, refl, sym, ap, arith, decimal}
use Rattle.std.specs.Char.{digit_value, is_ascii_digit}
use Rattle.std.specs.Fmt.{signed_decimal}
use Rattle.std.specs.Int.Signed.{mag}
use Rattle.std.specs.List.{All, list_all}
use Rattle.std.specs.Str.Parse.{AllDigits}
use Rattle.std.proofs.lemmas.Bool.Decides.{nat_tests}
use Rattle.std.proofs.lemmas.Fmt.{decimal_is_IsNumeral}
use Rattle.std.proofs.lemmas.List.Elements.{All-head, All-tail}
use Rattle.std.proofs.lemmas.Str.Parse.{digit_from_value}
use Rattle.rcv_tree.specs.Words.{is_letter, is_word_byte, IsWord, Passes}
use Rattle.rcv_lines.specs.Cutting.{Lacks, joined, spaced}

-- The byte is in none of the texts.
abbrev pub AllLack : ℕ → List (List ℕ) → Type 0
AllLack byte [] = Unit {0}
AllLack byte (field ∷ fields) = Lacks byte field × AllLack byte fields

-- It is no byte of a word, and no mark before or behind a number.
pub record IsOutside (byte : ℕ) : Type 0 where
  pub word : is_word_byte byte ≡ false
  pub digit : is_ascii_digit byte ≡ false
  pub minus : 45 ≡ byte → ⊥
  pub stamp : 64 ≡ byte → ⊥
  pub sent : 60 ≡ byte → ⊥
  pub colon : 58 ≡ byte → ⊥

pub space_is_outside : IsOutside 32
space_is_outside = record { word = refl; digit = refl; minus = λ e. omega (arith, e); stamp = λ e. omega (arith, e); sent = λ e. omega (arith, e); colon = λ e. omega (arith, e) }

pub feed_is_outside : IsOutside 10
feed_is_outside = record { word = refl; digit = refl; minus = λ e. omega (arith, e); stamp = λ e. omega (arith, e); sent = λ e. omega (arith, e); colon = λ e. omega (arith, e) }

pub both_lack : (byte : ℕ) (a b : List ℕ) → Lacks byte a → Lacks byte b → Lacks byte (a ++ b)
both_lack byte [] b none rest = rest
both_lack byte (x ∷ a) b none rest = (none.0, both_lack byte a b none.1 rest)

pub all_both : (byte : ℕ) (a b : List (List ℕ)) → AllLack byte a → AllLack byte b → AllLack byte (a ++ b)
all_both byte [] b none rest = rest
all_both byte (x ∷ a) b none rest = (none.0, all_both byte a b none.1 rest)

apart : (p : ℕ → Bool) (a b : ℕ) → p a ≡ true → p b ≡ false → a ≡ b → ⊥
apart p a b on off same = true≢false (sym on ∙ ap p same ∙ off)

passes_lack : (byte : ℕ) → is_word_byte byte ≡ false → (bs : List ℕ) → Passes is_word_byte bs → Lacks byte bs
passes_lack byte off [] all = tt
passes_lack byte off (b ∷ bs) all = (apart is_word_byte b byte all.0 off, passes_lack byte off bs all.1)

letter_is_word_byte : (b : ℕ) → is_letter b ≡ true → is_word_byte b ≡ true
letter_is_word_byte b e = rw e refl

pub word_lacks : (byte : ℕ) → IsOutside byte → (w : List ℕ) → IsWord w → Lacks byte w
word_lacks byte out [] word = absurd word
word_lacks byte out (b ∷ bs) word = (apart is_word_byte b byte (letter_is_word_byte b word.0) out.word, passes_lack byte out.word bs word.1)

-- A text of word bytes that is written out.
pub written_lacks : (byte : ℕ) → IsOutside byte → (w : List ℕ) → list_all is_word_byte w ≡ true → Lacks byte w
written_lacks byte out [] all = tt
written_lacks byte out (b ∷ bs) all = go (is_word_byte b) refl all (written_lacks byte out bs)
  where
    go : (t : Bool) → is_word_byte b ≡ t → (t && list_all is_word_byte bs) ≡ true → (list_all is_word_byte bs ≡ true → Lacks byte bs) → Lacks byte (b ∷ bs)
    go true is rest later = (apart is_word_byte b byte is out.word, later rest)
    go false is rest later = absurd (true≢false (sym rest))

is_digit : (b : ℕ) → digit_value b < 10 → is_ascii_digit b ≡ true
is_digit b small = let range = digit_from_value b small in grind (arith, nat_tests)

digits_lack : (byte : ℕ) → IsOutside byte → (bs : List ℕ) → AllDigits 10 bs → Lacks byte bs
digits_lack byte out [] all = tt
digits_lack byte out (b ∷ bs) all = (apart is_ascii_digit b byte (is_digit b all.0) out.digit, digits_lack byte out bs all.1)

pub number_lacks : (byte : ℕ) → IsOutside byte → (n : ℕ) → n < 2 ^ 64 → Lacks byte (decimal n)
number_lacks byte out n fits = digits_lack byte out (decimal n) (decimal_is_IsNumeral n fits).0.1

pub signed_lacks : (byte : ℕ) → IsOutside byte → (z : ℤ) → mag z < 2 ^ 63 → Lacks byte (signed_decimal z)
signed_lacks byte out (pos n) fits = number_lacks byte out n (omega (arith, fits))
signed_lacks byte out (negsuc n) fits = (out.minus, number_lacks byte out (suc n) (omega (arith, fits)))

pub names_lack : (byte : ℕ) → IsOutside byte → (names : List (List ℕ)) → All IsWord names → (r : ℕ) → Lacks byte (get_or names r [])
names_lack byte out [] words r = tt
names_lack byte out (n ∷ ns) words zero = word_lacks byte out n (All-head IsWord n ns words)
names_lack byte out (n ∷ ns) words (suc r) = names_lack byte out ns (All-tail IsWord n ns words) r

-- So neither does their text hold it, which has spaces beside them.
spaced_lack : (byte : ℕ) → (32 ≡ byte → ⊥) → (fields : List (List ℕ)) → AllLack byte fields → Lacks byte (flat_map spaced fields)
spaced_lack byte other [] all = tt
spaced_lack byte other (field ∷ fields) all = (other, both_lack byte field (flat_map spaced fields) all.0 (spaced_lack byte other fields all.1))

pub joined_lacks : (byte : ℕ) → (32 ≡ byte → ⊥) → (fields : List (List ℕ)) → AllLack byte fields → Lacks byte (joined fields)
joined_lacks byte other [] all = tt
joined_lacks byte other (field ∷ fields) all = both_lack byte field (flat_map spaced fields) all.0 (spaced_lack byte other fields all.1)
