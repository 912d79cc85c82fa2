-- Names as they are written.
use Rattle.std.proofs.Common.{◌≡◌, ℕ, ◌<◌, true, cond, List, [], ◌∷◌, get_or, Result, Ok, Err, refl, ◌∙◌, ap, arith}
use Rattle.std.specs.Prelude.{IsOk, MatchResult}
use Rattle.std.specs.Str.{IsUtf8}
use Rattle.std.specs.List.{filter}
use Rattle.std.proofs.lemmas.Bool.Decides.{nat_tests}
use Rattle.std.proofs.lemmas.List.Elements.{filter_passes}
use Rattle.std.proofs.lemmas.Str.{IsUtf8-from_ascii}
use Rattle.std.proofs.lemmas.Str.Ascii.{IsAscii-from_all}
use Rattle.rcv_tree.specs.Words.{is_letter, is_word_byte, Passes, IsWord}
use Rattle.rcv_export.specs.Pieces.{is_ascii, ascii_of}

below : (b : ℕ) → is_ascii b ≡ true → b < 128
below b is = grind (arith, nat_tests)

-- what is written is text
pub ascii_is_text : (name : List ℕ) → IsUtf8 (ascii_of name)
ascii_is_text name = IsUtf8-from_ascii (ascii_of name) (IsAscii-from_all (ascii_of name) (λ k d lt. below (get_or (ascii_of name) k d) (filter_passes is_ascii name k d lt)))

letter_is_ascii : (b : ℕ) → is_letter b ≡ true → is_ascii b ≡ true
letter_is_ascii b is = grind (arith, nat_tests)

byte_is_ascii : (b : ℕ) → is_word_byte b ≡ true → is_ascii b ≡ true
byte_is_ascii b is = grind (arith, nat_tests)

one_more : (b : ℕ) (bs : List ℕ) → is_ascii b ≡ true → filter is_ascii bs ≡ bs → filter is_ascii (b ∷ bs) ≡ b ∷ bs
one_more b bs is same = ap (λ t. cond t (b ∷ filter is_ascii bs) (filter is_ascii bs)) is ∙ ap (λ t. b ∷ t) same

all_ascii : (bs : List ℕ) → Passes is_word_byte bs → filter is_ascii bs ≡ bs
all_ascii [] pass = refl
all_ascii (b ∷ bs) pass = one_more b bs (byte_is_ascii b pass.0) (all_ascii bs pass.1)

-- and a word is written whole
pub words_stay_whole : (name : List ℕ) → IsWord name → ascii_of name ≡ name
words_stay_whole [] word = absurd word
words_stay_whole (b ∷ bs) word = one_more b bs (letter_is_ascii b word.0) (all_ascii bs word.1)

-- What only fails where the bytes are no text doesn't fail.
pub is_text : {T E : Type 0} (r : Result T E) (P : T → Type 0) (Q : E → Type 0) (bytes : List ℕ) → MatchResult r P Q → ((e : E) → Q e → IsUtf8 bytes → ⊥) → IsUtf8 bytes → IsOk r
is_text (Ok x) P Q bytes cases fails text = refl
is_text (Err e) P Q bytes cases fails text = absurd (fails e cases text)
