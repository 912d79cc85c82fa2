-- Names that are words are text.
use Rattle.std.proofs.Common.{◌≡◌, ℕ, ◌<◌, Bool, true, false, ◌==◌, cond, List, [], ◌∷◌, length, sym, subst, ⊎_elim, arith}
use Rattle.std.specs.Prelude.{All, slice_index_or}
use Rattle.std.specs.Str.{IsUtf8}
use Rattle.std.proofs.lemmas.Bool.{cases_lt}
use Rattle.std.proofs.lemmas.Bool.Decides.{nat_tests}
use Rattle.std.proofs.lemmas.List.{get_or_past}
use Rattle.std.proofs.lemmas.List.Elements.{All-nil, All-cons, All-head, All-tail}
use Rattle.std.proofs.lemmas.Str.{IsUtf8-from_ascii}
use Rattle.std.proofs.lemmas.Str.Ascii.{IsAscii-nil, IsAscii-from_all}
use Rattle.rcv_tree.specs.Words.{is_letter, is_word_byte, Passes, IsWord}
use Rattle.rcv_model.specs.Places.{SingleMessage, single_at}

letter_is_short : (b : ℕ) → is_letter b ≡ true → b < 128
letter_is_short b is = grind (arith, nat_tests)

byte_is_short : (b : ℕ) → is_word_byte b ≡ true → b < 128
byte_is_short b is = grind (arith, nat_tests)

all_short : (bs : List ℕ) → Passes is_word_byte bs → All (λ b. b < 128) bs
all_short [] pass = All-nil (λ b. b < 128)
all_short (b ∷ bs) pass = All-cons (λ b. b < 128) b bs (byte_is_short b pass.0) (all_short bs pass.1)

-- no bytes are text, and a word is
nothing_is_text : IsUtf8 []
nothing_is_text = IsUtf8-from_ascii [] IsAscii-nil

word_is_text : (w : List ℕ) → IsWord w → IsUtf8 w
word_is_text [] word = absurd word
word_is_text (b ∷ bs) word =
    IsUtf8-from_ascii (b ∷ bs) (IsAscii-from_all (b ∷ bs) (All-cons (λ b. b < 128) b bs (letter_is_short b word.0) (all_short bs word.1)))

pub name_is_text : (names : List (List ℕ)) (r : ℕ) → All IsWord names → IsUtf8 (slice_index_or names r [])
name_is_text names r words =
    ⊎_elim (λ lt. word_is_text (slice_index_or names r []) (words r [] lt)) (λ past. subst IsUtf8 (sym (get_or_past names r [] past)) nothing_is_text) (cases_lt r (length names))

pub label_is_text : (p : ℕ) (es : List (ℕ × SingleMessage)) → All (λ m. IsWord m.1.label) es → IsUtf8 (single_at p es).label
label_is_text p [] words = nothing_is_text
label_is_text p (e ∷ es) words = go (e.0 == p) (label_is_text p es (All-tail (λ m. IsWord m.1.label) e es words))
  where
    go : (b : Bool) → IsUtf8 (single_at p es).label → IsUtf8 (cond b e.1 (single_at p es)).label
    go true later = word_is_text e.1.label (All-head (λ m. IsWord m.1.label) e es words)
    go false later = later
