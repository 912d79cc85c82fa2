-- Worked columns and letters.
use Rattle.std.proofs.Common.{◌≡◌, codes, [], ◌∷◌, refl, arith}
use Rattle.rcv_found.specs.Spots.{since_feed, column_of}
use Rattle.rcv_found.specs.Letters.{letter_length}

line_begun : since_feed (codes "ab\ncd") ≡ codes "cd"
line_begun = refl

at_start : column_of (codes "ab\n") ≡ 1
at_start = refl

third : column_of (codes "ab\ncd") ≡ 3
third = refl

-- The letters of earlier lines don't count, and a letter of two bytes counts once.
not_sixth : column_of (codes "ab\ncd") ≡ 6 → ⊥
not_sixth e = omega (arith, e)

wide : column_of (195 ∷ 169 ∷ []) ≡ 2
wide = refl

-- ---- bad letters

-- a word, or one letter of two bytes
a_word : letter_length (codes "ab1-c") ≡ 3
a_word = refl

a_letter : letter_length (195 ∷ 169 ∷ codes "ab") ≡ 2
a_letter = refl

not_more : letter_length (codes "!!") ≡ 2 → ⊥
not_more e = omega (arith, e)
