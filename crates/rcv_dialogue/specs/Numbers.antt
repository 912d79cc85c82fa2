-- What one word says: a number by its text, which is one only.
use Rattle.std.specs.Prelude.{ℕ, ℤ, ◌^◌, ◌-◌, ◌==◌, ◌&&◌, nat_lt, Bool, if◌then◌else◌, List, [], ◌∷◌, length, take, slice_index, decimal, Option, Some, None}
use Rattle.std.specs.Int.Signed.{mag}
use Rattle.std.specs.Fmt.{signed_decimal}
use Rattle.std.specs.Str.{bytes_eq}
use Rattle.std.specs.Str.Parse.{digits_value, signed_digits_value}

-- The word is this one.
abbrev pub is_word : List ℕ → List ℕ → Bool
is_word word other = bytes_eq word other

-- The number, if the word is its text and 64 bits hold it.
abbrev pub number_if : ℕ → List ℕ → Option ℕ
number_if n word = if is_word word (decimal n) && nat_lt n (2 ^ 64) then Some n else None

abbrev pub number_in : List ℕ → Option ℕ
number_in word = number_if (digits_value 10 word) word

-- The same of a signed number.
abbrev pub signed_if : ℤ → List ℕ → Option ℤ
signed_if z word = if is_word word (signed_decimal z) && nat_lt (mag z) (2 ^ 63) then Some z else None

abbrev pub signed_in : List ℕ → Option ℤ
signed_in word = signed_if (signed_digits_value 10 word) word

-- The number after a mark, and the number before a colon.
abbrev pub marked_in : ℕ → List ℕ → Option ℕ
marked_in mark [] = None
marked_in mark (b ∷ word) = if b == mark then number_in word else None

abbrev pub number_before : List ℕ → Option ℕ
number_before word = if slice_index word (length word - 1) == 58 then number_in (take (length word - 1) word) else None
