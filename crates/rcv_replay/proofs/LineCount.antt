-- How many lines a text has.
use Rattle.std.proofs.Common.{◌≡◌, ℕ, ◌≤◌, suc, ◌+◌, Bool, true, false, List, [], ◌∷◌, ◌++◌, length, refl, ◌∙◌, ap, arith}
use Rattle.std.specs.Prelude.{◌==◌, if◌then◌else◌}
use Rattle.rcv_journal.specs.Form.{lines_from, lines_of}

-- Whether a line has begun.
abbrev pub is_begun : List ℕ → Bool
is_begun [] = false
is_begun (b ∷ bs) = true

-- So many lines end in a text, where one has begun before it or not; the last may end without a line feed.
abbrev pub lines_in : Bool → List ℕ → ℕ
lines_in false [] = 0
lines_in true [] = 1
lines_in begun (b ∷ bs) = if b == 10 then suc (lines_in false bs) else lines_in true bs

with_one : (begun : List ℕ) (b : ℕ) → is_begun (begun ++ b ∷ []) ≡ true
with_one [] b = refl
with_one (c ∷ begun) b = refl

count : (begun text : List ℕ) → length (lines_from begun text) ≡ lines_in (is_begun begun) text
count [] [] = refl
count (b ∷ begun) [] = refl
count begun (b ∷ rest) = go (b == 10) (count [] rest) (count (begun ++ b ∷ []) rest)
  where
    go : (ends : Bool) → length (lines_from [] rest) ≡ lines_in false rest → length (lines_from (begun ++ b ∷ []) rest) ≡ lines_in (is_begun (begun ++ b ∷ [])) rest
        → length (if ends then (begun ++ b ∷ []) ∷ lines_from [] rest else lines_from (begun ++ b ∷ []) rest) ≡ (if ends then suc (lines_in false rest) else lines_in true rest)
    go true ended more = ap suc ended
    go false ended more = more ∙ ap (λ (t : Bool). lines_in t rest) (with_one begun b)

-- At most as many as it has bytes, and one more where one has begun before it.
few_in : (text : List ℕ) → (lines_in false text ≤ length text) × (lines_in true text ≤ length text + 1)
few_in [] = (omega arith, omega arith)
few_in (b ∷ rest) = go (b == 10) (few_in rest)
  where
    go : (ends : Bool) → (lines_in false rest ≤ length rest) × (lines_in true rest ≤ length rest + 1)
        → ((if ends then suc (lines_in false rest) else lines_in true rest) ≤ suc (length rest)) × ((if ends then suc (lines_in false rest) else lines_in true rest) ≤ suc (length rest) + 1)
    go true few = (omega (arith, few.0), omega (arith, few.0))
    go false few = (omega (arith, few.1), omega (arith, few.1))

pub few_lines : (text : List ℕ) → length (lines_of text) ≤ length text
few_lines text = let few = (few_in text).0 in let same = count [] text in omega (arith, few, same)
