-- Codes of the first and of the last pair, words that are no codes, that a code tells its pair, and what a watch tells of
-- its looks.
use Rattle.std.proofs.Common.{◌≡◌, ℕ, List, [], ◌∷◌, get_or, refl, sym, ◌∙◌, ap, arith}
use Rattle.rcv_fence.specs.Codes.{code, IsWord, IsPairOf}
use Rattle.rcv_fence.specs.Shown.{FenceId, Shown, fresh, AreFreshOfOneFence}
use Rattle.rcv_fence.specs.Fence.{unlooked, shown, after_look, after_write}

first_code : code 0 1 ≡ 1
first_code = refl

code_of_the_case : code 1 1 ≡ 257
code_of_the_case = refl

last_code : code 7 256 ≡ 2048
last_code = refl

no_further_word : IsWord 2049 → ⊥
no_further_word low = omega arith

-- 0 is no pair's code
pub no_pair_of_0 : (role point : ℕ) → IsPairOf 0 role point → ⊥
no_pair_of_0 role point pair = let is = pair.code_is in omega arith

-- one word is the code of one pair
pub pairs_are_told_apart : (word r q p s : ℕ) → IsPairOf word r p → IsPairOf word q s → (r ≡ q) × (p ≡ s)
pairs_are_told_apart word r q p s a b =
    let one = a.code_is in
    let two = b.code_is in
    let from = a.point_is.first in
    let to = a.point_is.last in
    let from' = b.point_is.first in
    let to' = b.point_is.last in (omega arith, omega arith)

-- each word but 0 is a code
pub is_a_code : IsPairOf 300 1 44
is_a_code = record { role_is = omega arith; point_is = record { first = omega arith; last = omega arith }; code_is = refl }

-- a watch that looked, wrote 300 and looked again tells what each of its looks loaded, and not its last look alone
abbrev twice : FenceId → Shown
twice id = shown id (after_look (after_write (after_look unlooked 257) 300) 0)

loaded : (id : FenceId) → twice id ≡ record { fence = id; looks = 2; last = 0; seen = 257 ∷ 0 ∷ []; raised = 300 ∷ [] }
loaded id = refl

first_look_stays : (id : FenceId) → (twice id).seen ≡ 0 ∷ 0 ∷ [] → ⊥
first_look_stays id e = let same : 257 ≡ 0 = ap (λ (l : List ℕ). get_or l 0 0) e in omega (arith, same)

-- watches of two fences aren't watches of one
two_fences : (a b : FenceId) → (a ≡ b → ⊥) → AreFreshOfOneFence (fresh a ∷ fresh b ∷ []) → ⊥
two_fences a b apart one =
    let first : a ≡ one.0 = ap (λ (w : Shown). w.fence) (one.1 0 (fresh a) (omega arith)) in
    let second : b ≡ one.0 = ap (λ (w : Shown). w.fence) (one.1 1 (fresh a) (omega arith)) in apart (first ∙ sym second)
