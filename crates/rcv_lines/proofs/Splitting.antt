-- The lines of a text, one after another.
use Rattle.std.proofs.Common.{◌≡◌, ◌∙◌, ◌<◌, ◌≤◌, ◌+◌, ◌==◌, ℕ, zero, suc, Bool, true, false, cond, List, [], ◌∷◌, ◌++◌, All, length, get_or, take, drop, flat_map, refl, sym, ap, ap₂, subst, arith, append_assoc, append-nil, drop_of_length-le, position, Some, None}
use Rattle.std.proofs.lemmas.Bool.Decides.{nat_tests}
use Rattle.std.proofs.lemmas.List.Elements.{All-head, All-tail}
use Rattle.std.proofs.lemmas.Grind.{common_steps}
use Rattle.std.proofs.lemmas.List.{take_all}
use Rattle.std.proofs.lemmas.List.Quantifiers.{position-Some}
use Rattle.std.proofs.lemmas.List.Sums.{fails_before_first}
use Rattle.std.specs.List.{position_or_len}
use Rattle.rcv_journal.specs.Form.{lines_from, lines_of}

-- one byte more
pub goes_on : (begun : List ℕ) (b : ℕ) (rest : List ℕ) → lines_from begun (b ∷ rest) ≡ cond (b == 10) ((begun ++ b ∷ []) ∷ lines_from [] rest) (lines_from (begun ++ b ∷ []) rest)
goes_on [] b rest = refl
goes_on (x ∷ begun) b rest = refl

feed : (begun : List ℕ) (b : ℕ) (rest : List ℕ) → b ≡ 10 → lines_from begun (b ∷ rest) ≡ (begun ++ b ∷ []) ∷ lines_from [] rest
feed begun b rest is =
    let yes_feed : (b == 10) ≡ true = grind (arith, nat_tests) in
    goes_on begun b rest ∙ ap (λ t. cond t ((begun ++ b ∷ []) ∷ lines_from [] rest) (lines_from (begun ++ b ∷ []) rest)) yes_feed

no_feed : (begun : List ℕ) (b : ℕ) (rest : List ℕ) → (b ≡ 10 → ⊥) → lines_from begun (b ∷ rest) ≡ lines_from (begun ++ b ∷ []) rest
no_feed begun b rest is_not =
    let none : (b == 10) ≡ false = grind (arith, nat_tests) in
    goes_on begun b rest ∙ ap (λ t. cond t ((begun ++ b ∷ []) ∷ lines_from [] rest) (lines_from (begun ++ b ∷ []) rest)) none

-- the first line ends with the first line feed
pub fed_line : (i : ℕ) (begun text : List ℕ) (d : ℕ) → i < length text → get_or text i d ≡ 10 → ((k : ℕ) → k < i → get_or text k d ≡ 10 → ⊥) → lines_from begun text ≡ (begun ++ take (suc i) text) ∷ lines_from [] (drop (suc i) text)
fed_line i begun [] d within at before = absurd (omega (arith, within))
fed_line zero begun (b ∷ rest) d within at before = feed begun b rest at
fed_line (suc i) begun (b ∷ rest) d within at before =
    no_feed begun b rest (before 0 (omega arith)) ∙ fed_line i (begun ++ b ∷ []) rest d (omega (arith, within)) at (λ k lt. before (suc k) (omega (arith, lt))) ∙ ap (λ xs. xs ∷ lines_from [] (drop (suc i) rest)) (append_assoc begun (b ∷ []) (take (suc i) rest))

-- or with the text
unfed_line : (x : ℕ) (begun text : List ℕ) (d : ℕ) → ((k : ℕ) → k < length text → get_or text k d ≡ 10 → ⊥) → lines_from (x ∷ begun) text ≡ (x ∷ begun ++ text) ∷ []
unfed_line x begun [] d none = ap (λ xs. xs ∷ []) (sym (append-nil (x ∷ begun)))
unfed_line x begun (b ∷ rest) d none =
    no_feed (x ∷ begun) b rest (none 0 (omega arith)) ∙ unfed_line x (begun ++ b ∷ []) rest d (λ k lt. none (suc k) (omega (arith, lt))) ∙ ap (λ xs. xs ∷ []) (append_assoc (x ∷ begun) (b ∷ []) rest)

pub last_line_is : (text : List ℕ) (d : ℕ) → 0 < length text → ((k : ℕ) → k < length text → get_or text k d ≡ 10 → ⊥) → lines_of text ≡ text ∷ []
last_line_is [] d some none = absurd (omega (arith, some))
last_line_is (b ∷ rest) d some none =
    no_feed [] b rest (none 0 (omega arith)) ∙ unfed_line b [] rest d (λ k lt. none (suc k) (omega (arith, lt)))

-- a line of the form: its one line feed is its last byte
pub record IsLine (line : List ℕ) : Type 0 where
  pub front : List ℕ
  pub ends : line ≡ front ++ 10 ∷ []
  pub only : All (λ b. b ≡ 10 → ⊥) front

line_first : (begun front rest : List ℕ) → All (λ b. b ≡ 10 → ⊥) front → lines_from begun (front ++ 10 ∷ rest) ≡ (begun ++ front ++ 10 ∷ []) ∷ lines_from [] rest
line_first begun [] rest only =
    feed begun 10 rest refl ∙ ap (λ xs. (xs ++ 10 ∷ []) ∷ lines_from [] rest) (sym (append-nil begun))
line_first begun (b ∷ front) rest only =
    no_feed begun b (front ++ 10 ∷ rest) (All-head (λ b. b ≡ 10 → ⊥) b front only)
    ∙ line_first (begun ++ b ∷ []) front rest (All-tail (λ b. b ≡ 10 → ⊥) b front only)
    ∙ ap (λ xs. (xs ++ 10 ∷ []) ∷ lines_from [] rest) (append_assoc begun (b ∷ []) front)

pub line_then : (line rest : List ℕ) → IsLine line → lines_of (line ++ rest) ≡ line ∷ lines_of rest
line_then line rest is =
    ap (λ xs. lines_of (xs ++ rest)) is.ends
    ∙ ap lines_of (append_assoc is.front (10 ∷ []) rest)
    ∙ line_first [] is.front rest is.only
    ∙ ap (λ xs. xs ∷ lines_of rest) (sym is.ends)

-- the lines of joined lines are these
pub lines_of_joined : (lines : List (List ℕ)) → All IsLine lines → lines_of (flat_map (λ line. line) lines) ≡ lines
lines_of_joined [] are = refl
lines_of_joined (line ∷ lines) are =
    line_then line (flat_map (λ x. x) lines) (All-head IsLine line lines are)
    ∙ ap (λ xs. line ∷ xs) (lines_of_joined lines (All-tail IsLine line lines are))

abbrev is_feed : ℕ → Bool
is_feed b = b == 10

pub cut_behind_feed : (text : List ℕ) (i : ℕ) → position (λ b. b == 10) text ≡ Some i → lines_of text ≡ take (i + 1) text ∷ lines_of (drop (i + 1) text)
cut_behind_feed text i at =
    let found = position-Some is_feed text i 0 at in
    let here : get_or text i 0 ≡ 10 = let test = found.1 in grind (arith, nat_tests) in
    let next : suc i ≡ i + 1 = omega arith in
    subst (λ n. lines_of text ≡ take n text ∷ lines_of (drop n text)) next (fed_line i [] text 0 found.0 here (λ k lt is. let test = found.2 k lt in absurd (grind (arith, nat_tests))))

pub cut_at_end : (text : List ℕ) → 0 < length text → position (λ b. b == 10) text ≡ None → lines_of text ≡ take (length text) text ∷ lines_of (drop (length text) text)
cut_at_end text some at =
    let far : length text ≤ position_or_len is_feed text = grind (arith, common_steps) in
    last_line_is text 0 some (λ k lt is. let test = fails_before_first is_feed text k 0 (omega (arith, lt, far)) in absurd (grind (arith, nat_tests)))
    ∙ ap₂ (λ xs ys. xs ∷ lines_of ys) (sym (take_all (length text) text (omega arith))) (sym (drop_of_length-le text (omega arith)))
