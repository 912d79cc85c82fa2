-- Texts that are cut at their spaces, one word after another.
use Rattle.std.proofs.Common.{◌≡◌, ◌∙◌, ◌+◌, ◌<◌, ◌≤◌, ◌==◌, ℕ, zero, suc, Bool, true, false, cond, List, [], ◌∷◌, ◌++◌, take, drop, length, get_or, Some, None, refl, sym, ap, arith, append_assoc, append-nil, drop_of_length-le, position}
use Rattle.std.specs.List.{position_or_len}
use Rattle.std.proofs.lemmas.List.{drop_more}
use Rattle.std.proofs.lemmas.List.Quantifiers.{position-Some}
use Rattle.std.proofs.lemmas.List.Sums.{fails_before_first}
use Rattle.std.proofs.lemmas.Grind.{common_steps}
use Rattle.rcv_lines.specs.Cutting.{fields_from, fields_of}
use Rattle.rcv_lines.proofs.Cuts.{at_a_space, at_another}
use Rattle.rcv_dialogue.specs.Left.{left}

abbrev is_space : ℕ → Bool
is_space b = b == 32

-- Up to its first space, which stands at i.
walk : (begun text : List ℕ) (i : ℕ) → i < length text → ((k : ℕ) → k < i → (get_or text k 0 == 32) ≡ false) → (get_or text i 0 == 32) ≡ true
    → fields_from begun text ≡ (begun ++ take i text) ∷ left (drop i text)
walk begun [] i inside none here = absurd (omega (arith, inside))
walk begun (b ∷ text) zero inside none here = at_a_space begun text b here ∙ ap (λ w. w ∷ fields_from [] text) (sym (append-nil begun))
walk begun (b ∷ text) (suc i) inside none here =
    at_another begun text b (none 0 (omega arith))
    ∙ walk (begun ++ b ∷ []) text i (omega (arith, inside)) (λ k before. none (suc k) (omega (arith, before))) here
    ∙ ap (λ w. w ∷ left (drop i text)) (append_assoc begun (b ∷ []) (take i text))

walk_all : (begun text : List ℕ) → ((k : ℕ) → k < length text → (get_or text k 0 == 32) ≡ false) → fields_from begun text ≡ (begun ++ text) ∷ []
walk_all begun [] none = ap (λ w. w ∷ []) (sym (append-nil begun))
walk_all begun (b ∷ text) none =
    at_another begun text b (none 0 (omega arith))
    ∙ walk_all (begun ++ b ∷ []) text (λ k before. none (suc k) (omega (arith, before)))
    ∙ ap (λ w. w ∷ []) (append_assoc begun (b ∷ []) text)

pub cut_first : (text : List ℕ) (i : ℕ) → position (λ b. b == 32) text ≡ Some i → fields_of text ≡ take i text ∷ left (drop i text)
cut_first text i at =
    let found = position-Some is_space text i 0 at in
    walk [] text i found.0 found.2 found.1

-- How many words there are hangs on what follows alone.
pub as_many : (begun other text : List ℕ) → length (fields_from begun text) ≡ length (fields_from other text)
as_many begun other [] = refl
as_many begun other (b ∷ text) = go (b == 32) refl (as_many (begun ++ b ∷ []) (other ++ b ∷ []) text)
  where
    go : (t : Bool) → (b == 32) ≡ t → length (fields_from (begun ++ b ∷ []) text) ≡ length (fields_from (other ++ b ∷ []) text)
        → length (fields_from begun (b ∷ text)) ≡ length (fields_from other (b ∷ text))
    go true is later = ap length (at_a_space begun text b is) ∙ sym (ap length (at_a_space other text b is))
    go false is later = ap length (at_another begun text b is) ∙ later ∙ sym (ap length (at_another other text b is))

-- One byte more, in a loop that counts spaces.
pub one_byte : (text : List ℕ) (i : ℕ) → i < length text → length (fields_from [] (drop i text)) ≡ cond (get_or text i 0 == 32) 1 0 + length (fields_from [] (drop (i + 1) text))
one_byte text i inside = ap (λ t. length (fields_from [] t)) (drop_more text i 0 inside) ∙ go (get_or text i 0 == 32) refl
  where
    go : (t : Bool) → (get_or text i 0 == 32) ≡ t → length (fields_from [] (get_or text i 0 ∷ drop (i + 1) text)) ≡ cond t 1 0 + length (fields_from [] (drop (i + 1) text))
    go true is = let e = ap length (at_a_space [] (drop (i + 1) text) (get_or text i 0) is) in omega (arith, e)
    go false is =
        let e = ap length (at_another [] (drop (i + 1) text) (get_or text i 0) is) in
        let m = as_many (get_or text i 0 ∷ []) [] (drop (i + 1) text) in
        omega (arith, e, m)

-- A text has at most one word more than bytes.
pub few_words : (begun text : List ℕ) → length (fields_from begun text) ≤ length text + 1
few_words begun [] = omega arith
few_words begun (b ∷ text) = go (b == 32) refl (few_words [] text) (few_words (begun ++ b ∷ []) text)
  where
    go : (t : Bool) → (b == 32) ≡ t → length (fields_from [] text) ≤ length text + 1 → length (fields_from (begun ++ b ∷ []) text) ≤ length text + 1
        → length (fields_from begun (b ∷ text)) ≤ length (b ∷ text) + 1
    go true is new old = let e = ap length (at_a_space begun text b is) in omega (arith, e, new)
    go false is new old = let e = ap length (at_another begun text b is) in omega (arith, e, old)

pub cut_rest : (text : List ℕ) → position (λ b. b == 32) text ≡ None → fields_of text ≡ text ∷ left (drop (length text) text)
cut_rest text at =
    let far : length text ≤ position_or_len is_space text = grind (arith, common_steps) in
    walk_all [] text (λ k inside. fails_before_first is_space text k 0 (omega (arith, inside, far)))
    ∙ ap (λ rest. text ∷ left rest) (sym (drop_of_length-le text (omega arith)))
