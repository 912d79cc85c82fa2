-- Texts that are cut at their spaces, byte by byte.
use Rattle.std.proofs.Common.{◌≡◌, ◌∙◌, ◌+◌, ◌-◌, ◌<◌, ◌≤◌, ℕ, suc, true, false, cond, List, [], ◌∷◌, ◌++◌, take, drop, length, get_or, sym, ap, ap₂, append_assoc, arith, nat_eq, eq-eqb, ne_eqb}
use Rattle.std.proofs.lemmas.List.{drop_more, get_or-drop, length-drop}
use Rattle.std.proofs.Math.Seq.{take-suc}
use Rattle.rcv_lines.specs.Cutting.{fields_from}

pub at_a_space : (begun rest : List ℕ) (b : ℕ) → nat_eq b 32 ≡ true → fields_from begun (b ∷ rest) ≡ begun ∷ fields_from [] rest
at_a_space begun rest b is = ap (λ t. cond t (begun ∷ fields_from [] rest) (fields_from (begun ++ b ∷ []) rest)) is

pub at_another : (begun rest : List ℕ) (b : ℕ) → nat_eq b 32 ≡ false → fields_from begun (b ∷ rest) ≡ fields_from (begun ++ b ∷ []) rest
at_another begun rest b is = ap (λ t. cond t (begun ∷ fields_from [] rest) (fields_from (begun ++ b ∷ []) rest)) is

-- The text from a start to an index.
abbrev pub between : List ℕ → ℕ → ℕ → List ℕ
between text start index = take (index - start) (drop start text)

pub behind_space : (text : List ℕ) (done whole : List (List ℕ)) (start index : ℕ) → index < length text → nat_eq (get_or text index 0) 32 ≡ true
    → done ++ fields_from (between text start index) (drop index text) ≡ whole
    → (done ++ between text start index ∷ []) ++ fields_from (between text (index + 1) (index + 1)) (drop (index + 1) text) ≡ whole
behind_space text done whole start index inside space so_far =
    let none : index + 1 - (index + 1) ≡ 0 = omega arith in
    let empty : between text (index + 1) (index + 1) ≡ [] = ap (λ n. take n (drop (index + 1) text)) none in
    append_assoc done (between text start index ∷ []) (fields_from (between text (index + 1) (index + 1)) (drop (index + 1) text))
    ∙ ap (λ begun. done ++ between text start index ∷ fields_from begun (drop (index + 1) text)) empty
    ∙ ap (λ xs. done ++ xs) (sym (ap (fields_from (between text start index)) (drop_more text index 0 inside) ∙ at_a_space (between text start index) (drop (index + 1) text) (get_or text index 0) space))
    ∙ so_far

pub behind_another : (text : List ℕ) (done whole : List (List ℕ)) (start index : ℕ) → start ≤ index → index < length text → nat_eq (get_or text index 0) 32 ≡ false
    → done ++ fields_from (between text start index) (drop index text) ≡ whole
    → done ++ fields_from (between text start (index + 1)) (drop (index + 1) text) ≡ whole
behind_another text done whole start index ordered inside other so_far =
    let one_more : index + 1 - start ≡ suc (index - start) = omega (arith, ordered) in
    let there : start + (index - start) ≡ index = omega (arith, ordered) in
    let more : between text start (index + 1) ≡ between text start index ++ get_or text index 0 ∷ [] =
    ap (λ n. take n (drop start text)) one_more
    ∙ take-suc (drop start text) (index - start) 0 (omega (arith, ordered, inside, length-drop start text))
    ∙ ap (λ b. between text start index ++ b ∷ []) (get_or-drop start text (index - start) 0 ∙ ap (λ n. get_or text n 0) there) in
    ap (λ begun. done ++ fields_from begun (drop (index + 1) text)) more
    ∙ ap (λ xs. done ++ xs) (sym (ap (fields_from (between text start index)) (drop_more text index 0 inside) ∙ at_another (between text start index) (drop (index + 1) text) (get_or text index 0) other))
    ∙ so_far

-- A turn at a space, which begins a new field; and one at another byte.
pub space_turn : (text : List ℕ) (done done' whole : List (List ℕ)) (start start' index : ℕ) → index < length text → get_or text index 0 ≡ 32
    → done' ≡ done ++ between text start index ∷ [] → start' ≡ index + 1 → done ++ fields_from (between text start index) (drop index text) ≡ whole
    → (start' ≤ index + 1) × (done' ++ fields_from (between text start' (index + 1)) (drop (index + 1) text) ≡ whole)
space_turn text done done' whole start start' index inside space more next so_far = (
  omega (arith, next),
  ap₂ (λ fields from. fields ++ fields_from (between text from (index + 1)) (drop (index + 1) text)) more next
      ∙ behind_space text done whole start index inside (eq-eqb (get_or text index 0) 32 space) so_far,
)

pub other_turn : (text : List ℕ) (done done' whole : List (List ℕ)) (start start' index : ℕ) → start ≤ index → index < length text → (get_or text index 0 ≡ 32 → ⊥)
    → done' ≡ done → start' ≡ start → done ++ fields_from (between text start index) (drop index text) ≡ whole
    → (start' ≤ index + 1) × (done' ++ fields_from (between text start' (index + 1)) (drop (index + 1) text) ≡ whole)
other_turn text done done' whole start start' index ordered inside other same as_before so_far = (
  omega (arith, ordered, as_before),
  ap₂ (λ fields from. fields ++ fields_from (between text from (index + 1)) (drop (index + 1) text)) same as_before
      ∙ behind_another text done whole start index ordered inside (ne_eqb (get_or text index 0) 32 other) so_far,
)
