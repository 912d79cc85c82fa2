-- What escaping leaves as it is, and how it goes through lists.
use Rattle.std.proofs.Common.{◌≡◌, ◌∙◌, ◌+◌, ◌%◌, ◌^◌, ◌<◌, ℕ, List, [], ◌∷◌, ◌++◌, refl, ap, arith}
use Rattle.std.specs.Prelude.{flat_map, decimal}
use Rattle.std.proofs.lemmas.Bool.Decides.{nat_tests}
use Rattle.std.proofs.lemmas.Grind.{flat_map-append}
use Rattle.std.proofs.lemmas.Fmt.{decimal_by_steps}
use Rattle.std.proofs.Math.Nat.{mod-lt}
use Rattle.rcv_picture.specs.declared.pixels.At.{At}
use Rattle.rcv_picture.specs.Tree.{escape, escaped}
use Rattle.rcv_picture.specs.Drawn.{place_text}

pub digit_stays : (d : ℕ) → d < 10 → escape (48 + d) ≡ (48 + d) ∷ []
digit_stays d small = grind (arith, nat_tests)

digit_alone : (d : ℕ) → d < 10 → escaped ((48 + d) ∷ []) ≡ (48 + d) ∷ []
digit_alone d small = ap (λ (bytes : List ℕ). bytes ++ []) (digit_stays d small)

-- A number has only digits.
pub number_stays : (n : ℕ) → n < 2 ^ 64 → escaped (decimal n) ≡ decimal n
number_stays n fits =
    decimal_by_steps (λ k ds. escaped ds ≡ ds) digit_alone
    (λ k ds two so_far.
    flat_map-append escape ds ((48 + k % 10) ∷ []) ∙ ap (λ (bytes : List ℕ). bytes ++ escaped ((48 + k % 10) ∷ [])) so_far
    ∙ ap (λ (bytes : List ℕ). ds ++ bytes) (digit_alone (k % 10) (mod-lt k (omega arith))))
    n fits

-- The places of a way, one by one.
pub way_escaped : (places : List At) → escaped (flat_map place_text places) ≡ flat_map (λ at. escaped (place_text at)) places
way_escaped [] = refl
way_escaped (p ∷ ps) =
    flat_map-append escape (place_text p) (flat_map place_text ps)
    ∙ ap (λ (bytes : List ℕ). escaped (place_text p) ++ bytes) (way_escaped ps)
