-- One word alone.
use Rattle.std.proofs.Common.{◌≡◌, ◌∙◌, ◌<◌, ◌≤◌, ℕ, List, [], ◌∷◌, get_or, length, map, sym, ap, arith}
use Rattle.std.specs.String.{string_bytes}
use Rattle.std.specs.declared.alloc.Global.{Global}
use Rattle.std.specs.declared.string.String.{String}

pub one_word : (words : List (String Global)) (w : String Global) (text : List ℕ) → 1 ≤ length words → length words < 2 → w ≡ get_or words 0 w
    → string_bytes w ≡ text → map string_bytes words ≡ text ∷ []
one_word [] w text some few is said = absurd (omega (arith, some))
one_word (x ∷ []) w text some few is said = ap (λ t. t ∷ []) (ap string_bytes (sym is) ∙ said)
one_word (x ∷ y ∷ more) w text some few is said = absurd (omega (arith, few))
