-- Writing bytes to a sink, one piece behind another.
use Rattle.std.proofs.Common.{◌≡◌, ℕ, ◌+◌, List, ◌++◌, take, drop, Option, Some, None, refl, sym, ◌∙◌, ap, append_assoc}
use Rattle.std.proofs.Math.Seq.{take-add}
use Rattle.std.specs.Io.KnownBytes.{append_known}

append_more : (known : Option (List ℕ)) (a b : List ℕ) → append_known (append_known known a) b ≡ append_known known (a ++ b)
append_more None a b = refl
append_more (Some xs) a b = ap (λ (ys : List ℕ). Some ys) (append_assoc xs a b)

-- the first m bytes, and then n of those behind them
pub wrote_more : (known now next : Option (List ℕ)) (bytes : List ℕ) (m n : ℕ)
    → now ≡ append_known known (take m bytes) → next ≡ append_known now (take n (drop m bytes))
    → next ≡ append_known known (take (m + n) bytes)
wrote_more known now next bytes m n front more =
    more ∙ ap (λ (o : Option (List ℕ)). append_known o (take n (drop m bytes))) front
    ∙ append_more known (take m bytes) (take n (drop m bytes))
    ∙ ap (append_known known) (sym (take-add m n bytes))
