-- Lists that grow by a point.
use Rattle.std.proofs.Common.{◌≡◌, ℕ, ◌+◌, List, [], ◌∷◌, ◌++◌, map, sym, ◌∙◌, ap, arith}
use Rattle.std.specs.List.{range_with_len}
use Rattle.std.proofs.lemmas.List.FromFn.{map-range_with_len_more}

pub point_more : {A : Type 0} (f : ℕ → A) (n : ℕ) (before after : List A) → before ≡ map f (range_with_len 1 n) → after ≡ before ++ f (n + 1) ∷ [] → after ≡ map f (range_with_len 1 (n + 1))
point_more f n before after so more =
    let next : 1 + n ≡ n + 1 = omega arith in
    more ∙ ap (λ t. t ++ f (n + 1) ∷ []) so ∙ sym (map-range_with_len_more f 1 n (n + 1) next)
