-- Numbers that ascend.
use Rattle.std.proofs.Common.{◌≡◌, ◌∙◌, ◌+◌, ◌-◌, ◌<◌, ◌≤◌, ℕ, List, length, get_or, Some, sym, ap, subst, arith}
use Rattle.std.specs.List.{slice_get}
use Rattle.std.proofs.lemmas.Option.{slice_get_within, get_or_from_slice_get, slice_get-get_or}
use Rattle.rcv_journal.specs.Form.{IsAscending}

-- Each is below the next where it is so for all places.
pub ascend : (xs : List ℕ) (n : ℕ) → length xs ≤ n → ((k : ℕ) → k + 1 < n → get_or xs k 0 < get_or xs (k + 1) 0) → IsAscending xs
ascend xs n end all = λ k a b at-a at-b.
    let inside = slice_get_within xs (k + 1) b at-b in
    let first = get_or_from_slice_get xs k a 0 at-a in
    let second = get_or_from_slice_get xs (k + 1) b 0 at-b in
    subst (λ x. x < b) first (subst (λ y. get_or xs k 0 < y) second (all k (omega (arith, inside, end))))

-- One pair that doesn't ascend.
pub falls : (xs : List ℕ) (n x y : ℕ) → 1 ≤ n → n < length xs → x ≡ get_or xs (n - 1) x → y ≡ get_or xs n y → y ≤ x → IsAscending xs → ⊥
falls xs n x y first inside at-x at-y order ascends =
    let next : n - 1 + 1 ≡ n = omega (arith, first) in
    let below = ascends (n - 1) x y (slice_get-get_or xs (n - 1) x (omega (arith, first, inside)) ∙ ap Some (sym at-x)) (subst (λ m. slice_get xs m ≡ Some y) (sym next) (slice_get-get_or xs n y inside ∙ ap Some (sym at-y))) in
    omega (arith, below, order)
