-- The numbers of a role, one by one.
use Rattle.std.proofs.Common.{◌≡◌, ℕ, Bool, ◌∙◌, ap}
use Rattle.rcv_guide.specs.declared.numbers.Numbers.{Numbers}

abbrev numbers : ℕ → ℕ → ℕ → ℕ → ℕ → ℕ → Bool → Numbers
numbers seeds forgotten point raw attempt clock down =
    record { seeds = seeds; forgotten = forgotten; point = point; raw = raw; attempt = attempt; clock = clock; down = down }

-- two with the same numbers are the same
pub same_numbers : (x y : Numbers) → x.seeds ≡ y.seeds → x.forgotten ≡ y.forgotten → x.point ≡ y.point → x.raw ≡ y.raw → x.attempt ≡ y.attempt → x.clock ≡ y.clock → x.down ≡ y.down → x ≡ y
same_numbers x y f g h i j k l =
    ap (λ v. numbers v x.forgotten x.point x.raw x.attempt x.clock x.down) f
    ∙ ap (λ v. numbers y.seeds v x.point x.raw x.attempt x.clock x.down) g
    ∙ ap (λ v. numbers y.seeds y.forgotten v x.raw x.attempt x.clock x.down) h
    ∙ ap (λ v. numbers y.seeds y.forgotten y.point v x.attempt x.clock x.down) i
    ∙ ap (λ v. numbers y.seeds y.forgotten y.point y.raw v x.clock x.down) j
    ∙ ap (λ v. numbers y.seeds y.forgotten y.point y.raw y.attempt v x.down) k
    ∙ ap (λ v. numbers y.seeds y.forgotten y.point y.raw y.attempt y.clock v) l
