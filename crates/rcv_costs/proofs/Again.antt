-- The messages that are received again are counted.
use Rattle.std.proofs.Common.{ℕ, ◌+◌, ◌-◌, ◌<◌, ◌≤◌, length, arith}
use Rattle.std.specs.Prelude.{min}
use Rattle.rcv_model.specs.Run.{put, taken}
use Rattle.rcv_costs.specs.Laws.{AgainIsCounted}

within : (t p u k : ℕ) → k < t → k < p → u ≤ k → k < u + (min t p - u)
within t p u k a b c = omega arith

outside : (t p u k : ℕ) → u ≤ k → k < u + (min t p - u) → (k < t) × (k < p)
outside t p u k c d = (omega arith, omega arith)

pub counted : AgainIsCounted
counted net old new s r k = (
  (λ is. (is.undone, within (length (taken net s r old)) (length (put net s r new)) (length (taken net s r new)) k is.received is.sent is.undone)),
  λ x.
      let y = outside (length (taken net s r old)) (length (put net s r new)) (length (taken net s r new)) k x.0 x.1 in
      record { received = y.0; sent = y.1; undone = x.0 },
)
