use Rattle.std.proofs.Common.{◌≡◌, ◌≤◌, ◌-◌, ◌++◌, ◌⊎◌, length, replicate}
use Rattle.rcv_points.proofs.filling.fill_up.Given as goal

abbrev pub invariant-loop : goal.invariant-loop
invariant-loop l =
    (length l.fn.numbers.items ≤ l.counter)
    × ((l.counter ≤ l.end) ⊎ (l.counter ≡ length l.fn.numbers.items))
    × (l.numbers.items ≡ l.fn.numbers.items ++ replicate (l.counter - length l.fn.numbers.items) l.number)
