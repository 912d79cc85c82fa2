-- There is a state for each row, and the first one.
use Rattle.std.proofs.Common.{length, ap, arith}
use Rattle.rcv_checkpoint.specs.Rows.{lists_of}
use Rattle.rcv_checkpoint.specs.Stack.{StackView}
use Rattle.rcv_checkpoint.proofs.Stacks.{count_states}
use Rattle.rcv_checkpoint.proofs.stack.Stack.count.Goals as goal

pub returns : goal.returns
returns c =
    let n = count_states (lists_of c.self.inside.rows) in
    let m = ap (λ (s : StackView). length s.states) c.self.view_is in
    omega (arith, n, m, c.len.ensures, c.self.inside.rows.points.ok.0)
