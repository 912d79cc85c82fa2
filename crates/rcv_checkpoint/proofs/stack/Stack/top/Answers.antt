-- The last state is the one after all events.
use Rattle.std.proofs.Common.{Some, sym, ◌∙◌, ap, length, arith}
use Rattle.std.specs.Prelude.{slice_get}
use Rattle.rcv_checkpoint.specs.Rows.{lists_of, states_of}
use Rattle.rcv_checkpoint.specs.Stack.{held}
use Rattle.rcv_checkpoint.proofs.Stacks.{held_is, state_there}
use Rattle.rcv_checkpoint.proofs.stack.Stack.top.Goals as goal

pub returns : goal.returns
returns c =
    let lists = lists_of c.self.inside.rows in
    let n = held_is lists c.args.self.now (ap (λ s. s.states) c.self.view_is) in
    ap (λ s. slice_get s.states (held c.args.self.now)) (sym c.self.view_is)
    ∙ ap (λ k. slice_get (states_of lists) k) n
    ∙ state_there lists (length lists.points) (omega arith)
    ∙ ap Some (sym c.self.invariant.last_is)
