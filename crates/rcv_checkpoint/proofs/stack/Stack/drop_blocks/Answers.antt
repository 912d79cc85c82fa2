-- What is held is known from the states.
use Rattle.std.proofs.Common.{ap, arith}
use Rattle.rcv_checkpoint.specs.Rows.{lists_of}
use Rattle.rcv_checkpoint.proofs.Stacks.{held_is}
use Rattle.rcv_checkpoint.proofs.stack.Stack.drop_blocks.Goals as goal

pub drop_blocks-requires-clause-held : goal.drop_blocks-requires-clause-held
drop_blocks-requires-clause-held c = let n = held_is (lists_of c.self.inside.rows) c.args.self.now (ap (λ s. s.states) c.self.view_is) in let h = c.requires in omega (arith, n, h)
