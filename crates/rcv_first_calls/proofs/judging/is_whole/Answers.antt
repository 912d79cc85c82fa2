-- By the one verdict.
use Rattle.rcv_first_calls.proofs.Verdict.{legal_if}
use Rattle.rcv_first_calls.proofs.judging.is_whole.Goals as goal

pub returns : goal.returns
returns c = legal_if c.args.input.now c.in_ok-said.said c.is_legal.result c.in_ok-said.ensures c.is_legal.ensures
