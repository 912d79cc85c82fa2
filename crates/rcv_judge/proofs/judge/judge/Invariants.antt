use Rattle.rcv_judge.proofs.FirstWrong.{HasRead}
use Rattle.rcv_judge.proofs.judge.judge.Given as goal

abbrev pub invariant-loop-number : goal.invariant-loop-number
invariant-loop-number l = HasRead l.setup l.entries l.number l.book
