-- What is said, in its line.
use Rattle.rcv_top.proofs.Sessions.{replay_said}
use Rattle.rcv_top.proofs.replaying.replay_answer.Goals as goal

pub returns : goal.returns
returns c = replay_said c.args.input.now c.in_ok-said.said c.say.result c.in_ok-said.ensures c.say.ensures
