-- A run goes on poll by poll.
use Rattle.std.proofs.Common.{rules, subst}
use Rattle.rcv_role.specs.Poll.{Polled}
use Rattle.rcv_role.proofs.Running.{run_start, ends_fenced, fenced_few, run_goes, run_few, run_more, ran_waiting, ran_done, ran_tired, ran_crashed, ran_spent}
use Rattle.rcv_role.proofs.cell.Cell.run.Goals as goal

pub loop-init : goal.loop-init
loop-init o c = run_start c.args.self.now c.args.watch.now c.requires.settled c.known.ensures.strangers c.requires.running

pub returns-then-is_fenced-clause-ran : goal.returns-then-is_fenced-clause-ran
returns-then-is_fenced-clause-ran o c = ends_fenced c.args.self.now c.loop.self c.args.watch.now c.loop.watch c.is_fenced.new.watch c.loop.counter c.args.turns c.is_fenced.result c.loop.invariant (search rules) c.is_fenced.ensures.fence c.is_fenced.ensures.looks c.is_fenced.ensures.raised c.is_fenced.ensures.seen c.is_fenced.ensures.fenced (search rules)

pub returns-then-is_fenced-clause-few : goal.returns-then-is_fenced-clause-few
returns-then-is_fenced-clause-few o c = fenced_few c.args.self.now c.loop.self c.args.watch.now c.loop.watch c.is_fenced.new.watch c.loop.counter c.args.turns c.is_fenced.result c.loop.invariant (search rules) c.is_fenced.ensures.fence c.is_fenced.ensures.looks c.is_fenced.ensures.raised c.is_fenced.ensures.seen c.is_fenced.ensures.fenced

pub returns-in-Waiting-clause-ran : goal.returns-in-Waiting-clause-ran
returns-in-Waiting-clause-ran o c = ran_waiting c.args.self.now c.loop.self c.args.watch.now c.loop.watch c.is_fenced.new.watch c.loop.counter c.args.turns c.is_fenced.result c.loop.invariant (search rules) c.is_fenced.ensures.fence c.is_fenced.ensures.looks c.is_fenced.ensures.raised c.is_fenced.ensures.seen c.is_fenced.ensures.fenced c.poll.new.self (search rules) c.poll.ensures.goes c.poll.ensures.few (subst (Polled c.loop.self c.poll.new.self) c.in-Waiting.is c.poll.ensures.polled)

pub returns-in-Waiting-clause-goes : goal.returns-in-Waiting-clause-goes
returns-in-Waiting-clause-goes o c = run_goes c.args.self.now c.loop.self c.args.watch.now c.loop.watch c.is_fenced.new.watch c.loop.counter c.args.turns c.is_fenced.result c.loop.invariant (search rules) c.is_fenced.ensures.fence c.is_fenced.ensures.looks c.is_fenced.ensures.raised c.is_fenced.ensures.seen c.is_fenced.ensures.fenced c.poll.new.self (search rules) c.poll.ensures.goes c.poll.ensures.few

pub returns-in-Waiting-clause-few : goal.returns-in-Waiting-clause-few
returns-in-Waiting-clause-few o c = run_few c.args.self.now c.loop.self c.args.watch.now c.loop.watch c.is_fenced.new.watch c.loop.counter c.args.turns c.is_fenced.result c.loop.invariant (search rules) c.is_fenced.ensures.fence c.is_fenced.ensures.looks c.is_fenced.ensures.raised c.is_fenced.ensures.seen c.is_fenced.ensures.fenced c.poll.new.self (search rules) c.poll.ensures.goes c.poll.ensures.few

pub returns-in-Done-clause-ran : goal.returns-in-Done-clause-ran
returns-in-Done-clause-ran o c = ran_done c.args.self.now c.loop.self c.args.watch.now c.loop.watch c.is_fenced.new.watch c.loop.counter c.args.turns c.is_fenced.result c.loop.invariant (search rules) c.is_fenced.ensures.fence c.is_fenced.ensures.looks c.is_fenced.ensures.raised c.is_fenced.ensures.seen c.is_fenced.ensures.fenced c.poll.new.self (search rules) c.poll.ensures.goes c.poll.ensures.few (subst (Polled c.loop.self c.poll.new.self) c.in-Done.is c.poll.ensures.polled)

pub returns-in-Done-clause-goes : goal.returns-in-Done-clause-goes
returns-in-Done-clause-goes o c = run_goes c.args.self.now c.loop.self c.args.watch.now c.loop.watch c.is_fenced.new.watch c.loop.counter c.args.turns c.is_fenced.result c.loop.invariant (search rules) c.is_fenced.ensures.fence c.is_fenced.ensures.looks c.is_fenced.ensures.raised c.is_fenced.ensures.seen c.is_fenced.ensures.fenced c.poll.new.self (search rules) c.poll.ensures.goes c.poll.ensures.few

pub returns-in-Done-clause-few : goal.returns-in-Done-clause-few
returns-in-Done-clause-few o c = run_few c.args.self.now c.loop.self c.args.watch.now c.loop.watch c.is_fenced.new.watch c.loop.counter c.args.turns c.is_fenced.result c.loop.invariant (search rules) c.is_fenced.ensures.fence c.is_fenced.ensures.looks c.is_fenced.ensures.raised c.is_fenced.ensures.seen c.is_fenced.ensures.fenced c.poll.new.self (search rules) c.poll.ensures.goes c.poll.ensures.few

pub returns-in-Tired-clause-ran : goal.returns-in-Tired-clause-ran
returns-in-Tired-clause-ran o c = ran_tired c.args.self.now c.loop.self c.args.watch.now c.loop.watch c.is_fenced.new.watch c.loop.counter c.args.turns c.is_fenced.result c.loop.invariant (search rules) c.is_fenced.ensures.fence c.is_fenced.ensures.looks c.is_fenced.ensures.raised c.is_fenced.ensures.seen c.is_fenced.ensures.fenced c.poll.new.self (search rules) c.poll.ensures.goes c.poll.ensures.few (subst (Polled c.loop.self c.poll.new.self) c.in-Tired.is c.poll.ensures.polled)

pub returns-in-Tired-clause-goes : goal.returns-in-Tired-clause-goes
returns-in-Tired-clause-goes o c = run_goes c.args.self.now c.loop.self c.args.watch.now c.loop.watch c.is_fenced.new.watch c.loop.counter c.args.turns c.is_fenced.result c.loop.invariant (search rules) c.is_fenced.ensures.fence c.is_fenced.ensures.looks c.is_fenced.ensures.raised c.is_fenced.ensures.seen c.is_fenced.ensures.fenced c.poll.new.self (search rules) c.poll.ensures.goes c.poll.ensures.few

pub returns-in-Tired-clause-few : goal.returns-in-Tired-clause-few
returns-in-Tired-clause-few o c = run_few c.args.self.now c.loop.self c.args.watch.now c.loop.watch c.is_fenced.new.watch c.loop.counter c.args.turns c.is_fenced.result c.loop.invariant (search rules) c.is_fenced.ensures.fence c.is_fenced.ensures.looks c.is_fenced.ensures.raised c.is_fenced.ensures.seen c.is_fenced.ensures.fenced c.poll.new.self (search rules) c.poll.ensures.goes c.poll.ensures.few

pub returns-in-Crashed-clause-ran : goal.returns-in-Crashed-clause-ran
returns-in-Crashed-clause-ran o c = ran_crashed c.args.self.now c.loop.self c.args.watch.now c.loop.watch c.is_fenced.new.watch c.loop.counter c.args.turns c.is_fenced.result c.loop.invariant (search rules) c.is_fenced.ensures.fence c.is_fenced.ensures.looks c.is_fenced.ensures.raised c.is_fenced.ensures.seen c.is_fenced.ensures.fenced c.poll.new.self (search rules) c.poll.ensures.goes c.poll.ensures.few c.raise.new.watch c.raise.ensures.looks c.raise.ensures.last c.raise.ensures.seen c.raise.ensures.raised (subst (Polled c.loop.self c.poll.new.self) c.in-Crashed.is c.poll.ensures.polled)

pub returns-in-Crashed-clause-goes : goal.returns-in-Crashed-clause-goes
returns-in-Crashed-clause-goes o c = run_goes c.args.self.now c.loop.self c.args.watch.now c.loop.watch c.is_fenced.new.watch c.loop.counter c.args.turns c.is_fenced.result c.loop.invariant (search rules) c.is_fenced.ensures.fence c.is_fenced.ensures.looks c.is_fenced.ensures.raised c.is_fenced.ensures.seen c.is_fenced.ensures.fenced c.poll.new.self (search rules) c.poll.ensures.goes c.poll.ensures.few

pub returns-in-Crashed-clause-few : goal.returns-in-Crashed-clause-few
returns-in-Crashed-clause-few o c = run_few c.args.self.now c.loop.self c.args.watch.now c.loop.watch c.is_fenced.new.watch c.loop.counter c.args.turns c.is_fenced.result c.loop.invariant (search rules) c.is_fenced.ensures.fence c.is_fenced.ensures.looks c.is_fenced.ensures.raised c.is_fenced.ensures.seen c.is_fenced.ensures.fenced c.poll.new.self (search rules) c.poll.ensures.goes c.poll.ensures.few

pub loop-preserved : goal.loop-preserved
loop-preserved o c = run_more c.args.self.now c.loop.self c.args.watch.now c.loop.watch c.is_fenced.new.watch c.loop.counter c.args.turns c.is_fenced.result c.loop.invariant (search rules) c.is_fenced.ensures.fence c.is_fenced.ensures.looks c.is_fenced.ensures.raised c.is_fenced.ensures.seen c.is_fenced.ensures.fenced c.poll.new.self (search rules) c.poll.ensures.goes c.poll.ensures.few (subst (Polled c.loop.self c.poll.new.self) c.in-Moved.is c.poll.ensures.polled)

pub returns-clause-ran : goal.returns-clause-ran
returns-clause-ran o c = ran_spent c.args.self.now c.loop.self c.args.watch.now c.loop.watch c.loop.counter c.args.turns c.loop.invariant (search rules) c.requires.turns
