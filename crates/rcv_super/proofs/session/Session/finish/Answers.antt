-- Each turn adds entries, and the last one says that the session is at its end; or the book alone makes the rest.
use Rattle.rcv_super.proofs.Turning.{no_turn, few_in, turn_shrinks, turn_goes_on, turn_completes, turn_limits, turn_fails, finished_on}
use Rattle.rcv_super.proofs.session.Session.finish.Goals as goal

pub loop-self-init : goal.loop-self-init
loop-self-init g c = no_turn c.args.workers c.args.self.now

pub loop-self-smaller : goal.loop-self-smaller
loop-self-smaller g c = turn_shrinks c.args.workers c.args.self.now c.loop-self.self c.turn.new.self c.loop-self.invariant c.in-Ok-More.field-0 c.in-Ok-More.ensures c.in-Ok-More.field-0-is (few_in c.len-few.result c.book.result.now c.loop-self.self.book c.book.ensures c.len-few.ensures.value c.len-few.ensures.few)

pub loop-self-preserved : goal.loop-self-preserved
loop-self-preserved g c = turn_goes_on c.args.workers c.args.self.now c.loop-self.self c.turn.new.self c.loop-self.invariant c.in-Ok-More.field-0 c.in-Ok-More.ensures c.in-Ok-More.field-0-is

pub returns-in-Ok-Completed : goal.returns-in-Ok-Completed
returns-in-Ok-Completed g c = turn_completes c.args.workers c.args.self.now c.loop-self.self c.turn.new.self c.loop-self.invariant c.in-Ok-Completed.field-0 c.in-Ok-Completed.ensures c.in-Ok-Completed.field-0-is

pub returns-in-Ok-Limited : goal.returns-in-Ok-Limited
returns-in-Ok-Limited g c = turn_limits c.args.workers c.args.self.now c.loop-self.self c.turn.new.self c.loop-self.invariant c.in-Ok-Limited.field-0 c.in-Ok-Limited.ensures c.in-Ok-Limited.field-0-is

pub returns-in-Err : goal.returns-in-Err
returns-in-Err g c = turn_fails c.args.workers c.args.self.now c.loop-self.self c.turn.new.self c.loop-self.invariant c.in-Err.error c.in-Err.ensures

pub returns : goal.returns
returns g c = finished_on c.args.workers c.args.self.now c.loop-self.self c.finish_alone.new.self c.loop-self.invariant c.finish_alone.result c.finish_alone.ensures
