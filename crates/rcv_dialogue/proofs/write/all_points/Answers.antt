-- One point more.
use Rattle.std.proofs.Common.{◌+◌, arith}
use Rattle.rcv_dialogue.proofs.Ranges.{goes_on}
use Rattle.rcv_dialogue.specs.Answers.{point_line}
use Rattle.rcv_dialogue.proofs.write.all_points.Goals as goal

pub loop-before-preserved : goal.loop-before-preserved
loop-before-preserved c =
    goes_on (point_line c.args.accepted.now) 1 c.loop-before.before (c.loop-before.before + 1) c.args.text.now c.loop-before.text c.point.new.text (omega arith) c.loop-before.invariant c.in_ok-point.ensures
