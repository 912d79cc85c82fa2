-- Each point's flag tells whether it can come from the start.
use Rattle.std.proofs.Common.{arith}
use Rattle.rcv_points.specs.Follow.{net_in}
use Rattle.rcv_points.proofs.Reaching.{all_flags}
use Rattle.rcv_points.proofs.reached.reached.Goals as goal

pub returns : goal.returns
returns c = all_flags (net_in c.args.points.now) c.count-before-end.ensures.within.proper c.reach_from.result.come.0 c.loop-before.flags.items c.loop-before.before c.reach_from.ensures.all (let all = c.count-before-end.ensures.value in let le = c.loop-before-test.false in let ge = c.loop-before.auto.before-end in omega (arith, all, le, ge)) c.count-before-end.ensures.within.few c.loop-before.invariant
