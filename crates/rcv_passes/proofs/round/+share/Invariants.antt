use Rattle.std.proofs.Common.{length, ◌+◌, ◌-◌, ◌*◌}
use Rattle.rcv_passes.proofs.round.+share.Given as goal

abbrev pub decreases-share : goal.decreases-share
decreases-share g l = 3 * length l.tools.now

abbrev pub decreases-both : goal.decreases-both
decreases-both g l = 3 * (length l.front_tools.now + length l.back_tools.now) - 1

abbrev pub decreases-both-others : goal.decreases-both-others
decreases-both-others g l = 3 * length l.back_tools.now + 1

abbrev pub decreases-both-own : goal.decreases-both-own
decreases-both-own g l = 3 * length l.front_tools.now + 1
