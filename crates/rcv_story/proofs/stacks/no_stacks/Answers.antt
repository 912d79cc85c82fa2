-- One role more keeps nothing.
use Rattle.rcv_story.proofs.Marking.{one_empty}
use Rattle.rcv_story.proofs.stacks.no_stacks.Goals as goal

pub loop-role-preserved : goal.loop-role-preserved
loop-role-preserved c = one_empty c.loop-role.stacks.items c.push.new.self.items c.new.result c.loop-role._role c.loop-role.invariant c.in_ok-push.ensures.items c.new.ensures.items
