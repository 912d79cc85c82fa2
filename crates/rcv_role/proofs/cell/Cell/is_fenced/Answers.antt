-- The word that was loaded is the code of one pair.
use Rattle.std.proofs.Common.{rules}
use Rattle.rcv_role.proofs.Running.{seen_fenced}
use Rattle.rcv_role.proofs.cell.Cell.is_fenced.Goals as goal

pub returns-in-Some-clause-fenced : goal.returns-in-Some-clause-fenced
returns-in-Some-clause-fenced c = seen_fenced c.self.inside.part c.args.self.now c.self.inside.posts.items c.self.inside.inboxes.items c.look.new.self.last _ _ c.is_reached.result c.self.view_is c.is_reached.ensures (search rules)
