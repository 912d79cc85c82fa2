-- By the guide's memory.
use Rattle.std.proofs.Common.{◌∙◌}
use Rattle.rcv_guide.proofs.Memories.{made_at}
use Rattle.rcv_guided.proofs.counts.made.Goals as goal

pub returns : goal.returns
returns c =
    c.made.ensures c.roles-roles.ensures.memory.memory c.roles-roles.ensures.memory.is
    ∙ made_at c.args.guide.now c.roles-roles.ensures.memory.memory c.roles-roles.ensures.memory.is c.args.role c.requires
