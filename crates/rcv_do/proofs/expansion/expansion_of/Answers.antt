use Rattle.std.proofs.Common.{refl}
use Rattle.rcv_tree.specs.Lists.{statements}
use Rattle.rcv_do.proofs.Sized.{expansion_whole}
use Rattle.rcv_do.proofs.expansion.expansion_of.Goals as goal

pub returns : goal.returns
returns c = expansion_whole _ c.add_all.new.points c.add_all.new.block (statements c.new-block.result) (λ r. refl) c.new-block.ensures c.in_ok-add_all.ensures c.requires
