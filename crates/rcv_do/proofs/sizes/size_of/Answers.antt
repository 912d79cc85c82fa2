use Rattle.std.proofs.Common.{refl}
use Rattle.rcv_do.proofs.Sized.{size_made}
use Rattle.rcv_do.proofs.sizes.size_of.Goals as goal

pub returns : goal.returns
returns c = λ sizes q is known. size_made _ c.block.new.self c.args.place c.at.result.now c.at.ensures refl c.in_ok-block.ensures sizes q is known
