-- The mark of its Recv says whether it is undone.
use Rattle.std.proofs.Common.{refl}
use Rattle.rcv_rows.proofs.wire.wire_of.Goals as goal

pub returns : goal.returns
returns c = λ kept has. record { undone = c.is_undone.result; is = refl; right = c.is_undone.ensures kept has }
