-- The counts are those of its entries.
use Rattle.std.proofs.Common.{refl}
use Rattle.rcv_rows.proofs.row.fold_of.Goals as goal

pub returns : goal.returns
returns c = λ kept has. record { counts = c.counts_of.result; is = refl; right = c.counts_of.ensures kept has }
