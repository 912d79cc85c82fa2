-- One channel after another.
use Rattle.std.proofs.Common.{refl, arith}
use Rattle.rcv_guide.proofs.Renewing.{each_same}
use Rattle.rcv_guide.proofs.renewal.received.Goals as goal

pub loop-place-init : goal.loop-place-init
loop-place-init c = record { all = refl; done = λ a b la lb lt. absurd (omega (arith, lt)); rest = λ n le. each_same 64 n 0 }
