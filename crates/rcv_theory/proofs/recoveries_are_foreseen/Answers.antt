use Rattle.rcv_theory.proofs.recoveries_are_foreseen.Goals as goal
use Rattle.rcv_theory.proofs.Foreseeing.{recoveries_are_foreseen}

pub returns : goal.returns
returns c = recoveries_are_foreseen
