use Rattle.rcv_model.proofs.crashes_are_as_planned.Goals as goal
use Rattle.rcv_model.proofs.AsPlanned.{crashes_are_as_planned}

pub returns : goal.returns
returns c = crashes_are_as_planned
