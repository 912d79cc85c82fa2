-- A job can be lent to a thread.
use denote.Param.Send.{sendable}
use Rattle.std.proofs.Crossing as std
use Rattle.std.proofs.vec.Vec.TheSendSync as vec
use Rattle.rcv_core.proofs.Crossing.{setup_sync}
use Rattle.rcv_ledger.proofs.ledger.Ledger.TheSendSync as ledger
use Rattle.rcv_jobs.proofs.run.run_jobs.Goals as goal

pub run_all-requires-send-T : goal.run_all-requires-send-T
run_all-requires-send-T g c κs within = search (std.crosses, vec.the_send, ledger.the_send, setup_sync, sendable) depth 60 fits 20000
