-- A preparation can be lent to a thread, and the workers bring each to its end.
use denote.Param.Send.{sendable}
use Rattle.std.proofs.Common.{rules}
use Rattle.std.proofs.Crossing as std
use Rattle.rcv_later.proofs.Crossing.{setup_send}
use Rattle.rcv_later.proofs.Preparing.{put_back}
use Rattle.rcv_later.proofs.prepare.prepare.Goals as goal

pub run_all-requires-send-T : goal.run_all-requires-send-T
run_all-requires-send-T g c κs within = search (std.crosses, setup_send, sendable) depth 60 fits 20000

pub returns : goal.returns
returns g c =
    put_back c.args.input.now c.args.sessions c.in_ok-all.all.len c.in_ok-all.all.items c.as_mut_slice.result.now c.run_all.new.items (search rules) c.in_ok-all.ensures
    (search rules) c.run_all.ensures
