-- One more log.
use Rattle.std.proofs.Common.{rules, ◌<◌, length}
use Rattle.rcv_cells.proofs.Logs.{one_log_more}
use Rattle.rcv_cells.proofs.merging.merge_logs.Goals as goal

pub loop-role-preserved : goal.loop-role-preserved
loop-role-preserved c =
    let lt : c.loop-role.role < length c.args.lanes.now = search rules in
    one_log_more c.args.lanes.now c.loop-role.logs c.loop-role.role c.log.result c.index-lanes-role.result lt c.requires.few c.loop-role.invariant c.index-lanes-role.is c.log.ensures
