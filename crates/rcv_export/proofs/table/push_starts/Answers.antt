-- One point more.
use Rattle.std.proofs.Common.{◌+◌, map, arith}
use Rattle.serde_json.specs.View.{view}
use Rattle.rcv_accept.specs.Accepted.{net_for}
use Rattle.rcv_export.specs.TableJson.{start_data}
use Rattle.rcv_export.proofs.Growing.{goes_on}
use Rattle.rcv_export.proofs.table.push_starts.Goals as goal

pub loop-before-preserved : goal.loop-before-preserved
loop-before-preserved c = goes_on (start_data (net_for c.args.accepted.now) c.args.accepted.now.protocol.roles c.args.table.now c.args.role) 1 c.loop-before.before (c.loop-before.before + 1) (map view c.args.list.now.items) (map view c.loop-before.list.items) (map view c.push_start.new.list.items) (omega arith) c.loop-before.invariant c.in_ok-push_start.ensures
