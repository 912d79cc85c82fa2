-- One role more.
use Rattle.std.proofs.Common.{[], map, arith}
use Rattle.serde_json.specs.View.{view}
use Rattle.rcv_accept.specs.Accepted.{net_for}
use Rattle.rcv_export.specs.TableJson.{role_failures}
use Rattle.rcv_export.proofs.Growing.{goes_on}
use Rattle.rcv_export.proofs.table.failures.Goals as goal

pub loop-number-preserved : goal.loop-number-preserved
loop-number-preserved c = goes_on (role_failures (net_for c.args.accepted.now) c.args.accepted.now.protocol.roles c.args.table.now) 0 c.loop-number.number c.loop-number.number [] (map view c.loop-number.list.items) (map view c.push_starts.new.list.items) (omega arith) c.loop-number.invariant c.in_ok-push_starts.ensures
