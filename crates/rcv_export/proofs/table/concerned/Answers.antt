-- One role more.
use Rattle.std.proofs.Common.{[], map, arith}
use Rattle.serde_json.specs.View.{view}
use Rattle.rcv_tables.specs.Rows.{row_at}
use Rattle.rcv_export.specs.TableJson.{concerned_data}
use Rattle.rcv_export.proofs.Growing.{goes_on}
use Rattle.rcv_export.proofs.table.concerned.Goals as goal

pub loop-number-preserved : goal.loop-number-preserved
loop-number-preserved c = goes_on (concerned_data c.args.accepted.now.protocol.roles (row_at c.args.table.now c.args.role c.args.point)) 0 c.loop-number.number c.loop-number.number [] (map view c.loop-number.list.items) (map view c.push_concerned.new.list.items) (omega arith) c.loop-number.invariant c.in_ok-push_concerned.ensures
