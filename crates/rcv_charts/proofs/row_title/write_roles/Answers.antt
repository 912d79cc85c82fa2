-- One role more.
use Rattle.std.proofs.Common.{arith}
use Rattle.rcv_tables.specs.Rows.{row_at}
use Rattle.rcv_tables.specs.TableText.{concerned_text}
use Rattle.rcv_charts.proofs.Ranges.{goes_on}
use Rattle.rcv_charts.proofs.row_title.write_roles.Goals as goal

pub loop-number-preserved : goal.loop-number-preserved
loop-number-preserved c = goes_on (concerned_text c.args.accepted.now.protocol.roles (row_at c.args.table.now c.args.role c.args.point)) 0 c.loop-number.number c.loop-number.number c.args.text.now c.loop-number.text c.write_concerned.new.text (omega arith) c.loop-number.invariant c.in_ok-write_concerned.ensures
