-- The wires of the marked places are those of the rows that are shown.
use Rattle.rcv_session.specs.Session.{net_for}
use Rattle.rcv_rows.specs.Told.{IsMarked, IsShown}
use Rattle.rcv_rows.proofs.Wiring.{by_marks}
use Rattle.rcv_rows.proofs.told.tell.Goals as goal

pub returns-clause-tells : goal.returns-clause-tells
returns-clause-tells c = λ kept has. record {
  in_rows = c.in_ok-rows.ensures.rows kept has;
  in_wires = by_marks (net_for c.args.record.now.setup) kept c.args.record.now.entries (IsMarked c.args.shown.now) (IsShown c.in_ok-rows.field-0.items) c.in_ok-wires.field-0.items c.in_ok-rows.ensures.marked (c.in_ok-wires.ensures kept has);
}
