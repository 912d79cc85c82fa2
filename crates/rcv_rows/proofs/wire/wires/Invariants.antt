use Rattle.rcv_session.specs.Session.{net_for}
use Rattle.std.specs.Prelude.{List}
use Rattle.rcv_tree.specs.declared.event.Event.{Event}
use Rattle.rcv_fates.specs.Record.{HasKept}
use Rattle.rcv_rows.proofs.Wiring.{IsWiring}
use Rattle.rcv_rows.proofs.wire.wires.Given as goal

abbrev pub invariant-loop-arrow : goal.invariant-loop-arrow
invariant-loop-arrow l = (kept : List Event) → HasKept l.record kept → IsWiring (net_for l.record.setup) kept l.record.entries l.shown l.arrow-items l.arrow-index l.wires.items
