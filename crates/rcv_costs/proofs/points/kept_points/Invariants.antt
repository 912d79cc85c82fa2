use Rattle.std.proofs.Common.{◌≡◌, map, take}
use Rattle.rcv_tree.specs.declared.event.Event.{Event}
use Rattle.rcv_model.specs.Journal.{events_of}
use Rattle.rcv_core.specs.Book.{state_of}
use Rattle.rcv_costs.proofs.points.kept_points.Given as goal

abbrev pub invariant-loop-number : goal.invariant-loop-number
invariant-loop-number l = l.points.items ≡ map (λ (e : Event). e.point) (take l.number (events_of l.role (state_of l.book).kept))
