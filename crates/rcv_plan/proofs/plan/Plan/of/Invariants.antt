use Rattle.std.proofs.Common.{◌≡◌, ℕ, ◌≤◌, length}
use Rattle.std.specs.Prelude.{map, slice_get, Some}
use Rattle.rcv_plan.specs.declared.plan.Row.{Row}
use Rattle.rcv_plan.specs.Lines.{line_in}
use Rattle.rcv_plan.specs.Plans.{IsRow}
use Rattle.rcv_plan.proofs.plan.Plan.of.Given as goal

abbrev pub invariant-loop-number : goal.invariant-loop-number
invariant-loop-number l =
    (length l.rows.items ≡ l.number) × (l.number ≤ l.roles) × ((r : ℕ) (row : Row) → slice_get l.rows.items r ≡ Some row → IsRow (map line_in l.lines.items) r row)
