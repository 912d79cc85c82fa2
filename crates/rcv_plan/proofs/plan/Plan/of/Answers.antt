use Rattle.std.proofs.Common.{◌≡◌, ℕ, ◌+◌, List, ◌∷◌, [], ◌++◌, length, rules, subst, sym, arith, length-append}
use Rattle.std.specs.Prelude.{map, slice_get, Some}
use Rattle.rcv_plan.specs.declared.plan.Row.{Row}
use Rattle.rcv_plan.specs.declared.line.Line.{Line}
use Rattle.rcv_plan.specs.Lines.{line_in}
use Rattle.rcv_plan.specs.Plans.{IsRow}
use Rattle.rcv_plan.proofs.Rows.{one_more}
use Rattle.rcv_plan.proofs.plan.Plan.of.Goals as goal

pub loop-number-preserved : goal.loop-number-preserved
loop-number-preserved c =
    let items : c.push.new.self.items ≡ c.loop-number.rows.items ++ c.in_ok-row_of.field-0 ∷ [] = search rules in
    let here : IsRow (map line_in c.args.lines.items) (length c.loop-number.rows.items) c.in_ok-row_of.field-0 =
    (let row : IsRow (map line_in c.args.lines.items) c.loop-number.number c.in_ok-row_of.field-0 = subst (λ (lines : List Line). IsRow (map line_in lines) c.loop-number.number c.in_ok-row_of.field-0) c.as_slice.ensures.value c.in_ok-row_of.ensures in
    subst (λ (n : ℕ). IsRow (map line_in c.args.lines.items) n c.in_ok-row_of.field-0) (sym c.loop-number.invariant.0) row) in
    let more = length-append c.loop-number.rows.items (c.in_ok-row_of.field-0 ∷ []) in (
      subst (λ (rows : List Row). length rows ≡ c.loop-number.number + 1) (sym items) (omega (arith, more, c.loop-number.invariant.0)),
      omega (arith, c.loop-number-test.true),
      subst (λ (rows : List Row). (r : ℕ) (row : Row) → slice_get rows r ≡ Some row → IsRow (map line_in c.args.lines.items) r row) (sym items)
          (one_more (IsRow (map line_in c.args.lines.items)) c.loop-number.rows.items c.in_ok-row_of.field-0 c.loop-number.invariant.2 here),
    )
