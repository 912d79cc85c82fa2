-- The column behind one byte more.
use Rattle.std.proofs.Common.{◌+◌, sym, ◌∙◌, ap, eq-eqb, ne_eqb}
use Rattle.rcv_found.proofs.Columns.{column_last, column_letter, column_same}
use Rattle.rcv_found.proofs.spot.next_column.Goals as goal

pub returns-then-byte-eq10-clause-step : goal.returns-then-byte-eq10-clause-step
returns-then-byte-eq10-clause-step c = λ before e. sym (column_last before c.args.byte (eq-eqb c.args.byte 10 c.if-byte-eq10.true))

pub returns-then-begins_letter-clause-step : goal.returns-then-begins_letter-clause-step
returns-then-begins_letter-clause-step c = λ before e.
    ap (λ n. n + 1) e ∙ sym (column_letter before c.args.byte (ne_eqb c.args.byte 10 c.if-byte-eq10.false) (sym c.begins_letter.ensures ∙ c.if-begins_letter.true))

pub returns-else-begins_letter-clause-step : goal.returns-else-begins_letter-clause-step
returns-else-begins_letter-clause-step c = λ before e.
    e ∙ sym (column_same before c.args.byte (ne_eqb c.args.byte 10 c.if-byte-eq10.false) (sym c.begins_letter.ensures ∙ c.if-begins_letter.false))
