-- A rule of acceptance that fails.
use Rattle.std.proofs.Common.{subst, sym}
use Rattle.std.proofs.lemmas.Result.{err_from_is_err_and}
use Rattle.rcv_tree.specs.declared.protocol.Protocol.{Protocol}
use Rattle.rcv_input.specs.Input.{IsProtocolOf}
use Rattle.rcv_input.proofs.Formed.{is_full, has_names}
use Rattle.rcv_input.proofs.Reading.{by_rule, unscripted_line, unplanned_line}
use Rattle.rcv_input.proofs.input.read_input.Goals as goal

pub accepted_of-requires-clause-full : goal.accepted_of-requires-clause-full
accepted_of-requires-clause-full c = is_full c.args.input.now c.in-Ok.source.protocol c.in-Ok.ensures.read

pub accepted_of-requires-clause-names : goal.accepted_of-requires-clause-names
accepted_of-requires-clause-names c = has_names c.args.input.now c.in-Ok.source.protocol c.in-Ok.ensures.read

pub returns-in_err-accepted-clause-taken : goal.returns-in_err-accepted-clause-taken
returns-in_err-accepted-clause-taken c =
    let p = err_from_is_err_and c.from_residual.result c.from_residual.ensures.1 in
    rw (p.1, p.2) (by_rule c.args.input.now c.in-Ok.source.protocol c.in_err-accepted.field-0.0 c.in-Ok.ensures.read c.in_err-accepted.ensures)

pub returns-in-Err-read_part-clause-taken : goal.returns-in-Err-read_part-clause-taken
returns-in-Err-read_part-clause-taken c =
    let text = subst (λ (p : Protocol). IsProtocolOf c.args.input.now p) (sym c.in_ok-accepted.ensures) c.in-Ok.ensures.read in
    let is = c.accepted.view_is in
    let accepted = c.accepted.invariant.accepted in
    let line = c.at_line-in-Err-read_part.ensures in
    unscripted_line c.args.input.now c.in_ok-accepted.accepted.protocol c.in-Err-read_part.error _
    (record { text = text; accepted = rw (← is) accepted }) c.in-Err-read_part.ensures.read (line.refused, line.memory)

pub returns-in-Err-read_part-2-clause-taken : goal.returns-in-Err-read_part-2-clause-taken
returns-in-Err-read_part-2-clause-taken c =
    let text = subst (λ (p : Protocol). IsProtocolOf c.args.input.now p) (sym c.in_ok-accepted.ensures) c.in-Ok.ensures.read in
    let is = c.accepted.view_is in
    let accepted = c.accepted.invariant.accepted in
    let line = c.at_line-in-Err-read_part-2.ensures in
    unplanned_line c.args.input.now c.in_ok-accepted.accepted.protocol c.in-Ok-read_part.scripts.lines c.in-Err-read_part-2.error _
    (record { text = text; accepted = rw (← is) accepted }) c.in-Ok-read_part.ensures.read c.in-Err-read_part-2.ensures.read (line.refused, line.memory)
