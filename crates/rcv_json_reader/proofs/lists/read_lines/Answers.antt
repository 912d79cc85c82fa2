-- Each value says the line of its role, or the list is none of a journal's.
use Rattle.std.proofs.Common.{◌+◌, ◌∙◌, map, length, ap, sym, subst, arith}
use Rattle.serde_json.specs.View.{view}
use Rattle.rcv_journal.specs.Recorded.{bare}
use Rattle.rcv_journal.specs.Json.{line_data}
use Rattle.rcv_json_reader.specs.Parts.{SaysLines}
use Rattle.rcv_json_reader.proofs.Firsts.{AreFirstLines, each_is_line, more_lines}
use Rattle.rcv_json_reader.proofs.Items.{given, lacking, refused, same_length, viewed_at}
use Rattle.std.proofs.lemmas.List.{length-map}
use Rattle.rcv_json_reader.proofs.lists.read_lines.Goals as goal

pub returns-then-parts-as_slice-clause-shape : goal.returns-then-parts-as_slice-clause-shape
returns-then-parts-as_slice-clause-shape c = λ shape lines says.
    let setup = bare c.args.protocol.now in
    c.if-parts-as_slice.true
    (same_length c.in_ok-parts.parts.now (map (line_data setup) lines) (sym (given _ c.items.result c.in_ok-parts.parts c.in_ok-parts.ensures.ok_part c.items.ensures.some) ∙ says.is) ∙ length-map lines (line_data setup) ∙ says.all ∙ ap length (sym c.as_slice.ensures))

pub returns-in_err-ok_or-clause-shape : goal.returns-in_err-ok_or-clause-shape
returns-in_err-ok_or-clause-shape c = refused c.from_residual-in_err-ok_or.result _ (λ e shape lines says.
    let setup = bare c.args.protocol.now in
    let here = viewed_at c.in_ok-parts.parts.now c.loop-place.place c.index-parts-place.result (omega (arith, c.loop-place-test.true)) c.index-parts-place.is in
    each_is_line setup (map view c.in_ok-parts.parts.now) c.loop-place.place (view c.index-parts-place.result) here (lacking c.read_line-line.result c.in_err-ok_or.ensures.ok_part c.read_line-line.ensures.none) lines
    (subst (λ d. SaysLines setup d lines) (given _ c.items.result c.in_ok-parts.parts c.in_ok-parts.ensures.ok_part c.items.ensures.some) says))

pub loop-place-preserved : goal.loop-place-preserved
loop-place-preserved c =
    let setup = bare c.args.protocol.now in
    let parts = map view c.in_ok-parts.parts.now in
    let here = viewed_at c.in_ok-parts.parts.now c.loop-place.place c.index-parts-place.result (omega (arith, c.loop-place-test.true)) c.index-parts-place.is in
    subst (λ items. AreFirstLines setup parts (c.loop-place.place + 1) items) (sym c.in_ok-push.ensures.items)
    (more_lines setup parts c.loop-place.place c.loop-place.found.items (view c.index-parts-place.result) c.in_ok-ok_or.field-0 here (given _ c.read_line-line.result c.in_ok-ok_or.field-0 c.in_ok-ok_or.ensures.ok_part c.read_line-line.ensures.some) c.loop-place.invariant)
