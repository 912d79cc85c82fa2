-- Each value names a role above those before, or the list is none of a journal's.
use Rattle.std.proofs.Common.{◌+◌, ◌<◌, ◌≤◌, map, sym, subst, arith}
use Rattle.std.proofs.lemmas.List.{length-map}
use Rattle.serde_json.specs.View.{view}
use Rattle.rcv_journal.specs.Recorded.{bare}
use Rattle.rcv_json_reader.specs.Parts.{SaysLimited}
use Rattle.rcv_json_reader.proofs.Firsts.{AreFirstLimited, all_limited, falls, more_limited, no_role}
use Rattle.rcv_json_reader.proofs.Items.{given, lacking, refused, viewed_at}
use Rattle.rcv_json_reader.proofs.lists.read_limited.Goals as goal

pub returns-in_err-role-clause-shape : goal.returns-in_err-role-clause-shape
returns-in_err-role-clause-shape c = refused c.from_residual-in_err-role.result _ (λ e shape limited says.
    let setup = bare c.args.protocol.now in
    let here = viewed_at c.in_ok-parts.parts.now c.loop-part.part-index c.part-item.result (omega (arith, c.loop-part-test.true)) c.part-item.is in
    no_role setup (map view c.in_ok-parts.parts.now) c.loop-part.part-index c.loop-part.least c.loop-part.found.items (view c.part-item.result) here c.loop-part.invariant
    (lacking c.role.result c.in_err-role.ensures.ok_part c.role.ensures.none) limited (subst (λ d. SaysLimited setup d limited) (given _ c.items.result c.in_ok-parts.parts c.in_ok-parts.ensures.ok_part c.items.ensures.some) says))

pub returns-then-role-least-clause-shape : goal.returns-then-role-least-clause-shape
returns-then-role-least-clause-shape c = λ shape limited says.
    let setup = bare c.args.protocol.now in
    let here = viewed_at c.in_ok-parts.parts.now c.loop-part.part-index c.part-item.result (omega (arith, c.loop-part-test.true)) c.part-item.is in
    falls setup (map view c.in_ok-parts.parts.now) c.loop-part.part-index c.loop-part.least c.loop-part.found.items (view c.part-item.result) c.in_ok-role.role c.requires.differ here
    (subst (λ r. r < c.loop-part.least) c.role-in-loop-part.view_is c.if-role-least.true) (given _ c.role.result c.in_ok-role.role c.in_ok-role.ensures.ok_part c.role.ensures.declared) (given _ c.role.result c.in_ok-role.role c.in_ok-role.ensures.ok_part c.role.ensures.some) c.loop-part.invariant
    limited (subst (λ d. SaysLimited setup d limited) (given _ c.items.result c.in_ok-parts.parts c.in_ok-parts.ensures.ok_part c.items.ensures.some) says)

pub loop-part-preserved : goal.loop-part-preserved
loop-part-preserved c =
    let setup = bare c.args.protocol.now in
    let parts = map view c.in_ok-parts.parts.now in
    let here = viewed_at c.in_ok-parts.parts.now c.loop-part.part-index c.part-item.result (omega (arith, c.loop-part-test.true)) c.part-item.is in
    subst (λ r. AreFirstLimited setup parts (c.loop-part.part-index + 1) (r + 1) c.push.new.self.items) (sym c.role-in-loop-part-2.view_is)
    (subst (λ items. AreFirstLimited setup parts (c.loop-part.part-index + 1) (c.in_ok-role.role + 1) items) (sym c.in_ok-push.ensures.items)
    (more_limited setup parts c.loop-part.part-index c.loop-part.least c.loop-part.found.items (view c.part-item.result) c.in_ok-role.role c.requires.differ here
    (subst (λ r. c.loop-part.least ≤ r) c.role-in-loop-part.view_is c.if-role-least.false) (given _ c.role.result c.in_ok-role.role c.in_ok-role.ensures.ok_part c.role.ensures.declared) (given _ c.role.result c.in_ok-role.role c.in_ok-role.ensures.ok_part c.role.ensures.some) c.loop-part.invariant))

pub returns-clause-ok : goal.returns-clause-ok
returns-clause-ok c =
    let setup = bare c.args.protocol.now in
    let parts = map view c.in_ok-parts.parts.now in
    subst (λ d. SaysLimited setup d c.loop-part.found.items) (sym (given _ c.items.result c.in_ok-parts.parts c.in_ok-parts.ensures.ok_part c.items.ensures.some))
    (all_limited setup parts c.loop-part.part-index c.loop-part.least c.loop-part.found.items (omega (arith, c.loop-part-test.false, length-map c.in_ok-parts.parts.now view)) c.loop-part.invariant)
