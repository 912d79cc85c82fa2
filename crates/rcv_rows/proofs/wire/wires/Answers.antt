-- An arrow with a marked end is drawn; at the end all are.
use Rattle.std.proofs.Common.{◌≡◌, ◌+◌, List, get_or, Some, ◌⊎◌, sym, ap, subst, arith}
use Rattle.std.specs.Prelude.{slice_get}
use Rattle.std.proofs.lemmas.Option.{slice_get-get_or}
use Rattle.rcv_session.specs.Session.{net_for}
use Rattle.rcv_picture.specs.declared.group.Says.{Says}
use Rattle.rcv_fates.specs.declared.arrow.Arrow.{Arrow}
use Rattle.rcv_rows.specs.Told.{IsMarked}
use Rattle.rcv_fates.specs.Fates.{arrow, AreArrows}
use Rattle.rcv_rows.proofs.Wiring.{IsWiring, wiring_start, wiring_on, wiring_next, wired}
use Rattle.rcv_rows.proofs.Kept.{is_not}
use Rattle.rcv_rows.proofs.wire.wires.Goals as goal
use Rattle.rcv_rows.proofs.wire.wires.Goals.{then-is_seen+in_ok-push, else-is_seen}

pub loop-arrow-init : goal.loop-arrow-init
loop-arrow-init c = λ kept has.
    let net = net_for c.args.record.now.setup in
    let entries = c.args.record.now.entries in
    let marks = c.args.shown.now in
    let messages : List Arrow = c.deref-arrow-items.result.now in
    subst (IsWiring net kept entries marks messages 0) (sym c.new-wires.ensures.items) (wiring_start net kept entries marks messages)

pub loop-arrow-preserved : goal.loop-arrow-preserved
loop-arrow-preserved c = λ kept has.
    let net = net_for c.args.record.now.setup in
    let entries = c.args.record.now.entries in
    let marks = c.args.shown.now in
    let messages : List Arrow = c.deref-arrow-items.result.now in
    let i = c.loop-arrow.arrow-index in
    let a : Arrow = get_or messages i (arrow 0 0) in
    let at : slice_get messages i ≡ Some a = slice_get-get_or messages i (arrow 0 0) c.loop-arrow-test.true in
    let are = subst (AreArrows net entries) (sym c.deref-arrow-items.ensures.value) c.in_ok-messages.ensures in
    elim c.if-is_seen.branch [
      | then-is_seen+in_ok-push w ↦
          subst (λ (wires : List Says). IsWiring net kept entries marks messages (i + 1) wires) (ap (λ v. v.items) (sym w.wires-is))
          (subst (λ (wires : List Says). IsWiring net kept entries marks messages (i + 1) wires) (sym w.in_ok-push.ensures.items)
          (wiring_next net kept entries marks messages i c.loop-arrow.wires.items a w.wire_of.result are at (c.loop-arrow.invariant kept has) (c.is_seen.ensures.0 w.if-is_seen.true) (w.wire_of.ensures kept has)))
      | else-is_seen w ↦
          subst (λ (wires : List Says). IsWiring net kept entries marks messages (i + 1) wires) (ap (λ v. v.items) (sym w.wires-is))
          (wiring_on net kept entries marks messages i c.loop-arrow.wires.items a at (c.loop-arrow.invariant kept has)
          (is_not (IsMarked marks a.send ⊎ IsMarked marks a.receive) c.is_seen.result c.is_seen.ensures w.if-is_seen.false))
    ]

pub returns : goal.returns
returns c = λ kept has.
    let net = net_for c.args.record.now.setup in
    let entries = c.args.record.now.entries in
    let marks = c.args.shown.now in
    let messages : List Arrow = c.deref-arrow-items.result.now in
    let done = c.loop-arrow-test.false in
    let are = subst (AreArrows net entries) (sym c.deref-arrow-items.ensures.value) c.in_ok-messages.ensures in
    wired net kept entries marks messages c.loop-arrow.arrow-index c.loop-arrow.wires.items are (omega (arith, done)) (c.loop-arrow.invariant kept has)
