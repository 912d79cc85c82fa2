-- One arrow more: its Send is met if its Recv has the same fate.
use Rattle.std.proofs.Common.{◌+◌, None, Some, slice_index_or, sym, ◌∙◌, ap, subst, arith}
use Rattle.std.proofs.lemmas.Bool.{false≢true}
use Rattle.std.proofs.lemmas.Option.{slice_get-get_or}
use Rattle.rcv_model.proofs.Lists.{some_same}
use Rattle.rcv_session.specs.Session.{net_for}
use Rattle.rcv_fates.specs.Fates.{arrow}
use Rattle.rcv_story.proofs.Receiving.{HasMet, send_within, recv_within, met_next, met_other, all_met}
use Rattle.rcv_story.proofs.met.met_of.Goals as goal
use Rattle.rcv_story.proofs.met.met_of.Goals.{then-is_same, else-is_same}

pub bounds-undone-arrow : goal.bounds-undone-arrow
bounds-undone-arrow c =
    let a = slice_index_or c.args.arrows.now c.loop-arrow.arrow-index (arrow 0 0) in
    let at = slice_get-get_or c.args.arrows.now c.loop-arrow.arrow-index (arrow 0 0) c.loop-arrow-test.true in
    let within = recv_within (net_for c.args.record.now.setup) c.args.record.now.entries a.send a.receive (c.requires.arrows.sound c.loop-arrow.arrow-index a at) in
    let size = c.requires.size in
    omega (arith, within, size)

pub bounds-undone-arrow-in-loop-arrow : goal.bounds-undone-arrow-in-loop-arrow
bounds-undone-arrow-in-loop-arrow c =
    let a = slice_index_or c.args.arrows.now c.loop-arrow.arrow-index (arrow 0 0) in
    let at = slice_get-get_or c.args.arrows.now c.loop-arrow.arrow-index (arrow 0 0) c.loop-arrow-test.true in
    let within = send_within (net_for c.args.record.now.setup) c.args.record.now.entries a.send a.receive (c.requires.arrows.sound c.loop-arrow.arrow-index a at) in
    let size = c.requires.size in
    omega (arith, within, size)

pub index_mut-requires : goal.index_mut-requires
index_mut-requires c =
    let a = slice_index_or c.args.arrows.now c.loop-arrow.arrow-index (arrow 0 0) in
    let at = slice_get-get_or c.args.arrows.now c.loop-arrow.arrow-index (arrow 0 0) c.loop-arrow-test.true in
    let within = send_within (net_for c.args.record.now.setup) c.args.record.now.entries a.send a.receive (c.requires.arrows.sound c.loop-arrow.arrow-index a at) in
    let size = c.loop-arrow.invariant.size in
    let len = c.loop-arrow.met.ok.0 in
    omega (arith, within, size, len)

pub returns : goal.returns
returns c =
    let over = c.loop-arrow-test.false in
    all_met (net_for c.args.record.now.setup) c.args.record.now.entries c.args.arrows.now c.requires.arrows c.loop-arrow.arrow-index (omega (arith, over)) c.args.undone.now c.loop-arrow.met.items c.loop-arrow.invariant

pub loop-arrow-preserved : goal.loop-arrow-preserved
loop-arrow-preserved c =
    let net = net_for c.args.record.now.setup in
    let entries = c.args.record.now.entries in
    let arrows = c.args.arrows.now in
    let undone = c.args.undone.now in
    let k = c.loop-arrow.arrow-index in
    let a = slice_index_or arrows k (arrow 0 0) in
    let at = slice_get-get_or arrows k (arrow 0 0) c.loop-arrow-test.true in
    let message = c.requires.arrows.sound k a at in
    let size = c.requires.size in
    let sent = send_within net entries a.send a.receive message in
    let received = recv_within net entries a.send a.receive message in
    let one = slice_get-get_or undone a.receive None (omega (arith, received, size)) in
    let other = slice_get-get_or undone a.send None (omega (arith, sent, size)) in
    elim c.if-is_same.branch [
      | then-is_same w ↦ subst (λ v. HasMet net entries arrows undone (k + 1) v.items) (sym w.met-is) (met_next net entries arrows c.requires.arrows k a at undone c.loop-arrow.met.items c.loop-arrow.invariant (one ∙ ap Some (c.is_same.ensures.0 w.if-is_same.true) ∙ sym other))
      | else-is_same w ↦ subst (λ v. HasMet net entries arrows undone (k + 1) v.items) (sym w.met-is) (met_other net entries arrows c.requires.arrows k a at undone c.loop-arrow.met.items c.loop-arrow.invariant (λ same. false≢true (sym w.if-is_same.false ∙ c.is_same.ensures.1 (some_same (sym one ∙ same ∙ other)))))
    ]
