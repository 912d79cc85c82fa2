-- One arrow more: it receives again what was received.
use Rattle.std.proofs.Common.{length, refl, slice_index_or, arith}
use Rattle.std.proofs.lemmas.Option.{slice_get-get_or, slice_get_read}
use Rattle.rcv_session.specs.Session.{net_for}
use Rattle.rcv_fates.specs.Fates.{arrow}
use Rattle.rcv_story.proofs.Receiving.{send_within, recv_within, received_next, again_next, all_again}
use Rattle.rcv_story.proofs.receipts.again_of.Goals as goal

pub index-requires : goal.index-requires
index-requires c =
    let a = slice_index_or c.args.arrows.now c.loop-arrow.arrow-index (arrow 0 0) in
    let at = slice_get-get_or c.args.arrows.now c.loop-arrow.arrow-index (arrow 0 0) c.loop-arrow-test.true in
    let within = send_within (net_for c.args.record.now.setup) c.args.record.now.entries a.send a.receive (c.requires.sound c.loop-arrow.arrow-index a at) in
    let size = c.loop-arrow.invariant.0.size in
    let len = c.loop-arrow.received.ok.0 in
    omega (arith, within, size, len)

pub index_mut-requires : goal.index_mut-requires
index_mut-requires c =
    let a = slice_index_or c.args.arrows.now c.loop-arrow.arrow-index (arrow 0 0) in
    let at = slice_get-get_or c.args.arrows.now c.loop-arrow.arrow-index (arrow 0 0) c.loop-arrow-test.true in
    let within = recv_within (net_for c.args.record.now.setup) c.args.record.now.entries a.send a.receive (c.requires.sound c.loop-arrow.arrow-index a at) in
    let size = c.loop-arrow.invariant.1.size in
    let len = c.loop-arrow.again.ok.0 in
    omega (arith, within, size, len)

pub index_mut-requires-in-loop-arrow : goal.index_mut-requires-in-loop-arrow
index_mut-requires-in-loop-arrow c =
    let a = slice_index_or c.args.arrows.now c.loop-arrow.arrow-index (arrow 0 0) in
    let at = slice_get-get_or c.args.arrows.now c.loop-arrow.arrow-index (arrow 0 0) c.loop-arrow-test.true in
    let within = send_within (net_for c.args.record.now.setup) c.args.record.now.entries a.send a.receive (c.requires.sound c.loop-arrow.arrow-index a at) in
    let size = c.loop-arrow.invariant.0.size in
    let len = c.loop-arrow.received.ok.0 in
    omega (arith, within, size, len)

pub loop-arrow-preserved : goal.loop-arrow-preserved
loop-arrow-preserved c =
    let net = net_for c.args.record.now.setup in
    let entries = c.args.record.now.entries in
    let arrows = c.args.arrows.now in
    let k = c.loop-arrow.arrow-index in
    let a = slice_index_or arrows k (arrow 0 0) in
    let at = slice_get-get_or arrows k (arrow 0 0) c.loop-arrow-test.true in
    let within = send_within net entries a.send a.receive (c.requires.sound k a at) in
    let size = c.loop-arrow.invariant.0.size in
    let read = slice_get_read c.loop-arrow.received.items (length c.loop-arrow.received.items) a.send c.index.result.now refl (omega (arith, within, size)) c.index.ensures in
    (received_next net entries arrows c.requires k a at c.loop-arrow.received.items c.loop-arrow.invariant.0, again_next net entries arrows c.requires k a at c.loop-arrow.again.items c.loop-arrow.received.items c.index.result.now c.loop-arrow.invariant.1 c.loop-arrow.invariant.0 read)

pub returns : goal.returns
returns c =
    let over = c.loop-arrow-test.false in
    all_again (net_for c.args.record.now.setup) c.args.record.now.entries c.args.arrows.now c.requires c.loop-arrow.arrow-index (omega (arith, over)) c.loop-arrow.again.items c.loop-arrow.invariant.1
