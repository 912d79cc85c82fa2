-- One arrow more is noted at its Recv.
use Rattle.std.proofs.Common.{slice_index_or, arith}
use Rattle.std.proofs.lemmas.Option.{slice_get-get_or}
use Rattle.rcv_session.specs.Session.{net_for}
use Rattle.rcv_fates.specs.Fates.{arrow}
use Rattle.rcv_story.proofs.Receiving.{recv_within, sends_next, all_sends}
use Rattle.rcv_story.proofs.receipts.sends_of.Goals as goal

pub index_mut-requires : goal.index_mut-requires
index_mut-requires c =
    let a = slice_index_or c.args.arrows.now c.loop-arrow.arrow-index (arrow 0 0) in
    let at = slice_get-get_or c.args.arrows.now c.loop-arrow.arrow-index (arrow 0 0) c.loop-arrow-test.true in
    let within = recv_within (net_for c.args.record.now.setup) c.args.record.now.entries a.send a.receive (c.requires.sound c.loop-arrow.arrow-index a at) in
    let size = c.loop-arrow.invariant.size in
    let len = c.loop-arrow.sends.ok.0 in
    omega (arith, within, size, len)

pub loop-arrow-preserved : goal.loop-arrow-preserved
loop-arrow-preserved c =
    let a = slice_index_or c.args.arrows.now c.loop-arrow.arrow-index (arrow 0 0) in
    let at = slice_get-get_or c.args.arrows.now c.loop-arrow.arrow-index (arrow 0 0) c.loop-arrow-test.true in
    sends_next (net_for c.args.record.now.setup) c.args.record.now.entries c.args.arrows.now c.requires c.loop-arrow.arrow-index a at c.loop-arrow.sends.items c.loop-arrow.invariant

pub returns : goal.returns
returns c =
    let over = c.loop-arrow-test.false in
    all_sends (net_for c.args.record.now.setup) c.args.record.now.entries c.args.arrows.now c.requires c.loop-arrow.arrow-index (omega (arith, over)) c.loop-arrow.sends.items c.loop-arrow.invariant
