-- Each entry in turn: a Send is noted, and a Recv has the one Send that is found.
use Rattle.std.proofs.Common.{◌≤◌, ◌<◌, length, refl, sym, ◌∙◌, ap, subst, arith}
use Rattle.std.specs.List.Sorted.{IsNonDecreasingBy}
use Rattle.rcv_session.specs.Session.{SessionView, net_for}
use Rattle.rcv_fates.specs.declared.sends.Sent.{Sent}
use Rattle.rcv_tree.specs.Lists.{lists_in}
use Rattle.rcv_fates.specs.Sends.{sends_at, HasNoStamp, HasSent}
use Rattle.rcv_fates.proofs.Searching.{own_list, lists_length}
use Rattle.rcv_fates.proofs.Joining.{entry_here, behind_send, behind_recv, behind_other, all_arrows, recv_point, send_declared, sender_declared, rises, is_there}
use Rattle.rcv_fates.proofs.arrow.arrows.Goals as goal
use Rattle.rcv_fates.proofs.arrow.arrows.Goals.{in-Send+in_ok-note-in-Send, in-Recv+in-Some+in_ok-push-in-Recv, in-Recv+in_default, in-Crash, in-Recover}

pub overflow_cast-place : goal.overflow_cast-place
overflow_cast-place c =
    let short = c.entries-entry-items.ensures.few in
    let test = c.loop-place-test.true in
    let all = ap length c.entries-entry-items.ensures.value in
    omega (arith, short, test, all)

pub overflow_cast-receive : goal.overflow_cast-receive
overflow_cast-receive c =
    let short = c.entries-entry-items.ensures.few in
    let test = c.loop-place-test.true in
    let all = ap length c.entries-entry-items.ensures.value in
    omega (arith, short, test, all)

pub note-requires : goal.note-requires
note-requires c =
    let here = entry_here c.args.record.now.entries c.entries-entry-items.result.now c.loop-place.place c.entry-item.result _ c.entries-entry-items.ensures.value c.loop-place-test.true c.entry-item.is c.in-Send.is in
    let low = send_declared c.args.record.now.setup c.args.record.now.entries c.loop-place.place c.in-Send.event c.entries-entry-items.ensures.is.sound here in
    let count = c.loop-place.invariant.0.count in
    let size = lists_length c.loop-place.sends.items in
    omega (arith, low, count, size)

pub sender-sender-requires-clause-first : goal.sender-sender-requires-clause-first
sender-sender-requires-clause-first c =
    let here = entry_here c.args.record.now.entries c.entries-entry-items.result.now c.loop-place.place c.entry-item.result _ c.entries-entry-items.ensures.value c.loop-place-test.true c.entry-item.is c.in-Recv.is in
    (recv_point c.args.record.now.setup c.args.record.now.entries c.loop-place.place c.in-Recv.event c.entries-entry-items.ensures.is.sound here).first

pub sender-sender-requires-clause-last : goal.sender-sender-requires-clause-last
sender-sender-requires-clause-last c =
    let here = entry_here c.args.record.now.entries c.entries-entry-items.result.now c.loop-place.place c.entry-item.result _ c.entries-entry-items.ensures.value c.loop-place-test.true c.entry-item.is c.in-Recv.is in
    subst (λ (s : SessionView). c.in-Recv.event.point ≤ (net_for s).count) (sym c.setup-setup.ensures)
    (recv_point c.args.record.now.setup c.args.record.now.entries c.loop-place.place c.in-Recv.event c.entries-entry-items.ensures.is.sound here).last

pub index-requires : goal.index-requires
index-requires c =
    let here = entry_here c.args.record.now.entries c.entries-entry-items.result.now c.loop-place.place c.entry-item.result _ c.entries-entry-items.ensures.value c.loop-place-test.true c.entry-item.is c.in-Recv.is in
    let low = sender_declared c.args.record.now.setup c.args.record.now.entries c.entries-entry-items.ensures.is.sound c.loop-place.place c.in-Recv.event here in
    let own = c.sender.view_is ∙ c.sender-sender.ensures ∙ ap (λ (s : SessionView). (net_for s).sender c.in-Recv.event.point) c.setup-setup.ensures in
    let count = c.loop-place.invariant.0.count in
    let size = lists_length c.loop-place.sends.items in
    let len = c.loop-place.sends.ok.0 in
    omega (arith, low, own, count, size, len)

pub place_of-requires : goal.place_of-requires
place_of-requires c =
    let here = entry_here c.args.record.now.entries c.entries-entry-items.result.now c.loop-place.place c.entry-item.result _ c.entries-entry-items.ensures.value c.loop-place-test.true c.entry-item.is c.in-Recv.is in
    let low = sender_declared c.args.record.now.setup c.args.record.now.entries c.entries-entry-items.ensures.is.sound c.loop-place.place c.in-Recv.event here in
    let own = c.sender.view_is ∙ c.sender-sender.ensures ∙ ap (λ (s : SessionView). (net_for s).sender c.in-Recv.event.point) c.setup-setup.ensures in
    let count = c.loop-place.invariant.0.count in
    let size = lists_length c.loop-place.sends.items in
    let lt : c.sender.inside.0 < length c.loop-place.sends.items = omega (arith, low, own, count, size) in
    let list = c.deref.ensures.value ∙ own_list c.loop-place.sends.items c.sender.inside.0 c.index.result.now c.index.result.now lt c.index.ensures ∙ ap (sends_at (lists_in c.loop-place.sends.items)) own in
    subst (IsNonDecreasingBy (λ (x : Sent). x.stamp)) (sym list)
    (rises c.args.record.now.setup c.args.record.now.entries c.entries-entry-items.ensures.is.sound c.loop-place.place c.in-Recv.event here (lists_in c.loop-place.sends.items) c.loop-place.invariant.0)

pub loop-place-preserved : goal.loop-place-preserved
loop-place-preserved c =
    let setup = c.args.record.now.setup in
    let entries = c.args.record.now.entries in
    let sound = c.entries-entry-items.ensures.is.sound in
    let k = c.loop-place.place in
    let lists = lists_in c.loop-place.sends.items in
    let arrows = c.loop-place.arrows.items in
    let more = lists_in c.match-entry.sends.items in
    let others = c.match-entry.arrows.items in
    elim c.match-entry.branch [
      | in-Send+in_ok-note-in-Send w ↦
          (let here = entry_here entries c.entries-entry-items.result.now k c.entry-item.result _ c.entries-entry-items.ensures.value c.loop-place-test.true c.entry-item.is w.in-Send.is in
          behind_send setup entries k lists more arrows others w.in-Send.event sound c.loop-place.invariant here (ap (λ v. lists_in v.items) w.sends-is ∙ w.in_ok-note-in-Send.ensures) (ap (λ v. v.items) w.arrows-is))
      | in-Recv+in-Some+in_ok-push-in-Recv w ↦
          (let here = entry_here entries c.entries-entry-items.result.now k c.entry-item.result _ c.entries-entry-items.ensures.value c.loop-place-test.true c.entry-item.is w.in-Recv.is in
          let low = sender_declared setup entries sound k w.in-Recv.event here in
          let own = w.sender.view_is ∙ w.sender-sender.ensures ∙ ap (λ (s : SessionView). (net_for s).sender w.in-Recv.event.point) c.setup-setup.ensures in
          let count = c.loop-place.invariant.0.count in
          let size = lists_length c.loop-place.sends.items in
          let lt : w.sender.inside.0 < length c.loop-place.sends.items = omega (arith, low, own, count, size) in
          let list = w.deref.ensures.value ∙ own_list c.loop-place.sends.items w.sender.inside.0 w.index.result.now w.index.result.now lt w.index.ensures ∙ ap (sends_at lists) own in
          behind_recv setup entries k w.in-Some.send lists more arrows others w.in-Recv.event sound c.loop-place.invariant here (subst (λ l. HasSent l w.in-Recv.event.sent w.in-Some.send) list w.in-Some.ensures) (ap (λ v. lists_in v.items) w.sends-is) (ap (λ v. v.items) w.arrows-is ∙ w.in_ok-push-in-Recv.ensures.items))
      | in-Recv+in_default w ↦
          (let here = entry_here entries c.entries-entry-items.result.now k c.entry-item.result _ c.entries-entry-items.ensures.value c.loop-place-test.true c.entry-item.is w.in-Recv.is in
          let low = sender_declared setup entries sound k w.in-Recv.event here in
          let own = w.sender.view_is ∙ w.sender-sender.ensures ∙ ap (λ (s : SessionView). (net_for s).sender w.in-Recv.event.point) c.setup-setup.ensures in
          let count = c.loop-place.invariant.0.count in
          let size = lists_length c.loop-place.sends.items in
          let lt : w.sender.inside.0 < length c.loop-place.sends.items = omega (arith, low, own, count, size) in
          let list = w.deref.ensures.value ∙ own_list c.loop-place.sends.items w.sender.inside.0 w.index.result.now w.index.result.now lt w.index.ensures ∙ ap (sends_at lists) own in
          absurd (is_there setup entries sound k w.in-Recv.event here lists c.loop-place.invariant.0 (subst (λ l. HasNoStamp l w.in-Recv.event.sent) list w.in_default.ensures)))
      | in-Crash w ↦
          (let here = entry_here entries c.entries-entry-items.result.now k c.entry-item.result _ c.entries-entry-items.ensures.value c.loop-place-test.true c.entry-item.is refl in
          let kind = w.in-Crash.is in
          behind_other setup entries k lists more arrows others c.entry-item.result c.loop-place.invariant here (λ e f. cc) (λ e f. cc) (ap (λ v. lists_in v.items) w.sends-is) (ap (λ v. v.items) w.arrows-is))
      | in-Recover w ↦
          (let here = entry_here entries c.entries-entry-items.result.now k c.entry-item.result _ c.entries-entry-items.ensures.value c.loop-place-test.true c.entry-item.is refl in
          let kind = w.in-Recover.is in
          behind_other setup entries k lists more arrows others c.entry-item.result c.loop-place.invariant here (λ e f. cc) (λ e f. cc) (ap (λ v. lists_in v.items) w.sends-is) (ap (λ v. v.items) w.arrows-is))
    ]

pub returns : goal.returns
returns c =
    let over = c.loop-place-test.false in
    let all = ap length c.entries-entry-items.ensures.value in
    all_arrows (net_for c.args.record.now.setup) c.args.record.now.entries c.loop-place.place c.loop-place.arrows.items (omega (arith, over, all)) c.loop-place.invariant.1
