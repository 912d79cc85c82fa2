-- Each entry in turn: an event is put on its role's stack, a Crash is noted, and a Recover cuts the stacks.
use Rattle.std.proofs.Common.{◌≡◌, ◌+◌, ℕ, Option, Some, None, List, [], ◌∷◌, length, length-append, refl, ◌∙◌, ap, subst, inl, inr, arith}
use Rattle.std.specs.Prelude.{slice_index_or, slice_set}
use Rattle.std.proofs.lemmas.List.{length-set}
use Rattle.rcv_model.specs.Net.{IsIn}
use Rattle.rcv_fates.proofs.Joining.{entry_here}
use Rattle.rcv_tree.specs.Lists.{lists_in}
use Rattle.rcv_story.specs.Stacks.{AreMarked, IsTaken}
use Rattle.rcv_story.proofs.Keeping.{stands}
use Rattle.rcv_story.proofs.Marking.{lists_length}
use Rattle.rcv_story.proofs.Passing.{pass_event, pass_crash, pass_recover, pass_start, all_undone, all_told}
use Rattle.rcv_story.proofs.Sound.{event_low, crash_low, recover_low, roles_are_few, pass_as, recovery_of}
use Rattle.rcv_story.proofs.undoing.undoing_of.Goals as goal
use Rattle.rcv_story.proofs.undoing.undoing_of.Goals.{in-Send+in_ok-put-in-Send, in-Recv+in_ok-put-in-Recv, in-Crash, in-Recover+in_ok-push-in-Recover}

pub put-requires : goal.put-requires
put-requires c =
    let here = entry_here c.args.record.now.entries c.entries-entry-items.result.now c.loop-place.place c.entry-item.result _ c.entries-entry-items.ensures.value c.loop-place-test.true c.entry-item.is c.in-Send.is in
    let low = event_low c.args.record.now.setup c.args.record.now.entries c.entries-entry-items.ensures.is.sound c.loop-place.place c.in-Send.event (inl here) in
    let eight = c.loop-place.invariant.1.stacks.eight in
    let size = lists_length c.loop-place.stacks.items in
    omega (arith, low, eight, size)

pub put-requires-in-Recv : goal.put-requires-in-Recv
put-requires-in-Recv c =
    let here = entry_here c.args.record.now.entries c.entries-entry-items.result.now c.loop-place.place c.entry-item.result _ c.entries-entry-items.ensures.value c.loop-place-test.true c.entry-item.is c.in-Recv.is in
    let low = event_low c.args.record.now.setup c.args.record.now.entries c.entries-entry-items.ensures.is.sound c.loop-place.place c.in-Recv.event (inr here) in
    let eight = c.loop-place.invariant.1.stacks.eight in
    let size = lists_length c.loop-place.stacks.items in
    omega (arith, low, eight, size)

pub bounds-crashes-role-inside : goal.bounds-crashes-role-inside
bounds-crashes-role-inside c =
    let here = entry_here c.args.record.now.entries c.entries-entry-items.result.now c.loop-place.place c.entry-item.result _ c.entries-entry-items.ensures.value c.loop-place-test.true c.entry-item.is c.in-Crash.is in
    let low = crash_low c.args.record.now.setup c.args.record.now.entries c.entries-entry-items.ensures.is.sound c.loop-place.place c.in-Crash.role here in
    let own = c.role.view_is in
    omega (arith, low, own)

pub undo-requires-clause-within : goal.undo-requires-clause-within
undo-requires-clause-within c = λ r p lt i.
    let pass = c.loop-place.invariant.1 in
    let low = (stands r c.args.record.now.entries c.loop-place.place p (subst (IsIn p) (pass.stacks.each r lt) i)).0 in
    let size = pass.undone.size in
    let more = ap length c.in_ok-push.ensures.items in
    let one = length-append c.loop-place.undone.items (None ∷ []) in
    omega (arith, low, size, more, one)

pub bounds-crashes-role-inside-in-Recover : goal.bounds-crashes-role-inside-in-Recover
bounds-crashes-role-inside-in-Recover c =
    let here = entry_here c.args.record.now.entries c.entries-entry-items.result.now c.loop-place.place c.entry-item.result _ c.entries-entry-items.ensures.value c.loop-place-test.true c.entry-item.is c.in-Recover.is in
    let low = recover_low c.args.record.now.setup c.args.record.now.entries c.entries-entry-items.ensures.is.sound c.loop-place.place c.in-Recover.role c.in-Recover.concerned c.in-Recover.kept c.in-Recover.undone here in
    let own = c.role-in-Recover.view_is in
    omega (arith, low, own)

pub loop-place-init : goal.loop-place-init
loop-place-init c = (refl, pass_start c.args.record.now.entries (lists_in c.in_ok-stacks.stacks.items) _ c.new-undone.result.items c.new-recoveries.result.items c.in_ok-stacks.ensures refl c.new-undone.ensures.items c.new-recoveries.ensures.items)

pub loop-place-preserved : goal.loop-place-preserved
loop-place-preserved c =
    let setup = c.args.record.now.setup in
    let entries = c.args.record.now.entries in
    let sound = c.entries-entry-items.ensures.is.sound in
    let k = c.loop-place.place in
    let eight = c.loop-place.invariant.0 in
    let pass = c.loop-place.invariant.1 in
    let lists = lists_in c.loop-place.stacks.items in
    let crashes = c.loop-place.crashes in
    let undone = c.loop-place.undone.items in
    let xs = c.loop-place.recoveries.items in
    elim c.match-entry.branch [
      | in-Send+in_ok-put-in-Send w ↦
          (let here = entry_here entries c.entries-entry-items.result.now k c.entry-item.result _ c.entries-entry-items.ensures.value c.loop-place-test.true c.entry-item.is w.in-Send.is in (
            ap length w.crashes-is ∙ eight,
            pass_as entries (k + 1) _ _ _ _ _ _ _ _
                (ap (λ v. lists_in v.items) w.stacks-is ∙ w.in_ok-put-in-Send.ensures) w.crashes-is (ap (λ v. v.items) w.undone-is ∙ c.in_ok-push.ensures.items) (ap (λ v. v.items) w.recoveries-is)
                (pass_event entries k lists crashes undone xs pass w.in-Send.event (inl here) (event_low setup entries sound k w.in-Send.event (inl here))),
          ))
      | in-Recv+in_ok-put-in-Recv w ↦
          (let here = entry_here entries c.entries-entry-items.result.now k c.entry-item.result _ c.entries-entry-items.ensures.value c.loop-place-test.true c.entry-item.is w.in-Recv.is in (
            ap length w.crashes-is ∙ eight,
            pass_as entries (k + 1) _ _ _ _ _ _ _ _
                (ap (λ v. lists_in v.items) w.stacks-is ∙ w.in_ok-put-in-Recv.ensures) w.crashes-is (ap (λ v. v.items) w.undone-is ∙ c.in_ok-push.ensures.items) (ap (λ v. v.items) w.recoveries-is)
                (pass_event entries k lists crashes undone xs pass w.in-Recv.event (inr here) (event_low setup entries sound k w.in-Recv.event (inr here))),
          ))
      | in-Crash w ↦
          (let here = entry_here entries c.entries-entry-items.result.now k c.entry-item.result _ c.entries-entry-items.ensures.value c.loop-place-test.true c.entry-item.is w.in-Crash.is in
          let noted = w.crashes-is ∙ ap (λ (r : ℕ). slice_set crashes r (Some k)) w.role.view_is in (
            ap length noted ∙ length-set crashes w.in-Crash.role (Some k) ∙ eight,
            pass_as entries (k + 1) _ _ _ _ _ _ _ _
                (ap (λ v. lists_in v.items) w.stacks-is) noted (ap (λ v. v.items) w.undone-is ∙ c.in_ok-push.ensures.items) (ap (λ v. v.items) w.recoveries-is)
                (pass_crash entries k lists crashes undone xs pass w.in-Crash.role eight (crash_low setup entries sound k w.in-Crash.role here) here),
          ))
      | in-Recover+in_ok-push-in-Recover w ↦
          (let here = entry_here entries c.entries-entry-items.result.now k c.entry-item.result _ c.entries-entry-items.ensures.value c.loop-place-test.true c.entry-item.is w.in-Recover.is in
          let p = w.in-Recover.role in
          let concerned = w.in-Recover.concerned in
          let keeps = w.in-Recover.kept in
          let more = w.cut.new.stacks.items in
          let crash = slice_index_or crashes w.role-in-Recover.inside.0 None in
          let marked = subst (λ (l : List (Option ℕ)). AreMarked (IsTaken concerned keeps lists 8) k l w.undo.new.undone.items) c.in_ok-push.ensures.items w.undo.ensures in (
            ap length w.crashes-is ∙ eight,
            pass_as entries (k + 1) _ _ _ _ _ _ _ _
                (ap (λ v. lists_in v.items) w.stacks-is) w.crashes-is (ap (λ v. v.items) w.undone-is) (ap (λ v. v.items) w.recoveries-is ∙ w.in_ok-push-in-Recover.ensures.items)
                (pass_recover entries k lists crashes undone xs pass p concerned keeps w.in-Recover.undone here (recover_low setup entries sound k p concerned keeps w.in-Recover.undone here) (roles_are_few setup entries sound)
                (lists_in more) w.undo.new.undone.items (recovery_of k crash w.firsts_of-firsts.result w.lasts_of-lasts.result) marked (lists_length more ∙ w.cut.ensures.eight) w.cut.ensures.left
                refl (ap (λ (r : ℕ). slice_index_or crashes r None) w.role-in-Recover.view_is) w.firsts_of-firsts.ensures w.lasts_of-lasts.ensures),
          ))
    ]

pub returns : goal.returns
returns c =
    let over = c.loop-place-test.false in
    let all = ap length c.entries-entry-items.ensures.value in
    let up = c.loop-place.auto.place-end in
    let end : c.loop-place.place ≡ length c.args.record.now.entries = omega (arith, over, all, up) in
    record {
      undone = all_undone c.args.record.now.entries c.loop-place.place c.loop-place.undone.items end c.loop-place.invariant.1.undone;
      recoveries = all_told c.args.record.now.entries c.loop-place.place c.loop-place.recoveries.items end c.loop-place.invariant.1.told;
    }
