-- One entry more: its message is dropped, or isn't.
use Rattle.std.proofs.Common.{◌+◌, Option, ℕ, [], ◌∷◌, ◌++◌, length, refl, sym, ◌∙◌, ap, subst, arith}
use Rattle.std.specs.Prelude.{MatchOption}
use Rattle.rcv_session.specs.Session.{net_for}
use Rattle.rcv_fates.proofs.Joining.{entry_here}
use Rattle.rcv_story.specs.Messages.{dropped_of}
use Rattle.rcv_story.proofs.Dropping.{HasDropped, dropped_step, all_dropped}
use Rattle.rcv_story.proofs.messages.dropped_of.Goals as goal
use Rattle.rcv_story.proofs.messages.dropped_of.Goals.{in-Some+in_ok-push, in_default}

pub loop-place-preserved : goal.loop-place-preserved
loop-place-preserved c =
    let net = net_for c.args.record.now.setup in
    let entries = c.args.record.now.entries in
    let k = c.loop-place.place in
    let xs = c.loop-place.dropped.items in
    let here = entry_here entries c.entries-entry-items.result.now k c.entry-item.result _ c.entries-entry-items.ensures.value c.loop-place-test.true c.entry-item.is refl in
    let next = dropped_step net entries k c.args.undone.now c.args.met.now c.requires.undone c.requires.met c.entry-item.result c.dropped_by.result xs here c.dropped_by.ensures c.loop-place.invariant in
    elim c.match-dropped_by.branch [
      | in-Some+in_ok-push w ↦
          subst (HasDropped net entries (k + 1)) (sym (ap (λ v. v.items) w.dropped-is ∙ w.in_ok-push.ensures.items))
          (subst (λ (o : Option ℕ). MatchOption o (HasDropped net entries (k + 1) xs) (λ q. HasDropped net entries (k + 1) (xs ++ dropped_of k q ∷ []))) w.in-Some.is next)
      | in_default w ↦
          subst (HasDropped net entries (k + 1)) (sym (ap (λ v. v.items) w.dropped-is))
          (subst (λ (o : Option ℕ). MatchOption o (HasDropped net entries (k + 1) xs) (λ q. HasDropped net entries (k + 1) (xs ++ dropped_of k q ∷ []))) w.in_default.is next)
    ]

pub returns : goal.returns
returns c =
    let over = c.loop-place-test.false in
    let all = ap length c.entries-entry-items.ensures.value in
    all_dropped (net_for c.args.record.now.setup) c.args.record.now.entries c.loop-place.place c.loop-place.dropped.items (omega (arith, over, all)) c.loop-place.invariant
