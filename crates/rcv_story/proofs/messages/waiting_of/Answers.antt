-- One entry more: its message waits, or doesn't.
use Rattle.std.proofs.Common.{◌+◌, Bool, cond, [], ◌∷◌, ◌++◌, length, refl, sym, ◌∙◌, ap, subst, arith}
use Rattle.rcv_session.specs.Session.{net_for}
use Rattle.rcv_fates.proofs.Joining.{entry_here}
use Rattle.rcv_story.proofs.Dropping.{HasWaiting, waiting_step, all_waiting}
use Rattle.rcv_story.proofs.messages.waiting_of.Goals as goal
use Rattle.rcv_story.proofs.messages.waiting_of.Goals.{then-is_waiting+in_ok-push, else-is_waiting}

pub loop-place-preserved : goal.loop-place-preserved
loop-place-preserved c =
    let net = net_for c.args.record.now.setup in
    let entries = c.args.record.now.entries in
    let k = c.loop-place.place in
    let xs = c.loop-place.waiting.items in
    let here = entry_here entries c.entries-entry-items.result.now k c.entry-item.result _ c.entries-entry-items.ensures.value c.loop-place-test.true c.entry-item.is refl in
    let next = waiting_step net entries k c.args.undone.now c.args.met.now c.requires.undone c.requires.met c.entry-item.result c.is_waiting.result xs here c.is_waiting.ensures c.loop-place.invariant in
    elim c.if-is_waiting.branch [
      | then-is_waiting+in_ok-push w ↦
          subst (HasWaiting net entries (k + 1)) (sym (ap (λ v. v.items) w.waiting-is ∙ w.in_ok-push.ensures.items))
          (subst (λ (b : Bool). HasWaiting net entries (k + 1) (cond b (xs ++ k ∷ []) xs)) w.if-is_waiting.true next)
      | else-is_waiting w ↦
          subst (HasWaiting net entries (k + 1)) (sym (ap (λ v. v.items) w.waiting-is))
          (subst (λ (b : Bool). HasWaiting net entries (k + 1) (cond b (xs ++ k ∷ []) xs)) w.if-is_waiting.false next)
    ]

pub returns : goal.returns
returns c =
    let over = c.loop-place-test.false in
    let all = ap length c.entries-entry-items.ensures.value in
    all_waiting (net_for c.args.record.now.setup) c.args.record.now.entries c.loop-place.place c.loop-place.waiting.items (omega (arith, over, all)) c.loop-place.invariant
