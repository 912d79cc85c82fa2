-- One event more.
use Rattle.std.proofs.Common.{◌≡◌, suc, ◌+◌, List, [], ◌∷◌, ◌++◌, take, sym, ◌∙◌, ap, append_assoc, arith}
use Rattle.rcv_tree.specs.declared.event.Event.{Event}
use Rattle.rcv_ledger.specs.Logs.{log_at}
use Rattle.rcv_guide.proofs.Staying.{take_more}
use Rattle.rcv_guide.proofs.remembered.add_first.Goals as goal

pub loop-number-preserved : goal.loop-number-preserved
loop-number-preserved c =
    let log = log_at c.args.ledger.now.logs c.args.role in
    let up : c.loop-number.number + 1 ≡ suc c.loop-number.number = omega arith in
    c.in_ok-push.ensures.items
    ∙ ap (λ (l : List Event). l ++ c.event.result.now ∷ []) c.loop-number.invariant
    ∙ append_assoc c.args.events.now.items (take c.loop-number.number log) (c.event.result.now ∷ [])
    ∙ ap (λ (l : List Event). c.args.events.now.items ++ l) (sym (ap (λ k. take k log) up ∙ take_more c.loop-number.number log c.event.result.now c.event.ensures))
