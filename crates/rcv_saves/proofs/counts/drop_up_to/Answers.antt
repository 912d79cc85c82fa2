-- The others are left.
use Rattle.std.proofs.Common.{sym, ◌∙◌, subst}
use Rattle.rcv_saves.specs.Counts.{IsSplit}
use Rattle.rcv_saves.proofs.Splits.{high_are}
use Rattle.rcv_saves.proofs.counts.drop_up_to.Goals as goal

pub returns-clause-items : goal.returns-clause-items
returns-clause-items c =
    let split = subst (λ l. IsSplit l c.args.count c.many_up_to-many.result) c.as_slice.ensures.value c.many_up_to-many.ensures in
    c.drop_first.ensures ∙ sym (high_are c.args.counts.now.items c.args.count c.many_up_to-many.result split)
