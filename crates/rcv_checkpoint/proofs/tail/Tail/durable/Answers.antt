-- As many events as there are, forgotten ones too.
use Rattle.std.proofs.Common.{◌-◌, ◌%◌, sym, ◌∙◌, ap, subst}
use Rattle.rcv_checkpoint.specs.Tail.{TailView, made, IsSaved}
use Rattle.rcv_checkpoint.proofs.Tails.{made_is, saved_is}
use Rattle.rcv_checkpoint.proofs.tail.Tail.durable.Goals as goal

pub returns : goal.returns
returns c =
    let all = sym (made_is c.self.inside.stack c.self.inside.before c.self.inside.base c.self.inside.every c.self.invariant) ∙ ap made c.self.view_is ∙ sym c.count-events.ensures in
    subst (λ (t : TailView). IsSaved t (c.count-events.result - c.count-events.result % c.self.inside.every)) c.self.view_is (saved_is c.self.inside.stack c.self.inside.before c.self.inside.base c.self.inside.every c.self.invariant c.count-events.result all)
