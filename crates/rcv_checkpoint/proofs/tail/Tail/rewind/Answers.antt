-- The stack goes back to the same state.
use Rattle.std.proofs.Common.{◌+◌, take, sym, ◌∙◌, ap, subst}
use Rattle.rcv_checkpoint.specs.Tail.{TailView, place_of, HasState, with_held, tail_of}
use Rattle.rcv_checkpoint.proofs.Tails.{rewound}
use Rattle.rcv_checkpoint.proofs.tail.Tail.rewind.Goals as goal

pub returns : goal.returns
returns c =
    let holds = subst (λ (t : TailView). HasState t c.args.count) (sym c.self.view_is) c.requires in
    ap (λ s. tail_of s c.self.inside.before c.self.inside.base) c.rewind.ensures
    ∙ rewound c.self.inside.stack c.self.inside.before c.self.inside.base c.self.inside.every c.self.invariant c.args.count holds
    ∙ ap (λ (t : TailView). with_held t (take (place_of t c.args.count + 1) t.states)) c.self.view_is
