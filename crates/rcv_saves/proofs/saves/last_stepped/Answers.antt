-- The multiple below is the count without its rest.
use Rattle.std.proofs.Common.{⊎_elim, ◌%◌, ◌-◌, max, sym, ◌∙◌, ap, subst, arith}
use Rattle.std.proofs.lemmas.Bool.{cases_lt}
use Rattle.rcv_saves.specs.Counts.{IsLastStepped}
use Rattle.rcv_saves.proofs.Lasts.{stepped_last}
use Rattle.rcv_saves.proofs.saves.last_stepped.Goals as goal

pub returns : goal.returns
returns c =
    let none = c.if-step-eq0.false in
    let some = ⊎_elim (λ lt. absurd (none (omega (arith, lt)))) (λ ge. omega (arith, ge)) (cases_lt c.args.step 1) in
    subst (IsLastStepped c.args.step c.args.base c.args.count) (sym (c.max.ensures ∙ ap (λ s. max c.args.base (c.args.count - c.args.count % s)) c.from.ensures)) (stepped_last c.args.step c.args.base c.args.count c.requires some)
