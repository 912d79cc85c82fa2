-- The last of the first ones, if there is any.
use Rattle.std.proofs.Common.{◌<◌, ⊎_elim, refl, sym, subst, arith}
use Rattle.std.proofs.lemmas.Bool.{cases_lt}
use Rattle.rcv_saves.specs.Counts.{IsLastTold}
use Rattle.rcv_saves.proofs.Lasts.{told_last}
use Rattle.rcv_saves.proofs.saves.last_told.Goals as goal

pub returns : goal.returns
returns c =
    let none = c.if-many-eq0.false in
    let some : 0 < c.many_up_to-many.result = ⊎_elim (λ lt. absurd (none (omega (arith, lt)))) (λ ge. omega (arith, ge)) (cases_lt c.many_up_to-many.result 1) in
    subst (IsLastTold c.args.told.now c.args.base c.args.count) (sym c.max.ensures) (told_last c.args.told.now c.requires.told c.args.base c.args.count c.many_up_to-many.result _ c.requires.base c.many_up_to-many.ensures some refl)
