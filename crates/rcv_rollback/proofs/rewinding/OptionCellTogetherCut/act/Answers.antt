-- Both ends went back, or the receiving one alone.
use Rattle.std.proofs.Common.{Option, Some, refl, sym, subst}
use Rattle.rcv_role.specs.Cell.{CellView}
use Rattle.rcv_rollback.specs.Going.{HaveRewoundAt}
use Rattle.rcv_rollback.proofs.rewinding.OptionCellTogetherCut.act.Goals as goal

pub rewind_alone_from-requires-clause-apart : goal.rewind_alone_from-requires-clause-apart
rewind_alone_from-requires-clause-apart c = (c.requires.alone c.in-Some.receiver c.in-None.is c.in-Some.is).apart

pub rewind_alone_from-requires-clause-keep : goal.rewind_alone_from-requires-clause-keep
rewind_alone_from-requires-clause-keep c = (c.requires.alone c.in-Some.receiver c.in-None.is c.in-Some.is).got

pub returns-in-Some-other : goal.returns-in-Some-other
returns-in-Some-other c =
    subst (λ (z : Option CellView × Option CellView). HaveRewoundAt z.0 (Some c.rewind_from.new.self) z.1
    (Some c.rewind_from.new.sender) c.args.with.now.from c.args.with.now.keep c.args.with.now.drop_from)
    (λ i. (sym c.in-Some.is i, sym c.in-Some-other.is i))
    (c.rewind_from.new.self, c.rewind_from.new.sender, refl, refl, c.rewind_from.ensures)

pub returns-in-None : goal.returns-in-None
returns-in-None c =
    subst (λ (z : Option CellView × Option CellView). HaveRewoundAt z.0 (Some c.rewind_alone_from.new.self) z.1 z.1
    c.args.with.now.from c.args.with.now.keep c.args.with.now.drop_from)
    (λ i. (sym c.in-Some.is i, sym c.in-None.is i))
    (c.rewind_alone_from.new.self, refl, refl, c.rewind_alone_from.ensures)
