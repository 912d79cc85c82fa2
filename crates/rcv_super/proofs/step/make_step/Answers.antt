-- Where something is left to do, there is a next step.
use Rattle.std.proofs.Common.{subst}
use Rattle.rcv_core.specs.Book.{IsOneThreadStep}
use Rattle.rcv_super.proofs.Ending.{not_final}
use Rattle.rcv_super.proofs.step.make_step.Goals as goal

pub unreachable-requires : goal.unreachable-requires
unreachable-requires g c = not_final c.args.book.now c.requires.more (subst (IsOneThreadStep c.args.book.now) c.in-None.is c.one_thread_step.ensures.step)
