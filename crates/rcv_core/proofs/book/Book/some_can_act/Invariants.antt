use Rattle.std.proofs.Common.{◌<◌, ℕ}
use Rattle.rcv_model.specs.Final.{CanAct}
use Rattle.rcv_session.specs.Session.{rules_of}
use Rattle.rcv_core.specs.Book.{state_of}
use Rattle.rcv_core.proofs.book.Book.some_can_act.Given as goal

abbrev pub invariant-loop-role : goal.invariant-loop-role
invariant-loop-role l = (r : ℕ) → r < l.role → CanAct (rules_of l.self.setup) (state_of l.self) r → ⊥
