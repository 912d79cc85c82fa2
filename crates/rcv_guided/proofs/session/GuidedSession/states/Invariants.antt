use Rattle.std.proofs.Common.{◌≡◌, ℕ, ◌<◌, Some, length}
use Rattle.std.specs.Prelude.{slice_get}
use Rattle.rcv_dialogue.specs.declared.answer.RoleState.{RoleState}
use Rattle.rcv_guided.specs.Questions.{IsStateOf}
use Rattle.rcv_guided.proofs.session.GuidedSession.states.Given as goal

abbrev pub invariant-loop-role : goal.invariant-loop-role
invariant-loop-role l =
    record {
      eight : length l.states ≡ 8;
      done : (r : ℕ) (own : RoleState) → r < l.role → slice_get l.states r ≡ Some own → IsStateOf l.self r own;
    }
