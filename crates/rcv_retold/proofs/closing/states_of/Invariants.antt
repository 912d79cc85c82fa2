-- Those of the roles so far.
use Rattle.std.proofs.Common.{◌≡◌, ℕ, Some, length}
use Rattle.std.specs.Prelude.{slice_get}
use Rattle.rcv_told.specs.Told.{Remembered}
use Rattle.rcv_dialogue.specs.declared.answer.RoleState.{RoleState}
use Rattle.rcv_guide.specs.Guide.{net_for, IsMemory}
use Rattle.rcv_retold.specs.Closing.{IsStateOf}
use Rattle.rcv_retold.proofs.closing.states_of.Given as goal

abbrev pub invariant-loop-role : goal.invariant-loop-role
invariant-loop-role l = record {
  count : length l.states.items ≡ l.role;
  each : (m : Remembered) → IsMemory l.guide m → (r : ℕ) (own : RoleState) → slice_get l.states.items r ≡ Some own → IsStateOf (net_for l.guide) m r own;
}
