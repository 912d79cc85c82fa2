-- A picture of what a guide has, as it is made.
use Rattle.std.specs.Prelude.{ℕ, List, map}
use Rattle.rcv_tree.specs.declared.event.Event.{Event}
use Rattle.rcv_told.specs.Told.{Remembered}
use Rattle.rcv_guide.specs.Guide.{GuideView, net_for, roles_of}
use Rattle.rcv_dialogue.specs.declared.answer.RoleState.{RoleState}
use Rattle.rcv_retold.specs.Closing.{AreStates}
use Rattle.rcv_fates.specs.Record.{RecordView}
use Rattle.rcv_look.specs.Drawing.{IsDrawing, told_end}

-- The roles stand as the guide has them, and the picture is one of the record with these ends.
pub record IsPictureOf (g : GuideView) (m : Remembered) (r : RecordView) (kept : List Event) (bytes : List ℕ) : Type 0 where
  pub states : List RoleState
  pub are_states : AreStates (net_for g) (roles_of g) m states
  pub drawing : IsDrawing r.setup r.entries kept (map told_end states) bytes
