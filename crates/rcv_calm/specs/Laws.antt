-- A text without its crash lines is taken as the session without them.
use Rattle.std.specs.Prelude.{ℕ, List}
use Rattle.rcv_model.specs.Plan.{PlanLine}
use Rattle.rcv_session.specs.Session.{SessionView}
use Rattle.rcv_plan.specs.Grammar.{Written, plan_text}
use Rattle.rcv_plan.specs.Refusing.{IsRead}
use Rattle.rcv_input.specs.Input.{IsTaken}
use Rattle.rcv_transparent.specs.Calm.{without_crash_lines, calm}
use Rattle.rcv_calm.specs.Without.{without_crash_items, HaveSameProtocol, HaveSameScripts, HaveSameBytes, IsWithoutCrashLines}

-- If a text is taken as a session, each text that is the same without the crash lines is taken as the session without those.
abbrev pub TextsWithoutCrashLinesAreCalm : Type 0
TextsWithoutCrashLinesAreCalm =
    (text other : List ℕ) (session : SessionView) → IsTaken text session → IsWithoutCrashLines text other
    → IsTaken other (calm session)

-- If a text is taken, parts with the same bytes say the same. So whoever changes nothing but the plan part has done all that is asked of
-- the other parts.
abbrev pub SameBytesSayTheSame : Type 0
SameBytesSayTheSame =
    (text other : List ℕ) (session : SessionView) → IsTaken text session → HaveSameBytes text other
    → HaveSameProtocol text other × HaveSameScripts text other

-- If items are read as the lines of a plan, no code holds in the items without the crash lines, and they are read as its other lines.
abbrev pub PlansWithoutCrashLinesAreRead : Type 0
PlansWithoutCrashLinesAreRead =
    (roles : List (List ℕ)) (items : List Written) (lines : List PlanLine) → IsRead roles (plan_text items) lines
    → IsRead roles (plan_text (without_crash_items items)) (without_crash_lines lines)
