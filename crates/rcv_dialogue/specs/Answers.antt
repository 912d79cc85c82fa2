-- The text of an answer: its first line, and as many more as the number after a plus at the end of that line says.
use Rattle.std.specs.Prelude.{ℕ, ◌+◌, ◌≤◌, All, Bool, true, false, if◌then◌else◌, List, ◌∷◌, ◌++◌, length, flat_map, codes, decimal}
use Rattle.std.specs.Fmt.{signed_decimal}
use Rattle.std.specs.List.{list_all, range_with_len}
use Rattle.rcv_tree.specs.declared.event.Message.{Message}
use Rattle.rcv_accept.specs.Accepted.{AcceptedView, net_for}
use Rattle.rcv_dialogue.specs.declared.answer.Answer.{Answer}
use Rattle.rcv_dialogue.specs.declared.answer.Answer.TheVariants as answer
use Rattle.rcv_dialogue.specs.declared.answer.Back.{Back}
use Rattle.rcv_dialogue.specs.declared.answer.Cause.{Cause}
use Rattle.rcv_dialogue.specs.declared.answer.Cause.TheVariants as cause
use Rattle.rcv_dialogue.specs.declared.answer.RoleState.{RoleState}
use Rattle.rcv_dialogue.specs.declared.answer.Stale.{Stale}
use Rattle.rcv_dialogue.specs.declared.answer.Stale.TheVariants as stale
use Rattle.rcv_dialogue.specs.declared.answer.State.{State}
use Rattle.rcv_dialogue.specs.declared.answer.State.TheVariants as state
use Rattle.rcv_dialogue.specs.declared.answer.Turn.{Turn}
use Rattle.rcv_dialogue.specs.declared.answer.Turn.TheVariants as turn
use Rattle.rcv_dialogue.specs.declared.answer.Undone.{Undone}
use Rattle.rcv_dialogue.specs.declared.few.Kept.{Kept}
use Rattle.rcv_dialogue.specs.declared.line.Again.{Again}
use Rattle.rcv_dialogue.specs.declared.line.Again.TheVariants as again
use Rattle.rcv_dialogue.specs.declared.line.Flight.{Flight}
use Rattle.rcv_dialogue.specs.declared.line.ToldStanding.{ToldStanding}
use Rattle.rcv_dialogue.specs.declared.wrong.LineError.{LineError}
use Rattle.rcv_dialogue.specs.declared.wrong.LineError.TheVariants as errors
use Rattle.rcv_dialogue.specs.declared.wrong.Expected.{Expected}
use Rattle.rcv_dialogue.specs.declared.wrong.Expected.TheVariants as expected
use Rattle.rcv_lines.specs.Cutting.{joined}
use Rattle.rcv_dialogue.specs.Lines.{IsRole, down_text, again_words}
use Rattle.rcv_dialogue.specs.Names.{name_of}

-- ---- parts of lines, each with a space in front

abbrev pub named_text : AcceptedView → ℕ → List ℕ
named_text a r = codes " " ++ name_of a r

abbrev pub number_text : ℕ → List ℕ
number_text n = codes " " ++ decimal n

abbrev pub count_text : AcceptedView → Kept → List ℕ
count_text a k = named_text a k.role ++ number_text k.count

abbrev pub counts_text : AcceptedView → List Kept → List ℕ
counts_text a kept = flat_map (count_text a) kept

abbrev pub undone_text : AcceptedView → Undone → List ℕ
undone_text a u = codes " undone " ++ decimal u.undone ++ codes ":" ++ counts_text a u.kept.now

abbrev pub turn_text : Turn → List ℕ
turn_text (turn.Sends points) = codes " sends" ++ flat_map number_text points.now
turn_text (turn.Receives points) = codes " receives" ++ flat_map number_text points.now
turn_text turn.Over = codes " over"

-- ` POINT LABEL VALUE @STAMP`
abbrev pub message_text : AcceptedView → Message → List ℕ
message_text a m =
    number_text m.point ++ codes " " ++ (net_for a).label m.point ++ codes " " ++ signed_decimal m.value ++ codes " @" ++ decimal m.stamp

abbrev pub cause_text : AcceptedView → Cause → List ℕ
cause_text a cause.Again = codes " again"
cause_text a (cause.Incarnation n) = codes " incarnation " ++ decimal n
cause_text a cause.Down = codes " down"
cause_text a cause.Up = codes " up"
cause_text a (cause.Turn t) = codes " turn" ++ turn_text t
cause_text a cause.Empty = codes " front none"
cause_text a (cause.Front m) = codes " front" ++ message_text a m
cause_text a (cause.Stamp n) = codes " stamp " ++ decimal n
cause_text a (cause.Count n) = codes " count " ++ decimal n
cause_text a cause.Host = codes " host"
cause_text a (cause.Line k) = codes " line" ++ count_text a k
cause_text a (cause.Recovery u) = codes " recovery" ++ undone_text a u

abbrev pub stale_text : Stale → List ℕ
stale_text (stale.Incarnation n) = codes " incarnation " ++ decimal n
stale_text stale.Message = codes " message"

abbrev pub expected_text : Expected → List ℕ
expected_text expected.Line = codes "line"
expected_text expected.Role = codes "role"
expected_text expected.Point = codes "point"
expected_text expected.Label = codes "label"
expected_text expected.Value = codes "value"
expected_text expected.Stamp = codes "stamp"
expected_text expected.Sent = codes "sent"
expected_text expected.Incarnation = codes "incarnation"
expected_text expected.Count = codes "count"
expected_text expected.Undone = codes "undone"
expected_text expected.Again = codes "again"
expected_text expected.Told = codes "told"
expected_text expected.Room = codes "room"
expected_text expected.Kept = codes "kept"
expected_text expected.Raw = codes "raw"
expected_text expected.At = codes "at"
expected_text expected.Clock = codes "clock"
expected_text expected.Attempt = codes "attempt"
expected_text expected.Up = codes "up"
expected_text expected.End = codes "end"

abbrev pub state_text : State → List ℕ
state_text state.Done = codes "done"
state_text state.Waits = codes "waits"
state_text state.Down = codes "down"

-- `role ROLE kept N raw N WORD`
abbrev pub role_text : AcceptedView → RoleState → List ℕ
role_text a s =
    codes "role" ++ named_text a s.role ++ codes " kept " ++ decimal s.kept ++ codes " raw " ++ decimal s.raw ++ codes " " ++ state_text s.state

-- ---- further lines

abbrev pub back_line : AcceptedView → Back → List ℕ
back_line a b = codes "back" ++ named_text a b.role ++ number_text b.count ++ codes " #" ++ decimal b.incarnation ++ codes "\n"

abbrev pub flight_line : AcceptedView → Flight → List ℕ
flight_line a f = codes "flight" ++ named_text a f.from ++ named_text a f.to ++ message_text a f.message ++ codes "\n"

abbrev pub ends_text : AcceptedView → ℕ → List ℕ
ends_text a p = named_text a ((net_for a).sender p) ++ named_text a ((net_for a).receiver p)

abbrev pub point_line : AcceptedView → ℕ → List ℕ
point_line a p = codes "point" ++ number_text p ++ codes " " ++ (net_for a).label p ++ ends_text a p ++ codes "\n"

-- A line of a snapshot, as it is told.
abbrev pub again_text : AcceptedView → Again → List ℕ
again_text a l = joined (codes "again" ∷ again_words a l)

-- That of a role, in two parts.
abbrev pub standing_text : AcceptedView → ToldStanding → List ℕ
standing_text a s =
    codes "again role" ++ named_text a s.role ++ codes " kept" ++ number_text s.kept ++ codes " raw" ++ number_text s.raw
    ++ codes " at" ++ number_text s.place

abbrev pub numbers_text : ToldStanding → List ℕ
numbers_text s =
    codes " clock" ++ number_text s.clock ++ codes " attempt" ++ number_text s.attempt ++ codes " " ++ down_text s.down
    ++ codes " #" ++ decimal s.incarnation

abbrev pub again_line : AcceptedView → Again → List ℕ
again_line a l = again_text a l ++ codes "\n"

abbrev pub role_line : AcceptedView → RoleState → List ℕ
role_line a s = role_text a s ++ codes "\n"

-- Whether all roles are at their end.
abbrev pub is_done : State → Bool
is_done state.Done = true
is_done state.Waits = false
is_done state.Down = false

abbrev pub end_line : List RoleState → List ℕ
end_line states = if list_all (λ s. is_done s.state) states then codes "completed\n" else codes "open\n"

-- The end of a first line that so many lines follow.
abbrev pub more_text : ℕ → List ℕ
more_text count = codes " +" ++ decimal count ++ codes "\n"

-- The answer to a line that isn't one of the dialogue.
abbrev pub unread_text : LineError → List ℕ
unread_text errors.Long = codes "wrong long\n"
unread_text (errors.Wrong w) = codes "wrong " ++ decimal w.word ++ codes " " ++ expected_text w.expected ++ codes "\n"

-- ---- the whole answer

abbrev pub answer_text : AcceptedView → Answer → List ℕ
answer_text a answer.Done = codes "done\n"
answer_text a (answer.Sent stamp) = codes "done @" ++ decimal stamp ++ codes "\n"
answer_text a (answer.Received stamp sent) = codes "done @" ++ decimal stamp ++ codes " <" ++ decimal sent ++ codes "\n"
answer_text a (answer.Recovered undone back flight) =
    codes "done" ++ undone_text a undone ++ more_text (length back.now + length flight.now)
    ++ flat_map (back_line a) back.now ++ flat_map (flight_line a) flight.now
answer_text a (answer.Illegal why) = codes "illegal" ++ cause_text a why ++ codes "\n"
answer_text a (answer.Stale which) = codes "stale" ++ stale_text which ++ codes "\n"
answer_text a answer.Long = unread_text errors.Long
answer_text a (answer.Wrong w) = unread_text (errors.Wrong w)
answer_text a answer.Memory = codes "memory\n"
answer_text a (answer.Next r t) = codes "next" ++ named_text a r ++ turn_text t ++ codes "\n"
answer_text a (answer.NextDown r) = codes "next" ++ named_text a r ++ codes " down\n"
answer_text a (answer.Kept counts) = codes "kept" ++ counts_text a counts.now ++ codes "\n"
answer_text a (answer.Line counts) = codes "line" ++ counts_text a counts.now ++ codes "\n"
answer_text a (answer.Role s incarnation) = role_text a s ++ codes " #" ++ decimal incarnation ++ codes "\n"
answer_text a (answer.Flight flight) = codes "flight" ++ more_text (length flight.now) ++ flat_map (flight_line a) flight.now
answer_text a answer.Points =
    codes "points" ++ more_text (net_for a).count ++ flat_map (point_line a) (range_with_len 1 (net_for a).count)
answer_text a (answer.Table lines text) = codes "table" ++ more_text lines ++ text.now
answer_text a (answer.Snapshot lines) = codes "snapshot" ++ more_text (length lines.now) ++ flat_map (again_line a) lines.now
answer_text a (answer.End states) =
    codes "end" ++ more_text (length states.now + 1) ++ flat_map (role_line a) states.now ++ end_line states.now

-- ---- what an answer may name: declared roles, and points of the text

abbrev pub HasRole : AcceptedView → Kept → Type 0
HasRole a k = IsRole a k.role

abbrev pub IsDeclared : AcceptedView → ℕ → Type 0
IsDeclared a p = (1 ≤ p) × (p ≤ (net_for a).count)

abbrev pub HasEnds : AcceptedView → Flight → Type 0
HasEnds a f = IsRole a f.from × IsRole a f.to × IsDeclared a f.message.point

abbrev pub NamesInCause : AcceptedView → Cause → Type 0
NamesInCause a cause.Again = Unit {0}
NamesInCause a (cause.Incarnation n) = Unit {0}
NamesInCause a cause.Down = Unit {0}
NamesInCause a cause.Up = Unit {0}
NamesInCause a (cause.Turn t) = Unit {0}
NamesInCause a cause.Empty = Unit {0}
NamesInCause a (cause.Front m) = IsDeclared a m.point
NamesInCause a (cause.Stamp n) = Unit {0}
NamesInCause a (cause.Count n) = Unit {0}
NamesInCause a cause.Host = Unit {0}
NamesInCause a (cause.Line k) = HasRole a k
NamesInCause a (cause.Recovery u) = All (HasRole a) u.kept.now

abbrev pub NamesInAgain : AcceptedView → Again → Type 0
NamesInAgain a (again.Session x) = Unit {0}
NamesInAgain a (again.Role s) = IsRole a s.role
NamesInAgain a (again.Flight f) = HasEnds a f
NamesInAgain a (again.Event e) = IsRole a e.role × IsDeclared a e.point
NamesInAgain a (again.Save r count) = IsRole a r

abbrev pub IsNamed : AcceptedView → Answer → Type 0
IsNamed a answer.Done = Unit {0}
IsNamed a (answer.Sent stamp) = Unit {0}
IsNamed a (answer.Received stamp sent) = Unit {0}
IsNamed a (answer.Recovered undone back flight) =
    All (HasRole a) undone.kept.now × All (λ b. IsRole a b.role) back.now × All (HasEnds a) flight.now
IsNamed a (answer.Illegal why) = NamesInCause a why
IsNamed a (answer.Stale which) = Unit {0}
IsNamed a answer.Long = Unit {0}
IsNamed a (answer.Wrong w) = Unit {0}
IsNamed a answer.Memory = Unit {0}
IsNamed a (answer.Next r t) = IsRole a r
IsNamed a (answer.NextDown r) = IsRole a r
IsNamed a (answer.Kept counts) = All (HasRole a) counts.now
IsNamed a (answer.Line counts) = All (HasRole a) counts.now
IsNamed a (answer.Role s incarnation) = IsRole a s.role
IsNamed a (answer.Flight flight) = All (HasEnds a) flight.now
IsNamed a answer.Points = Unit {0}
IsNamed a (answer.Table lines text) = Unit {0}
IsNamed a (answer.Snapshot lines) = All (NamesInAgain a) lines.now
IsNamed a (answer.End states) = All (λ s. IsRole a s.role) states.now
