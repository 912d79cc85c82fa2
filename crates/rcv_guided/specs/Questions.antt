-- The answers to questions, which change nothing.
use Rattle.std.specs.Prelude.{◌≡◌, ℕ, ◌==◌, List, length, Option, Some, slice_get, slice_index, count_by}
use Rattle.std.specs.List.{range_with_len}
use Rattle.rcv_tables.specs.Rows.{TableView, IsTable}
use Rattle.rcv_tables.specs.TableText.{table_text}
use Rattle.rcv_guide.specs.Numbers.{numbers_at}
use Rattle.rcv_guide.specs.Guide.{net_for, IsNextOf}
use Rattle.rcv_dialogue.specs.declared.few.Kept.{Kept}
use Rattle.rcv_dialogue.specs.declared.line.Question.{Question}
use Rattle.rcv_dialogue.specs.declared.line.Question.TheVariants as question
use Rattle.rcv_dialogue.specs.declared.answer.Answer.{Answer}
use Rattle.rcv_dialogue.specs.declared.answer.Answer.TheVariants as answer
use Rattle.rcv_dialogue.specs.declared.answer.RoleState.{RoleState}
use Rattle.rcv_dialogue.specs.declared.answer.State.{State}
use Rattle.rcv_dialogue.specs.declared.answer.State.TheVariants as state
use Rattle.rcv_guided.specs.Session.{SessionView, roles_in, incarnation_of}
use Rattle.rcv_guided.specs.Hearing.{IsUp, IsDown}
use Rattle.rcv_guided.specs.Turns.{IsTurnOf}
use Rattle.rcv_guided.specs.Counts.{made_of, with_counts, AreStableCounts}
use Rattle.rcv_guided.specs.Flights.{AreFlightsTo}
use Rattle.rcv_guided.specs.Restoring.{AreSnapshot}

-- All declared roles.
abbrev pub all_roles : SessionView → List ℕ
all_roles s = range_with_len 0 (roles_in s)

-- How many events of each role are stable.
pub record AreStableOf (s : SessionView) (listed : List Kept) : Type 0 where
  pub stable : List ℕ
  pub are : AreStableCounts s stable
  pub listed_are : listed ≡ with_counts (slice_index stable) (all_roles s)

-- No point comes next for the role.
abbrev pub IsOver : SessionView → ℕ → Type 0
IsOver s r = (p : ℕ) → IsNextOf s.guide r p → ⊥

-- Whether a role is at its end, waits, or is down.
abbrev pub IsState : SessionView → ℕ → State → Type 0
IsState s r state.Down = IsDown s r
IsState s r state.Done = IsUp s r × IsOver s r
IsState s r state.Waits = IsUp s r × (IsOver s r → ⊥)

pub record IsStateOf (s : SessionView) (r : ℕ) (own : RoleState) : Type 0 where
  pub role : own.role ≡ r
  pub kept : own.kept ≡ made_of s r
  pub raw : own.raw ≡ (numbers_at s.guide.numbers r).raw
  pub state : IsState s r own.state

-- There is one of each role, in order.
pub record AreStates (s : SessionView) (states : List RoleState) : Type 0 where
  pub all : length states ≡ roles_in s
  pub each : (r : ℕ) (own : RoleState) → slice_get states r ≡ Some own → IsStateOf s r own

-- The text of the protocol's table, which has so many lines.
pub record IsTableText (s : SessionView) (lines : ℕ) (text : List ℕ) : Type 0 where
  pub table : TableView
  pub table_is : IsTable (net_for s.guide) (roles_in s) table
  pub text_is : text ≡ table_text (net_for s.guide) s.guide.protocol.roles table
  pub lines_are : lines ≡ count_by (λ byte. byte == 10) text

-- ---- by question

abbrev pub AnswersNext : SessionView → ℕ → Answer → Type 0
AnswersNext s r (answer.NextDown role) = (role ≡ r) × IsDown s r
AnswersNext s r (answer.Next role turn) = (role ≡ r) × IsUp s r × IsTurnOf s r turn
AnswersNext s r _ = ⊥

abbrev pub AnswersKept : SessionView → Answer → Type 0
AnswersKept s (answer.Kept kept) = kept.now ≡ with_counts (made_of s) (all_roles s)
AnswersKept s _ = ⊥

abbrev pub AnswersLine : SessionView → Answer → Type 0
AnswersLine s (answer.Line stable) = AreStableOf s stable.now
AnswersLine s _ = ⊥

abbrev pub AnswersRole : SessionView → ℕ → Answer → Type 0
AnswersRole s r (answer.Role own incarnation) = IsStateOf s r own × (incarnation ≡ incarnation_of s r)
AnswersRole s r _ = ⊥

abbrev pub AnswersFlight : SessionView → Option ℕ → Answer → Type 0
AnswersFlight s to (answer.Flight flights) = AreFlightsTo s to flights.now
AnswersFlight s to answer.Memory = Unit {0}
AnswersFlight s to _ = ⊥

abbrev pub AnswersTable : SessionView → Answer → Type 0
AnswersTable s (answer.Table lines text) = IsTableText s lines text.now
AnswersTable s answer.Memory = Unit {0}
AnswersTable s _ = ⊥

abbrev pub AnswersSnapshot : SessionView → Answer → Type 0
AnswersSnapshot s (answer.Snapshot lines) = AreSnapshot s lines.now
AnswersSnapshot s answer.Memory = Unit {0}
AnswersSnapshot s _ = ⊥

abbrev pub AnswersEnd : SessionView → Answer → Type 0
AnswersEnd s (answer.End states) = AreStates s states.now
AnswersEnd s _ = ⊥

-- The answer to a question. Only the messages in flight, the table and a snapshot take memory.
abbrev pub Asks : SessionView → Question → Answer → Type 0
Asks s (question.Next r) said = AnswersNext s r said
Asks s question.Kept said = AnswersKept s said
Asks s question.Line said = AnswersLine s said
Asks s (question.Role r) said = AnswersRole s r said
Asks s (question.Flight to) said = AnswersFlight s to said
Asks s question.Points said = said ≡ answer.Points
Asks s question.Table said = AnswersTable s said
Asks s question.Snapshot said = AnswersSnapshot s said
Asks s question.End said = AnswersEnd s said
