-- An input of one message: its session comes to its end, and its text and its JSON are read back.
use Rattle.std.proofs.Common.{◌≡◌, ◌∙◌, ℕ, zero, suc, Some, None, List, [], ◌∷◌, refl, sym, subst}
use Rattle.std.proofs.lemmas.Option.{none-some, same_Some}
use Rattle.std.specs.Prelude.{slice_get}
use Rattle.serde_json.specs.Read.{read}
use Rattle.serde_json.proofs.OnLiterals.{serde_json_on_literals}
use Rattle.rcv_tree.specs.declared.entry.Entry.{Entry}
use Rattle.rcv_tree.specs.declared.entry.Entry.TheVariants.{Send, Recv}
use Rattle.rcv_model.specs.Text.{Body}
use Rattle.rcv_model.specs.Form.{HasForm}
use Rattle.rcv_model.specs.Net.{HasOneLane}
use Rattle.rcv_model.specs.Places.{net_of}
use Rattle.rcv_model.specs.Plan.{session_rules}
use Rattle.rcv_model.specs.Journal.{Rules, State, start, after, reading, IsLegal}
use Rattle.rcv_model.specs.Final.{IsFinal}
use Rattle.rcv_model.proofs.Cases.{says, hears}
use Rattle.rcv_model.proofs.Checked.{next_by, send_by, recv_by}
use Rattle.rcv_model.proofs.Forms.{proper}
use Rattle.rcv_model.proofs.OneLane.{one_lane}
use Rattle.rcv_model.proofs.Stepping.{final_by}
use Rattle.rcv_session.specs.Session.{lines_of, roles_of, rules_of}
use Rattle.rcv_journal.specs.declared.line.RoleLine.{RoleLine}
use Rattle.rcv_journal.specs.declared.line.RoleWord.TheVariants.{Done}
use Rattle.rcv_journal.specs.JournalText.{journal_text}
use Rattle.rcv_journal.specs.Lines.{IsLineOf, AreLinesOf}
use Rattle.rcv_journal.specs.Recorded.{bare}
use Rattle.rcv_journal.specs.Json.{formed_data, json_text}
use Rattle.rcv_input.proofs.Worked.{input, its_body, one, session, taken}
use Rattle.rcv_lines.specs.FinalTexts.{IsReadAsJournal}
use Rattle.rcv_echo.specs.Laws.{IsJsonReadAs}
use Rattle.rcv_echo.proofs.ReadBack.{journal_with, taken_texts, taken_json}

abbrev rules_by : Body → Rules
rules_by body = session_rules body (roles_of session) (lines_of session) session.plan

abbrev rules : Rules
rules = rules_by one

-- A sends the message, and B receives it
abbrev entries : List Entry
entries = Send (says 0 1 0 1) ∷ Recv (hears 1 1 0 2 1) ∷ []

abbrev begun : State
begun = after rules (start 2) (Send (says 0 1 0 1))

abbrev over : State
over = after rules begun (Recv (hears 1 1 0 2 1))

abbrev line_of : ℕ → RoleLine
line_of r = record { role = r; kept = 1; raw = 1; word = Done }

abbrev lines : List RoleLine
lines = line_of 0 ∷ line_of 1 ∷ []

one_one : HasOneLane (net_of one)
one_one = one_lane one tt

one_legal : IsLegal rules entries
one_legal = (send_by rules one_one (start 2) (says 0 1 0 1) refl refl refl refl refl refl refl, (recv_by rules one_one begun (hears 1 1 0 2 1) [] refl refl refl refl refl, tt))

one_final : IsFinal rules over
one_final = final_by rules over ((proper one 2 (subst (λ (b : Body). HasForm b 2) its_body taken.protocol.accepted.form)).two_ends, one_one) refl

first_line : IsLineOf rules over 0 (line_of 0)
first_line = record { role = refl; kept = refl; raw = refl; word = λ z next. (next_by (net_of one) one_one 0 1 refl).complete z next }

second_line : IsLineOf rules over 1 (line_of 1)
second_line = record { role = refl; kept = refl; raw = refl; word = λ z next. (next_by (net_of one) one_one 1 1 refl).complete z next }

one_lines : AreLinesOf rules over lines
one_lines = record { all = refl; each = each }
  where
    each : (r : ℕ) (line : RoleLine) → slice_get lines r ≡ Some line → IsLineOf rules over r line
    each zero line at = subst (IsLineOf rules over 0) (same_Some (line_of 0) line at) first_line
    each (suc zero) line at = subst (IsLineOf rules over 1) (same_Some (line_of 1) line at) second_line
    each (suc (suc r)) line at = absurd (none-some line at)

-- ---- the same of the input's session

legal : IsLegal (rules_of session) entries
legal = subst (λ (b : Body). IsLegal (rules_by b) entries) (sym its_body) one_legal

final : IsFinal (rules_of session) (reading (rules_of session) entries)
final = subst (λ (b : Body). IsFinal (rules_by b) (reading (rules_by b) entries)) (sym its_body) one_final

are_lines : AreLinesOf (rules_of session) (reading (rules_of session) entries) lines
are_lines = subst (λ (b : Body). AreLinesOf (rules_by b) (reading (rules_by b) entries) lines) (sym its_body) one_lines

text_is_read : IsReadAsJournal session entries (journal_text session entries lines)
text_is_read = taken_texts input session entries (journal_text session entries lines) taken legal final (record { lines = lines; are_lines = are_lines; is_text = refl })

json_is_read : IsJsonReadAs session entries (json_text session entries lines)
json_is_read = taken_json input session entries (json_text session entries lines) taken legal final (record { lines = lines; are_lines = are_lines; is_json = refl })

-- no bytes are read as no journal
none : read [] ≡ None
unfolding serde_json_on_literals
none = refl

nothing_is_read : (es : List Entry) → IsJsonReadAs session es [] → ⊥
nothing_is_read es said = none-some (formed_data (bare session.protocol) (journal_with es said.0)) (sym none ∙ said.2.value)
