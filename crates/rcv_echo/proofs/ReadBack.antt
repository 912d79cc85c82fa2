-- A journal of a session that an input is taken as came to its end, and its text and its JSON say it.
use Rattle.std.proofs.Common.{◌≡◌, ◌∙◌, ℕ, Bool, true, false, cond, List, [], ◌∷◌, ◌++◌, map, refl, sym, ap, subst, codes}
use Rattle.serde_json.specs.Data.{Data}
use Rattle.serde_json.specs.Written.{compact_text}
use Rattle.rcv_tree.specs.declared.entry.Entry.{Entry}
use Rattle.rcv_model.specs.Journal.{IsLegal, reading}
use Rattle.rcv_model.specs.Final.{IsFinal}
use Rattle.rcv_session.specs.Session.{SessionView, roles_of, rules_of}
use Rattle.rcv_plan.specs.Lines.{IsPlanned}
use Rattle.rcv_plan.specs.Symbols as plans
use Rattle.rcv_plan.proofs.Fitting.{read_is_planned}
use Rattle.rcv_script.specs.Scripts.{messages_of}
use Rattle.rcv_journal.specs.declared.line.RoleLine.{RoleLine}
use Rattle.rcv_journal.specs.JournalText.{is_limit, journal_text}
use Rattle.rcv_journal.specs.Lines.{AreLinesOf, limited_in}
use Rattle.rcv_journal.proofs.OneText.{same_lines}
use Rattle.rcv_journal.specs.Recorded.{JournalView, bare}
use Rattle.rcv_journal.specs.Form.{IsFormed}
use Rattle.rcv_journal.specs.Json.{entry_data, formed_data, journal_data, limited_data, line_data, members_data, role_data}
use Rattle.rcv_input.specs.Input.{IsTaken}
use Rattle.rcv_lines.specs.FinalTexts.{IsEnded}
use Rattle.rcv_lines.specs.SmallScripts.{HasSmallScripts}
use Rattle.rcv_lines.proofs.FinalTexts.{final_texts}
use Rattle.rcv_lines.proofs.SmallValues.{values_fit}
use Rattle.rcv_json_reader.proofs.RoundTrip.{lines_are_read_back}
use Rattle.rcv_echo.specs.Laws.{TakenTextsAreReadBack, TakenJsonIsReadBack}
use Rattle.rcv_echo.proofs.SmallNumbers.{scripts_are_small}

-- ---- a session that an input is taken as

small_scripts : (input : List ℕ) (session : SessionView) → IsTaken input session → HasSmallScripts session
small_scripts input session taken =
    let read = taken.are_scripts in
    scripts_are_small session.protocol.roles (messages_of session.protocol) input read.tokens session.scripts read.read

planned : (input : List ℕ) (session : SessionView) → IsTaken input session → IsPlanned (roles_of session) session.plan
planned input session taken =
    read_is_planned session.protocol.roles (plans.symbols_of input taken.plan.tokens) session.plan taken.plan.read

pub ended : (input : List ℕ) (session : SessionView) (entries : List Entry) → IsTaken input session → IsLegal (rules_of session) entries → IsFinal (rules_of session) (reading (rules_of session) entries) → IsEnded session entries
ended input session entries taken legal final =
    let plan = planned input session taken in record {
      protocol = taken.protocol.accepted;
      planned = plan;
      legal = legal;
      final = final;
      values = values_fit session entries taken.protocol.accepted plan (small_scripts input session taken) legal;
    }

-- ---- texts

pub taken_texts : TakenTextsAreReadBack
taken_texts input session entries bytes taken legal final text = final_texts session entries bytes (ended input session entries taken legal final) text

-- ---- JSON

limited_same : (setup : SessionView) (lines : List RoleLine) → map (role_data setup) (limited_in lines) ≡ limited_data setup lines
limited_same setup [] = refl
limited_same setup (line ∷ lines) = go (is_limit line.word) (limited_same setup lines)
  where
    go : (b : Bool) → map (role_data setup) (limited_in lines) ≡ limited_data setup lines
        → map (role_data setup) (cond b (line.role ∷ limited_in lines) (limited_in lines)) ≡ cond b (role_data setup line.role ∷ []) [] ++ limited_data setup lines
    go true rest = ap (λ ds. role_data setup line.role ∷ ds) rest
    go false rest = rest

-- the journal with these lines of its roles
abbrev pub journal_with : List Entry → List RoleLine → JournalView
journal_with entries lines = record { entries = entries; roles = lines; limited = limited_in lines }

formed_is_whole : (session : SessionView) (entries : List Entry) (lines : List RoleLine) → formed_data (bare session.protocol) (journal_with entries lines) ≡ journal_data session entries lines
formed_is_whole session entries lines = ap (λ ds. members_data (map (entry_data session) entries) ds (map (line_data session) lines)) (limited_same session lines)

-- the journal is of the form, as its text says it
is_formed : (session : SessionView) (entries : List Entry) (lines : List RoleLine) → IsEnded session entries → AreLinesOf (rules_of session) (reading (rules_of session) entries) lines → IsFormed (bare session.protocol) (journal_with entries lines)
is_formed session entries lines end are =
    let read = final_texts session entries (journal_text session entries lines) end record { lines = lines; are_lines = are; is_text = refl } in
    subst (λ (xs : List RoleLine). IsFormed (bare session.protocol) (journal_with entries xs)) (same_lines (rules_of session) (reading (rules_of session) entries) read.lines lines read.are_lines are) read.spells.0

pub taken_json : TakenJsonIsReadBack
taken_json input session entries bytes taken legal final text =
    let end = ended input session entries taken legal final in
    let formed = is_formed session entries text.lines end text.are_lines in
    let spelled : bytes ≡ compact_text (formed_data (bare session.protocol) (journal_with entries text.lines)) ++ codes "\n" =
    text.is_json ∙ ap (λ (d : Data). compact_text d ++ codes "\n") (sym (formed_is_whole session entries text.lines)) in
    (text.lines, text.are_lines, lines_are_read_back session.protocol bytes (journal_with entries text.lines) taken.protocol.accepted formed spelled)
