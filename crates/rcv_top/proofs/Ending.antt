-- The session of what is taken comes to its end, and each role's line is known there.
use Rattle.std.proofs.Common.{ℕ, Bool, true, false, List, length, refl, ⊎_elim}
use Rattle.rcv_tree.specs.declared.entry.Entry.{Entry}
use Rattle.rcv_model.specs.Text.{body_of}
use Rattle.rcv_model.specs.Next.{IsProper}
use Rattle.rcv_model.specs.Journal.{Rules, State, reading, IsLegal}
use Rattle.rcv_model.specs.Final.{IsFinal, IsOneThread, ChoosesOffered}
use Rattle.rcv_model.specs.ThreadLaws.{OneJournal}
use Rattle.rcv_model.proofs.Forms.{proper}
use Rattle.rcv_model.proofs.Choosing.{chosen_in}
use Rattle.rcv_model.proofs.OneThread.{one_journal}
use Rattle.rcv_model.proofs.Threads.{one_thread}
use Rattle.rcv_model.proofs.Finals.{done_or_limited}
use Rattle.rcv_model.proofs.GreatestLine as greatest
use Rattle.rcv_input.specs.Input.{IsTaken}
use Rattle.rcv_session.specs.Session.{SessionView, net_for, lines_of, roles_of, rules_of}
use Rattle.rcv_journal.specs.declared.line.RoleLine.{RoleLine}
use Rattle.rcv_journal.specs.JournalText.{journal_text, last_line}
use Rattle.rcv_journal.specs.Lines.{AreLinesOf}
use Rattle.rcv_journal.proofs.LinesExist.{lines_from, are_lines}
use Rattle.rcv_top.specs.declared.status.Status.TheVariants.{Completed, Limited}
use Rattle.rcv_top.specs.declared.status.Status.{Status}
use Rattle.rcv_journal.specs.Json.{json_text}
use Rattle.rcv_top.specs.Running.{CanRun, IsJournalOf, EndsAs, all_done, at_limit, IsSessionRun}
use Rattle.rcv_jobs.specs.Texts.{IsWritten}
use Rattle.rcv_top.specs.Generating.{kept_in, IsSummaryRun}
use Rattle.rcv_gen.specs.Summary.{summary_text}
use Rattle.rcv_top.specs.Lining.{line_text, IsLineRun}
use Rattle.rcv_top.specs.Laws.{SessionsEnd}
use Rattle.rcv_top.proofs.Headlines.{journals_are_legal}
use Rattle.rcv_top.proofs.Rooms.{taken_sessions_can_run}

-- ---- what is written

-- a journal has its JSON and its text
written : (json : Bool) (session : SessionView) (journal : List Entry) (lines : List RoleLine) → AreLinesOf (rules_of session) (reading (rules_of session) journal) lines → (bytes : List ℕ) × IsWritten json session journal bytes
written true session journal lines are = (json_text session journal lines, record { lines = lines; are_lines = are; is_json = refl })
written false session journal lines are = (journal_text session journal lines, record { lines = lines; are_lines = are; is_text = refl })

pub has_text : (json : Bool) (session : SessionView) (journal : List Entry) → IsProper (rules_of session).net (rules_of session).roles → (bytes : List ℕ) × IsWritten json session journal bytes
has_text json session journal lawful =
    let s : State = reading (rules_of session) journal in
    written json session journal (lines_from (rules_of session) s lawful 0 (rules_of session).roles) (are_lines (rules_of session) s lawful)

-- ---- the session of a text

-- the journal of one thread, which is legal and final, with the lines of the roles
record IsEnd (session : SessionView) : Type 0 where
  pub journal : List Entry
  pub alone : IsOneThread (rules_of session) journal
  pub legal : IsLegal (rules_of session) journal
  pub final : IsFinal (rules_of session) (reading (rules_of session) journal)
  pub lines : List RoleLine
  pub are_lines : AreLinesOf (rules_of session) (reading (rules_of session) journal) lines
  pub ends : (status : Status) × EndsAs (rules_of session) (reading (rules_of session) journal) status

end_by : (session : SessionView) → CanRun session → IsEnd session
end_by session can = record {
  journal = one.0;
  alone = one.1;
  legal = law.legal one.1;
  final = final;
  lines = lines_from rules (reading rules one.0) lawful 0 rules.roles;
  are_lines = are_lines rules (reading rules one.0) lawful;
  ends = ⊎_elim (λ done. (Completed, all_done done)) (λ at. (Limited, at_limit at)) (done_or_limited rules one.0 lawful can.accepted.accepted chooses can.room (law.legal one.1) final);
}
  where
    rules : Rules
    rules = rules_of session

    lawful : IsProper rules.net rules.roles
    lawful = proper (body_of session.protocol.body) (length session.protocol.roles) can.accepted.form

    one : (journal : List Entry) × IsOneThread rules journal
    one = one_thread rules lawful can.accepted.accepted.lanes_end

    law : OneJournal rules one.0 one.0
    law = one_journal rules one.0 one.0

    final : IsFinal rules (reading rules one.0)
    final = law.final one.1

    chooses : ChoosesOffered rules
    chooses r events attempt zs some = chosen_in (net_for session) (lines_of session) r events attempt zs some

-- it is the journal of a session that can run
journal_of : (session : SessionView) (can : CanRun session) (end : IsEnd session) → IsJournalOf session end.journal
journal_of session can end = journals_are_legal session end.journal can end.legal end.final

-- what one thread makes of it
pub run_exists : (json : Bool) (session : SessionView) → CanRun session → (status : Status) × (bytes : List ℕ) × IsSessionRun 1 json session status bytes
run_exists json session can =
    let end = end_by session can in
    let bytes = written json session end.journal end.lines end.are_lines in (
      end.ends.0,
      bytes.0,
      record { journal = end.journal; is_journal = journal_of session can end; ends = end.ends.1; written = bytes.1; alone = λ one. end.alone },
    )

pub sessions_end : SessionsEnd
sessions_end json input session taken = run_exists json session (taken_sessions_can_run input session taken).0

-- its summary under a number
pub summary_exists : (number : ℕ) (input : List ℕ) (session : SessionView) → IsTaken input session → (bytes : List ℕ) × IsSummaryRun number session Completed bytes
summary_exists number input session taken =
    let can = (taken_sessions_can_run input session taken).0 in
    let end = end_by session can in (
      summary_text number (roles_of session) (net_for session).count end.journal (kept_in end.lines) (last_line session end.lines),
      record {
        journal = end.journal;
        is_journal = journal_of session can end;
        alone = end.alone;
        summary = record { lines = end.lines; are_lines = end.are_lines; is_summary = refl };
        completed = refl;
      },
    )

-- the stable line behind its journal
pub line_exists : (input : List ℕ) (session : SessionView) → IsTaken input session → (bytes : List ℕ) × IsLineRun session Completed bytes
line_exists input session taken =
    let can = (taken_sessions_can_run input session taken).0 in
    let end = end_by session can in
    let rules : Rules = rules_of session in
    let line = greatest.line_exists rules.net rules.every (reading rules end.journal).kept in (
      line_text session.protocol.roles line.0,
      record {
        journal = end.journal;
        is_journal = journal_of session can end;
        alone = end.alone;
        line = record { counts = line.0; are_counts = line.1; is_text = refl };
        completed = refl;
      },
    )
