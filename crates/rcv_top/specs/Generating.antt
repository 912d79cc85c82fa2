-- What `gen` makes of the session of a generated text.
use Rattle.std.specs.Prelude.{◌≡◌, ℕ, List, sum_by}
use Rattle.rcv_tree.specs.declared.entry.Entry.{Entry}
use Rattle.rcv_session.specs.Session.{SessionView, net_for, roles_of, rules_of}
use Rattle.rcv_model.specs.Journal.{reading}
use Rattle.rcv_model.specs.Final.{IsOneThread}
use Rattle.rcv_journal.specs.declared.line.RoleLine.{RoleLine}
use Rattle.rcv_journal.specs.JournalText.{last_line}
use Rattle.rcv_journal.specs.Lines.{AreLinesOf}
use Rattle.rcv_gen.specs.Summary.{summary_text}
use Rattle.rcv_top.specs.declared.status.Status.{Status}
use Rattle.rcv_top.specs.declared.status.Status.TheVariants.{Completed}
use Rattle.rcv_top.specs.Running.{IsJournalOf}

-- How many events the lines of the roles say are kept.
abbrev pub kept_in : List RoleLine → ℕ
kept_in lines = sum_by (λ line. line.kept) lines

-- The bytes are the summary of a journal, with the lines of its roles, under this number.
pub record IsSummaryOf (session : SessionView) (journal : List Entry) (number : ℕ) (bytes : List ℕ) : Type 0 where
  pub lines : List RoleLine
  pub are_lines : AreLinesOf (rules_of session) (reading (rules_of session) journal) lines
  pub is_summary :
      bytes ≡ summary_text number (roles_of session) (net_for session).count journal (kept_in lines) (last_line session lines)

-- One thread ran the session to its end, and the bytes are the summary of its journal. The status doesn't say which end that is: the last
-- line does.
pub record IsSummaryRun (number : ℕ) (session : SessionView) (status : Status) (bytes : List ℕ) : Type 0 where
  pub journal : List Entry
  pub is_journal : IsJournalOf session journal
  pub alone : IsOneThread (rules_of session) journal
  pub summary : IsSummaryOf session journal number bytes
  pub completed : status ≡ Completed
