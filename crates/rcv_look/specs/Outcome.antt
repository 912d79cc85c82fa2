-- What the program answers: a status and bytes, for words and an input.
use Rattle.std.specs.Prelude.{◌≡◌, true, false, ℕ, ◌+◌, ◌-◌, ◌<◌, ◌≤◌, codes, decimal, List, [], ◌++◌, length, take, Some, None}
use Rattle.rcv_tree.specs.declared.entry.Entry.{Entry}
use Rattle.rcv_model.specs.Journal.{reading, IsLegal}
use Rattle.rcv_session.specs.Session.{SessionView, rules_of}
use Rattle.rcv_input.specs.declared.refused.Refused as refusals
use Rattle.rcv_input.specs.declared.refused.Refused.TheVariants.{Line}
use Rattle.rcv_input.specs.Input.{IsTaken}
use Rattle.rcv_input.specs.Refusals.{IsFirstRefusal}
use Rattle.rcv_input.specs.Line.{refusal_line}
use Rattle.rcv_journal.specs.Form as form
use Rattle.rcv_journal.specs.Recorded.{JournalView, bare}
use Rattle.rcv_judge.specs.Closing.{ClosesRight, IsFirstWrongClosing}
use Rattle.rcv_judge.specs.Judged.{IsFirstWrong as IsFirstIllegal}
use Rattle.rcv_retold.specs.Text.{IsToldText, IsFirstWrong}
use Rattle.rcv_replay.specs.declared.cut.Cut.{Cut}
use Rattle.rcv_diagnosis.specs.declared.diagnosis.Finding.{Finding}
use Rattle.rcv_diagnosis.specs.declared.diagnosis.Finding.TheVariants as findings
use Rattle.rcv_diagnosis.specs.declared.written.Written.{Written}
use Rattle.rcv_diagnosis.specs.declared.written.Written.TheVariants.{Lines, Json}
use Rattle.rcv_diagnosis.specs.Diagnosing.{IsDiagnosis, is_json, IsJsonOf}
use Rattle.rcv_look.specs.declared.status.Status.{Status}
use Rattle.rcv_look.specs.declared.status.Status.TheVariants.{Drawn, Usage, Refused, ReadFault, WriteFault, Memory, TooLong, Illegal}
use Rattle.rcv_look.specs.Commands.{CommandView, DrawJournal, DrawSession, DrawTold, ReplayJournal, DrawTable, ExportTable, DrawRole, ExportRole, DrawProtocol, ListPoints, ExportPoints, DrawFailures, ListFailures, ExportFailures, Explain, IsCommand, IsNoCommand}
use Rattle.rcv_look.specs.Asking.{most_for, most_of_bundle, IsAskedOfSource}
use Rattle.rcv_replay.specs.Cutting.{cut_of, bundle_of, journal_of, feeds_before, feeds_in, line_of_end}
use Rattle.rcv_losses.specs.LossText.{IsLossesText}
use Rattle.rcv_costs_json.specs.CostsJson.{IsCostsJson}
use Rattle.rcv_look.specs.declared.failures.Form.{Form}
use Rattle.rcv_look.specs.declared.failures.Form.TheVariants as forms
use Rattle.rcv_section.specs.declared.section.Section.{Section}
use Rattle.rcv_section.specs.Sections.{IsSection, HasNoSection, section_text}
use Rattle.rcv_later.specs.Later.{IsLaterOf}
use Rattle.rcv_look.specs.Drawing.{IsJournalDrawing, IsToldDrawing, IsTableDrawing, IsTableJson, IsRoleAnswer, IsRoleDrawing, IsRoleJson}
use Rattle.rcv_look.specs.Drawing.{IsFailuresDrawing, IsProtocolDrawing, ArePoints, ArePointsAsJson, IsExplanation}

-- The number of a status, with which the process ends.
abbrev pub number_of : Status → ℕ
number_of Drawn = 0
number_of Usage = 1
number_of Refused = 2
number_of ReadFault = 4
number_of WriteFault = 5
number_of Memory = 6
number_of TooLong = 7
number_of Illegal = 8

-- What is written if the words are no command.
abbrev pub usage_line : List ℕ
usage_line = codes "usage: rcv-show journal|told|replay|table|role|protocol|points|failures|explain [--session I] [--role R] [--code N] [--text] [--json]\n"

-- `refused 50 NoJournal line L`: an input that ends at this line has no line `%% journal`.
abbrev pub no_journal_line : ℕ → List ℕ
no_journal_line line = refusal_line (Line 50 line)

-- `refused 51 Journal line L`: a journal isn't of the form at this line of the input.
abbrev pub malformed_line : ℕ → List ℕ
malformed_line line = refusal_line (Line 51 line)

-- `illegal line L`: a journal of the form isn't legal at this line of the input.
abbrev pub illegal_line : ℕ → List ℕ
illegal_line line = codes "illegal line " ++ decimal line ++ codes "\n"

-- What is written of the first entry that can't come, counted from 0: the line of the input at which it stands, or, for JSON,
-- its number, counted from 1.
abbrev pub illegal_entry_line : Written → ℕ → List ℕ
illegal_entry_line (Lines feeds) k = illegal_line (feeds + 1 + k)
illegal_entry_line Json k = codes "illegal entry " ++ decimal (k + 1) ++ codes "\n"

-- What is written of the first closing line that isn't what so many entries leave.
abbrev pub illegal_closing_line : Written → ℕ → ℕ → List ℕ
illegal_closing_line (Lines feeds) entries k = illegal_line (feeds + 1 + entries + k)
illegal_closing_line Json entries k = codes "illegal end\n"

-- The answer to a journal of the form that is written so: its first entry that can't come; or its first closing line
-- that isn't what the entries leave; or a picture of it.
pub data IsVerdict (session : SessionView) (j : JournalView) (written : Written) : Status → List ℕ → Type 0 where
  illegal :
      (k : ℕ) → IsFirstIllegal (rules_of session) j.entries k
      → IsVerdict session j written Illegal (illegal_entry_line written k)
  misclosed :
      (k : ℕ) → IsLegal (rules_of session) j.entries
      → IsFirstWrongClosing (rules_of session) (reading (rules_of session) j.entries) j.roles j.limited k
      → IsVerdict session j written Illegal (illegal_closing_line written (length j.entries) k)
  drawn :
      {bytes : List ℕ} → IsLegal (rules_of session) j.entries → ClosesRight session j.entries j.roles j.limited
      → IsJournalDrawing session j.entries j.roles bytes → IsVerdict session j written Drawn bytes

-- The answer to the text after so many line feeds of the input. For lines: the first at which it isn't a journal of the
-- form, counted over the whole input, or what the journal's verdict is. For JSON: that it is no journal of the form, by its
-- first line, or the verdict.
pub data IsTextAnswer (session : SessionView) (text : List ℕ) (feeds : ℕ) : Status → List ℕ → Type 0 where
  malformed :
      (k : ℕ) → is_json text ≡ false → form.IsFirstWrong (bare session.protocol) text k
      → IsTextAnswer session text feeds Refused (malformed_line (feeds + k))
  formed :
      {status : Status} {bytes : List ℕ} (j : JournalView) → is_json text ≡ false
      → form.Spells (bare session.protocol) text j
      → IsVerdict session j (Lines feeds) status bytes → IsTextAnswer session text feeds status bytes
  shapeless :
      is_json text ≡ true → ((j : JournalView) → IsJsonOf session.protocol text j → ⊥)
      → IsTextAnswer session text feeds Refused (malformed_line (feeds + 1))
  decoded :
      {status : Status} {bytes : List ℕ} (j : JournalView) → is_json text ≡ true → IsJsonOf session.protocol text j
      → IsVerdict session j Json status bytes → IsTextAnswer session text feeds status bytes

-- The answer to a bundle with a text after so many line feeds of the input: the bundle's first refusal, or the
-- answer to the session's text.
pub data IsBundleAnswer (bundle text : List ℕ) (feeds : ℕ) : Status → List ℕ → Type 0 where
  refused :
      (refusal : refusals.Refused) → IsFirstRefusal bundle refusal
      → IsBundleAnswer bundle text feeds Refused (refusal_line refusal)
  taken :
      {status : Status} {bytes : List ℕ} (session : SessionView) → IsTaken bundle session
      → IsTextAnswer session text feeds status bytes → IsBundleAnswer bundle text feeds status bytes

-- The answer to `journal` without an option: that the input has no line `%% journal`, at the line of its end; that the
-- bundle before that line is too long; or the answer to the bundle and the text after the line.
pub data IsJournalAnswer (input : List ℕ) : Status → List ℕ → Type 0 where
  uncut : cut_of input ≡ None → IsJournalAnswer input Refused (no_journal_line (line_of_end input))
  long : (cut : Cut) → cut_of input ≡ Some cut → most_of_bundle < cut.end → IsJournalAnswer input TooLong []
  parted :
      {status : Status} {bytes : List ℕ} (cut : Cut) → cut_of input ≡ Some cut → cut.end ≤ most_of_bundle
      → IsBundleAnswer (bundle_of input cut) (journal_of input cut) (feeds_before input cut) status bytes
      → IsJournalAnswer input status bytes

-- The answer to a bundle with the text of its session i, counted from 0, after so many line feeds of the input:
-- the bundle's first refusal, or the answer to the text as one of this session. It has the same plan, except that each
-- crash count is i more.
pub data IsLaterAnswer (i : ℕ) (bundle text : List ℕ) (feeds : ℕ) : Status → List ℕ → Type 0 where
  refused :
      (refusal : refusals.Refused) → IsFirstRefusal bundle refusal
      → IsLaterAnswer i bundle text feeds Refused (refusal_line refusal)
  taken :
      {status : Status} {bytes : List ℕ} (session : SessionView) → IsLaterOf bundle i session
      → IsTextAnswer session text feeds status bytes → IsLaterAnswer i bundle text feeds status bytes

-- How many line feeds stand before the section of the text after a cut.
abbrev pub feeds_up_to : List ℕ → Cut → Section → ℕ
feeds_up_to input cut section = feeds_in (take (cut.behind + section.begin) input)

-- The answer to `journal --session I`: that the input has no line `%% journal`, at the line of its end; that the bundle
-- before that line is too long; that no line after it is `session I`, at the line of the input's end, too; or the answer to
-- the bundle and the section of session I, counted from 1.
pub data IsSessionAnswer (number : ℕ) (input : List ℕ) : Status → List ℕ → Type 0 where
  uncut : cut_of input ≡ None → IsSessionAnswer number input Refused (no_journal_line (line_of_end input))
  long : (cut : Cut) → cut_of input ≡ Some cut → most_of_bundle < cut.end → IsSessionAnswer number input TooLong []
  missing :
      (cut : Cut) → cut_of input ≡ Some cut → cut.end ≤ most_of_bundle → HasNoSection number (journal_of input cut)
      → IsSessionAnswer number input Refused (no_journal_line (line_of_end input))
  parted :
      {status : Status} {bytes : List ℕ} (cut : Cut) (section : Section) → cut_of input ≡ Some cut
      → cut.end ≤ most_of_bundle → IsSection number (journal_of input cut) section
      → IsLaterAnswer (number - 1) (bundle_of input cut) (section_text (journal_of input cut) section)
      (feeds_up_to input cut section) status bytes
      → IsSessionAnswer number input status bytes

-- The answer to the text after so many line feeds of the input, as that of a journal that a guide was told: its first
-- wrong line, counted over the whole input, whether it isn't of the form or may not come there; or a picture of it, in which the
-- kept events are those that the guide holds at the end.
pub data IsToldTextAnswer (session : SessionView) (text : List ℕ) (feeds : ℕ) : Status → List ℕ → Type 0 where
  wrong : (k : ℕ) → IsFirstWrong session text k → IsToldTextAnswer session text feeds Illegal (illegal_line (feeds + k))
  drawn :
      {bytes : List ℕ} (entries : List Entry) → IsToldText session text entries
      → IsToldDrawing session entries bytes
      → IsToldTextAnswer session text feeds Drawn bytes

-- The answer to a bundle with such a text after so many line feeds of the input: the bundle's first refusal, or the
-- answer to the text.
pub data IsToldBundleAnswer (bundle text : List ℕ) (feeds : ℕ) : Status → List ℕ → Type 0 where
  refused :
      (refusal : refusals.Refused) → IsFirstRefusal bundle refusal
      → IsToldBundleAnswer bundle text feeds Refused (refusal_line refusal)
  taken :
      {status : Status} {bytes : List ℕ} (session : SessionView) → IsTaken bundle session
      → IsToldTextAnswer session text feeds status bytes → IsToldBundleAnswer bundle text feeds status bytes

-- The answer to `told`: that the input has no line `%% journal`, at the line of its end; that the bundle before that line
-- is too long; or the answer to the bundle and the text after the line.
pub data IsToldAnswer (input : List ℕ) : Status → List ℕ → Type 0 where
  uncut : cut_of input ≡ None → IsToldAnswer input Refused (no_journal_line (line_of_end input))
  long : (cut : Cut) → cut_of input ≡ Some cut → most_of_bundle < cut.end → IsToldAnswer input TooLong []
  parted :
      {status : Status} {bytes : List ℕ} (cut : Cut) → cut_of input ≡ Some cut → cut.end ≤ most_of_bundle
      → IsToldBundleAnswer (bundle_of input cut) (journal_of input cut) (feeds_before input cut) status bytes
      → IsToldAnswer input status bytes

-- The status that says what a diagnosis found.
abbrev pub status_of : Finding → Status
status_of findings.Legal = Drawn
status_of findings.Wrong = Illegal
status_of findings.Refused = Refused
status_of findings.TooLong = TooLong

-- The answer to `replay`: the diagnosis of the journal after the input's bundle.
pub record IsReplayAnswer (input : List ℕ) (status : Status) (bytes : List ℕ) : Type 0 where
  pub finding : Finding
  pub diagnosis : IsDiagnosis input finding bytes
  pub is_status : status ≡ status_of finding

-- The command that shows in this form what crashes would cost.
abbrev pub failures_as : Form → CommandView
failures_as forms.Picture = DrawFailures
failures_as forms.Text = ListFailures
failures_as forms.Json = ExportFailures

-- What the commands that draw or write a protocol or a session make of it.
abbrev pub Draws : SessionView → CommandView → Status → List ℕ → Type 0
Draws session DrawTable status bytes = (status ≡ Drawn) × IsTableDrawing session.protocol bytes
Draws session ExportTable status bytes = (status ≡ Drawn) × IsTableJson session.protocol bytes
Draws session (DrawRole name) status bytes = IsRoleAnswer (IsRoleDrawing session.protocol) session.protocol name status bytes
Draws session (ExportRole name) status bytes = IsRoleAnswer (IsRoleJson session.protocol) session.protocol name status bytes
Draws session DrawProtocol status bytes = (status ≡ Drawn) × IsProtocolDrawing session.protocol bytes
Draws session DrawJournal status bytes = ⊥
Draws session (DrawSession number) status bytes = ⊥
Draws session DrawTold status bytes = ⊥
Draws session ReplayJournal status bytes = ⊥
Draws session ListPoints status bytes = ⊥
Draws session ExportPoints status bytes = ⊥
Draws session DrawFailures status bytes = (status ≡ Drawn) × IsFailuresDrawing session bytes
Draws session ListFailures status bytes = (status ≡ Drawn) × IsLossesText session bytes
Draws session ExportFailures status bytes = (status ≡ Drawn) × IsCostsJson session bytes
Draws session (Explain code) status bytes = ⊥

-- The answer to them: the first refusal of the input, or what they make of its session.
pub data IsChartAnswer (command : CommandView) (input : List ℕ) : Status → List ℕ → Type 0 where
  refused :
      (refusal : refusals.Refused) → IsFirstRefusal input refusal → IsChartAnswer command input Refused (refusal_line refusal)
  drawn :
      {status : Status} {bytes : List ℕ} (session : SessionView) → IsTaken input session
      → Draws session command status bytes → IsChartAnswer command input status bytes

-- What a command answers to its input.
abbrev pub IsAnswer : CommandView → List ℕ → Status → List ℕ → Type 0
IsAnswer DrawJournal input status bytes = IsJournalAnswer input status bytes
IsAnswer (DrawSession number) input status bytes = IsSessionAnswer number input status bytes
IsAnswer DrawTold input status bytes = IsToldAnswer input status bytes
IsAnswer ReplayJournal input status bytes = IsReplayAnswer input status bytes
IsAnswer DrawTable input status bytes = IsChartAnswer DrawTable input status bytes
IsAnswer ExportTable input status bytes = IsChartAnswer ExportTable input status bytes
IsAnswer (DrawRole name) input status bytes = IsChartAnswer (DrawRole name) input status bytes
IsAnswer (ExportRole name) input status bytes = IsChartAnswer (ExportRole name) input status bytes
IsAnswer DrawProtocol input status bytes = IsChartAnswer DrawProtocol input status bytes
IsAnswer ListPoints input status bytes = ArePoints input status bytes
IsAnswer ExportPoints input status bytes = ArePointsAsJson input status bytes
IsAnswer DrawFailures input status bytes = IsChartAnswer DrawFailures input status bytes
IsAnswer ListFailures input status bytes = IsChartAnswer ListFailures input status bytes
IsAnswer ExportFailures input status bytes = IsChartAnswer ExportFailures input status bytes
IsAnswer (Explain code) input status bytes = IsExplanation code status bytes

-- The words are this command, and its input isn't too long.
pub record IsAsked (words : List (List ℕ)) (command : CommandView) (input : List ℕ) : Type 0 where
  pub words_are : IsCommand words command
  pub short : length input ≤ most_for command

-- The answer to these words and to this input, which the source gave: no command; too long; or what the command
-- answers.
pub data IsOutcome (words : List (List ℕ)) (input : List ℕ) : Status → List ℕ → Type 0 where
  usage : IsNoCommand words → IsOutcome words input Usage usage_line
  too_long :
      (command : CommandView) → IsAskedOfSource words command → most_for command < length input
      → IsOutcome words input TooLong []
  answered :
      {status : Status} {bytes : List ℕ} (command : CommandView) → IsAsked words command input
      → IsAnswer command input status bytes → IsOutcome words input status bytes
