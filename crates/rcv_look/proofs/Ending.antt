-- With which statuses answers end.
use Rattle.std.proofs.Common.{◌≡◌, ℕ, List, [], refl, sym, subst, inl, inr}
use Rattle.rcv_session.specs.Session.{SessionView}
use Rattle.rcv_journal.specs.Recorded.{JournalView}
use Rattle.rcv_replay.specs.declared.replayed.Replayed.{Replayed}
use Rattle.rcv_replay.specs.declared.replayed.Replayed.TheVariants as replays
use Rattle.rcv_diagnosis.specs.declared.diagnosis.Finding.{Finding}
use Rattle.rcv_diagnosis.specs.Telling.{finding_of}
use Rattle.rcv_diagnosis.specs.declared.written.Written.{Written}
use Rattle.rcv_diagnosis.specs.declared.written.Written.TheVariants.{Lines, Json}
use Rattle.rcv_diagnosis.specs.Diagnosing.{IsDiagnosis}
use Rattle.rcv_listing.specs.declared.listing.Listing.{Listing}
use Rattle.rcv_listing.specs.declared.listing.Listing.TheVariants.{Accepted, RuledOut, HalfRead, Unread}
use Rattle.rcv_look.specs.declared.status.Status.{Status}
use Rattle.rcv_look.specs.declared.status.Status.TheVariants as statuses
use Rattle.rcv_look.specs.Commands.{CommandView, DrawJournal, DrawSession, DrawTold, ReplayJournal, DrawTable, ExportTable, DrawRole, ExportRole, DrawProtocol, ListPoints, ExportPoints, DrawFailures, ListFailures, ExportFailures, Explain}
use Rattle.rcv_look.specs.Drawing.{ArePoints, ArePointsAsJson, ListsAs, IsExplanation, explained, unknown}
use Rattle.rcv_look.specs.Outcome.{IsVerdict, illegal, misclosed, drawn, IsTextAnswer, malformed, formed, shapeless, decoded, IsBundleAnswer, IsJournalAnswer, IsLaterAnswer, IsSessionAnswer, IsToldTextAnswer, IsToldBundleAnswer, IsToldAnswer, uncut, long, parted, status_of, IsReplayAnswer, IsChartAnswer, Draws, IsAnswer}
use Rattle.rcv_look.specs.Outcome as outcomes

-- An answer may end so: written whole, or too long, and then nothing is written.
abbrev pub EndsSo : Status → List ℕ → Type 0
EndsSo statuses.Drawn bytes = Unit {0}
EndsSo statuses.Usage bytes = Unit {0}
EndsSo statuses.Refused bytes = Unit {0}
EndsSo statuses.Illegal bytes = Unit {0}
EndsSo statuses.TooLong bytes = bytes ≡ []
EndsSo statuses.ReadFault bytes = ⊥
EndsSo statuses.WriteFault bytes = ⊥
EndsSo statuses.Memory bytes = ⊥

with_drawn : (s : Status) (b : List ℕ) → s ≡ statuses.Drawn → EndsSo s b
with_drawn s b e = subst (λ (x : Status). EndsSo x b) (sym e) tt

with_refused : (s : Status) (b : List ℕ) → s ≡ statuses.Refused → EndsSo s b
with_refused s b e = subst (λ (x : Status). EndsSo x b) (sym e) tt

verdict_ends : (session : SessionView) (j : JournalView) (written : Written) (s : Status) (b : List ℕ) → IsVerdict session j written s b → EndsSo s b
verdict_ends session j written s b (illegal k wrong) = tt
verdict_ends session j written s b (misclosed k legal wrong) = tt
verdict_ends session j written s b (drawn legal closes drawing) = tt

text_ends : (session : SessionView) (text : List ℕ) (feeds : ℕ) (s : Status) (b : List ℕ) → IsTextAnswer session text feeds s b → EndsSo s b
text_ends session text feeds s b (malformed k lines wrong) = tt
text_ends session text feeds s b (formed j lines spells verdict) = verdict_ends session j (Lines feeds) s b verdict
text_ends session text feeds s b (shapeless json none) = tt
text_ends session text feeds s b (decoded j json is verdict) = verdict_ends session j Json s b verdict

bundle_ends : (bundle text : List ℕ) (feeds : ℕ) (s : Status) (b : List ℕ) → IsBundleAnswer bundle text feeds s b → EndsSo s b
bundle_ends bundle text feeds s b (outcomes.refused refusal first) = tt
bundle_ends bundle text feeds s b (outcomes.taken session taken answer) = text_ends session text feeds s b answer

journal_ends : (input : List ℕ) (s : Status) (b : List ℕ) → IsJournalAnswer input s b → EndsSo s b
journal_ends input s b (uncut none) = tt
journal_ends input s b (long cut is more) = refl
journal_ends input s b (parted cut is few answer) = bundle_ends _ _ _ s b answer

later_ends : (i : ℕ) (bundle text : List ℕ) (feeds : ℕ) (s : Status) (b : List ℕ) → IsLaterAnswer i bundle text feeds s b → EndsSo s b
later_ends i bundle text feeds s b (outcomes.refused refusal first) = tt
later_ends i bundle text feeds s b (outcomes.taken session taken answer) = text_ends session text feeds s b answer

session_ends : (number : ℕ) (input : List ℕ) (s : Status) (b : List ℕ) → IsSessionAnswer number input s b → EndsSo s b
session_ends number input s b (uncut none) = tt
session_ends number input s b (long cut is more) = refl
session_ends number input s b (outcomes.missing cut is few none) = tt
session_ends number input s b (parted cut section is few there answer) = later_ends _ _ _ _ s b answer

told_text_ends : (session : SessionView) (text : List ℕ) (feeds : ℕ) (s : Status) (b : List ℕ) → IsToldTextAnswer session text feeds s b → EndsSo s b
told_text_ends session text feeds s b (outcomes.wrong k first) = tt
told_text_ends session text feeds s b (drawn entries told drawing) = tt

told_bundle_ends : (bundle text : List ℕ) (feeds : ℕ) (s : Status) (b : List ℕ) → IsToldBundleAnswer bundle text feeds s b → EndsSo s b
told_bundle_ends bundle text feeds s b (outcomes.refused refusal first) = tt
told_bundle_ends bundle text feeds s b (outcomes.taken session taken answer) = told_text_ends session text feeds s b answer

told_ends : (input : List ℕ) (s : Status) (b : List ℕ) → IsToldAnswer input s b → EndsSo s b
told_ends input s b (uncut none) = tt
told_ends input s b (long cut is more) = refl
told_ends input s b (parted cut is few answer) = told_bundle_ends _ _ _ s b answer

said_ends : (said : Replayed) (b : List ℕ) → EndsSo (status_of (finding_of said)) b
said_ends (replays.Refused refused) b = tt
said_ends (replays.Legal entries limited) b = tt
said_ends (replays.WrongEntry number) b = tt
said_ends replays.WrongEnd b = tt

diagnosis_ends : (input : List ℕ) (finding : Finding) (b : List ℕ) → IsDiagnosis input finding b → EndsSo (status_of finding) b
diagnosis_ends input finding b (inl (cut, is, more, found, empty)) = subst (λ (f : Finding). EndsSo (status_of f) b) (sym found) empty
diagnosis_ends input finding b (inr (said, more, kind, found, bytes)) = subst (λ (f : Finding). EndsSo (status_of f) b) (sym found) (said_ends said b)

replay_ends : (input : List ℕ) (s : Status) (b : List ℕ) → IsReplayAnswer input s b → EndsSo s b
replay_ends input s b answer = subst (λ (x : Status). EndsSo x b) (sym answer.is_status) (diagnosis_ends input answer.finding b answer.diagnosis)

draws_end : (session : SessionView) (command : CommandView) (s : Status) (b : List ℕ) → Draws session command s b → EndsSo s b
draws_end session DrawTable s b draws = with_drawn s b draws.0
draws_end session ExportTable s b draws = with_drawn s b draws.0
draws_end session (DrawRole name) s b (inl draws) = with_drawn s b draws.2
draws_end session (DrawRole name) s b (inr draws) = with_refused s b draws.1
draws_end session (ExportRole name) s b (inl draws) = with_drawn s b draws.2
draws_end session (ExportRole name) s b (inr draws) = with_refused s b draws.1
draws_end session DrawProtocol s b draws = with_drawn s b draws.0
draws_end session DrawJournal s b draws = absurd draws
draws_end session (DrawSession number) s b draws = absurd draws
draws_end session DrawTold s b draws = absurd draws
draws_end session ReplayJournal s b draws = absurd draws
draws_end session ListPoints s b draws = absurd draws
draws_end session ExportPoints s b draws = absurd draws
draws_end session DrawFailures s b draws = with_drawn s b draws.0
draws_end session ListFailures s b draws = with_drawn s b draws.0
draws_end session ExportFailures s b draws = with_drawn s b draws.0
draws_end session (Explain code) s b draws = absurd draws

chart_ends : (command : CommandView) (input : List ℕ) (s : Status) (b : List ℕ) → IsChartAnswer command input s b → EndsSo s b
chart_ends command input s b (outcomes.refused refusal first) = tt
chart_ends command input s b (outcomes.drawn session taken draws) = draws_end session command s b draws

lists_end : (listing : Listing) (s : Status) (b : List ℕ) → ListsAs listing s b → EndsSo s b
lists_end (Accepted text) s b lists = with_drawn s b lists.0
lists_end (RuledOut text) s b lists = with_refused s b lists.0
lists_end (HalfRead text) s b lists = with_refused s b lists.0
lists_end (Unread text) s b lists = with_refused s b lists.0

points_end : (input : List ℕ) (s : Status) (b : List ℕ) → ArePoints input s b → EndsSo s b
points_end input s b points = lists_end points.listing s b points.lists

points_as_json_end : (input : List ℕ) (s : Status) (b : List ℕ) → ArePointsAsJson input s b → EndsSo s b
points_as_json_end input s b points = lists_end points.listing s b points.lists

explanation_ends : (code : ℕ) (s : Status) (b : List ℕ) → IsExplanation code s b → EndsSo s b
explanation_ends code s b (explained e named) = tt
explanation_ends code s b (unknown none) = tt

pub answer_ends : (command : CommandView) (input : List ℕ) (s : Status) (b : List ℕ) → IsAnswer command input s b → EndsSo s b
answer_ends DrawJournal input s b answer = journal_ends input s b answer
answer_ends (DrawSession number) input s b answer = session_ends number input s b answer
answer_ends DrawTold input s b answer = told_ends input s b answer
answer_ends ReplayJournal input s b answer = replay_ends input s b answer
answer_ends DrawTable input s b answer = chart_ends DrawTable input s b answer
answer_ends ExportTable input s b answer = chart_ends ExportTable input s b answer
answer_ends (DrawRole name) input s b answer = chart_ends (DrawRole name) input s b answer
answer_ends (ExportRole name) input s b answer = chart_ends (ExportRole name) input s b answer
answer_ends DrawProtocol input s b answer = chart_ends DrawProtocol input s b answer
answer_ends ListPoints input s b answer = points_end input s b answer
answer_ends ExportPoints input s b answer = points_as_json_end input s b answer
answer_ends DrawFailures input s b answer = chart_ends DrawFailures input s b answer
answer_ends ListFailures input s b answer = chart_ends ListFailures input s b answer
answer_ends ExportFailures input s b answer = chart_ends ExportFailures input s b answer
answer_ends (Explain code) input s b answer = explanation_ends code s b answer
