-- What is found in a journal that stands after its bundle, and what is told of it.
use Rattle.std.specs.Prelude.{◌≡◌, ◌⊎◌, ◌==◌, ℕ, ◌+◌, ◌<◌, ◌≤◌, ◌^◌, Bool, true, false, List, [], ◌∷◌, ◌++◌, length, take, slice_get, Some, None}
use Rattle.rcv_tree.specs.declared.entry.Entry.{Entry}
use Rattle.rcv_tree.specs.declared.protocol.Protocol.{Protocol}
use Rattle.rcv_model.specs.Final.{IsFinal}
use Rattle.rcv_theory.specs.Round.{role_of}
use Rattle.rcv_session.specs.Session.{SessionView, rules_of}
use Rattle.rcv_core.specs.Book.{BookView, state_of}
use Rattle.rcv_input.specs.declared.refused.Refused.TheVariants.{Line}
use Rattle.rcv_input.specs.declared.refused.Refused as refusals
use Rattle.rcv_input.specs.Input.{IsTaken}
use Rattle.rcv_input.specs.Refusals.{IsFirstRefusal}
use Rattle.rcv_journal.specs.declared.line.RoleLine.{RoleLine}
use Rattle.rcv_journal.specs.Lines.{AreLinesOf}
use Rattle.rcv_journal.specs.Form as form
use Rattle.rcv_journal.specs.Recorded.{JournalView, bare}
use Rattle.rcv_json_reader.specs.Reading.{IsReadAs}
use Rattle.rcv_judge.specs.declared.could.Could.{Could}
use Rattle.rcv_judge.specs.Could.{IsCould}
use Rattle.rcv_replay.specs.declared.cut.Cut.{Cut}
use Rattle.rcv_replay.specs.declared.replayed.Replayed.{Replayed}
use Rattle.rcv_replay.specs.declared.replayed.Replayed.TheVariants.{Refused, Legal, WrongEntry, WrongEnd}
use Rattle.rcv_replay.specs.Cutting.{cut_of, bundle_of, journal_of, feeds_before, line_of_end}
use Rattle.rcv_replay.specs.Replaying.{IsVerdict}
use Rattle.rcv_diagnosis.specs.declared.diagnosis.Finding.{Finding}
use Rattle.rcv_diagnosis.specs.declared.diagnosis.Finding.TheVariants.{TooLong}
use Rattle.rcv_diagnosis.specs.declared.written.Written.{Written}
use Rattle.rcv_diagnosis.specs.declared.written.Written.TheVariants.{Lines, Json}
use Rattle.rcv_diagnosis.specs.Making.{book_of, IsLeastMade}
use Rattle.rcv_diagnosis.specs.Telling.{said_line, finding_of, entry_text, unfinished_text, over_text}

-- What is told of an entry that may not come after those of a book, with its number, counted from 1: the entry, and what its role
-- could do there.
abbrev pub IsToldOfEntry : BookView → Written → ℕ → Entry → List ℕ → Type 0
IsToldOfEntry book written k e more =
    (could : Could) × IsCould book (role_of e) could × (more ≡ entry_text book.setup written k e could)

-- What is told if the session isn't over: the entry of the least role that could make one.
abbrev pub IsUnfinished : BookView → List ℕ → Type 0
IsUnfinished book more =
    (IsFinal (rules_of book.setup) (state_of book) → ⊥)
    × (e : Entry) × IsLeastMade book e × (more ≡ unfinished_text book.setup e)

-- And if it is: the right closing lines.
abbrev pub IsOver : BookView → List ℕ → Type 0
IsOver book more =
    IsFinal (rules_of book.setup) (state_of book)
    × (lines : List RoleLine) × AreLinesOf (rules_of book.setup) (state_of book) lines × (more ≡ over_text book.setup lines)

-- What is told of a wrong end.
abbrev pub IsToldOfEnd : BookView → List ℕ → Type 0
IsToldOfEnd book more = IsUnfinished book more ⊎ IsOver book more

-- What is told of a journal after the first line.
abbrev pub IsTold : SessionView → JournalView → Written → Replayed → List ℕ → Type 0
IsTold session j written (Refused r) more = ⊥
IsTold session j written (Legal entries limited) more = more ≡ []
IsTold session j written (WrongEntry k) more =
    (i : ℕ) × (k ≡ i + 1) × (e : Entry) × (slice_get j.entries i ≡ Some e)
    × IsToldOfEntry (book_of session (take i j.entries)) written k e more
IsTold session j written WrongEnd more = IsToldOfEnd (book_of session j.entries) more

-- Of a journal of the form: its verdict, and what is told of it.
abbrev pub IsOfJournal : SessionView → JournalView → Written → Replayed → List ℕ → Type 0
IsOfJournal session j written said more = IsVerdict session j said × IsTold session j written said more

-- A refusal. Nothing more is told of it.
abbrev pub IsRefusal : refusals.Refused → Replayed → List ℕ → Type 0
IsRefusal refused said more = (said ≡ Refused refused) × (more ≡ [])

-- A wrong entry, and a wrong end, with what is told of them.
abbrev pub IsWrongEntry : BookView → Written → ℕ → Entry → Replayed → List ℕ → Type 0
IsWrongEntry book written k e said more = (said ≡ WrongEntry k) × IsToldOfEntry book written k e more

abbrev pub IsWrongEnd : BookView → Replayed → List ℕ → Type 0
IsWrongEnd book said more = (said ≡ WrongEnd) × IsToldOfEnd book more

-- So many entries are legal. Nothing more is told of them.
abbrev pub IsLegalOf : ℕ → Bool → Replayed → List ℕ → Type 0
IsLegalOf entries limited said more = (said ≡ Legal entries limited) × (more ≡ [])

-- The text is JSON: it begins with an opening brace.
abbrev pub is_json : List ℕ → Bool
is_json [] = false
is_json (b ∷ bs) = b == 123

-- The text is read as JSON as a journal of fewer than 2^32 entries.
abbrev pub IsJsonOf : Protocol → List ℕ → JournalView → Type 0
IsJsonOf protocol text j = IsReadAs protocol text j × (length j.entries < 2 ^ 32)

-- Of lines after so many line feeds: the first that isn't of the form, or what is said of their journal.
abbrev pub IsOfLines : SessionView → List ℕ → ℕ → Replayed → List ℕ → Type 0
IsOfLines session text feeds said more =
    ((k : ℕ) × form.IsFirstWrong (bare session.protocol) text k × IsRefusal (Line 51 (feeds + k)) said more)
    ⊎ ((j : JournalView) × form.Spells (bare session.protocol) text j × IsOfJournal session j (Lines feeds) said more)

-- Of JSON after so many line feeds: that it isn't of the form, with its first line; or what is said of its journal.
abbrev pub IsOfJson : SessionView → List ℕ → ℕ → Replayed → List ℕ → Type 0
IsOfJson session text feeds said more =
    (((j : JournalView) → IsJsonOf session.protocol text j → ⊥) × IsRefusal (Line 51 (feeds + 1)) said more)
    ⊎ ((j : JournalView) × IsJsonOf session.protocol text j × IsOfJournal session j Json said more)

-- Of a text that is JSON, or isn't.
abbrev pub IsOfText : Bool → SessionView → List ℕ → ℕ → Replayed → List ℕ → Type 0
IsOfText true session text feeds said more = IsOfJson session text feeds said more
IsOfText false session text feeds said more = IsOfLines session text feeds said more

-- Of a bundle and a text: the bundle's first refusal, or what is said of the text by its session.
abbrev pub IsOfBundle : List ℕ → List ℕ → ℕ → Replayed → List ℕ → Type 0
IsOfBundle bundle text feeds said more =
    ((r : refusals.Refused) × IsFirstRefusal bundle r × IsRefusal r said more)
    ⊎ ((session : SessionView) × IsTaken bundle session × IsOfText (is_json text) session text feeds said more)

-- A bundle may be so long.
abbrev pub most_of_bundle : ℕ
most_of_bundle = 1048576

-- Of an input: that no line is `%% journal`, with the line of its end; or what is said of its parts.
abbrev pub IsOfInput : List ℕ → Replayed → List ℕ → Type 0
IsOfInput input said more =
    ((cut_of input ≡ None) × IsRefusal (Line 50 (line_of_end input)) said more)
    ⊎ ((cut : Cut) × (cut_of input ≡ Some cut) × (cut.end ≤ most_of_bundle)
    × IsOfBundle (bundle_of input cut) (journal_of input cut) (feeds_before input cut) said more)

-- A finding and bytes that say something of this kind.
abbrev pub Says : (Replayed → List ℕ → Type 0) → Finding → List ℕ → Type 0
Says IsKind finding bytes =
    (said : Replayed) × (more : List ℕ) × IsKind said more × (finding ≡ finding_of said) × (bytes ≡ said_line said ++ more)

-- The diagnosis of an input: its bundle is too long, or what is said and told.
abbrev pub IsDiagnosis : List ℕ → Finding → List ℕ → Type 0
IsDiagnosis input finding bytes =
    ((cut : Cut) × (cut_of input ≡ Some cut) × (most_of_bundle < cut.end) × (finding ≡ TooLong) × (bytes ≡ []))
    ⊎ Says (IsOfInput input) finding bytes
