-- The lines that say what is wrong with a journal, and what could have come.
use Rattle.std.specs.Prelude.{ℕ, ◌+◌, List, ◌++◌, codes, decimal}
use Rattle.rcv_tree.specs.declared.entry.Entry.{Entry}
use Rattle.rcv_theory.specs.Round.{role_of}
use Rattle.rcv_session.specs.Session.{SessionView}
use Rattle.rcv_input.specs.Line.{refusal_line}
use Rattle.rcv_journal.specs.declared.line.RoleLine.{RoleLine}
use Rattle.rcv_journal.specs.JournalText.{name_of, entry_line, closing_text}
use Rattle.rcv_judge.specs.declared.could.Could.{Could}
use Rattle.rcv_judge.specs.declared.could.Could.TheVariants.{Make, Awaits, Done, AtLimit}
use Rattle.rcv_replay.specs.declared.replayed.Replayed.{Replayed}
use Rattle.rcv_replay.specs.declared.replayed.Replayed.TheVariants.{Refused, Legal, WrongEntry, WrongEnd}
use Rattle.rcv_replay.specs.Lines.{legal_line, wrong_line, wrong_end_line}
use Rattle.rcv_diagnosis.specs.declared.diagnosis.Finding.{Finding}
use Rattle.rcv_diagnosis.specs.declared.diagnosis.Finding.TheVariants as found
use Rattle.rcv_diagnosis.specs.declared.written.Written.{Written}
use Rattle.rcv_diagnosis.specs.declared.written.Written.TheVariants.{Lines, Json}

-- The first line, which is that of `rcv replay`.
abbrev pub said_line : Replayed → List ℕ
said_line (Refused r) = refusal_line r
said_line (Legal entries limited) = legal_line entries limited
said_line (WrongEntry k) = wrong_line k
said_line WrongEnd = wrong_end_line

-- What it finds.
abbrev pub finding_of : Replayed → Finding
finding_of (Refused r) = found.Refused
finding_of (Legal entries limited) = found.Legal
finding_of (WrongEntry k) = found.Wrong
finding_of WrongEnd = found.Wrong

-- Where entry k, counted from 1, stands: it has a line of the input, after the line feeds before the journal; or it is one of a
-- list.
abbrev pub place_text : Written → ℕ → List ℕ
place_text (Lines feeds) k = codes "line " ++ decimal (feeds + k)
place_text Json k = codes "entry " ++ decimal k

-- What a role could do: `A could: <the entry>`, or `A could do nothing: <why>`.
abbrev pub could_text : SessionView → ℕ → Could → List ℕ
could_text session r (Make e) = name_of session r ++ codes " could: " ++ entry_line session e
could_text session r (Awaits from) =
    name_of session r ++ codes " could do nothing: it waits for " ++ name_of session from ++ codes "\n"
could_text session r Done = name_of session r ++ codes " could do nothing: it is done\n"
could_text session r AtLimit = name_of session r ++ codes " could do nothing: it is at the limit\n"

-- After `wrong entry K`: what stands there, and what its role could do.
abbrev pub entry_text : SessionView → Written → ℕ → Entry → Could → List ℕ
entry_text session written k e could =
    place_text written k ++ codes " is: " ++ entry_line session e ++ could_text session (role_of e) could

-- After `wrong end`, if the session isn't over: what could come.
abbrev pub unfinished_text : SessionView → Entry → List ℕ
unfinished_text session e = codes "the session isn't over: " ++ could_text session (role_of e) (Make e)

-- And if it is: the right closing lines.
abbrev pub over_text : SessionView → List RoleLine → List ℕ
over_text session lines = codes "the end is:\n" ++ closing_text session lines
