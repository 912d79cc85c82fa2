-- A dialogue: the lines that a session is told, and what is answered.
use Rattle.std.specs.Prelude.{◌≡◌, ℕ, ◌<◌, ◌≤◌, ◌↔◌, List, [], ◌∷◌, ◌++◌, All, length, Result, Ok, Err}
use Rattle.rcv_tree.specs.declared.entry.Entry.{Entry}
use Rattle.rcv_dialogue.specs.declared.answer.Answer.{Answer}
use Rattle.rcv_dialogue.specs.declared.answer.Answer.TheVariants as answer
use Rattle.rcv_dialogue.specs.declared.line.Line.{Line}
use Rattle.rcv_dialogue.specs.declared.line.Again.{Again as ToldAgain}
use Rattle.rcv_dialogue.specs.declared.line.Line.TheVariants.{Ask, Again}
use Rattle.rcv_dialogue.specs.declared.line.Question.TheVariants.{End}
use Rattle.rcv_dialogue.specs.declared.wrong.LineError.{LineError}
use Rattle.rcv_dialogue.specs.declared.wrong.LineError.TheVariants.{Long, Wrong}
use Rattle.rcv_dialogue.specs.Answers.{answer_text}
use Rattle.rcv_dialogue.specs.Lines.{SaysLine}
use Rattle.rcv_dialogue.specs.Reading.{IsReadAs, reading}
use Rattle.rcv_guided.specs.Session.{SessionView}
use Rattle.rcv_guided.specs.Hearing.{accepted_of, IsUnchanged}
use Rattle.rcv_guided.specs.Answers.{Hears, GoesOnBehind}

-- What a line says in a session, without its end: a line of the grammar; or it is too long; or a word of it is wrong.
pub record IsRead (s : SessionView) (text : List ℕ) (read : Result Line LineError) : Type 0 where
  pub long : (read ≡ Err Long) ↔ (2048 < length text)
  pub exact : length text ≤ 2048 → IsReadAs read (reading (accepted_of s) text)

-- What comes of it: the session hears a line of the grammar, and any other line leaves the session as it is.
abbrev pub ComesOf : SessionView → Result Line LineError → Answer → List Entry → SessionView → Type 0
ComesOf old (Ok told) said added new = Hears old told said added new × GoesOnBehind told old added new
ComesOf old (Err Long) said added new = (said ≡ answer.Long) × IsUnchanged old added new
ComesOf old (Err (Wrong w)) said added new = (said ≡ answer.Wrong w) × IsUnchanged old added new

-- The session is told this line, answers this, and is then the new one. The new one's history goes on by what is added, unless
-- the line is one of a snapshot.
pub record IsTold (old : SessionView) (text : List ℕ) (said : Answer) (added : List Entry) (new : SessionView) : Type 0 where
  pub read : Result Line LineError
  pub is_read : IsRead old text read
  pub comes : ComesOf old read said added new

-- It is told the first of some lines, and then the others.
pub record IsToldFirst (Others : SessionView → List ℕ → List Entry → Type 0) (old : SessionView) (text output : List ℕ) (added : List Entry) : Type 0 where
  pub said : Answer
  pub first : List Entry
  pub between : SessionView
  pub told : IsTold old text said first between
  pub rest : List ℕ
  pub more : List Entry
  pub others : Others between rest more
  pub output_is : output ≡ answer_text (accepted_of old) said ++ rest
  pub added_is : added ≡ first ++ more

-- It is told these lines, one after the other: its answers are this output.
abbrev pub AreTold : SessionView → List (List ℕ) → List ℕ → List Entry → SessionView → Type 0
AreTold s [] output added new = (output ≡ []) × (added ≡ []) × (new ≡ s)
AreTold s (text ∷ texts) output added new =
    IsToldFirst (λ between rest more. AreTold between texts rest more new) s text output added

-- The line ends the dialogue.
abbrev pub SaysEnd : SessionView → List ℕ → Type 0
SaysEnd s text = SaysLine (accepted_of s) text (Ask End)

-- None of these lines ends the dialogue.
abbrev pub GoOn : SessionView → List (List ℕ) → Type 0
GoOn s lines = All (λ line. SaysEnd s line → ⊥) lines

-- The line is one of a snapshot, which restores a session; and none of these lines is.
abbrev pub SaysAgain : SessionView → List ℕ → Type 0
SaysAgain s text = (told : ToldAgain) × SaysLine (accepted_of s) text (Again told)

abbrev pub NoneRestores : SessionView → List (List ℕ) → Type 0
NoneRestores s lines = All (λ line. SaysAgain s line → ⊥) lines

-- The last line, and no other one, ends the dialogue.
pub record EndsByLine (s : SessionView) (lines : List (List ℕ)) : Type 0 where
  pub front : List (List ℕ)
  pub end : List ℕ
  pub lines_are : lines ≡ front ++ end ∷ []
  pub go_on : GoOn s front
  pub ends : SaysEnd s end
