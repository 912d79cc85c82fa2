-- Answers that are said.
use Rattle.std.proofs.Common.{◌≡◌, ℕ, List, [], ◌++◌, refl, ◌∙◌, ap, inl}
use Rattle.std.specs.Prelude.{Result, OnOk}
use Rattle.rcv_tree.specs.declared.entry.Entry.{Entry}
use Rattle.rcv_tree.specs.declared.protocol.Protocol.{Protocol}
use Rattle.rcv_accept.specs.Accepted.{AcceptedView}
use Rattle.rcv_guide.proofs.Memories.{on_success}
use Rattle.rcv_dialogue.specs.declared.line.Line.{Line}
use Rattle.rcv_dialogue.specs.declared.line.Line.TheVariants as line
use Rattle.rcv_dialogue.specs.declared.answer.Answer.{Answer}
use Rattle.rcv_dialogue.specs.Answers.{answer_text}
use Rattle.rcv_guided.specs.Session.{SessionView}
use Rattle.rcv_guided.specs.Histories.{GoesOnBy}
use Rattle.rcv_guided.specs.Hearing.{accepted_of, IsUnchanged}
use Rattle.rcv_guided.specs.Answers.{Comes, ComesBy, GoesOnBehind, IsJudging, IsAnswer, Says}
use Rattle.rcv_guided.proofs.Going.{on_same, on_behind}

pub says_so : (a : AcceptedView) (old new : List ℕ) (P Q : Answer → Type 0) → ((said : Answer) → P said → Q said) → Says a old new P → Says a old new Q
says_so a old new P Q so it = record { answer = it.answer; text = it.text; is = so it.answer it.is }

-- A line that changes nothing.
pub unchanged_by : (s : SessionView) (told : Line) (said : Answer) → ((added : List Entry) (after : SessionView) → IsUnchanged s added after → Comes s told said added after) → ComesBy s told s said
unchanged_by s told said comes = record {
  added = [];
  comes = comes [] s (record { nothing = refl; same = refl });
  history = on_same s s refl;
}

-- So it goes on behind whatever line.
pub goes_on_behind : (told : Line) (old : SessionView) (added : List Entry) (new : SessionView) → GoesOnBy old added new → GoesOnBehind told old added new
goes_on_behind (line.Again told) old added new on = tt
goes_on_behind (line.Send told) old added new on = on
goes_on_behind (line.Recv told) old added new on = on
goes_on_behind (line.Save told) old added new on = on
goes_on_behind (line.Fail failed) old added new on = on
goes_on_behind (line.Crash r) old added new on = on
goes_on_behind (line.Recover told) old added new on = on
goes_on_behind (line.Ask asked) old added new on = on

-- What comes of the line where it is judged is the answer to it.
pub answer_by : (old s new : SessionView) (told : Line) (said : Answer) → IsJudging old s → GoesOnBy old [] s → ComesBy s told new said → IsAnswer old told new said
answer_by old s new told said is before by = record {
  added = by.added;
  hears = record { judging = s; is = is; comes = by.comes };
  history = goes_on_behind told old by.added new (on_behind old s new by.added before by.history);
}

-- The same where it is judged in the session itself.
pub answer_in : (s new : SessionView) (told : Line) (said : Answer) → ComesBy s told new said → IsAnswer s told new said
answer_in s new told said by = answer_by s s new told said (inl refl) (on_same s s refl) by

-- The answer is said in the words of the protocol, which is the same in both sessions.
pub says_by : (old s : SessionView) (text new : List ℕ) (P : Answer → Type 0) (said : Answer) → s.guide.protocol ≡ old.guide.protocol → P said → new ≡ text ++ answer_text (accepted_of s) said → Says (accepted_of old) text new P
says_by old s text new P said same is said_so = record {
  answer = said;
  text = said_so ∙ ap (λ (p : Protocol). text ++ answer_text (record { protocol = p }) said) same;
  is = is;
}

-- What was written is the answer to the line, where that is judged in a session and leaves another one.
module _ {T E : Type 0} (old s new : SessionView) (told : Line) (said : Answer) (text after : List ℕ) (result : Result T E) where
  pub said_of_line : IsJudging old s → GoesOnBy old [] s → ComesBy s told new said → new.guide.protocol ≡ old.guide.protocol
      → OnOk result (after ≡ text ++ answer_text (accepted_of new) said) → OnOk result (Says (accepted_of old) text after (IsAnswer old told new))
  said_of_line judging history comes same =
      on_success (after ≡ text ++ answer_text (accepted_of new) said) (Says (accepted_of old) text after (IsAnswer old told new)) result
      (says_by old new text after (IsAnswer old told new) said same (answer_by old s new told said judging history comes))

-- What was written is the answer to a question.
pub said_of_question : {T E : Type 0} (a : AcceptedView) (P : Answer → Type 0) (said : Answer) (text after : List ℕ) (result : Result T E) → P said → OnOk result (after ≡ text ++ answer_text a said) → OnOk result (Says a text after P)
said_of_question a P said text after result is = on_success (after ≡ text ++ answer_text a said) (Says a text after P) result (λ written. record { answer = said; text = written; is = is })
