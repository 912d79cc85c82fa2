-- How a session hears events that are told as values.
use Rattle.std.specs.Prelude.{◌≡◌}
use Rattle.rcv_dialogue.specs.declared.line.Line.{Line}
use Rattle.rcv_dialogue.specs.declared.answer.Answer.{Answer}
use Rattle.rcv_dialogue.specs.declared.answer.Answer.TheVariants as answer
use Rattle.rcv_guided.specs.declared.typed.Heard.{Heard}
use Rattle.rcv_guided.specs.declared.typed.Heard.TheVariants as heard
use Rattle.rcv_guided.specs.Session.{SessionView}
use Rattle.rcv_guided.specs.Answers.{IsAnswer}

-- The kind of an answer to an event. (An event has no other answers than the first five and `illegal`.)
abbrev pub heard_of : Answer → Heard
heard_of answer.Done = heard.Done 0
heard_of (answer.Sent stamp) = heard.Done stamp
heard_of (answer.Received stamp sent) = heard.Done stamp
heard_of (answer.Stale news) = heard.Stale
heard_of answer.Memory = heard.Memory
heard_of other = heard.Illegal

-- The session hears the line, and its answer is of this kind.
pub record IsHeardAs (old : SessionView) (told : Line) (new : SessionView) (kind : Heard) : Type 0 where
  pub said : Answer
  pub answer : IsAnswer old told new said
  pub kind_is : kind ≡ heard_of said
