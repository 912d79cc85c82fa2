-- Steps of a dialogue: what is answered to lines that wait in a pipe.
use Rattle.std.specs.Prelude.{◌≡◌, ◌≢◌, ◌↔◌, ℕ, ◌+◌, false, List, ◌++◌, All, flat_map, drop}
use Rattle.rcv_tree.specs.declared.entry.Entry.{Entry}
use Rattle.rcv_dialogue.specs.declared.answer.Answer.{Answer}
use Rattle.rcv_dialogue.specs.Answers.{answer_text}
use Rattle.rcv_guided.specs.Session.{SessionView}
use Rattle.rcv_guided.specs.Hearing.{accepted_of}
use Rattle.rcv_pipe.specs.Feeds.{HasNoFeed, ended}
use Rattle.rcv_pipe.specs.Pipe.{PipeView, Waits}
use Rattle.rcv_talk.specs.declared.answers.Next.{Next}
use Rattle.rcv_talk.specs.declared.answers.Next.TheVariants.{More, Ended}
use Rattle.rcv_talk.specs.Dialogue.{AreTold, GoOn, EndsByLine, IsTold, SaysEnd}

-- The text goes on with the answer to a line; the dialogue ends with the line exactly if the line says so.
pub record Answers (old : SessionView) (line text_old text_new : List ℕ) (new : SessionView) (next : Next) : Type 0 where
  pub said : Answer
  pub added : List Entry
  pub told : IsTold old line said added new
  pub text : text_new ≡ text_old ++ answer_text (accepted_of old) said
  pub ends : (next ≡ Ended) ↔ SaysEnd old line
  pub protocol : new.guide.protocol ≡ old.guide.protocol

-- The first of the lines that wait is answered: its feed stands there in what the pipe holds.
pub record AnswersFirst (old : SessionView) (pipe : PipeView) (feed : ℕ) (bytes text_old text_new : List ℕ) (new : SessionView) (next : Next) : Type 0 where
  pub line : List ℕ
  pub one : HasNoFeed line
  pub rest : List ℕ
  pub bytes_are : bytes ≡ ended line ++ rest
  pub waits : Waits (record { held = drop (feed + 1) pipe.held; long = false }) rest
  pub answers : Answers old line text_old text_new new next

-- The first lines that wait are answered: with `More`, all that are whole; with `Ended`, up to the one that ends the dialogue.
pub record AnswersHeld (old : SessionView) (bytes text_old text_new : List ℕ) (new : SessionView) (pipe : PipeView) (next : Next) : Type 0 where
  pub lines : List (List ℕ)
  pub whole : All HasNoFeed lines
  pub rest : List ℕ
  pub bytes_are : bytes ≡ flat_map ended lines ++ rest
  pub waits : Waits pipe rest
  pub output : List ℕ
  pub added : List Entry
  pub told : AreTold old lines output added new
  pub text : text_new ≡ text_old ++ output
  pub all : next ≡ More → HasNoFeed pipe.held
  pub ends : next ≡ Ended → EndsByLine old lines
  pub go_on : next ≢ Ended → GoOn old lines
  pub protocol : new.guide.protocol ≡ old.guide.protocol
