-- The text in front of the told lines: it ends before the first line `%% events`.
use Rattle.std.specs.Prelude.{◌≡◌, ℕ, ◌<◌, ◌≤◌, ◌⊎◌, false, codes, List, [], ◌∷◌, ◌++◌, All, flat_map, length, Result, Vec}
use Rattle.std.specs.declared.option.Option.{Option}
use Rattle.std.specs.declared.alloc.Global.{Global}
use Rattle.std.specs.Io.KnownBytes.{IsAtEnd}
use Rattle.std.specs.Prelude.{Ok, Err}
use Rattle.rcv_io.specs.Source.{Took}
use Rattle.rcv_pipe.specs.declared.opening.OpeningError.{OpeningError}
use Rattle.rcv_pipe.specs.declared.opening.OpeningError.TheVariants.{NoEvents, ReadFault, TooLong, Memory}
use Rattle.rcv_pipe.specs.Feeds.{HasNoFeed, ended}
use Rattle.rcv_pipe.specs.Pipe.{PipeView}

-- The line that ends the text, which may end with a CR.
abbrev pub IsEvents : List ℕ → Type 0
IsEvents line = (line ≡ codes "%% events") ⊎ (line ≡ codes "%% events" ++ 13 ∷ [])

-- It stands there with its end.
pub record IsEventsLine (bytes : List ℕ) : Type 0 where
  pub line : List ℕ
  pub is : IsEvents line
  pub bytes_are : bytes ≡ ended line

-- Another line.
pub record IsOther (line : List ℕ) : Type 0 where
  pub one : HasNoFeed line
  pub other : IsEvents line → ⊥

-- Bytes begin with this text, up to the first line that ends it, and these stand after that line.
pub record Opens (bytes text behind : List ℕ) : Type 0 where
  pub lines : List (List ℕ)
  pub others : All IsOther lines
  pub text_is : text ≡ flat_map ended lines
  pub events : List ℕ
  pub is : IsEvents events
  pub whole : bytes ≡ text ++ (ended events ++ behind)

-- No text ends in these bytes.
abbrev pub OpensNone : List ℕ → Type 0
OpensNone bytes = (text behind : List ℕ) → Opens bytes text behind → ⊥

-- A text may have so many bytes.
abbrev pub most : ℕ
most = 1048576

-- Whatever stands after these bytes, their text is too long.
abbrev pub IsTooLong : List ℕ → Type 0
IsTooLong bytes = (more text behind : List ℕ) → Opens (bytes ++ more) text behind → most < length text

-- What was taken opens with the text, and the pipe holds what stands after the line that ends it; or there is no text, for this reason.
abbrev pub IsOpening : Option (List ℕ) → List ℕ → PipeView → Result (Vec ℕ Global) OpeningError → Type 0
IsOpening rest taken pipe (Ok text) = Opens taken text.items pipe.held × (length text.items ≤ most)
IsOpening rest taken pipe (Err NoEvents) = OpensNone taken × IsAtEnd rest
IsOpening rest taken pipe (Err TooLong) = IsTooLong taken
IsOpening rest taken pipe (Err ReadFault) = OpensNone taken
IsOpening rest taken pipe (Err Memory) = Unit {0}

-- A call took some bytes of a source, and that is what came of them. This is told of the source.
pub record Takes (rest_old rest_new : Option (List ℕ)) (given_old given_new : ℕ) (pipe : PipeView) (result : Result (Vec ℕ Global) OpeningError) : Type 0 where
  pub taken : List ℕ
  pub took : Took rest_old rest_new given_old given_new taken
  pub is : IsOpening rest_new taken pipe result
  pub short : pipe.long ≡ false
