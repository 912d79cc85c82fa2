-- What contracts see of a pipe, and what waits in it.
use Rattle.std.specs.Prelude.{◌≡◌, ℕ, ◌<◌, nat_lt, Bool, true, false, if◌then◌else◌, Option, List, [], ◌++◌, length}
use Rattle.std.specs.Io.KnownBytes.{prepend_known, IsAtEnd}
use Rattle.rcv_io.specs.Causes.{counted}
use Rattle.rcv_pipe.specs.Buffer.{most_held}
use Rattle.rcv_pipe.specs.Feeds.{HasNoFeed}

-- The bytes that it holds, and whether more of their line stood in front of them, and was dropped.
pub record PipeView : Type 0 where
  pub held : List ℕ
  pub long : Bool

abbrev pub empty : PipeView
empty = record { held = []; long = false }

-- The pipe when it has room: if what it held left too little room, that was the front of a line, and is dropped.
abbrev pub roomy : PipeView → PipeView
roomy p = if nat_lt most_held (length p.held) then record { held = []; long = true } else p

-- The pipe with these bytes more at its end.
abbrev pub with_more : PipeView → List ℕ → PipeView
with_more p bytes = record { held = p.held ++ bytes; long = p.long }

-- These bytes wait: the pipe holds them; or, if their line is too long for it, what isn't dropped of them.
pub record Waits (p : PipeView) (bytes : List ℕ) : Type 0 where
  pub dropped : List ℕ
  pub whole : bytes ≡ dropped ++ p.held
  pub short : p.long ≡ false → dropped ≡ []
  pub front : HasNoFeed dropped
  pub long : p.long ≡ true → most_held < length dropped

-- A call read so many bytes of a source, and what was held goes on with them; none only at the end. This is told of the source.
pub record Reads (held_old held_new : List ℕ) (rest_old rest_new : Option (List ℕ)) (given_old given_new count : ℕ) : Type 0 where
  pub read : List ℕ
  pub held : held_new ≡ held_old ++ read
  pub front : rest_old ≡ prepend_known read rest_new
  pub number : given_new ≡ counted given_old (length read)
  pub count_is : length read ≡ count
  pub end : count ≡ 0 → IsAtEnd rest_new
