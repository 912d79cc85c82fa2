-- What contracts see of a source and a sink in memory.
use Rattle.std.specs.Prelude.{◌≡◌, ℕ, ◌⊎◌, ◌-◌, ◌<◌, List, ◌++◌, length, take, drop, Contains}
use Rattle.rcv_io.specs.Causes.{counted}

-- A source in memory: the bytes that are left, and how many it gave.
-- A call gives at most `piece` bytes. The calls with these numbers, from 1, fail. `calls` were made.
pub record SourceState : Type 0 where
  pub rest : List ℕ
  pub given : ℕ
  pub piece : ℕ
  pub failing : List ℕ
  pub calls : ℕ
  pub faults : ℕ

-- the next call of the source fails
abbrev pub SourceFails : SourceState → Type 0
SourceFails s = Contains s.failing (counted s.calls 1)

-- after a call that gave n bytes
abbrev pub after_read : SourceState → ℕ → SourceState
after_read s n = record s {
  rest = drop n s.rest;
  given = counted s.given n;
  calls = counted s.calls 1;
}

-- after a call that failed
abbrev pub after_failed_read : SourceState → SourceState
after_failed_read s = record s { calls = counted s.calls 1; faults = counted s.faults 1 }

-- A sink in memory: the bytes that were written, and the room that is left.
-- A call takes at most `piece` bytes. The calls with these numbers, from 1, fail. `calls` were made.
pub record SinkState : Type 0 where
  pub written : List ℕ
  pub room : ℕ
  pub piece : ℕ
  pub failing : List ℕ
  pub calls : ℕ
  pub faults : ℕ

-- the next call of the sink fails if it is offered these bytes: because of its number, or because no room is left
abbrev pub SinkFails : SinkState → List ℕ → Type 0
SinkFails s offered = Contains s.failing (counted s.calls 1) ⊎ ((s.room ≡ 0) × (0 < length offered))

-- after a call that took the first n of the bytes that it was offered
abbrev pub after_write : SinkState → List ℕ → ℕ → SinkState
after_write s offered n = record s {
  written = s.written ++ take n offered;
  room = s.room - n;
  calls = counted s.calls 1;
}

-- after a call that failed
abbrev pub after_failed_write : SinkState → SinkState
after_failed_write s = record s { calls = counted s.calls 1; faults = counted s.faults 1 }
