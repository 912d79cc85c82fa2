-- What a buffer holds.
use Rattle.std.specs.Prelude.{ℕ, ◌≤◌, List, drop, vec_len, vec_capacity}
use Rattle.rcv_pipe.specs.declared.buffer.Buffer.{Buffer}

-- There is room for so many bytes; and with so many held, there is still room for the next ones.
abbrev pub room : ℕ
room = 65536

abbrev pub most_held : ℕ
most_held = 61440

-- It has its whole room, and holds the end of its bytes.
pub record IsBuffer (b : Buffer) : Type 0 where
  pub inside : b.start ≤ vec_len b.bytes
  pub few : vec_len b.bytes ≤ room
  pub whole : room ≤ vec_capacity b.bytes

-- What it holds.
abbrev pub held_in : Buffer → List ℕ
held_in b = drop b.start b.bytes.items
