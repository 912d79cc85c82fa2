-- Where the counts of a ring lie among the words of its table, and its messages among the slots.
use Rattle.std.specs.Prelude.{ℕ, ◌%◌}

-- The word that counts what was put, the one that counts what was got, and how many words there are. Each count has 15
-- words or more on either side that nobody writes, so that it shares neither a cache line of 64 bytes nor a pair of such
-- lines with the other one or with another block of memory.
abbrev pub at_put : ℕ
at_put = 16

abbrev pub at_got : ℕ
at_got = 32

abbrev pub all_words : ℕ
all_words = 48

-- The slot of the message i, counted from 0.
abbrev pub place : ℕ → ℕ → ℕ
place room i = i % room
