-- Lines of bytes, which end with a line feed.
use Rattle.std.specs.Prelude.{◌≡◌, ℕ, ◌+◌, ◌<◌, List, [], ◌∷◌, ◌++◌, length, take, drop}

-- No line feed is among these bytes.
abbrev pub HasNoFeed : List ℕ → Type 0
HasNoFeed [] = Unit {0}
HasNoFeed (b ∷ bytes) = (b ≡ 10 → ⊥) × HasNoFeed bytes

-- A line with its end.
abbrev pub ended : List ℕ → List ℕ
ended line = line ++ 10 ∷ []

-- The first line feed of these bytes stands there.
pub record IsFeed (bytes : List ℕ) (place : ℕ) : Type 0 where
  pub inside : place < length bytes
  pub line : HasNoFeed (take place bytes)
  pub whole : bytes ≡ ended (take place bytes) ++ drop (place + 1) bytes
