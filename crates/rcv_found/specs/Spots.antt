-- Where something stands in a text: its line, and its column.
use Rattle.std.specs.Prelude.{◌≡◌, ℕ, ◌+◌, Bool, false, ◌||◌, ◌==◌, nat_lt, nat_le, if◌then◌else◌, List, [], ◌∷◌, take, count_by, slice_get, Option, Some, None}
use Rattle.rcv_lexer.specs.declared.token.Span.{Span}
use Rattle.rcv_lexer.specs.declared.token.Token.{Token}
use Rattle.rcv_lexer.specs.Tokens.{line_at}
use Rattle.rcv_found.specs.declared.spot.Spot.{Spot}
use Rattle.rcv_found.specs.declared.wrong.Wrong.{Wrong}
use Rattle.rcv_found.specs.Grammars.{GrammarView}
use Rattle.rcv_found.specs.Stops.{IsFirstAt, token_code}
use Rattle.rcv_found.specs.May.{AreThose, things_of}

-- a line feed is among them
abbrev pub has_feed : List ℕ → Bool
has_feed [] = false
has_feed (b ∷ bs) = b == 10 || has_feed bs

-- What is left after taking bytes off the front as long as a line feed is left: what stands after the last one.
abbrev pub since_feed : List ℕ → List ℕ
since_feed [] = []
since_feed (b ∷ bs) = if has_feed (b ∷ bs) then since_feed bs else b ∷ bs

-- Each byte begins a letter, except for 128 to 191, which continue a letter of several bytes.
abbrev pub begins_letter : ℕ → Bool
begins_letter b = nat_lt b 128 || nat_le 192 b

-- The column of a place: one more than the letters before it on its line.
abbrev pub column_of : List ℕ → ℕ
column_of before = 1 + count_by begins_letter (since_feed before)

abbrev pub column_at : List ℕ → ℕ → ℕ
column_at bundle place = column_of (take place bundle)

-- a stretch on a line
abbrev pub spot_by : List ℕ → Span → ℕ → Spot
spot_by bundle span line = record { span = span; line = line; column = column_at bundle span.start }

-- a token, or the end of a part
abbrev pub spot_of : List ℕ → ℕ → Option Token → Spot
spot_of bundle end (Some t) = spot_by bundle t.span t.line
spot_of bundle end None = spot_by bundle (record { start = end; end = end }) (line_at bundle end)

-- What is wrong with the tokens of a part that ends there: the first code; the token at which it holds, or the end; and if the
-- code is that of the grammar, what may stand there, else nothing more.
pub record IsWrongAt (g : GrammarView) (bundle : List ℕ) (tokens : List Token) (end : ℕ) (wrong : Wrong) : Type 0 where
  pub place : ℕ
  pub first : IsFirstAt g bundle tokens wrong.code place
  pub spot : wrong.spot ≡ spot_of bundle end (slice_get tokens place)
  pub may : wrong.code ≡ token_code g → AreThose g bundle (take place tokens) (things_of g) wrong.may.items
  pub no_more : (wrong.code ≡ token_code g → ⊥) → wrong.may.items ≡ []
