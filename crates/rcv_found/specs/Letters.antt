-- What is told of a bad letter: where it stands, and what may stand there.
use Rattle.std.specs.Prelude.{◌≡◌, ◌⊎◌, ℕ, ◌+◌, not, if◌then◌else◌, List, [], ◌∷◌, length, take_while, slice_range}
use Rattle.rcv_tree.specs.Words.{is_word_byte}
use Rattle.rcv_lexer.specs.declared.token.Span.{Span}
use Rattle.rcv_lexer.specs.declared.token.Token.{Token}
use Rattle.rcv_lexer.specs.Tokens.{AreTokens, IsLetterAt, line_at}
use Rattle.rcv_found.specs.declared.wrong.Wrong.{Wrong}
use Rattle.rcv_found.specs.Grammars.{GrammarView}
use Rattle.rcv_found.specs.Things.{ThingView}
use Rattle.rcv_found.specs.Stops.{IsTakenBy, IsFirstAt}
use Rattle.rcv_found.specs.Spots.{begins_letter, spot_by}
use Rattle.rcv_found.specs.May.{AreThose, things_of}

-- The bytes of the word that begins a text, or else of its first letter.
abbrev pub letter_length : List ℕ → ℕ
letter_length [] = 0
letter_length (b ∷ bs) =
    if is_word_byte b then 1 + length (take_while is_word_byte bs)
    else 1 + length (take_while (λ c. not (begins_letter c)) bs)

abbrev pub span : ℕ → ℕ → Span
span start end = record { start = start; end = end }

-- The word or the letter at a place of a part.
abbrev pub letter_span : List ℕ → Span → ℕ → Span
letter_span input part place = span place (place + letter_length (slice_range input place part.end))

-- Nothing refuses these tokens before their end: they are read, or the first code that holds does so at the end.
abbrev pub IsOpen : GrammarView → List ℕ → List Token → Type 0
IsOpen g bundle tokens = IsTakenBy g bundle tokens ⊎ ((code : ℕ) × IsFirstAt g bundle tokens code (length tokens))

-- These may stand after the tokens: all that the grammar has there; and if something refuses them before their end, none is named.
pub record AreInPlace (g : GrammarView) (input : List ℕ) (tokens : List Token) (may : List ThingView) : Type 0 where
  pub opened : IsOpen g input tokens → AreThose g input tokens (things_of g) may
  pub shut : (IsOpen g input tokens → ⊥) → may ≡ []

-- What is told of the bad letter of a part.
pub record IsLetterTold (g : GrammarView) (input : List ℕ) (part : Span) (wrong : Wrong) : Type 0 where
  pub place : ℕ
  pub letter : IsLetterAt input part place
  pub code : wrong.code ≡ 10
  pub spot : wrong.spot ≡ spot_by input (letter_span input part place) (line_at input place)
  pub may : (tokens : List Token) → AreTokens input (span part.start place) tokens → AreInPlace g input tokens wrong.may.items
