-- Tokens by what they say to a grammar: its signs, words, numbers by value, and texts without their quotes.
use Rattle.std.specs.Prelude.{◌≡◌, ◌≤◌, ℕ, ◌+◌, ◌-◌, ◌*◌, List, [], ◌∷◌, length, map, drop, slice_range, min}
use Rattle.rcv_lexer.specs.declared.token.Kind.{Kind}
use Rattle.rcv_lexer.specs.declared.token.Token.{Token}
use Rattle.rcv_lexer.specs.declared.lexeme.Lexeme.{Lexeme}
use Rattle.rcv_lexer.specs.declared.lexeme.Lexeme.TheVariants as lexemes

-- A sign is a reserved word, a mark, or whatever else the grammar must tell apart.
pub data Symbol (S : Type 0) : Type 0 where
  Is : (sign : S) → Symbol S
  Word : (bytes : List ℕ) → Symbol S
  Number : (number : ℕ) → Symbol S
  Text : (bytes : List ℕ) → Symbol S

-- the number that digits say after a number
abbrev pub decimal : ℕ → List ℕ → ℕ
decimal n [] = n
decimal n (digit ∷ digits) = decimal (n * 10 + (digit - 48)) digits

-- the greatest number of 64 bits, and a number that is at most that one
abbrev pub greatest : ℕ
greatest = 18446744073709551615

abbrev pub capped : ℕ → ℕ
capped n = min n greatest

-- the number that digits say, or the greatest
abbrev pub number_of : List ℕ → ℕ
number_of digits = capped (decimal 0 digits)

-- without the first and the last byte
abbrev pub unquoted : List ℕ → List ℕ
unquoted bytes = slice_range bytes 1 (length bytes - 1)

-- what a token of the bundle says, by a table of what tokens of a kind say
abbrev pub symbol_of : {S : Type 0} → (Kind → List ℕ → Symbol S) → List ℕ → Token → Symbol S
symbol_of by bundle token = by token.kind (slice_range bundle token.span.start token.span.end)

-- what the tokens of the bundle say, one after another
abbrev pub symbols_of : {S : Type 0} → (Kind → List ℕ → Symbol S) → List ℕ → List Token → List (Symbol S)
symbols_of by bundle tokens = map (symbol_of by bundle) tokens

-- what a lexeme says
abbrev pub symbol_in : {S : Type 0} → Lexeme S → Symbol S
symbol_in (lexemes.Is sign) = Is sign
symbol_in (lexemes.Word bytes) = Word bytes.now
symbol_in (lexemes.Number n) = Number n
symbol_in (lexemes.Text bytes) = Text bytes.now

-- the number of a lexeme, if it is one, is at most this one
abbrev pub IsWithin : {S : Type 0} → ℕ → Lexeme S → Type 0
IsWithin most (lexemes.Number n) = n ≤ most
IsWithin most _ = Unit {0}

-- the symbol isn't the next one
abbrev pub IsNotNext : {S : Type 0} → Symbol S → List (Symbol S) → Type 0
IsNotNext {S} t ts = (us : List (Symbol S)) → ts ≡ t ∷ us → ⊥

-- no word, no number and no text is the next symbol
abbrev pub NoWord : {S : Type 0} → List (Symbol S) → Type 0
NoWord ts = (w : List ℕ) → IsNotNext (Word w) ts

abbrev pub NoNumber : {S : Type 0} → List (Symbol S) → Type 0
NoNumber ts = (n : ℕ) → IsNotNext (Number n) ts

abbrev pub NoText : {S : Type 0} → List (Symbol S) → Type 0
NoText ts = (q : List ℕ) → IsNotNext (Text q) ts

-- the line of the first token, or of the end if there is none
abbrev pub line_of_first : List Token → ℕ → ℕ
line_of_first [] last = last
line_of_first (t ∷ ts) last = t.line

-- the line of the token from which on so many are left, or of the end
abbrev pub line_before : List Token → ℕ → ℕ → ℕ
line_before tokens last left = line_of_first (drop (length tokens - left) tokens) last
