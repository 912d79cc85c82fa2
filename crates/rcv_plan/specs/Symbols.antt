-- The tokens of a plan by what they say. No word is reserved.
use Rattle.std.specs.Prelude.{ℕ, codes, if◌then◌else◌, Bool, true, false, List}
use Rattle.std.specs.Str.{bytes_eq}
use Rattle.rcv_lexer.specs.declared.token.Kind.{Kind}
use Rattle.rcv_lexer.specs.declared.token.Kind.TheVariants as kinds
use Rattle.rcv_lexer.specs.declared.token.Token.{Token}
use Rattle.rcv_lexer.specs.Symbols as scan
use Rattle.rcv_lexer.specs.Symbols.{number_of, unquoted}
use Rattle.rcv_plan.specs.declared.sign.Sign.{Sign}
use Rattle.rcv_plan.specs.declared.sign.Sign.TheVariants.{Equals, Comma, Foreign}
pub use Rattle.rcv_lexer.specs.Symbols.{Is, Word, Number, Text, IsNotNext, line_before}

abbrev pub Symbol : Type 0
Symbol = scan.Symbol Sign

abbrev pub mark : List ℕ → Sign
mark m = if bytes_eq m (codes "=") then Equals else (if bytes_eq m (codes ",") then Comma else Foreign)

-- what a token of this kind with these bytes says
abbrev pub symbol_by : Kind → List ℕ → Symbol
symbol_by kinds.Word bytes = Word bytes
symbol_by kinds.Number digits = Number (number_of digits)
symbol_by kinds.Text bytes = Text (unquoted bytes)
symbol_by kinds.Mark bytes = Is (mark bytes)

-- what the tokens of the bundle say, one after another
abbrev pub symbols_of : List ℕ → List Token → List Symbol
symbols_of = scan.symbols_of symbol_by

abbrev pub is_comma : Sign → Bool
is_comma Comma = true
is_comma _ = false

abbrev pub is_equals : Sign → Bool
is_equals Equals = true
is_equals _ = false
