-- The tokens of scripts by what they say. No word is reserved, and a number has 63 bits.
use Rattle.std.specs.Prelude.{ℕ, codes, List, if◌then◌else◌, nat_le, bytes_eq}
use Rattle.rcv_lexer.specs.declared.token.Kind.{Kind}
use Rattle.rcv_lexer.specs.declared.token.Kind.TheVariants as kinds
use Rattle.rcv_lexer.specs.declared.token.Token.{Token}
use Rattle.rcv_lexer.specs.Symbols as scan
use Rattle.rcv_lexer.specs.Symbols.{number_of, unquoted}
use Rattle.rcv_script.specs.declared.sign.Sign.{Sign}
use Rattle.rcv_script.specs.declared.sign.Sign.TheVariants.{Open, Close, Left, Right, Semicolon, Equals, Less, AtMost}
use Rattle.rcv_script.specs.declared.sign.Sign.TheVariants.{Same, Differ, More, AtLeast, Plus, Minus, Times, Foreign}
pub use Rattle.rcv_lexer.specs.Symbols.{Is, Word, Number, Text, IsNotNext, NoWord, NoNumber, line_before}

abbrev pub Symbol : Type 0
Symbol = scan.Symbol Sign

-- the marks of the grammar, and any other one
abbrev pub mark : List ℕ → Sign
mark m =
    if bytes_eq m (codes "{") then Open
    else (if bytes_eq m (codes "}") then Close
    else (if bytes_eq m (codes "(") then Left
    else (if bytes_eq m (codes ")") then Right
    else (if bytes_eq m (codes ";") then Semicolon
    else (if bytes_eq m (codes "=") then Equals
    else (if bytes_eq m (codes "<") then Less
    else (if bytes_eq m (codes "<=") then AtMost
    else (if bytes_eq m (codes "==") then Same
    else (if bytes_eq m (codes "!=") then Differ
    else (if bytes_eq m (codes ">") then More
    else (if bytes_eq m (codes ">=") then AtLeast
    else (if bytes_eq m (codes "+") then Plus
    else (if bytes_eq m (codes "-") then Minus
    else (if bytes_eq m (codes "*") then Times
    else Foreign))))))))))))))

-- the greatest number of a script
abbrev pub greatest : ℕ
greatest = 9223372036854775807

-- a number that a script may have
abbrev pub number_or_foreign : ℕ → Symbol
number_or_foreign n = if nat_le n greatest then Number n else Is Foreign

-- what a token of this kind with these bytes says
abbrev pub symbol_by : Kind → List ℕ → Symbol
symbol_by kinds.Word bytes = Word bytes
symbol_by kinds.Number digits = number_or_foreign (number_of digits)
symbol_by kinds.Text bytes = Text (unquoted bytes)
symbol_by kinds.Mark bytes = Is (mark bytes)

-- what the tokens of the bundle say, one after another
abbrev pub symbols_of : List ℕ → List Token → List Symbol
symbols_of = scan.symbols_of symbol_by
