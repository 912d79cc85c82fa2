-- Where the receivers of messages and the calls stand among the tokens of a module.
use Rattle.std.specs.Prelude.{ℕ, Bool, true, false, if◌then◌else◌, List, [], ◌∷◌, map}
use Rattle.rcv_lexer.specs.declared.token.Token.{Token}
use Rattle.rcv_lexer.specs.Symbols.{symbol_of}
use Rattle.rcv_syntax.specs.declared.sign.Sign.{Sign}
use Rattle.rcv_syntax.specs.declared.sign.Sign.TheVariants.{Global, To, Semicolon}
use Rattle.rcv_syntax.specs.Symbols.{Symbol, Is, Word, symbol_by}
use Rattle.rcv_syntax.specs.Trees.{is_call}

-- Whether a list of receivers goes on after this sign: it begins after `to`, and ends at a semicolon.
abbrev pub listed_behind : Bool → Sign → Bool
listed_behind listed To = true
listed_behind listed Semicolon = false
listed_behind listed other = listed

abbrev pub goes_on : Bool → Symbol → Bool
goes_on listed (Is sign) = listed_behind listed sign
goes_on listed other = listed

-- Whether a symbol is a receiver, which is a name in such a list.
abbrev pub is_receiver : Bool → Symbol → Bool
is_receiver listed (Word name) = listed
is_receiver listed other = false

-- what a token says to the grammar
abbrev pub said_by : List ℕ → Token → Symbol
said_by input token = symbol_of symbol_by input token

-- The tokens that are receivers, in order. They begin inside a list of receivers or not.
abbrev pub receivers_of : List ℕ → Bool → List Token → List Token
receivers_of input listed [] = []
receivers_of input listed (t ∷ ts) =
    if is_receiver listed (said_by input t) then t ∷ receivers_of input (goes_on listed (said_by input t)) ts
    else receivers_of input (goes_on listed (said_by input t)) ts

-- Whether a symbol is the word `global`. A protocol stands after that word.
abbrev pub is_global : Symbol → Bool
is_global (Is Global) = true
is_global other = false

-- The tokens up to the next protocol, and those of each protocol.
abbrev pub up_to_next : List ℕ → List Token → List Token
up_to_next input [] = []
up_to_next input (t ∷ ts) = if is_global (said_by input t) then [] else t ∷ up_to_next input ts

abbrev pub texts_of : List ℕ → List Token → List (List Token)
texts_of input [] = []
texts_of input (t ∷ ts) = if is_global (said_by input t) then up_to_next input ts ∷ texts_of input ts else texts_of input ts

-- The receivers of each protocol, and their lines.
abbrev pub receivers_of_all : List ℕ → List Token → List (List Token)
receivers_of_all input tokens = map (receivers_of input false) (texts_of input tokens)

abbrev pub lines_of : List Token → List ℕ
lines_of tokens = map (λ (t : Token). t.line) tokens

abbrev pub receiver_lines : List ℕ → List Token → List (List ℕ)
receiver_lines input tokens = map lines_of (receivers_of_all input tokens)

-- The words `do`, in order.
abbrev pub calls_in : List ℕ → List Token → List Token
calls_in input [] = []
calls_in input (t ∷ ts) = if is_call (said_by input t) then t ∷ calls_in input ts else calls_in input ts
