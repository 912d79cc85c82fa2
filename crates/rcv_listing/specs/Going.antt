-- What may stand after the tokens before a refusal: some module goes on so. No module goes on with anything else.
use Rattle.std.specs.Prelude.{ℕ, List, [], ◌∷◌, ◌++◌, take, false, Some}
use Rattle.rcv_lexer.specs.declared.token.Kind.{Kind}
use Rattle.rcv_lexer.specs.declared.token.Token.{Token}
use Rattle.rcv_syntax.specs.Symbols.{Symbol, Word, symbol_by, symbols_of}
use Rattle.rcv_syntax.specs.Grammar.{IsBeginning}
use Rattle.rcv_input.specs.Input.{AreProtocolTokens}
use Rattle.rcv_found.specs.Grammars.{OfProtocol}
use Rattle.rcv_found.specs.Things.{thing}
use Rattle.rcv_found.specs.Stops.{IsFirstAt}
use Rattle.rcv_found.specs.May.{IsNotHad}

-- A symbol that isn't a name, or is the empty name, which stands for all names.
abbrev pub IsTame : Symbol → Type 0
IsTame (Word (b ∷ bs)) = ⊥
IsTame _ = Unit {0}

-- If the reader refuses a text by the grammar at a token, some module begins with the tokens before it and any such symbol that the grammar
-- has there. No module begins with tokens and a symbol that the grammar doesn't have after them.
pub record ListedGoOn : Type 0 where
  pub some : (input : List ℕ) (tokens : List Token) (place : ℕ) (kind : Kind) (bytes : List ℕ) → AreProtocolTokens input tokens
      → IsFirstAt OfProtocol input tokens 11 place → IsTame (symbol_by kind bytes)
      → (IsNotHad OfProtocol input (take place tokens) (thing (Some kind) bytes false) → ⊥)
      → IsBeginning (symbols_of input (take place tokens) ++ symbol_by kind bytes ∷ [])
  pub none : (input : List ℕ) (front : List Token) (kind : Kind) (bytes : List ℕ)
      → IsNotHad OfProtocol input front (thing (Some kind) bytes false)
      → IsBeginning (symbols_of input front ++ symbol_by kind bytes ∷ []) → ⊥
