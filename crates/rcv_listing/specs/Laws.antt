-- What holds of the lines of a listing.
use Rattle.std.specs.Prelude.{◌≡◌, ℕ, List, ◌∷◌, map}
use Rattle.rcv_tree.specs.Lists.{protocols}
use Rattle.rcv_tree.specs.declared.module.Module.{Module}
use Rattle.rcv_tree.specs.declared.protocol.Protocol.{Protocol}
use Rattle.rcv_tree.specs.Names.{name_at}
use Rattle.rcv_model.specs.Text.{body_of}
use Rattle.rcv_model.specs.Places.{SingleMessage, singles}
use Rattle.rcv_lexer.specs.declared.token.Token.{Token}
use Rattle.rcv_lexer.specs.Tokens.{bytes_of, line_at}
use Rattle.rcv_syntax.specs.Trees.{lines_of_calls}
use Rattle.rcv_reader.specs.Refusals.{IsRead}
use Rattle.rcv_input.specs.Input.{AreProtocolTokens}
use Rattle.rcv_listing.specs.Receivers.{calls_in, receivers_of_all, receiver_lines}

-- The names of the receivers of messages, in order; and of the messages of a protocol's own text.
abbrev pub receivers_in : List (List ℕ) → List (ℕ × SingleMessage) → List (List ℕ)
receivers_in roles messages = map (λ (e : ℕ × SingleMessage). name_at roles e.1.receiver) messages

abbrev pub named_by : Protocol → List (List ℕ)
named_by p = receivers_in p.roles (singles (body_of p.body))

-- What is written at tokens, and the lines of their first bytes.
abbrev pub written_at : List ℕ → List Token → List (List ℕ)
written_at input tokens = map (λ (t : Token). bytes_of input t) tokens

abbrev pub first_lines : List ℕ → List Token → List ℕ
first_lines input tokens = map (λ (t : Token). line_at input t.span.start) tokens

-- If the tokens of a protocol part are read as a module: those of each protocol that are receivers name the receivers of its points, one
-- for each, in order; and the lines of a listing are those of their first bytes, and of the first bytes of the words `do`.
pub record LinesAreThoseOfReceivers : Type 0 where
  pub named : (input : List ℕ) (tokens : List Token) (m : Module) → IsRead input tokens m
      → map (written_at input) (receivers_of_all input tokens) ≡ map named_by (m.main ∷ protocols m.others)
  pub lines : (input : List ℕ) (tokens : List Token) → AreProtocolTokens input tokens
      → receiver_lines input tokens ≡ map (first_lines input) (receivers_of_all input tokens)
  pub calls : (input : List ℕ) (tokens : List Token) → AreProtocolTokens input tokens
      → lines_of_calls input tokens ≡ first_lines input (calls_in input tokens)
