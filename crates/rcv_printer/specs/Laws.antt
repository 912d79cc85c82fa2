-- What holds of canonical texts.
use Rattle.std.specs.Prelude.{◌≡◌, ℕ, List, [], length}
use Rattle.rcv_tree.specs.declared.protocol.Protocol.{Protocol}
use Rattle.rcv_tree.specs.declared.module.Module.{Module}
use Rattle.rcv_model.specs.Text.{body_of}
use Rattle.rcv_module.specs.Parts.{calls}
use Rattle.rcv_module.specs.Answers.{IsExpanded}
use Rattle.rcv_lexer.specs.declared.token.Span.{Span}
use Rattle.rcv_lexer.specs.declared.token.Token.{Token}
use Rattle.rcv_lexer.specs.Parts.{span, parts_of}
use Rattle.rcv_lexer.specs.Tokens.{AreTokens}
use Rattle.rcv_syntax.specs.Symbols.{Symbol, symbols_of}
use Rattle.rcv_syntax.specs.Grammar.{spelling}
use Rattle.rcv_reader.specs.Refusals.{AreReadAs, IsRead}
use Rattle.rcv_grammar.specs.Canonical.{source_of}
use Rattle.rcv_printer.specs.CanonicalText.{canonical}
use Rattle.rcv_grammar.specs.Printable.{IsPrintable}

-- the whole text
abbrev pub whole : List ℕ → Span
whole text = span 0 (length text)

-- No line of the text separates parts: it is all the protocol's part, with empty scripts and an empty plan.
abbrev pub IsOnePart : List ℕ → Type 0
IsOnePart text =
    parts_of text ≡ record {
      protocol = whole text;
      scripts = span (length text) (length text);
      plan = span (length text) (length text);
    }

-- The text is one part, and its tokens say these symbols.
pub record IsTextOf (text : List ℕ) (symbols : List Symbol) : Type 0 where
  pub one_part : IsOnePart text
  pub tokens : List Token
  pub are_tokens : AreTokens text (whole text) tokens
  pub say : symbols_of text tokens ≡ symbols

-- The canonical text of a printable protocol spells its source.
abbrev pub CanonicalTextsAreSpelled : Type 0
CanonicalTextsAreSpelled = (p : Protocol) → IsPrintable p → IsTextOf (canonical p) (spelling (source_of p))

-- The first protocol of a module that was read is printable.
abbrev pub ReadProtocolsArePrintable : Type 0
ReadProtocolsArePrintable =
    (bundle : List ℕ) (part : Span) (tokens : List Token) (main : Protocol) (others : List Protocol) → AreTokens bundle part tokens
    → AreReadAs (symbols_of bundle tokens) main others → IsPrintable main

-- The text is one part, and its tokens are read as a module of this protocol alone.
pub record IsReadAs (text : List ℕ) (p : Protocol) : Type 0 where
  pub one_part : IsOnePart text
  pub tokens : List Token
  pub are_tokens : AreTokens text (whole text) tokens
  pub read : AreReadAs (symbols_of text tokens) p []

-- The canonical text of the first protocol of a module that was read is read as this protocol, with its calls.
abbrev pub CanonicalTextsReadBack : Type 0
CanonicalTextsReadBack =
    (bundle : List ℕ) (part : Span) (tokens : List Token) (main : Protocol) (others : List Protocol) → AreTokens bundle part tokens
    → AreReadAs (symbols_of bundle tokens) main others → IsReadAs (canonical main) main

-- What is read from the canonical text of a protocol that was read has this same canonical text.
abbrev pub CanonicalTextsStay : Type 0
CanonicalTextsStay =
    (bundle : List ℕ) (part : Span) (tokens : List Token) (p q : Protocol) (others : List Protocol) → AreTokens bundle part tokens
    → AreReadAs (symbols_of bundle tokens) p others → IsReadAs (canonical p) q → canonical q ≡ canonical p

-- No call is left in the protocol's text.
abbrev pub HasNoCalls : Protocol → Type 0
HasNoCalls p = calls 0 (body_of p.body) ≡ []

-- The canonical text of the expansion of a module that was read is read as the expansion alone, in which no call is left.
abbrev pub ExpansionsReadBack : Type 0
ExpansionsReadBack =
    (bundle : List ℕ) (part : Span) (tokens : List Token) (m : Module) (p : Protocol) → AreTokens bundle part tokens
    → IsRead bundle tokens m → IsExpanded m p → IsReadAs (canonical p) p × HasNoCalls p

-- What is read from the canonical text of an expansion is expanded to what has this same canonical text.
abbrev pub ExpansionsStay : Type 0
ExpansionsStay =
    (bundle : List ℕ) (part : Span) (tokens again : List Token) (m n : Module) (p q : Protocol) → AreTokens bundle part tokens
    → IsRead bundle tokens m → IsExpanded m p → AreTokens (canonical p) (whole (canonical p)) again → IsRead (canonical p) again n
    → IsExpanded n q → canonical q ≡ canonical p
