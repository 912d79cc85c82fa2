-- What contracts see of a token.
use Rattle.std.specs.Prelude.{ℕ}
use Rattle.rcv_lexer.specs.declared.token.Span.{Span}
use Rattle.rcv_lexer.specs.declared.token.Kind.{Kind}

-- what it is, where it stands, and the line of its first byte
pub record Seen : Type 0 where
  pub kind : Kind
  pub span : Span
  pub line : ℕ

abbrev pub token : Kind → ℕ → ℕ → ℕ → Seen
token kind start end line = record { kind = kind; span = record { start = start; end = end }; line = line }
