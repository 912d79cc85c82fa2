-- Tokens with a thing after them, to try it.
use Rattle.std.specs.Prelude.{ℕ, ◌+◌, List, [], ◌∷◌, ◌++◌, length, Option, Some, None}
use Rattle.rcv_lexer.specs.declared.token.Kind.{Kind}
use Rattle.rcv_lexer.specs.declared.token.Token.{Token}
use Rattle.rcv_found.specs.Things.{ThingView}

-- The bundle with the thing's bytes after it, and the token that they are; no token for the end.
abbrev pub bytes_with : List ℕ → ThingView → List ℕ
bytes_with bundle x = bundle ++ x.bytes

abbrev pub token_by : Option Kind → ℕ → ℕ → List Token
token_by None start end = []
token_by (Some kind) start end = record { kind = kind; span = record { start = start; end = end }; line = 0 } ∷ []

abbrev pub tokens_with : List ℕ → List Token → ThingView → List Token
tokens_with bundle front x = front ++ token_by x.kind (length bundle) (length bundle + length x.bytes)
