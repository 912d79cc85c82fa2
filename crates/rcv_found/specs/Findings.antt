-- What is found in a part of an input.
use Rattle.std.specs.Prelude.{ℕ, List}
use Rattle.rcv_lexer.specs.declared.token.Span.{Span}
use Rattle.rcv_lexer.specs.declared.token.Token.{Token}
use Rattle.rcv_lexer.specs.Parts.{LiesIn}
use Rattle.rcv_lexer.specs.Tokens.{AreTokens}
use Rattle.rcv_found.specs.declared.finding.Finding.{Finding}
use Rattle.rcv_found.specs.declared.finding.Finding.TheVariants as findings
use Rattle.rcv_found.specs.Grammars.{GrammarView}
use Rattle.rcv_found.specs.Stops.{IsTakenBy}
use Rattle.rcv_found.specs.Spots.{IsWrongAt}
use Rattle.rcv_found.specs.Letters.{IsLetterTold}

-- This is told of the part's bad letter; or the part has tokens, and this is wrong with them; or it has tokens, and they are read.
abbrev pub IsFindingIn : GrammarView → List ℕ → Span → Finding → Type 0
IsFindingIn g input part (findings.Letter told) = IsLetterTold g input part told
IsFindingIn g input part (findings.Wrong wrong) = (tokens : List Token) × AreTokens input part tokens × IsWrongAt g input tokens part.end wrong
IsFindingIn g input part findings.Taken = (tokens : List Token) × AreTokens input part tokens × IsTakenBy g input tokens

-- What is wrong stands in the input.
abbrev pub LiesWrong : List ℕ → Finding → Type 0
LiesWrong input (findings.Letter told) = LiesIn input told.spot.span
LiesWrong input (findings.Wrong wrong) = LiesIn input wrong.spot.span
LiesWrong input _ = Unit {0}
