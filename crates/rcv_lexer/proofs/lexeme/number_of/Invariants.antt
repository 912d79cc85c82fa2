use Rattle.std.proofs.Common.{◌≡◌, ◌≤◌, drop}
use Rattle.rcv_lexer.specs.Symbols.{decimal, capped, greatest}
use Rattle.rcv_lexer.proofs.lexeme.number_of.Given as goal

abbrev pub invariant-loop-digit : goal.invariant-loop-digit
invariant-loop-digit l = (capped (decimal l.number (drop l.digit-index l.digits)) ≡ capped (decimal 0 l.digits)) × (l.number ≤ greatest)
