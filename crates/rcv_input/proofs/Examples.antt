-- Worked refusals, and lines that say them.
use Rattle.std.proofs.Common.{◌≡◌, [], ◌∷◌, codes, Some, None, refl}
use Rattle.std.specs.Fmt.{digits}
use Rattle.rcv_lexer.specs.declared.token.Kind.TheVariants.{Word}
use Rattle.rcv_lexer.specs.declared.token.Token.{Token}
use Rattle.rcv_lexer.specs.Parts.{span}
use Rattle.rcv_syntax.specs.declared.fault.Fault.TheVariants as faults
use Rattle.rcv_syntax.specs.Symbols.{symbols_of}
use Rattle.rcv_machine.proofs.Exactly.{refusal_is_first}
use Rattle.rcv_input.specs.declared.refused.Refused.TheVariants.{Line, Rule, NoRole, TooMuch}
use Rattle.rcv_input.specs.Refusals.{IsFirstRefusal, letter, unread}
use Rattle.rcv_input.specs.Line.{refusal_line}

token_line : refusal_line (Line 11 2) ≡ codes "refused 11 Token line 2\n"
unfolding digits
token_line = refl

last_code : refusal_line (Line 43 131) ≡ codes "refused 43 Range line 131\n"
unfolding digits
last_code = refl

rule_line : refusal_line (Rule 24 (codes "C") 0) ≡ codes "refused 24 NotEnabled C 0\n"
unfolding digits
rule_line = refl

too_much_line : refusal_line TooMuch ≡ codes "refused 55 TooMuch\n"
too_much_line = refl

no_role_line : refusal_line NoRole ≡ codes "refused 27 NoRole\n"
no_role_line = refl

-- a bad letter on the second line
bad_letter : IsFirstRefusal (codes "\n#") (Line 10 2)
bad_letter = letter 2 (1, (record { token = None; len = 1 } ∷ [], codes "#", (refl, refl), λ e. cc, refl, refl), refl)

-- cut off behind a line feed
abbrev word_module : Token
word_module = record { kind = Word; span = span 0 6; line = 1 }

cut_off : IsFirstRefusal (codes "module\n") (Line 11 2)
cut_off = unread (word_module ∷ []) 11 2 (record { token = Some Word; len = 6 } ∷ record { token = None; len = 1 } ∷ [], (refl, (refl, refl)), refl) (faults.Token, [], refusal_is_first (symbols_of (codes "module\n") (word_module ∷ [])) faults.Token [] refl, refl)
