-- Why a part of an input isn't read, and what is said of it.
use Rattle.std.specs.Prelude.{◌≡◌, ◌⊎◌, ℕ, List, [], ◌++◌, Option, Some, None, IfSome}
use Rattle.rcv_tree.specs.declared.protocol.Protocol.{Protocol}
use Rattle.rcv_lexer.specs.declared.token.Span.{Span}
use Rattle.rcv_lexer.specs.declared.token.Token.{Token}
use Rattle.rcv_lexer.specs.Parts.{LiesIn, parts_of}
use Rattle.rcv_input.specs.Line.{refusal_line}
use Rattle.rcv_input.specs.Input.{AreProtocolTokens}
use Rattle.rcv_input.specs.Refusals.{IsFirstRefusal}
use Rattle.rcv_input.specs.declared.refused.Refused.TheVariants.{Line}
use Rattle.rcv_found.specs.Grammars.{GrammarView, OfProtocol, OfScripts, OfPlan}
use Rattle.rcv_found.specs.Stops.{AreModule}
use Rattle.rcv_found.specs.Findings.{IsFindingIn}
use Rattle.rcv_found.specs.declared.finding.Finding.{Finding}
use Rattle.rcv_found.specs.declared.finding.Finding.TheVariants as findings
use Rattle.rcv_found.specs.declared.wrong.Wrong.{Wrong}
use Rattle.rcv_explain.specs.declared.explanation.Explanation.{Explanation}
use Rattle.rcv_explain.specs.Explained.{HasRule, IsNamed}
use Rattle.rcv_listing.specs.declared.unread.Unread.{Unread}
use Rattle.rcv_listing.specs.Found.{wrong_text}
use Rattle.rcv_listing.specs.Lines.{rule_text}

-- What is said of a bad letter, and of wrong tokens.
abbrev pub IsSaidBy : Finding → Unread → Type 0
IsSaidBy (findings.Letter told) u = (u.code ≡ 10) × (u.line ≡ told.spot.line) × (u.wrong ≡ Some told)
IsSaidBy (findings.Wrong w) u = (u.code ≡ w.code) × (u.line ≡ w.spot.line) × (u.wrong ≡ Some w)
IsSaidBy findings.Taken u = ⊥

-- What it says of tokens stands in the input.
abbrev pub LiesSaid : List ℕ → Unread → Type 0
LiesSaid input u = IfSome u.wrong (λ (w : Wrong). LiesIn input w.spot.span)

-- This is found in the part, and said.
abbrev pub IsUnreadIn : GrammarView → List ℕ → Span → Unread → Type 0
IsUnreadIn g input part u = (found : Finding) × IsFindingIn g input part found × IsSaidBy found u

-- The first refusal of an input is in its protocol part: at a letter or a token; or at a call, and there nothing is said of tokens.
pub record IsUncalled (input : List ℕ) (u : Unread) : Type 0 where
  pub tokens : List Token
  pub cut : AreProtocolTokens input tokens
  pub read : AreModule input tokens
  pub silent : u.wrong ≡ None

pub record IsUnread (input : List ℕ) (u : Unread) : Type 0 where
  pub first : IsFirstRefusal input (Line u.code u.line)
  pub said : IsUnreadIn OfProtocol input (parts_of input).protocol u ⊎ IsUncalled input u

-- The protocol is accepted, and the first refusal is in the scripts part; or that is read, and it is in the plan part.
pub record IsHalfRead (input : List ℕ) (p : Protocol) (u : Unread) : Type 0 where
  pub first : IsFirstRefusal input (Line u.code u.line)
  pub said : IsUnreadIn (OfScripts (record { protocol = p })) input (parts_of input).scripts u
      ⊎ IsUnreadIn (OfPlan (record { protocol = p })) input (parts_of input).plan u

-- What is said of the rule with this code, if there is one.
abbrev pub IsRuleTold : ℕ → List ℕ → Type 0
IsRuleTold code told = ((e : Explanation) × IsNamed code e.name.now × (told ≡ rule_text e)) ⊎ ((HasRule code → ⊥) × (told ≡ []))

abbrev pub wrong_part : List ℕ → Option Wrong → List ℕ
wrong_part input None = []
wrong_part input (Some w) = wrong_text input w

-- The text goes on with the refusal's line, what was found, and the rule with its repair.
abbrev pub AddsUnread : List ℕ → Unread → List ℕ → List ℕ → Type 0
AddsUnread input u before after =
    (told : List ℕ) × IsRuleTold u.code told × (after ≡ before ++ (refusal_line (Line u.code u.line) ++ wrong_part input u.wrong ++ told))
