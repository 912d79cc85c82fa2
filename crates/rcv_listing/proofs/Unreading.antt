-- What is found in a part is the input's first refusal, if the parts before it are read.
use Rattle.std.proofs.Common.{◌≡◌, ℕ, List, [], ◌++◌, sym, refl, ◌∙◌, ap, subst, inl, inr, append_assoc, append-nil, Option, Some, None}
use Rattle.std.specs.Prelude.{MatchOption, Result, Ok, Err, IfOk}
use Rattle.std.specs.declared.alloc.AllocError.{AllocError}
use Rattle.rcv_tree.specs.declared.protocol.Protocol.{Protocol}
use Rattle.rcv_lexer.specs.declared.token.Span.{Span}
use Rattle.rcv_lexer.specs.Parts.{parts_of}
use Rattle.rcv_input.specs.Input.{IsAcceptedOf}
use Rattle.rcv_input.specs.Refusals.{IsFirstRefusal, letter, unread, script_letter, unscripted, plan_letter, unplanned}
use Rattle.rcv_input.specs.declared.refused.Refused.TheVariants.{Line}
use Rattle.rcv_input.specs.Line.{refusal_line}
use Rattle.rcv_explain.specs.declared.explanation.Explanation.{Explanation}
use Rattle.rcv_explain.specs.Explained.{HasRule, IsNamed}
use Rattle.rcv_found.specs.declared.finding.Finding.{Finding}
use Rattle.rcv_found.specs.Grammars.{GrammarView, OfProtocol, OfScripts, OfPlan}
use Rattle.rcv_found.specs.Findings.{IsFindingIn}
use Rattle.rcv_found.specs.declared.finding.Finding.TheVariants as findings
use Rattle.rcv_found.proofs.Lining.{refused_there, letter_line}
use Rattle.rcv_listing.specs.declared.unread.Unread.{Unread}
use Rattle.rcv_listing.specs.Lines.{rule_text}
use Rattle.rcv_listing.specs.Unread.{IsSaidBy, IsUnreadIn, IsUncalled, IsUnread, IsHalfRead, IsRuleTold, wrong_part, AddsUnread}
use Rattle.rcv_listing.specs.Listing.{AreRestRead}

pub first_of_protocol : (input : List ℕ) (u : Unread) → IsUnreadIn OfProtocol input (parts_of input).protocol u
    → IsFirstRefusal input (Line u.code u.line)
first_of_protocol input u (findings.Letter told, is, said) =
    rw (said.0, said.1) (letter told.spot.line (letter_line OfProtocol input (parts_of input).protocol told is))
first_of_protocol input u (findings.Wrong w, is, said) =
    rw (said.0, said.1) (unread is.0 w.code w.spot.line is.1 (refused_there OfProtocol input is.0 (parts_of input).protocol.end w is.2))
first_of_protocol input u (findings.Taken, is, said) = absurd said

pub first_of_scripts : (input : List ℕ) (p : Protocol) (u : Unread) → IsAcceptedOf input p
    → IsUnreadIn (OfScripts (record { protocol = p })) input (parts_of input).scripts u → IsFirstRefusal input (Line u.code u.line)
first_of_scripts input p u accepted (findings.Letter told, is, said) =
    rw (said.0, said.1) (script_letter p told.spot.line accepted
    (letter_line (OfScripts (record { protocol = p })) input (parts_of input).scripts told is))
first_of_scripts input p u accepted (findings.Wrong w, is, said) =
    rw (said.0, said.1) (unscripted p is.0 w.code w.spot.line accepted is.1
    (refused_there (OfScripts (record { protocol = p })) input is.0 (parts_of input).scripts.end w is.2))
first_of_scripts input p u accepted (findings.Taken, is, said) = absurd said

pub first_of_plan : (input : List ℕ) (p : Protocol) (u : Unread) → IsAcceptedOf input p
    → IsFindingIn (OfScripts (record { protocol = p })) input (parts_of input).scripts findings.Taken
    → IsUnreadIn (OfPlan (record { protocol = p })) input (parts_of input).plan u → IsFirstRefusal input (Line u.code u.line)
first_of_plan input p u accepted (tokens, cut, taken) (findings.Letter told, is, said) =
    rw (said.0, said.1) (plan_letter p taken.0 told.spot.line accepted (record { tokens = tokens; cut = cut; read = taken.1 })
    (letter_line (OfPlan (record { protocol = p })) input (parts_of input).plan told is))
first_of_plan input p u accepted (tokens, cut, taken) (findings.Wrong w, is, said) =
    rw (said.0, said.1) (unplanned p taken.0 is.0 w.code w.spot.line accepted (record { tokens = tokens; cut = cut; read = taken.1 }) is.1
    (refused_there (OfPlan (record { protocol = p })) input is.0 (parts_of input).plan.end w is.2))
first_of_plan input p u accepted taken (findings.Taken, is, said) = absurd said

-- ---- what is said of each part

pub said_of : (g : GrammarView) (input : List ℕ) (part : Span) (o : Option Unread) (found : Finding) → IsFindingIn g input part found
    → MatchOption o (found ≡ findings.Taken) (IsSaidBy found)
    → MatchOption o (IsFindingIn g input part findings.Taken) (IsUnreadIn g input part)
said_of g input part (Some u) found is said = (found, is, said)
said_of g input part None found is taken = subst (IsFindingIn g input part) taken is

pub protocol_unread : (input : List ℕ) (part : Span) (u : Unread) → part ≡ (parts_of input).protocol → IsUnreadIn OfProtocol input part u
    → IsUnread input u
protocol_unread input part u same h =
    let there : IsUnreadIn OfProtocol input (parts_of input).protocol u = subst (λ (s : Span). IsUnreadIn OfProtocol input s u) same h in
    record { first = first_of_protocol input u there; said = inl there }

pub protocol_uncalled : (input : List ℕ) (part : Span) (code line : ℕ) → part ≡ (parts_of input).protocol
    → IsFirstRefusal input (Line code line) → IsFindingIn OfProtocol input part findings.Taken
    → IsUnread input (record { code = code; line = line; wrong = None })
protocol_uncalled input part code line same first taken =
    let there : IsFindingIn OfProtocol input (parts_of input).protocol findings.Taken = subst (λ (s : Span). IsFindingIn OfProtocol input s findings.Taken) same taken in
    let uncalled : IsUncalled input (record { code = code; line = line; wrong = None })
    = record { tokens = there.0; cut = there.1; read = there.2; silent = refl } in
    record { first = first; said = inr uncalled }

pub scripts_unread : (input : List ℕ) (part : Span) (p : Protocol) (u : Unread) → part ≡ (parts_of input).scripts → IsAcceptedOf input p
    → IsUnreadIn (OfScripts (record { protocol = p })) input part u → IsHalfRead input p u
scripts_unread input part p u same accepted h =
    let there : IsUnreadIn (OfScripts (record { protocol = p })) input (parts_of input).scripts u
    = subst (λ (s : Span). IsUnreadIn (OfScripts (record { protocol = p })) input s u) same h in
    record { first = first_of_scripts input p u accepted there; said = inl there }

plan_unread : (input : List ℕ) (scripts plan : Span) (p : Protocol) (o : Option Unread) → scripts ≡ (parts_of input).scripts
    → plan ≡ (parts_of input).plan → IsAcceptedOf input p → IsFindingIn (OfScripts (record { protocol = p })) input scripts findings.Taken
    → MatchOption o (IsFindingIn (OfPlan (record { protocol = p })) input plan findings.Taken) (IsUnreadIn (OfPlan (record { protocol = p })) input plan)
    → MatchOption o (AreRestRead input p) (IsHalfRead input p)
plan_unread input scripts plan p (Some u) same there accepted taken h =
    let read : IsFindingIn (OfScripts (record { protocol = p })) input (parts_of input).scripts findings.Taken
    = subst (λ (s : Span). IsFindingIn (OfScripts (record { protocol = p })) input s findings.Taken) same taken in
    let found : IsUnreadIn (OfPlan (record { protocol = p })) input (parts_of input).plan u
    = subst (λ (s : Span). IsUnreadIn (OfPlan (record { protocol = p })) input s u) there h in
    record { first = first_of_plan input p u accepted read found; said = inr found }
plan_unread input scripts plan p None same there accepted taken h =
    let read : IsFindingIn (OfScripts (record { protocol = p })) input (parts_of input).scripts findings.Taken
    = subst (λ (s : Span). IsFindingIn (OfScripts (record { protocol = p })) input s findings.Taken) same taken in
    let also : IsFindingIn (OfPlan (record { protocol = p })) input (parts_of input).plan findings.Taken
    = subst (λ (s : Span). IsFindingIn (OfPlan (record { protocol = p })) input s findings.Taken) there h in
    record { are_scripts = read; plan = also }

pub rest_unread : (input : List ℕ) (scripts plan : Span) (p : Protocol) (result : Result (Option Unread) AllocError) → scripts ≡ (parts_of input).scripts
    → plan ≡ (parts_of input).plan → IsAcceptedOf input p → IsFindingIn (OfScripts (record { protocol = p })) input scripts findings.Taken
    → IfOk result (λ o. MatchOption o (IsFindingIn (OfPlan (record { protocol = p })) input plan findings.Taken) (IsUnreadIn (OfPlan (record { protocol = p })) input plan))
    → IfOk result (λ o. MatchOption o (AreRestRead input p) (IsHalfRead input p))
rest_unread input scripts plan p (Ok o) same there accepted taken h = plan_unread input scripts plan p o same there accepted taken h
rest_unread input scripts plan p (Err e) same there accepted taken h = tt

-- ---- what is written

pub rule_told : (code : ℕ) (e : Explanation) (before after : List ℕ) → IsNamed code e.name.now → after ≡ before ++ rule_text e
    → (told : List ℕ) × IsRuleTold code told × (after ≡ before ++ told)
rule_told code e before after named is = (rule_text e, inl (e, named, refl), is)

pub no_rule_told : (code : ℕ) (before : List ℕ) → (HasRule code → ⊥) → (told : List ℕ) × IsRuleTold code told × (before ≡ before ++ told)
no_rule_told code before none = ([], inr (none, refl), sym (append-nil before))

pub unread_added : (input : List ℕ) (u : Unread) (s t v w line given : List ℕ) → line ≡ refusal_line (Line u.code u.line) → given ≡ line
    → t ≡ s ++ given → v ≡ t ++ wrong_part input u.wrong → (told : List ℕ) × IsRuleTold u.code told × (w ≡ v ++ told) → AddsUnread input u s w
unread_added input u s t v w line given is same one two (told, rule, last) = (
  told,
  rule,
  last ∙ ap (λ l. l ++ told) (two ∙ ap (λ l. l ++ wrong_part input u.wrong) (one ∙ ap (λ l. s ++ l) (same ∙ is))
      ∙ append_assoc s (refusal_line (Line u.code u.line)) (wrong_part input u.wrong))
      ∙ append_assoc s (refusal_line (Line u.code u.line) ++ wrong_part input u.wrong) told,
)
