-- What each step of reading an input says of it.
use Rattle.std.proofs.Common.{◌≡◌, ℕ, ◌<◌, refl, List, length, sym, ap, subst, ◌∙◌}
use Rattle.std.specs.Prelude.{Result, Ok, Err, MatchResult, IfOk}
use Rattle.rcv_tree.specs.declared.module.Module.{Module}
use Rattle.rcv_tree.specs.declared.protocol.Protocol.{Protocol}
use Rattle.rcv_tree.specs.declared.refusal.Refusal.TheVariants as refusals
use Rattle.rcv_model.specs.Text.{body_of}
use Rattle.rcv_module.specs.declared.origin.Origins.{Origins}
use Rattle.rcv_module.specs.Answers as answers
use Rattle.rcv_module.specs.Origins.{AreOriginsOf}
use Rattle.rcv_module.specs.Refusing as modules
use Rattle.rcv_do.specs.Faults.{FailsBy}
use Rattle.rcv_lexer.specs.declared.token.Span.{Span}
use Rattle.rcv_lexer.specs.declared.token.Token.{Token}
use Rattle.rcv_tree.specs.declared.refusal.TextError.{TextError}
use Rattle.rcv_tree.specs.declared.refusal.TextError.TheVariants as errors
use Rattle.rcv_lexer.specs.Parts.{parts_of}
use Rattle.rcv_lexer.specs.Tokens as lexer
use Rattle.rcv_lexer.specs.Tokens.{AreTokens, line_at}
use Rattle.rcv_model.specs.Plan.{PlanLine}
use Rattle.rcv_syntax.specs.Symbols as protocols
use Rattle.rcv_syntax.specs.Codes.{code_of}
use Rattle.rcv_reader.specs.Refusals as reader
use Rattle.rcv_script.specs.Symbols as scripts
use Rattle.rcv_script.specs.Refusals as scripting
use Rattle.rcv_script.specs.Scripts as own
use Rattle.rcv_script.specs.Scripts.{ScriptsView}
use Rattle.rcv_plan.specs.Symbols as plans
use Rattle.rcv_plan.specs.Refusing as planning
use Rattle.rcv_model.specs.Script as model
use Rattle.rcv_input.specs.Input.{IsProtocolOf, AreOriginsIn, IsAcceptedOf, AreScriptsOf, IsPlanOf}
use Rattle.rcv_input.specs.declared.refused.Refused.TheVariants as refused
use Rattle.rcv_input.specs.declared.refused.Refused.TheVariants.{Rule, NoRole, TooMuch}
use Rattle.rcv_input.specs.declared.refused.InputError.{InputError}
use Rattle.rcv_input.specs.declared.refused.InputError.TheVariants as causes
use Rattle.rcv_input.specs.Refusals.{letter, unread, uncallable, ruled_out, script_letter, unscripted, plan_letter, unplanned, IsRefused, IsUnread, IsUnscripted, IsUnplanned, IsRule, IsRuledOut}
use Rattle.rcv_tree.specs.declared.refusal.Refusal.{Refusal}
use Rattle.rcv_model.specs.Form.{HasForm}
use Rattle.rcv_accept.specs.Accepted.{IsRefusedBy}
use Rattle.rcv_input.proofs.Declared.{refused_role_declared}

pub by_letter : (input : List ℕ) (e : TextError) → lexer.IsRefused input (parts_of input).protocol e → IsUnread input e
by_letter input errors.Memory h = tt
by_letter input (errors.Refused r) h = (10, h.0, h.1, letter h.0 h.2)

pub by_reader : (input : List ℕ) (tokens : List Token) (e : TextError) (part : Span) (last : ℕ) → part ≡ (parts_of input).protocol → last ≡ line_at input part.end → AreTokens input part tokens
    → reader.IsRefused input tokens last e → IsUnread input e
by_reader input tokens errors.Memory part last is end cut h = tt
by_reader input tokens (errors.Refused r) part last is end cut h = (code_of h.0, line, h.3, unread tokens (code_of h.0) line (subst (λ (p : Span). AreTokens input p tokens) is cut) (h.0, h.1, h.2, ap (λ (n : ℕ). refusals.Text (code_of h.0) (protocols.line_before tokens n (length h.1))) (end ∙ ap (λ (p : Span). line_at input p.end) is)))
  where
    line : ℕ
    line = protocols.line_before tokens last (length h.1)

pub by_script_letter : (input : List ℕ) (p : Protocol) (e : TextError) → lexer.IsRefused input (parts_of input).scripts e → IsUnscripted input p e
by_script_letter input p errors.Memory h = tt
by_script_letter input p (errors.Refused r) h = (10, h.0, h.1, λ accepted. script_letter p h.0 accepted h.2)

pub by_scripts : (input : List ℕ) (p : Protocol) (tokens : List Token) (e : TextError) (part : Span) (last : ℕ) → part ≡ (parts_of input).scripts → last ≡ line_at input part.end → AreTokens input part tokens
    → own.AreRefusedFor input tokens last p e → IsUnscripted input p e
by_scripts input p tokens errors.Memory part last is end cut h = tt
by_scripts input p tokens (errors.Refused r) part last is end cut h = (scripting.code_of h.0, line, h.3, λ accepted. unscripted p tokens (scripting.code_of h.0) line accepted (subst (λ (s : Span). AreTokens input s tokens) is cut) (h.0, h.1, h.2, ap (λ (n : ℕ). refusals.Text (scripting.code_of h.0) (scripts.line_before tokens n (length h.1))) (end ∙ ap (λ (s : Span). line_at input s.end) is)))
  where
    line : ℕ
    line = scripts.line_before tokens last (length h.1)

pub by_plan_letter : (input : List ℕ) (p : Protocol) (e : TextError) → lexer.IsRefused input (parts_of input).plan e → IsUnplanned input p e
by_plan_letter input p errors.Memory h = tt
by_plan_letter input p (errors.Refused r) h = (10, h.0, h.1, λ lines accepted are. plan_letter p lines h.0 accepted are h.2)

pub by_plan : (input : List ℕ) (p : Protocol) (tokens : List Token) (e : TextError) (part : Span) (last : ℕ) → part ≡ (parts_of input).plan → last ≡ line_at input part.end → AreTokens input part tokens
    → planning.IsRefused input tokens last p.roles e → IsUnplanned input p e
by_plan input p tokens errors.Memory part last is end cut h = tt
by_plan input p tokens (errors.Refused r) part last is end cut h = (planning.code_of h.0, line, h.3, λ lines accepted are. unplanned p lines tokens (planning.code_of h.0) line accepted are (subst (λ (s : Span). AreTokens input s tokens) is cut) (h.0, h.1, h.2, ap (λ (n : ℕ). refusals.Text (planning.code_of h.0) (plans.line_before tokens n (length h.1))) (end ∙ ap (λ (s : Span). line_at input s.end) is)))
  where
    line : ℕ
    line = plans.line_before tokens last (length h.1)

-- what the readers answer
pub by_call : (input : List ℕ) (tokens : List Token) (m : Module) (e : TextError) (part : Span) → part ≡ (parts_of input).protocol → AreTokens input part tokens → reader.IsRead input tokens m → FailsBy m e → IsUnread input e
by_call input tokens m errors.Memory part is cut read h = tt
by_call input tokens m (errors.Refused r) part is cut read h = (modules.code_of h.fault, h.line, h.said, uncallable tokens m (modules.code_of h.fault) h.line (subst (λ (p : Span). AreTokens input p tokens) is cut) read (subst (answers.IsRefused m) h.said h))

pub text_read : (input : List ℕ) (tokens : List Token) (m : Module) (p : Protocol) (part : Span) → part ≡ (parts_of input).protocol → AreTokens input part tokens → reader.IsRead input tokens m → answers.IsExpanded m p → IsProtocolOf input p
text_read input tokens m p part is cut read expanded =
    record { tokens = tokens; whole = m; cut = subst (λ (s : Span). AreTokens input s tokens) is cut; read = read; expanded = expanded }

pub origins_read : (input : List ℕ) (tokens : List Token) (m : Module) (os : Origins) (part : Span) → part ≡ (parts_of input).protocol → AreTokens input part tokens → reader.IsRead input tokens m → AreOriginsOf m os → AreOriginsIn input os
origins_read input tokens m os part is cut read origins =
    record { tokens = tokens; whole = m; cut = subst (λ (s : Span). AreTokens input s tokens) is cut; read = read; origins = origins }

pub scripts_read : (input : List ℕ) (p : Protocol) (tokens : List Token) (part : Span) (last : ℕ) (result : Result ScriptsView TextError) → part ≡ (parts_of input).scripts → last ≡ line_at input part.end → AreTokens input part tokens
    → MatchResult result (own.AreScriptsOf p (scripts.symbols_of input tokens)) (own.AreRefusedFor input tokens last p) → MatchResult result (λ s. AreScriptsOf input p s.lines) (IsUnscripted input p)
scripts_read input p tokens part last (Ok s) is end cut h = record { tokens = tokens; cut = subst (λ (s : Span). AreTokens input s tokens) is cut; read = h.read }
scripts_read input p tokens part last (Err e) is end cut h = by_scripts input p tokens e part last is end cut h

pub scripts_belong : (p : Protocol) (symbols : List scripts.Symbol) (P : TextError → Type 0) (result : Result ScriptsView TextError) → MatchResult result (own.AreScriptsOf p symbols) P → IfOk result (own.AreScriptsFor p)
scripts_belong p symbols P (Ok s) h = h.for
scripts_belong p symbols P (Err e) h = tt

pub plan_read : (input : List ℕ) (p : Protocol) (tokens : List Token) (part : Span) (last : ℕ) (result : Result (List PlanLine) TextError) → part ≡ (parts_of input).plan → last ≡ line_at input part.end → AreTokens input part tokens
    → MatchResult result (planning.IsRead p.roles (plans.symbols_of input tokens)) (planning.IsRefused input tokens last p.roles) → MatchResult result (IsPlanOf input p) (IsUnplanned input p)
plan_read input p tokens part last (Ok lines) is end cut h = record { tokens = tokens; cut = subst (λ (s : Span). AreTokens input s tokens) is cut; read = h }
plan_read input p tokens part last (Err e) is end cut h = by_plan input p tokens e part last is end cut h

-- ---- with its line

abbrev HasItsLine : TextError → InputError → Type 0
HasItsLine e r =
    ((code line : ℕ) → e ≡ errors.Refused (refusals.Text code line) → r ≡ causes.Refused (refused.Line code line))
    × (e ≡ errors.Memory → r ≡ causes.Memory)

pub unscripted_line : (input : List ℕ) (p : Protocol) (e : TextError) (r : InputError) → IsAcceptedOf input p → IsUnscripted input p e
    → HasItsLine e r → IsRefused input r
unscripted_line input p errors.Memory r accepted h line = rw (line.1 refl) tt
unscripted_line input p (errors.Refused x) r accepted h line = rw (line.0 h.0 h.1 (ap errors.Refused h.2)) (h.3 accepted)

pub unplanned_line : (input : List ℕ) (p : Protocol) (lines : List (List model.Line)) (e : TextError) (r : InputError) → IsAcceptedOf input p
    → AreScriptsOf input p lines → IsUnplanned input p e → HasItsLine e r → IsRefused input r
unplanned_line input p lines errors.Memory r accepted are h line = rw (line.1 refl) tt
unplanned_line input p lines (errors.Refused x) r accepted are h line =
    rw (line.0 h.0 h.1 (ap errors.Refused h.2)) (h.3 lines accepted are)

-- ---- acceptance

pub by_rule : (input : List ℕ) (p : Protocol) (e : InputError) → IsProtocolOf input p → IsRuledOut p e → IsRefused input e
by_rule input p causes.Memory text h = tt
by_rule input p (causes.Refused (Rule code name number)) text h = ruled_out p code h.0 number name text h.2 h.1
by_rule input p (causes.Refused (refused.Line code line)) text h = absurd h
by_rule input p (causes.Refused NoRole) text h = absurd h
by_rule input p (causes.Refused TooMuch) text h = absurd h

-- a refusal by a rule is at a declared role
pub is_rule : (names : List (List ℕ)) (p : Protocol) (r : Refusal) → names ≡ p.roles → HasForm (body_of p.body) (length p.roles) → IsRefusedBy (body_of p.body) (length p.roles) (errors.Refused r) → IsRule names r
is_rule names p (refusals.Rule code role number) same form h = (code, role, number, refl, subst (λ (l : List (List ℕ)). role < length l) (sym same) (refused_role_declared (body_of p.body) (length p.roles) code role number form h))
is_rule names p (refusals.Text code line) same form h = absurd h
is_rule names p refusals.NoRole same form h = absurd h
