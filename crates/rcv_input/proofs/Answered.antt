-- An input is taken, or it has its first refusal.
use Rattle.std.proofs.Common.{◌≡◌, ℕ, zero, suc, ◌^◌, ◌<◌, List, [], ◌∷◌, length, refl, subst, arith, ◌⊎◌, inl, inr, ⊎_elim}
use Rattle.std.specs.Prelude.{Some, slice_get}
use Rattle.rcv_tree.specs.declared.module.Module.{Module}
use Rattle.rcv_tree.specs.declared.protocol.Protocol.{Protocol}
use Rattle.rcv_tree.specs.declared.refusal.Refusal.{Refusal}
use Rattle.rcv_model.specs.Text.{body_of}
use Rattle.rcv_model.specs.Script as model
use Rattle.rcv_model.specs.Form.{HasForm}
use Rattle.rcv_model.specs.Accept.{IsRefusal}
use Rattle.rcv_model.proofs.LeastRefusal.{accepted_or_refused}
use Rattle.rcv_lexer.specs.declared.token.Token.{Token}
use Rattle.rcv_lexer.specs.Parts.{parts_of}
use Rattle.rcv_lexer.specs.Tokens.{line_at}
use Rattle.rcv_module.specs.Answers as modules
use Rattle.rcv_module.specs.Refusing.{code_of}
use Rattle.rcv_module.proofs.Answering.{modules_have_answers}
use Rattle.rcv_reader.specs.Refusals.{IsRead}
use Rattle.rcv_script.specs.Scripts.{messages_of}
use Rattle.rcv_script.specs.Symbols as scripts
use Rattle.rcv_script.specs.Refusals as scripting
use Rattle.rcv_script.specs.Laws as scripted
use Rattle.rcv_script.proofs.Once.{scripts_have_one_answer}
use Rattle.rcv_plan.specs.Symbols as plans
use Rattle.rcv_plan.specs.Refusing as planning
use Rattle.rcv_plan.specs.Laws.{IsAnswered}
use Rattle.rcv_plan.proofs.Once.{plans_have_one_answer}
use Rattle.rcv_grammar.specs.Laws.{IsReadPart, HasRefusal}
use Rattle.rcv_grammar.proofs.Answered.{parts_have_one_answer}
use Rattle.rcv_grammar.proofs.Formed.{read_modules_have_form}
use Rattle.rcv_grammar.proofs.Short.{read_modules_are_short}
use Rattle.rcv_lexer.proofs.Once.{one_reading}
use Rattle.rcv_input.specs.declared.refused.Refused.TheVariants.{Line, Rule}
use Rattle.rcv_input.specs.Input.{AreProtocolTokens, AreScriptTokens, ArePlanTokens, IsProtocolOf, IsAcceptedOf, AreScriptsOf}
use Rattle.rcv_input.specs.Refusals.{letter, unread, uncallable, ruled_out, script_letter, unscripted, plan_letter, unplanned}
use Rattle.rcv_input.specs.Laws.{HasAnswer}
use Rattle.rcv_input.proofs.Declared.{refused_role_declared}
use Rattle.rcv_input.proofs.Formed.{has_form, is_full, has_names}

-- ---- the plan, the scripts, the protocol

by_plan_tokens : (input : List ℕ) (p : Protocol) (lines : List (List model.Line)) (tokens : List Token) → IsAcceptedOf input p → AreScriptsOf input p lines → ArePlanTokens input tokens → HasAnswer input
by_plan_tokens input p lines tokens accepted are cut = go (plans_have_one_answer.answered p.roles (plans.symbols_of input tokens))
  where
    go : IsAnswered p.roles (plans.symbols_of input tokens) → HasAnswer input
    go (inl h) = inl (record { protocol = p; scripts = lines; plan = h.0 }, record { protocol = accepted; are_scripts = are; plan = record { tokens = tokens; cut = cut; read = h.1 } })
    go (inr h) =
        let line = plans.line_before tokens (line_at input (parts_of input).plan.end) (length h.1) in
        inr (Line (planning.code_of h.0) line, unplanned p lines tokens (planning.code_of h.0) line accepted are cut (h.0, h.1, h.2, refl))

by_plan : (input : List ℕ) (p : Protocol) (lines : List (List model.Line)) → IsAcceptedOf input p → AreScriptsOf input p lines → HasAnswer input
by_plan input p lines accepted are =
    ⊎_elim (λ cut. by_plan_tokens input p lines cut.0 accepted are cut.1) (λ bad. inr (Line 10 bad.0, plan_letter p lines bad.0 accepted are bad.1)) (one_reading.some input (parts_of input).plan)

by_script_tokens : (input : List ℕ) (p : Protocol) (tokens : List Token) → IsAcceptedOf input p → AreScriptTokens input tokens → HasAnswer input
by_script_tokens input p tokens accepted cut = go (scripts_have_one_answer.answered p.roles (messages_of p) (scripts.symbols_of input tokens))
  where
    go : scripted.IsAnswered p.roles (messages_of p) (scripts.symbols_of input tokens) → HasAnswer input
    go (inl h) = by_plan input p h.0 accepted (record { tokens = tokens; cut = cut; read = h.1 })
    go (inr h) =
        let line = scripts.line_before tokens (line_at input (parts_of input).scripts.end) (length h.1) in
        inr (Line (scripting.code_of h.0) line, unscripted p tokens (scripting.code_of h.0) line accepted cut (h.0, h.1, h.2, refl))

by_scripts : (input : List ℕ) (p : Protocol) → IsAcceptedOf input p → HasAnswer input
by_scripts input p accepted =
    ⊎_elim (λ cut. by_script_tokens input p cut.0 accepted cut.1) (λ bad. inr (Line 10 bad.0, script_letter p bad.0 accepted bad.1)) (one_reading.some input (parts_of input).scripts)

get_some : (names : List (List ℕ)) (r : ℕ) → r < length names → (name : List ℕ) × (slice_get names r ≡ Some name)
get_some [] r below = absurd (omega (arith, below))
get_some (name ∷ names) zero below = (name, refl)
get_some (name ∷ names) (suc r) below = get_some names r (omega (arith, below))

by_acceptance : (input : List ℕ) (p : Protocol) → IsProtocolOf input p → HasAnswer input
by_acceptance input p text = ⊎_elim
    (λ fine. by_scripts input p (record { text = text; accepted = record { form = form; full = is_full input p text; accepted = fine.0; subjects = fine.1; names = has_names input p text } }))
    (λ bad. by_rule bad.0 bad.1 bad.2 bad.3)
    (accepted_or_refused (body_of p.body) (length p.roles) form)
  where
    form : HasForm (body_of p.body) (length p.roles)
    form = has_form input p text

    by_rule : (code role number : ℕ) → IsRefusal (body_of p.body) (length p.roles) code role number → HasAnswer input
    by_rule code role number refusal =
        let named = get_some p.roles role (refused_role_declared (body_of p.body) (length p.roles) code role number form refusal) in
        inr (Rule code named.0 number, ruled_out p code role number named.0 text refusal named.1)

by_call : (input : List ℕ) (tokens : List Token) (m : Module) → AreProtocolTokens input tokens → IsRead input tokens m
    → (r : Refusal) → modules.IsRefused m r → HasAnswer input
by_call input tokens m cut read r refused = inr (Line (code_of refused.fault) refused.line, uncallable tokens m (code_of refused.fault) refused.line cut read (subst (modules.IsRefused m) refused.said refused))

by_module : (input : List ℕ) (tokens : List Token) (m : Module) → length input < 2 ^ 63 → AreProtocolTokens input tokens → IsRead input tokens m → HasAnswer input
by_module input tokens m short cut read = ⊎_elim
    (λ fine. by_acceptance input fine.0 (record { tokens = tokens; whole = m; cut = cut; read = read; expanded = fine.1 }))
    (λ bad. by_call input tokens m cut read bad.0 bad.1)
    (modules_have_answers m (read_modules_have_form input (parts_of input).protocol tokens m cut read) (read_modules_are_short input (parts_of input).protocol tokens m short cut read))

by_part : (input : List ℕ) → length input < 2 ^ 63 → IsReadPart input (parts_of input).protocol ⊎ HasRefusal input (parts_of input).protocol (line_at input (parts_of input).protocol.end) → HasAnswer input
by_part input short (inl h) = by_module input h.0 h.1 short h.2 h.3
by_part input short (inr (code, line, inl bad)) = inr (Line 10 line, letter line bad.1)
by_part input short (inr (code, line, inr bad)) = inr (Line code line, unread bad.0 code line bad.1 bad.2)

pub answered : (input : List ℕ) → length input < 2 ^ 63 → HasAnswer input
answered input short = by_part input short (parts_have_one_answer.some input (parts_of input).protocol (line_at input (parts_of input).protocol.end) short)
