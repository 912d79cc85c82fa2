-- What may stand after tokens.
use Rattle.std.specs.Prelude.{◌≡◌, ℕ, true, List, [], ◌∷◌, ◌++◌, Option, Some, None}
use Rattle.rcv_lexer.specs.declared.token.Kind.{Kind}
use Rattle.rcv_lexer.specs.declared.token.Token.{Token}
use Rattle.rcv_syntax.specs.Symbols as protocols
use Rattle.rcv_syntax.specs.Refusing as protocols_first
use Rattle.rcv_syntax.specs.declared.fault.Fault.TheVariants as protocols_faults
use Rattle.rcv_script.specs.Symbols as scripts
use Rattle.rcv_script.specs.Refusals as scripting
use Rattle.rcv_script.specs.Scripts.{messages_of}
use Rattle.rcv_script.specs.declared.fault.Fault.TheVariants as scripts_faults
use Rattle.rcv_plan.specs.Symbols as plans
use Rattle.rcv_plan.specs.Refusing as planning
use Rattle.rcv_plan.specs.declared.fault.Fault.TheVariants as plans_faults
use Rattle.rcv_found.specs.Grammars.{GrammarView, OfProtocol, OfScripts, OfPlan}
use Rattle.rcv_found.specs.Things.{ThingView, any_name}
use Rattle.rcv_found.specs.Tables.{protocol_things, script_things, plan_things}

-- What one token of a thing says to a grammar: one symbol, and none at the end.
abbrev pub symbols_by : {S : Type 0} → (Kind → List ℕ → S) → Option Kind → List ℕ → List S
symbols_by by None bytes = []
symbols_by by (Some kind) bytes = by kind bytes ∷ []

-- The grammar doesn't have the thing after these tokens: with it there, or with the end if the thing is the end, the text is
-- refused at it, as at a token that the grammar doesn't have.
abbrev pub IsNotHad : GrammarView → List ℕ → List Token → ThingView → Type 0
IsNotHad OfProtocol bundle front x =
    let here = symbols_by protocols.symbol_by x.kind x.bytes in
    protocols_first.IsFirst (protocols.symbols_of bundle front ++ here) protocols_faults.Token here
IsNotHad (OfScripts a) bundle front x =
    let here = symbols_by scripts.symbol_by x.kind x.bytes in
    scripting.IsFirst a.protocol.roles (messages_of a.protocol) (scripts.symbols_of bundle front ++ here) scripts_faults.Token here
IsNotHad (OfPlan a) bundle front x =
    let here = symbols_by plans.symbol_by x.kind x.bytes in
    planning.IsFirst a.protocol.roles (plans.symbols_of bundle front ++ here) plans_faults.Token here

-- A thing may stand there. A free word is listed only if no name may stand there, since it is a name, too.
pub record MayStand (g : GrammarView) (bundle : List ℕ) (front : List Token) (x : ThingView) : Type 0 where
  pub had : IsNotHad g bundle front x → ⊥
  pub own : x.free ≡ true → IsNotHad g bundle front any_name

-- Those of these things that may stand there, in their order: all of them and no others.
pub data AreThose (g : GrammarView) (bundle : List ℕ) (front : List Token) : List ThingView → List ThingView → Type 0 where
  none : AreThose g bundle front [] []
  listed : {xs ys : List ThingView} (x : ThingView) → MayStand g bundle front x → AreThose g bundle front xs ys
      → AreThose g bundle front (x ∷ xs) (x ∷ ys)
  left_out : {xs ys : List ThingView} (x : ThingView) → (MayStand g bundle front x → ⊥) → AreThose g bundle front xs ys
      → AreThose g bundle front (x ∷ xs) ys

-- Those so far, and after them those of the rest, are those of all.
abbrev pub SoFar : GrammarView → List ℕ → List Token → List ThingView → List ThingView → List ThingView → Type 0
SoFar g bundle front things may rest =
    (ys : List ThingView) → AreThose g bundle front rest ys → AreThose g bundle front things (may ++ ys)

-- All words and kinds of the grammar.
abbrev pub things_of : GrammarView → List ThingView
things_of OfProtocol = protocol_things
things_of (OfScripts a) = script_things
things_of (OfPlan a) = plan_things
