-- Where the tokens of a part are refused, by the grammar and the table of codes of the part.
use Rattle.std.specs.Prelude.{◌≡◌, ℕ, ◌+◌, List, [], ◌∷◌, length}
use Rattle.rcv_tree.specs.declared.protocol.Protocol as trees
use Rattle.rcv_lexer.specs.declared.token.Token.{Token}
use Rattle.rcv_tree.specs.declared.refusal.TextError.{TextError}
use Rattle.rcv_model.specs.Script.{Line}
use Rattle.rcv_model.specs.Plan.{PlanLine}
use Rattle.rcv_accept.specs.Accepted.{AcceptedView}
use Rattle.rcv_syntax.specs.Symbols as protocols
use Rattle.rcv_syntax.specs.Codes as protocols_codes
use Rattle.rcv_syntax.specs.Refusing as protocols_first
use Rattle.rcv_syntax.specs.declared.fault.Fault as protocols_fault
use Rattle.rcv_reader.specs.Refusals as reader
use Rattle.rcv_script.specs.Symbols as scripts
use Rattle.rcv_script.specs.Refusals as scripting
use Rattle.rcv_script.specs.Scripts.{messages_of}
use Rattle.rcv_script.specs.declared.fault.Fault as scripts_fault
use Rattle.rcv_plan.specs.Symbols as plans
use Rattle.rcv_plan.specs.Refusing as planning
use Rattle.rcv_plan.specs.declared.fault.Fault as plans_fault
use Rattle.rcv_found.specs.Grammars.{GrammarView, OfProtocol, OfScripts, OfPlan}

-- The tokens are read: as a module; for an accepted protocol, as scripts or as a plan.
abbrev pub AreModule : List ℕ → List Token → Type 0
AreModule bundle tokens =
    (main : trees.Protocol) × (others : List trees.Protocol) × reader.AreReadAs (protocols.symbols_of bundle tokens) main others

abbrev pub AreScripts : AcceptedView → List ℕ → List Token → Type 0
AreScripts a bundle tokens =
    (lines : List (List Line)) × scripting.AreRead a.protocol.roles (messages_of a.protocol) (scripts.symbols_of bundle tokens) lines

abbrev pub ArePlan : AcceptedView → List ℕ → List Token → Type 0
ArePlan a bundle tokens = (lines : List PlanLine) × planning.IsRead a.protocol.roles (plans.symbols_of bundle tokens) lines

abbrev pub IsTakenBy : GrammarView → List ℕ → List Token → Type 0
IsTakenBy OfProtocol bundle tokens = AreModule bundle tokens
IsTakenBy (OfScripts a) bundle tokens = AreScripts a bundle tokens
IsTakenBy (OfPlan a) bundle tokens = ArePlan a bundle tokens

-- It is refused, and this is how its reader says it.
abbrev pub IsRefusedBy : GrammarView → List ℕ → List Token → ℕ → TextError → Type 0
IsRefusedBy OfProtocol bundle tokens last error = reader.IsRefused bundle tokens last error
IsRefusedBy (OfScripts a) bundle tokens last error =
    scripting.IsRefused bundle tokens last a.protocol.roles (messages_of a.protocol) error
IsRefusedBy (OfPlan a) bundle tokens last error = planning.IsRefused bundle tokens last a.protocol.roles error

-- This is the first code of the table that holds, at the token with this place, counted from 0; the place of the end is the
-- number of all tokens.
abbrev pub IsFirstAt : GrammarView → List ℕ → List Token → ℕ → ℕ → Type 0
IsFirstAt OfProtocol bundle tokens code place =
    (f : protocols_fault.Fault) × (left : List protocols.Symbol) × protocols_first.IsFirst (protocols.symbols_of bundle tokens) f left
    × (code ≡ protocols_codes.code_of f) × (place + length left ≡ length tokens)
IsFirstAt (OfScripts a) bundle tokens code place =
    (f : scripts_fault.Fault) × (left : List scripts.Symbol)
    × scripting.IsFirst a.protocol.roles (messages_of a.protocol) (scripts.symbols_of bundle tokens) f left
    × (code ≡ scripting.code_of f) × (place + length left ≡ length tokens)
IsFirstAt (OfPlan a) bundle tokens code place =
    (f : plans_fault.Fault) × (left : List plans.Symbol)
    × planning.IsFirst a.protocol.roles (plans.symbols_of bundle tokens) f left
    × (code ≡ planning.code_of f) × (place + length left ≡ length tokens)

-- The code of a token that the grammar doesn't have somewhere.
abbrev pub token_code : GrammarView → ℕ
token_code OfProtocol = 11
token_code (OfScripts a) = 30
token_code (OfPlan a) = 40

-- the same tokens, with their places instead of their lines
abbrev pub numbered : ℕ → List Token → List Token
numbered place [] = []
numbered place (t ∷ ts) = record { kind = t.kind; span = t.span; line = place } ∷ numbered (place + 1) ts
