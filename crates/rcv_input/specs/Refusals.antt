-- Why an input is refused: the first of its faults.
use Rattle.std.specs.Prelude.{◌≡◌, ℕ, ◌<◌, Some, List, length, slice_get}
use Rattle.rcv_tree.specs.declared.module.Module.{Module}
use Rattle.rcv_tree.specs.declared.protocol.Protocol.{Protocol}
use Rattle.rcv_tree.specs.declared.refusal.Refusal.{Refusal}
use Rattle.rcv_tree.specs.declared.refusal.Refusal.TheVariants as refusals
use Rattle.rcv_model.specs.Text.{body_of}
use Rattle.rcv_model.specs.Script as model
use Rattle.rcv_model.specs.Accept.{IsRefusal}
use Rattle.rcv_module.specs.Answers as modules
use Rattle.rcv_lexer.specs.declared.token.Token.{Token}
use Rattle.rcv_tree.specs.declared.refusal.TextError.{TextError}
use Rattle.rcv_tree.specs.declared.refusal.TextError.TheVariants as errors
use Rattle.rcv_lexer.specs.Parts.{parts_of}
use Rattle.rcv_lexer.specs.Tokens.{IsLetter, line_at}
use Rattle.rcv_reader.specs.Refusals as reader
use Rattle.rcv_script.specs.Scripts.{AreRefusedFor}
use Rattle.rcv_plan.specs.Refusing as planning
use Rattle.rcv_input.specs.declared.refused.Refused.{Refused}
use Rattle.rcv_input.specs.declared.refused.Refused.TheVariants.{Line, Rule, NoRole, TooMuch}
use Rattle.rcv_input.specs.declared.refused.InputError.{InputError}
use Rattle.rcv_input.specs.declared.refused.InputError.TheVariants as causes
use Rattle.rcv_input.specs.Input.{AreProtocolTokens, AreScriptTokens, ArePlanTokens, IsProtocolOf, IsAcceptedOf, AreScriptsOf}

-- The tokens of the protocol part are refused by the reader with this code and this line.
abbrev pub IsRefusedText : List ℕ → List Token → ℕ → ℕ → Type 0
IsRefusedText input tokens code line =
    reader.IsRefused input tokens (line_at input (parts_of input).protocol.end) (errors.Refused (refusals.Text code line))

-- Those of the scripts part are, for the roles and the messages of this protocol.
abbrev pub AreRefusedScripts : List ℕ → Protocol → List Token → ℕ → ℕ → Type 0
AreRefusedScripts input p tokens code line =
    AreRefusedFor input tokens (line_at input (parts_of input).scripts.end) p (errors.Refused (refusals.Text code line))

-- Those of the plan part are, for the roles of this protocol.
abbrev pub IsRefusedPlan : List ℕ → Protocol → List Token → ℕ → ℕ → Type 0
IsRefusedPlan input p tokens code line =
    planning.IsRefused input tokens (line_at input (parts_of input).plan.end) p.roles (errors.Refused (refusals.Text code line))

-- This is the first refusal of the input.
pub data IsFirstRefusal (input : List ℕ) : Refused → Type 0 where
  -- the protocol part has a bad letter
  letter : (line : ℕ) → IsLetter input (parts_of input).protocol line → IsFirstRefusal input (Line 10 line)
  -- it has tokens, and the reader refuses them
  unread :
      (tokens : List Token) (code line : ℕ) → AreProtocolTokens input tokens → IsRefusedText input tokens code line
      → IsFirstRefusal input (Line code line)
  -- they are a module, and it is refused at a call
  uncallable :
      (tokens : List Token) (m : Module) (code line : ℕ) → AreProtocolTokens input tokens → reader.IsRead input tokens m
      → modules.IsRefused m (refusals.Text code line) → IsFirstRefusal input (Line code line)
  -- it is expanded, and a rule of acceptance fails at a role of this name
  ruled_out :
      (p : Protocol) (code role number : ℕ) (name : List ℕ) → IsProtocolOf input p
      → IsRefusal (body_of p.body) (length p.roles) code role number → slice_get p.roles role ≡ Some name
      → IsFirstRefusal input (Rule code name number)
  -- it is accepted, but the scripts part has a bad letter
  script_letter :
      (p : Protocol) (line : ℕ) → IsAcceptedOf input p → IsLetter input (parts_of input).scripts line
      → IsFirstRefusal input (Line 10 line)
  -- that has tokens too, which are refused
  unscripted :
      (p : Protocol) (tokens : List Token) (code line : ℕ) → IsAcceptedOf input p → AreScriptTokens input tokens
      → AreRefusedScripts input p tokens code line → IsFirstRefusal input (Line code line)
  -- they are scripts, but the plan part has a bad letter
  plan_letter :
      (p : Protocol) (lines : List (List model.Line)) (line : ℕ) → IsAcceptedOf input p → AreScriptsOf input p lines
      → IsLetter input (parts_of input).plan line → IsFirstRefusal input (Line 10 line)
  -- that has tokens too, which are refused as a plan
  unplanned :
      (p : Protocol) (lines : List (List model.Line)) (tokens : List Token) (code line : ℕ) → IsAcceptedOf input p
      → AreScriptsOf input p lines → ArePlanTokens input tokens → IsRefusedPlan input p tokens code line
      → IsFirstRefusal input (Line code line)

-- What an error says: the input's first refusal, or no memory was left.
abbrev pub IsRefused : List ℕ → InputError → Type 0
IsRefused input causes.Memory = Unit {0}
IsRefused input (causes.Refused r) = IsFirstRefusal input r

-- ---- what each step says

-- What is refused, if anything is, has a code and a line.
abbrev pub IsTextError : TextError → Type 0
IsTextError errors.Memory = Unit {0}
IsTextError (errors.Refused r) = (code : ℕ) × (line : ℕ) × (r ≡ refusals.Text code line)

-- The first refusal is one of the protocol part, at a line; or of the scripts part; or of the plan part.
abbrev pub IsUnread : List ℕ → TextError → Type 0
IsUnread input errors.Memory = Unit {0}
IsUnread input (errors.Refused r) = (code : ℕ) × (line : ℕ) × (r ≡ refusals.Text code line) × IsFirstRefusal input (Line code line)

abbrev pub IsUnscripted : List ℕ → Protocol → TextError → Type 0
IsUnscripted input p errors.Memory = Unit {0}
IsUnscripted input p (errors.Refused r) =
    (code : ℕ) × (line : ℕ) × (r ≡ refusals.Text code line) × (IsAcceptedOf input p → IsFirstRefusal input (Line code line))

abbrev pub IsUnplanned : List ℕ → Protocol → TextError → Type 0
IsUnplanned input p errors.Memory = Unit {0}
IsUnplanned input p (errors.Refused r) =
    (code : ℕ) × (line : ℕ) × (r ≡ refusals.Text code line)
    × ((lines : List (List model.Line)) → IsAcceptedOf input p → AreScriptsOf input p lines → IsFirstRefusal input (Line code line))

-- The refusal is by a rule, at a role that these names have; and this says it, with the name of the role.
abbrev pub IsRule : List (List ℕ) → Refusal → Type 0
IsRule names r = (code : ℕ) × (role : ℕ) × (number : ℕ) × (r ≡ refusals.Rule code role number) × (role < length names)

abbrev pub SaysRule : List (List ℕ) → Refusal → Refused → Type 0
SaysRule names r said =
    (code : ℕ) × (role : ℕ) × (number : ℕ) × (name : List ℕ) × (r ≡ refusals.Rule code role number)
    × (slice_get names role ≡ Some name) × (said ≡ Rule code name number)

-- A rule of acceptance fails, at the role of this name.
abbrev pub IsRuledOut : Protocol → InputError → Type 0
IsRuledOut p causes.Memory = Unit {0}
IsRuledOut p (causes.Refused (Rule code name number)) =
    (role : ℕ) × (slice_get p.roles role ≡ Some name) × IsRefusal (body_of p.body) (length p.roles) code role number
IsRuledOut p (causes.Refused (Line code line)) = ⊥
IsRuledOut p (causes.Refused NoRole) = ⊥
IsRuledOut p (causes.Refused TooMuch) = ⊥
