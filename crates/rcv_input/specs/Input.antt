-- What an input is: an accepted protocol with the scripts of its roles and a plan.
use Rattle.std.specs.Prelude.{ℕ, List}
use Rattle.rcv_tree.specs.declared.module.Module.{Module}
use Rattle.rcv_tree.specs.declared.protocol.Protocol.{Protocol}
use Rattle.rcv_model.specs.Script.{Line}
use Rattle.rcv_model.specs.Plan.{PlanLine}
use Rattle.rcv_module.specs.declared.origin.Origins.{Origins}
use Rattle.rcv_module.specs.Answers.{IsExpanded}
use Rattle.rcv_module.specs.Origins.{AreOriginsOf}
use Rattle.rcv_session.specs.Session.{SessionView}
use Rattle.rcv_lexer.specs.declared.token.Token.{Token}
use Rattle.rcv_lexer.specs.Parts.{parts_of}
use Rattle.rcv_lexer.specs.Tokens.{AreTokens}
use Rattle.rcv_reader.specs.Refusals as reader
use Rattle.rcv_accept.specs.Accepted.{IsAcceptedProtocol}
use Rattle.rcv_script.specs.Symbols as scripts
use Rattle.rcv_script.specs.Refusals.{AreRead}
use Rattle.rcv_script.specs.Scripts.{messages_of}
use Rattle.rcv_plan.specs.Symbols as plans
use Rattle.rcv_plan.specs.Refusing as planning

-- The tokens of the input's protocol part, of its scripts part, and of its plan part.
abbrev pub AreProtocolTokens : List ℕ → List Token → Type 0
AreProtocolTokens input tokens = AreTokens input (parts_of input).protocol tokens

abbrev pub AreScriptTokens : List ℕ → List Token → Type 0
AreScriptTokens input tokens = AreTokens input (parts_of input).scripts tokens

abbrev pub ArePlanTokens : List ℕ → List Token → Type 0
ArePlanTokens input tokens = AreTokens input (parts_of input).plan tokens

-- The input's text is this protocol: the tokens of its protocol part are read as a module, and the protocol is the module's
-- expansion.
pub record IsProtocolOf (input : List ℕ) (p : Protocol) : Type 0 where
  pub tokens : List Token
  pub whole : Module
  pub cut : AreProtocolTokens input tokens
  pub read : reader.IsRead input tokens whole
  pub expanded : IsExpanded whole p

-- The points of that expansion come from these.
pub record AreOriginsIn (input : List ℕ) (os : Origins) : Type 0 where
  pub tokens : List Token
  pub whole : Module
  pub cut : AreProtocolTokens input tokens
  pub read : reader.IsRead input tokens whole
  pub origins : AreOriginsOf whole os

-- And no rule of acceptance fails.
pub record IsAcceptedOf (input : List ℕ) (p : Protocol) : Type 0 where
  pub text : IsProtocolOf input p
  pub accepted : IsAcceptedProtocol p

-- The tokens of the scripts part are read as these scripts, for the roles and the messages of this protocol.
pub record AreScriptsOf (input : List ℕ) (p : Protocol) (lines : List (List Line)) : Type 0 where
  pub tokens : List Token
  pub cut : AreScriptTokens input tokens
  pub read : AreRead p.roles (messages_of p) (scripts.symbols_of input tokens) lines

-- The tokens of the plan part are read as these lines, for the roles of this protocol.
pub record IsPlanOf (input : List ℕ) (p : Protocol) (lines : List PlanLine) : Type 0 where
  pub tokens : List Token
  pub cut : ArePlanTokens input tokens
  pub read : planning.IsRead p.roles (plans.symbols_of input tokens) lines

-- The input is taken as this session: as its accepted protocol with its scripts and its plan.
pub record IsTaken (input : List ℕ) (session : SessionView) : Type 0 where
  pub protocol : IsAcceptedOf input session.protocol
  pub are_scripts : AreScriptsOf input session.protocol session.scripts
  pub plan : IsPlanOf input session.protocol session.plan
