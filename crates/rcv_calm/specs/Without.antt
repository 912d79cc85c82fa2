-- A text, and the same without the crash lines of its plan.
use Rattle.std.specs.Prelude.{◌≡◌, ℕ, Bool, true, false, List}
use Rattle.std.specs.List.{filter}
use Rattle.rcv_lexer.specs.declared.token.Token.{Token}
use Rattle.rcv_lexer.specs.Parts.{parts_of}
use Rattle.rcv_lexer.specs.Tokens.{text_of_part}
use Rattle.rcv_syntax.specs.Symbols as protocols
use Rattle.rcv_script.specs.Symbols as scripts
use Rattle.rcv_plan.specs.Symbols as plans
use Rattle.rcv_plan.specs.Grammar.{Written, WrittenEvery, WrittenCrash, WrittenLimit, WrittenRoom, WrittenHost, plan_text}
use Rattle.rcv_input.specs.Input.{AreProtocolTokens, AreScriptTokens, ArePlanTokens}

-- The item of a plan is for something other than a crash.
abbrev pub is_calm_item : Written → Bool
is_calm_item (WrittenEvery r n) = true
is_calm_item (WrittenCrash r n) = false
is_calm_item (WrittenLimit n) = true
is_calm_item (WrittenRoom n) = true
is_calm_item (WrittenHost h a b qs) = true

-- The same items without the crash lines, in their order.
abbrev pub without_crash_items : List Written → List Written
without_crash_items items = filter is_calm_item items

-- The tokens of both protocol parts say the same, whatever blanks and comments stand between them.
pub record HaveSameProtocol (text other : List ℕ) : Type 0 where
  pub tokens : List Token
  pub other_tokens : List Token
  pub cut : AreProtocolTokens text tokens
  pub other_cut : AreProtocolTokens other other_tokens
  pub same : protocols.symbols_of text tokens ≡ protocols.symbols_of other other_tokens

-- And so do those of both scripts parts.
pub record HaveSameScripts (text other : List ℕ) : Type 0 where
  pub tokens : List Token
  pub other_tokens : List Token
  pub cut : AreScriptTokens text tokens
  pub other_cut : AreScriptTokens other other_tokens
  pub same : scripts.symbols_of text tokens ≡ scripts.symbols_of other other_tokens

-- The tokens of the plan part are these items, and those of the other one are the items without the crash lines.
pub record HasPlanWithoutCrashLines (text other : List ℕ) : Type 0 where
  pub items : List Written
  pub tokens : List Token
  pub other_tokens : List Token
  pub cut : ArePlanTokens text tokens
  pub other_cut : ArePlanTokens other other_tokens
  pub written : plans.symbols_of text tokens ≡ plan_text items
  pub left : plans.symbols_of other other_tokens ≡ plan_text (without_crash_items items)

-- The protocol parts of both texts have the same bytes, and so have their scripts parts, wherever they stand.
pub record HaveSameBytes (text other : List ℕ) : Type 0 where
  pub protocol : text_of_part text (parts_of text).protocol ≡ text_of_part other (parts_of other).protocol
  pub scripts : text_of_part text (parts_of text).scripts ≡ text_of_part other (parts_of other).scripts

-- The other text is this one without its crash lines.
pub record IsWithoutCrashLines (text other : List ℕ) : Type 0 where
  pub same_protocol : HaveSameProtocol text other
  pub same_scripts : HaveSameScripts text other
  pub plan : HasPlanWithoutCrashLines text other
