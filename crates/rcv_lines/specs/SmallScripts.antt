-- Scripts whose numbers fit 64 bits, such as those that were read, send numbers that fit 64 bits.
use Rattle.std.specs.Prelude.{◌<◌, ◌^◌, List, All, FitsSigned}
use mir.Syntax.{w64}
use Rattle.rcv_tree.specs.declared.entry.Entry.{Entry}
use Rattle.rcv_model.specs.Journal.{IsLegal}
use Rattle.rcv_model.specs.Script.{Expr, Line, Literal, TheValue, TheAttempt, Variable, Negated, Plus, Minus, Times, VarLine, SendLine, PickLine, OnLine}
use Rattle.rcv_accept.specs.Accepted.{IsAcceptedProtocol}
use Rattle.rcv_plan.specs.Lines.{IsPlanned}
use Rattle.rcv_session.specs.Session.{SessionView, roles_of, rules_of}
use Rattle.rcv_lines.specs.FinalTexts.{HasFittingValue}

-- Each number in the expression is below 2 ^ 63.
abbrev pub IsSmallExpr : Expr → Type 0
IsSmallExpr (Literal number) = number < 2 ^ 63
IsSmallExpr TheValue = Unit {0}
IsSmallExpr TheAttempt = Unit {0}
IsSmallExpr (Variable place) = Unit {0}
IsSmallExpr (Negated a) = IsSmallExpr a
IsSmallExpr (Plus a b) = IsSmallExpr a × IsSmallExpr b
IsSmallExpr (Minus a b) = IsSmallExpr a × IsSmallExpr b
IsSmallExpr (Times a b) = IsSmallExpr a × IsSmallExpr b

-- And in the line, as far as it tells what is sent.
abbrev pub IsSmallLine : Line → Type 0
IsSmallLine (VarLine first) = FitsSigned w64 first
IsSmallLine (SendLine label expr) = IsSmallExpr expr
IsSmallLine (PickLine label when) = Unit {0}
IsSmallLine (OnLine label place expr) = IsSmallExpr expr

-- And in each script.
abbrev pub HasSmallScripts : SessionView → Type 0
HasSmallScripts session = All (All IsSmallLine) session.scripts

abbrev pub ValuesFit : Type 0
ValuesFit =
    (session : SessionView) (entries : List Entry)
    → IsAcceptedProtocol session.protocol → IsPlanned (roles_of session) session.plan → HasSmallScripts session
    → IsLegal (rules_of session) entries → All HasFittingValue entries
