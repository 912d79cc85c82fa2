-- The text of a session that came to its end is read as its entries and its lines of roles.
use Rattle.std.specs.Prelude.{ℕ, List, All, FitsSigned}
use mir.Syntax.{w64}
use Rattle.rcv_tree.specs.declared.entry.Entry.{Entry}
use Rattle.rcv_tree.specs.declared.entry.Entry.TheVariants.{Send, Recv, Crash, Recover}
use Rattle.rcv_model.specs.Journal.{reading, IsLegal}
use Rattle.rcv_model.specs.Final.{IsFinal}
use Rattle.rcv_accept.specs.Accepted.{IsAcceptedProtocol}
use Rattle.rcv_plan.specs.Lines.{IsPlanned}
use Rattle.rcv_session.specs.Session.{SessionView, roles_of, rules_of}
use Rattle.rcv_journal.specs.declared.line.RoleLine.{RoleLine}
use Rattle.rcv_journal.specs.Lines.{AreLinesOf, IsTextOf, limited_in}
use Rattle.rcv_journal.specs.Recorded.{bare}
use Rattle.rcv_journal.specs.Form.{Spells}

-- The number that the entry carries, if it carries one, fits 64 bits.
abbrev pub HasFittingValue : Entry → Type 0
HasFittingValue (Send e) = FitsSigned w64 e.value
HasFittingValue (Recv e) = FitsSigned w64 e.value
HasFittingValue (Crash p) = Unit {0}
HasFittingValue (Recover p concerned kept undone) = Unit {0}

-- The journal of a session of an accepted protocol, with a plan for its roles, that came to its end.
pub record IsEnded (session : SessionView) (entries : List Entry) : Type 0 where
  pub protocol : IsAcceptedProtocol session.protocol
  pub planned : IsPlanned (roles_of session) session.plan
  pub legal : IsLegal (rules_of session) entries
  pub final : IsFinal (rules_of session) (reading (rules_of session) entries)
  pub values : All HasFittingValue entries

-- The bytes are read as the journal's entries, its lines of roles, and those of them that are at the limit.
pub record IsReadAsJournal (session : SessionView) (entries : List Entry) (bytes : List ℕ) : Type 0 where
  pub lines : List RoleLine
  pub are_lines : AreLinesOf (rules_of session) (reading (rules_of session) entries) lines
  pub spells : Spells (bare session.protocol) bytes (record { entries = entries; roles = lines; limited = limited_in lines })

abbrev pub FinalTextsAreReadBack : Type 0
FinalTextsAreReadBack =
    (session : SessionView) (entries : List Entry) (bytes : List ℕ)
    → IsEnded session entries → IsTextOf session entries bytes → IsReadAsJournal session entries bytes
