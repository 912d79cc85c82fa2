-- Journals that keep given events, stamps apart.
use Rattle.std.specs.Prelude.{◌≡◌, ℕ, List, [], map}
use Rattle.std.specs.List.{All}
use Rattle.rcv_tree.specs.declared.event.Event.{Event}
use Rattle.rcv_tree.specs.declared.entry.Entry.{Entry}
use Rattle.rcv_model.specs.Net.{Net}
use Rattle.rcv_model.specs.Plain.{IsSendOrRecv}
use Rattle.rcv_model.specs.Transparent.{Fact, fact_of, IsSteady}
use Rattle.rcv_model.specs.Premises.{GoesOn}
use Rattle.rcv_model.specs.Journal.{Rules, reading, IsLegal}

-- An event without its stamps: the role, and whether it sends or receives, at which point, with which number.
abbrev pub deed_of : Event → ℕ × Fact
deed_of e = (e.role, fact_of e)

-- The same events in the same order, whatever their stamps.
abbrev pub AreRestamped : List Event → List Event → Type 0
AreRestamped g h = map deed_of g ≡ map deed_of h

-- Rules of a protocol under which nobody crashes, each role chooses an offered point, and what it chooses and sends depends
-- only on what it did.
pub record AreCalmRules (net : Net) (roles : ℕ) (rules : Rules) : Type 0 where
  pub of_net : rules.net ≡ net
  pub of_roles : rules.roles ≡ roles
  pub no_crash_lines : (r : ℕ) → rules.crash_lines r ≡ []
  pub goes_on : GoesOn rules
  pub steady : IsSteady rules

-- The journal is legal under these rules, holds sends and receives alone, and keeps these events, stamps apart.
pub record IsJournalOf (rules : Rules) (h : List Event) (journal : List Entry) : Type 0 where
  pub legal : IsLegal rules journal
  pub acts : All IsSendOrRecv journal
  pub kept : AreRestamped (reading rules journal).kept h
