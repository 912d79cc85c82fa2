-- Laws: runs are made by the roles' machines, which are safe together, and journals keep them.
use Rattle.std.specs.Prelude.{◌≡◌, ℕ, ◌↔◌, List, ◌++◌}
use Rattle.rcv_tree.specs.declared.event.Event.{Event}
use Rattle.rcv_tree.specs.declared.entry.Entry.{Entry}
use Rattle.rcv_model.specs.Net.{Net}
use Rattle.rcv_model.specs.Run.{acts, channel, IsRun}
use Rattle.rcv_model.specs.Next.{IsProper, IsAccepted}
use Rattle.rcv_model.specs.Journal.{Rules, reading, IsLegal}
use Rattle.rcv_model.specs.Premises.{IsSession}
use Rattle.rcv_project.specs.Local.{LocalView}
use Rattle.rcv_fidelity.specs.Machines.{IsMachineStep, AreMachineSteps, AreTables, AreTableSteps}
use Rattle.rcv_fidelity.specs.Safe.{AreSafe}
use Rattle.rcv_fidelity.specs.Restamped.{AreCalmRules, IsJournalOf}

-- A protocol of so many roles that is accepted.
pub record IsAcceptedNet (net : Net) (roles : ℕ) : Type 0 where
  pub proper : IsProper net roles
  pub accepted : IsAccepted net roles

-- A list of events is a run of an accepted protocol exactly if each event is a step of its role's machine.
abbrev pub RunsAreMadeByMachines : Type 0
RunsAreMadeByMachines =
    (net : Net) (roles : ℕ) (h : List Event) → IsAcceptedNet net roles → IsRun net h ↔ AreMachineSteps net h

-- The same holds of the steps that are read off the machines' tables.
abbrev pub RunsAreMadeByTables : Type 0
RunsAreMadeByTables =
    (net : Net) (roles : ℕ) (tables : ℕ → LocalView) (h : List Event) → IsAcceptedNet net roles → AreTables net roles tables
    → IsRun net h ↔ AreTableSteps net roles tables h

-- An event stays a step of its role's machine if others did something else, as long as the role itself did the same and the
-- same lies in the channels to it.
abbrev pub MachinesSeeTheirOwn : Type 0
MachinesSeeTheirOwn =
    (net : Net) (h g : List Event) (e : Event) → acts e.role h ≡ acts e.role g
    → ((from : ℕ) → channel net from e.role h ≡ channel net from e.role g) → IsMachineStep net h e → IsMachineStep net g e

-- After steps of machines the machines of an accepted protocol are safe.
abbrev pub MachinesAreSafe : Type 0
MachinesAreSafe =
    (net : Net) (roles : ℕ) (h : List Event) → IsAcceptedNet net roles → AreMachineSteps net h → AreSafe net roles h

-- After each entry of a legal journal of an accepted protocol, crashes and recoveries included, the kept events are steps of
-- the roles' machines.
abbrev pub JournalsKeepMachineSteps : Type 0
JournalsKeepMachineSteps =
    (rules : Rules) (front back : List Entry) → IsSession rules → IsLegal rules (front ++ back)
    → AreMachineSteps rules.net (reading rules front).kept

-- For each run of an accepted protocol there are rules without crashes and a legal journal of sends and receives alone that
-- keeps the run: the same roles, directions, points and numbers in the same order, with the stamps of the journal's clocks.
abbrev pub RunsAreJournals : Type 0
RunsAreJournals =
    (net : Net) (roles : ℕ) (h : List Event) → IsAcceptedNet net roles → IsRun net h
    → (rules : Rules) × (journal : List Entry) × AreCalmRules net roles rules × IsJournalOf rules h journal
