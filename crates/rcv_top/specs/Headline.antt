-- The headline: what a journal that the program writes is.
use Rattle.std.specs.Prelude.{◌≡◌, ℕ, ◌<◌, List, [], ◌∷◌, ◌++◌}
use Rattle.rcv_tree.specs.declared.entry.Entry.{Entry}
use Rattle.rcv_tree.specs.declared.entry.Entry.TheVariants.{Recover}
use Rattle.rcv_tree.specs.declared.role.RoleSet.{RoleSet}
use Rattle.rcv_model.specs.Run.{joint_of, IsReachedState}
use Rattle.rcv_model.specs.UndoLaws.{TellsRight}
use Rattle.rcv_model.specs.Journal.{Rules, reading, IsLegal, KeepsRuns}
use Rattle.rcv_model.specs.Final.{IsFinal}
use Rattle.rcv_theory.specs.Foreseen.{IsSparedOrForeseen}

-- After each entry the joint state, messages in flight included, is one that the protocol reaches without failures.
abbrev pub ReachesStates : Rules → List Entry → Type 0
ReachesStates rules journal =
    (front back : List Entry) → front ++ back ≡ journal → IsReachedState rules.net (joint_of rules.net (reading rules front).kept)

-- Each recovery undoes exactly the failed roles' lost events and what depends on them, as many as its line says, and
-- leaves to each role that it names as many as its line says. The failed roles are the one named first and those of its
-- host.
abbrev pub RecoversExactly : Rules → List Entry → Type 0
RecoversExactly rules journal =
    (front back : List Entry) (p : ℕ) (concerned : RoleSet) (kept : List ℕ) (undone : ℕ)
    → front ++ Recover p concerned kept undone ∷ back ≡ journal
    → TellsRight rules (reading rules front) (reading rules (front ++ Recover p concerned kept undone ∷ [])) p concerned kept undone

-- At each recovery a role that it doesn't name keeps all that it has, and the first event that a role loses is at a point
-- where the table says that it restarts.
abbrev pub RecoversAsForeseen : Rules → List Entry → Type 0
RecoversAsForeseen rules journal =
    (front back : List Entry) (p : ℕ) (concerned : RoleSet) (kept : List ℕ) (undone : ℕ)
    → front ++ Recover p concerned kept undone ∷ back ≡ journal
    → (q : ℕ) → q < 8
    → IsSparedOrForeseen rules (reading rules front) (reading rules (front ++ Recover p concerned kept undone ∷ [])) p concerned q

-- A legal list of sends, receives, crashes and recoveries. After each entry the kept events are a run, and so the joint
-- state is one that the protocol reaches; each recovery undoes exactly what was lost and what depends on it, spares whom
-- it doesn't name, and lets the others restart where the table says; and at the end nothing is left to do.
pub record IsHeadline (rules : Rules) (journal : List Entry) : Type 0 where
  pub legal : IsLegal rules journal
  pub runs : KeepsRuns rules journal
  pub reaches : ReachesStates rules journal
  pub undoes : RecoversExactly rules journal
  pub spares : RecoversAsForeseen rules journal
  pub final : IsFinal rules (reading rules journal)
