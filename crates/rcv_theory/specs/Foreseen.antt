-- What a recovery in a journal does to each role: it spares the role, or the role restarts where the table says.
use Rattle.std.specs.Prelude.{◌≡◌, ℕ, ◌<◌, true, Some, List, [], ◌∷◌, ◌++◌, length, slice_get}
use Rattle.rcv_tree.specs.Bits.{has_bit}
use Rattle.rcv_tree.specs.declared.entry.Entry.{Entry}
use Rattle.rcv_tree.specs.declared.entry.Entry.TheVariants.{Recover}
use Rattle.rcv_tree.specs.declared.role.RoleSet.{RoleSet}
use Rattle.rcv_model.specs.Run.{Act, acts}
use Rattle.rcv_model.specs.TableLaws.{IsForeseen}
use Rattle.rcv_model.specs.Premises.{IsSession}
use Rattle.rcv_model.specs.Journal.{Rules, State, durable, group_of, reading, IsLegal}
use Rattle.rcv_theory.specs.Bystander.{KeepsAll}

-- After a recovery of p's group role q has all that it had if the recovery doesn't name it; and if it has lost an event,
-- the first one that it lost is at a restart point from the start of some role of the group.
pub record IsSparedOrForeseen (rules : Rules) (before after : State) (p : ℕ) (concerned : RoleSet) (q : ℕ) : Type 0 where
  pub spared : (has_bit concerned.0 q ≡ true → ⊥) → KeepsAll rules.net before after q
  pub restarts : (own : Act) → slice_get (acts q before.kept) (length (acts q after.kept)) ≡ Some own
      → IsForeseen rules.net (group_of rules p) (durable rules before) before.kept q own.point

-- This holds for each role at each recovery in a legal journal of an accepted protocol.
abbrev pub RecoveriesAreForeseen : Type 0
RecoveriesAreForeseen =
    (rules : Rules) (front back : List Entry) (p : ℕ) (concerned : RoleSet) (kept : List ℕ) (undone : ℕ)
    → IsSession rules → IsLegal rules (front ++ Recover p concerned kept undone ∷ back)
    → (q : ℕ) → q < 8
    → IsSparedOrForeseen rules (reading rules front) (reading rules (front ++ Recover p concerned kept undone ∷ [])) p concerned q
