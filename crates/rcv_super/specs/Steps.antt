-- How a session's book goes on.
use Rattle.std.specs.Prelude.{◌≡◌, ℕ, List, ◌∷◌}
use Rattle.rcv_tree.specs.declared.entry.Entry.{Entry}
use Rattle.rcv_tree.specs.declared.entry.Entry.TheVariants.{Send, Recv, Crash, Recover}
use Rattle.rcv_tree.specs.declared.role.RoleSet.{RoleSet}
use Rattle.rcv_core.specs.Book.{BookView, with_entry, with_more, IsRecoveryOf}

-- At least one entry was added.
pub record HasGoneOn (old new : BookView) : Type 0 where
  pub first : Entry
  pub more : List Entry
  pub added : new ≡ with_more old (first ∷ more)

-- The Recover of this role may come, and was added.
pub record HasRecovered (old new : BookView) (role : ℕ) : Type 0 where
  pub entry : Entry
  pub recovers : IsRecoveryOf old role entry
  pub added : new ≡ with_entry old entry

-- Whom an entry concerns: a Recover concerns the roles that it names, any other entry nobody.
abbrev pub concerned_of : Entry → RoleSet
concerned_of (Send e) = record { 0 = 0 }
concerned_of (Recv e) = record { 0 = 0 }
concerned_of (Crash p) = record { 0 = 0 }
concerned_of (Recover p concerned kept undone) = concerned
