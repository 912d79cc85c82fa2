-- The same of told sessions, in which a role may have saved any number of its events: a restart point is met if, in some
-- session, some crash and its recovery send a role back to just that point.
use Rattle.std.specs.Prelude.{◌≡◌, ℕ, ◌≤◌, ◌↔◌, Some, List, [], ◌∷◌, ◌++◌, slice_get}
use Rattle.rcv_tree.specs.declared.entry.Entry.{Entry}
use Rattle.rcv_tree.specs.declared.entry.Entry.TheVariants.{Crash, Recover}
use Rattle.rcv_tree.specs.declared.role.RoleSet.{RoleSet}
use Rattle.rcv_model.specs.Next.{IsOf}
use Rattle.rcv_model.specs.Run.{Act, acts}
use Rattle.rcv_model.specs.Table.{IsRestart}
use Rattle.rcv_told.specs.Laws.{AreAccepted}
use Rattle.rcv_told.specs.Told.{Terms, Remembered, told, made, HasFailed, IsTold}
use Rattle.rcv_tightness.specs.Met.{LosesFrom}

-- What is remembered after these entries and a crash of p.
abbrev pub crashed : Terms → List Entry → ℕ → Remembered
crashed terms entries p = told terms (entries ++ Crash p ∷ [])

-- These entries, a crash of p, and its recovery.
abbrev pub with_failure : List Entry → ℕ → RoleSet → List ℕ → ℕ → List Entry
with_failure entries p concerned kept undone = entries ++ Crash p ∷ (Recover p concerned kept undone ∷ [])

-- A session may be told in which role p crashes after these entries and recovers. Then p has saved only its events before its
-- point n, and each other role all of its events. The first event that q loses by that is at the point z.
pub record IsMetInTold (terms : Terms) (p n q z : ℕ) : Type 0 where
  pub entries : List Entry
  pub saved : ℕ → ℕ
  pub concerned : RoleSet
  pub kept : List ℕ
  pub undone : ℕ
  pub are_told : IsTold terms (with_failure entries p concerned kept undone)
  pub failed : HasFailed terms (crashed terms entries p) p saved concerned kept undone
  pub loses : LosesFrom (crashed terms entries p).held saved p n
  pub own : Act
  pub back : slice_get (acts q (crashed terms entries p).held) (made (told terms (with_failure entries p concerned kept undone)) q) ≡ Some own
  pub point : own.point ≡ z

-- The terms are those of an accepted protocol, and n is a point of its role p.
pub record MayFailInTold (terms : Terms) (p n : ℕ) : Type 0 where
  pub accepted : AreAccepted terms
  pub least : 1 ≤ n
  pub most : n ≤ terms.net.count
  pub own : IsOf terms.net p n

-- The table has z as a restart point of q, from the start n of p, exactly if that is met in a told session.
abbrev pub ToldRestartsAreMet : Type 0
ToldRestartsAreMet =
    (terms : Terms) (p n q z : ℕ) → MayFailInTold terms p n → IsRestart terms.net p n q z ↔ IsMetInTold terms p n q z
