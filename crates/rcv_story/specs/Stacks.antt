-- What the code keeps while it runs: the events that each role keeps, and who undoes each entry.
use Rattle.std.specs.Prelude.{◌≡◌, ◌⊎◌, ◌↔◌, ℕ, ◌-◌, ◌<◌, min, Bool, true, Option, Some, List, [], ◌∷◌, ◌++◌, length, drop, slice_get, slice_index, slice_index_or, slice_set, if◌then◌else◌}
use Rattle.rcv_tree.specs.Bits.{has_bit}
use Rattle.rcv_tree.specs.declared.role.RoleSet.{RoleSet}
use Rattle.rcv_tree.specs.declared.event.Event.{Event}
use Rattle.rcv_tree.specs.declared.entry.Entry.{Entry}
use Rattle.rcv_tree.specs.declared.entry.Entry.TheVariants.{Send}
use Rattle.rcv_model.specs.Net.{Net, IsIn}
use Rattle.rcv_fates.specs.Fates.{IsMessage}
use Rattle.rcv_story.specs.declared.undoing.Undoing.{Undoing}
use Rattle.rcv_story.specs.Kept.{IsUndoneBy}
use Rattle.rcv_story.specs.Recoveries.{AreRecoveries}

-- The stack of a role.
abbrev pub stack_at : List (List ℕ) → ℕ → List ℕ
stack_at lists r = slice_index_or lists r []

-- One event more of a role, at this place.
abbrev pub with_place : List (List ℕ) → ℕ → ℕ → List (List ℕ)
with_place lists r place = slice_set lists r (stack_at lists r ++ place ∷ [])

-- How many of so many kept events a Recover leaves to role r.
abbrev pub left_count : RoleSet → List ℕ → ℕ → ℕ → ℕ
left_count concerned keeps r height = if has_bit concerned.0 r then min height (slice_index keeps r) else height

-- The last place of a stack.
abbrev pub last_in : List ℕ → Option ℕ
last_in stack = slice_get stack (length stack - 1)

-- These places are marked with a Recover, and the others are as they were.
pub record AreMarked (P : ℕ → Type 0) (recover : ℕ) (old new : List (Option ℕ)) : Type 0 where
  pub size : length new ≡ length old
  pub hit : (p : ℕ) → P p → slice_get new p ≡ Some (Some recover)
  pub miss : (p : ℕ) → (P p → ⊥) → slice_get new p ≡ slice_get old p
  pub either : (p : ℕ) → P p ⊎ (slice_get new p ≡ slice_get old p)

-- A Recover takes the event at place p from one of the first so many stacks.
abbrev pub IsTaken : RoleSet → List ℕ → List (List ℕ) → ℕ → ℕ → Type 0
IsTaken concerned keeps lists n p =
    (r : ℕ) × (r < n) × IsIn p (drop (left_count concerned keeps r (length (stack_at lists r))) (stack_at lists r))

-- For each entry the Recover that undoes it, if one does.
pub record AreUndone (entries : List Entry) (undone : List (Option ℕ)) : Type 0 where
  pub size : length undone ≡ length entries
  pub each : (p q : ℕ) → (slice_get undone p ≡ Some (Some q)) ↔ IsUndoneBy entries p q

-- That is found, with the recoveries.
pub record IsUndoing (entries : List Entry) (found : Undoing) : Type 0 where
  pub undone : AreUndone entries found.undone.items
  pub recoveries : AreRecoveries entries found.recoveries.items

-- The entry is a Send.
abbrev pub IsSend : Entry → Type 0
IsSend x = (e : Event) × (x ≡ Send e)

-- The message from place s is received at a place that shares its fate.
pub record IsMet (net : Net) (entries : List Entry) (undone : List (Option ℕ)) (s : ℕ) : Type 0 where
  pub t : ℕ
  pub message : IsMessage net entries s t
  pub same : slice_get undone t ≡ slice_get undone s

pub record AreMet (net : Net) (entries : List Entry) (undone : List (Option ℕ)) (met : List Bool) : Type 0 where
  pub size : length met ≡ length entries
  pub each : (s : ℕ) → (slice_get met s ≡ Some true) ↔ IsMet net entries undone s
