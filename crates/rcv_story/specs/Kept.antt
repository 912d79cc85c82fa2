-- Which events a role keeps along a list of entries, whoever judged it, and which Recover undoes an event. Places count from 0.
use Rattle.std.specs.Prelude.{ℕ, ◌+◌, ◌==◌, List, [], ◌∷◌, ◌++◌, take, slice_index, if◌then◌else◌}
use Rattle.rcv_tree.specs.Bits.{has_bit}
use Rattle.rcv_tree.specs.declared.entry.Entry.{Entry}
use Rattle.rcv_tree.specs.declared.entry.Entry.TheVariants.{Send, Recv, Crash, Recover}
use Rattle.rcv_model.specs.Net.{IsIn}

-- What role r keeps after one entry more, which stands at place k. A Send or a Recv of r adds its place. A Recover that concerns r leaves
-- as many of the first ones as it says.
abbrev pub kept_after : ℕ → ℕ → List ℕ → Entry → List ℕ
kept_after r k kept (Send e) = if e.role == r then kept ++ k ∷ [] else kept
kept_after r k kept (Recv e) = if e.role == r then kept ++ k ∷ [] else kept
kept_after r k kept (Crash p) = kept
kept_after r k kept (Recover p concerned keeps undone) = if has_bit concerned.0 r then take (slice_index keeps r) kept else kept

-- The same after these entries. The first of them stands at place k.
abbrev pub kept_from : ℕ → ℕ → List ℕ → List Entry → List ℕ
kept_from r k kept [] = kept
kept_from r k kept (x ∷ entries) = kept_from r (k + 1) (kept_after r k kept x) entries

-- The places of the events that role r keeps after these entries, in order.
abbrev pub kept_places : ℕ → List Entry → List ℕ
kept_places r entries = kept_from r 0 [] entries

-- What role r keeps just before the entry at place q, and just after it.
abbrev pub kept_before : ℕ → List Entry → ℕ → List ℕ
kept_before r entries q = kept_places r (take q entries)

abbrev pub left_after : ℕ → List Entry → ℕ → List ℕ
left_after r entries q = kept_places r (take (q + 1) entries)

-- The Recover at place q undoes the event at place p: its role keeps it just before, and not just after.
pub record IsUndoneBy (entries : List Entry) (p q : ℕ) : Type 0 where
  pub role : ℕ
  pub had : IsIn p (kept_before role entries q)
  pub lost : IsIn p (left_after role entries q) → ⊥

-- A role keeps the event at place p at the end.
abbrev pub IsKeptPlace : List Entry → ℕ → Type 0
IsKeptPlace entries p = (r : ℕ) × IsIn p (kept_places r entries)
