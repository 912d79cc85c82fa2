-- The stamps of each role's events, in order.
use Rattle.std.specs.Prelude.{◌≡◌, ℕ, ◌<◌, List, [], ◌∷◌, ◌++◌, length, map, take, Some, slice_get, slice_index_or, slice_set}
use Rattle.rcv_tree.specs.declared.event.Event.{Event}
use Rattle.rcv_tree.specs.declared.entry.Entry.{Entry}
use Rattle.rcv_tree.specs.declared.entry.Entry.TheVariants.{Send, Recv, Crash, Recover}

-- The list of a role.
abbrev pub stamps_at : List (List ℕ) → ℕ → List ℕ
stamps_at lists r = slice_index_or lists r []

-- One stamp more of a role; and only its first stamps.
abbrev pub with_stamp : List (List ℕ) → ℕ → ℕ → List (List ℕ)
with_stamp lists r stamp = slice_set lists r (stamps_at lists r ++ stamp ∷ [])

abbrev pub cut_to : List (List ℕ) → ℕ → ℕ → List (List ℕ)
cut_to lists r count = slice_set lists r (take count (stamps_at lists r))

-- The stamps of events.
abbrev pub stamps_of : List Event → List ℕ
stamps_of events = map (λ e. e.stamp) events

-- The stamp is one of these.
abbrev pub IsStamp : List ℕ → ℕ → Type 0
IsStamp stamps stamp = (i : ℕ) × (slice_get stamps i ≡ Some stamp)

-- The entry is a Send or Recv whose stamp isn't among its role's.
abbrev pub LacksStamp : List (List ℕ) → Entry → Type 0
LacksStamp lists (Send e) = IsStamp (stamps_at lists e.role) e.stamp → ⊥
LacksStamp lists (Recv e) = IsStamp (stamps_at lists e.role) e.stamp → ⊥
LacksStamp lists (Crash p) = ⊥
LacksStamp lists (Recover p concerned kept undone) = ⊥

-- The entry is a Send or Recv of this event.
abbrev pub IsEventOf : Entry → Event → Type 0
IsEventOf (Send d) e = d ≡ e
IsEventOf (Recv d) e = d ≡ e
IsEventOf (Crash p) e = ⊥
IsEventOf (Recover p concerned kept undone) e = ⊥

-- The lists are the stamps of these events of so many roles.
pub record AreStamps (roles : ℕ) (events : ℕ → List Event) (lists : List (List ℕ)) : Type 0 where
  pub count : length lists ≡ roles
  pub each : (r : ℕ) → r < roles → stamps_at lists r ≡ stamps_of (events r)

-- What an entry does to the events of each role.
abbrev pub IsBehind : (ℕ → List Event) → (ℕ → List Event) → Entry → Type 0
IsBehind old new (Send e) = (new e.role ≡ old e.role ++ e ∷ []) × ((r : ℕ) → (r ≡ e.role → ⊥) → new r ≡ old r)
IsBehind old new (Recv e) = (new e.role ≡ old e.role ++ e ∷ []) × ((r : ℕ) → (r ≡ e.role → ⊥) → new r ≡ old r)
IsBehind old new (Crash p) = (r : ℕ) → new r ≡ old r
IsBehind old new (Recover p concerned kept undone) = (r : ℕ) → (n : ℕ) × (new r ≡ take n (old r))
