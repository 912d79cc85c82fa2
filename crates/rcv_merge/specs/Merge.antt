-- One list of the entries of all logs, in the order of their times.
use Rattle.std.specs.Prelude.{◌≡◌, ℕ, ◌<◌, ◌≤◌, ◌⊎◌, Option, Some, None, List, [], length, map, slice_get, slice_index, slice_index_or}
use denote.Ref.{Bor}
use Rattle.rcv_tree.specs.declared.entry.Entry.{Entry}
use Rattle.rcv_tree.specs.declared.entry.Entry.TheVariants.{Crash}
use Rattle.rcv_tree.specs.declared.entry.Timed.{Timed}
use Rattle.rcv_merge.specs.declared.round.Front.{Front}
use Rattle.rcv_theory.specs.Round.{entries, Placed, IsByStamp, in_order}

-- The logs as lists.
abbrev pub lent_logs : List (Bor (List Timed)) → List (List Timed)
lent_logs logs = map (λ (log : Bor (List Timed)). log.now) logs

-- The log of a role: a role without one has done nothing.
abbrev pub log_at : List (List Timed) → ℕ → List Timed
log_at logs r = slice_index_or logs r []

-- Each entry of the logs once: by stamp, then role, then position.
pub record IsMergeOf (logs : List (List Timed)) (merged : List Entry) : Type 0 where
  pub placed : List Placed
  pub by_stamp : IsByStamp (log_at logs) placed
  pub is : merged ≡ entries (in_order placed)

-- What stands where there is no entry.
abbrev pub nobody : Timed
nobody = record { stamp = 0; step = Crash 0 }

-- The next entry of a role, whose log is done up to its head, and its stamp.
abbrev pub next_at : List (List Timed) → List ℕ → ℕ → Timed
next_at logs heads r = slice_index_or (log_at logs r) (slice_index heads r) nobody

abbrev pub stamp_at : List (List Timed) → List ℕ → ℕ → ℕ
stamp_at logs heads r = (next_at logs heads r).stamp

-- A role has an entry left; no role has one.
abbrev pub HasLeft : List (List Timed) → List ℕ → ℕ → Type 0
HasLeft logs heads r = slice_index heads r < length (log_at logs r)

abbrev pub AreDone : List (List Timed) → List ℕ → Type 0
AreDone logs heads = (r : ℕ) → r < length heads → slice_index heads r ≡ length (log_at logs r)

-- Each log has a head, within it or at its end.
pub record AreWithin (logs : List (List Timed)) (heads : List ℕ) : Type 0 where
  pub count : length logs ≤ length heads
  pub within : (r : ℕ) → slice_index heads r ≤ length (log_at logs r)

-- Of the roles below n that have an entry left, r's comes first: by stamp, then role.
pub record IsFirstOf (logs : List (List Timed)) (heads : List ℕ) (n r : ℕ) : Type 0 where
  pub role : r < n
  pub left : HasLeft logs heads r
  pub first : (q : ℕ) → q < n → HasLeft logs heads q
      → (stamp_at logs heads r < stamp_at logs heads q)
      ⊎ ((stamp_at logs heads r ≡ stamp_at logs heads q) × (r ≤ q))

abbrev pub IsFirst : List (List Timed) → List ℕ → ℕ → Type 0
IsFirst logs heads r = IsFirstOf logs heads (length logs) r

-- The stamp of an entry, if there is one.
abbrev pub stamp_of : Option Timed → Option ℕ
stamp_of None = None
stamp_of (Some timed) = Some timed.stamp

-- The stamp of a role's next entry, if it has one left.
abbrev pub next_stamp : List (List Timed) → List ℕ → ℕ → Option ℕ
next_stamp logs heads r = stamp_of (slice_get (log_at logs r) (slice_index heads r))

-- These are the stamps of the next entries of eight roles.
abbrev pub AreStamps : List (List Timed) → List ℕ → List (Option ℕ) → Type 0
AreStamps logs heads stamps =
    (length stamps ≡ 8)
    × ((r : ℕ) → slice_index_or stamps r None ≡ next_stamp logs heads r)

-- Of the first n roles they are those of the first entries, and of the others none.
abbrev pub AreStampsOf : List (List Timed) → ℕ → List (Option ℕ) → Type 0
AreStampsOf logs n stamps =
    (length stamps ≡ 8)
    × ((r : ℕ) → r < n → slice_index_or stamps r None ≡ stamp_of (slice_get (log_at logs r) 0))
    × ((r : ℕ) → n ≤ r → slice_index_or stamps r None ≡ None)

-- None of the first n roles has an entry left.
abbrev pub AreDry : List (Option ℕ) → ℕ → Type 0
AreDry stamps n = (r : ℕ) → r < n → slice_index_or stamps r None ≡ None

-- Of the first n roles, this one's stamp is the least, and it is the first role with that stamp.
pub record IsFrontOf (stamps : List (Option ℕ)) (n : ℕ) (front : Front) : Type 0 where
  pub role : front.role < n
  pub stamp : slice_index_or stamps front.role None ≡ Some front.stamp
  pub first : (q t : ℕ) → q < n → slice_index_or stamps q None ≡ Some t
      → (front.stamp < t) ⊎ ((front.stamp ≡ t) × (front.role ≤ q))

abbrev pub IsFront : List (Option ℕ) → Front → Type 0
IsFront stamps front = IsFrontOf stamps 8 front

-- The former of the two, if there is one and its stamp isn't above the latter's, and else the latter.
abbrev pub IsFirstOfBoth : Option Front → Front → Front → Type 0
IsFirstOfBoth None latter front = front ≡ latter
IsFirstOfBoth (Some former) latter front =
    ((former.stamp ≤ latter.stamp) × (front ≡ former)) ⊎ ((latter.stamp < former.stamp) × (front ≡ latter))
