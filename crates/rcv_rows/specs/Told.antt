-- What a picture of a journal tells: each entry in a row of its own or in a fold, and messages as arrows.
use Rattle.std.specs.Prelude.{◌≡◌, ◌⊎◌, ◌↔◌, ℕ, suc, ◌+◌, ◌<◌, ◌≤◌, Bool, true, false, List, [], ◌∷◌, length, Some, slice_get, slice_range}
use Rattle.std.specs.List.{All, count_by}
use Rattle.rcv_tree.specs.declared.event.Event.{Event}
use Rattle.rcv_tree.specs.declared.entry.Entry.{Entry}
use Rattle.rcv_tree.specs.declared.entry.Entry.TheVariants.{Send, Recv, Crash, Recover}
use Rattle.rcv_model.specs.Net.{Net}
use Rattle.rcv_picture.specs.declared.group.Counts.{Counts}
use Rattle.rcv_picture.specs.declared.group.Says.{Says}
use Rattle.rcv_picture.specs.declared.group.Says.TheVariants as says
use Rattle.rcv_fates.specs.Fates.{IsUndone, IsUndoneAt, IsMessage}

-- The rows tell of each entry from one place up to before another exactly once, in order.
abbrev pub ArePieces : ℕ → ℕ → List Says → Type 0
ArePieces from to [] = from ≡ to
ArePieces from to (says.Entry place undone ∷ rows) = (place ≡ from) × ArePieces (from + 1) to rows
ArePieces from to (says.Fold first end counts ∷ rows) =
    (first ≡ from) × (first < end) × (end ≤ to) × ArePieces end to rows
ArePieces from to (says.Nothing ∷ rows) = ⊥
ArePieces from to (says.Arrow send receive undone ∷ rows) = ⊥

-- The first row is a fold.
abbrev pub begins_folded : List Says → Bool
begins_folded [] = false
begins_folded (says.Fold first end counts ∷ rows) = true
begins_folded (says.Entry place undone ∷ rows) = false
begins_folded (says.Nothing ∷ rows) = false
begins_folded (says.Arrow send receive undone ∷ rows) = false

-- No fold stands right after another: each holds all that is folded there.
abbrev pub AreApart : List Says → Type 0
AreApart [] = Unit {0}
AreApart (says.Fold first end counts ∷ rows) = (begins_folded rows ≡ false) × AreApart rows
AreApart (says.Entry place undone ∷ rows) = AreApart rows
AreApart (says.Nothing ∷ rows) = AreApart rows
AreApart (says.Arrow send receive undone ∷ rows) = AreApart rows

-- So many of these entries are undone.
pub data AreUndone (kept : List Event) : List Entry → ℕ → Type 0 where
  AtEnd : AreUndone kept [] 0
  Undone : {e : Entry} {rest : List Entry} {n : ℕ} → IsUndone kept e → AreUndone kept rest n
      → AreUndone kept (e ∷ rest) (suc n)
  Passed : {e : Entry} {rest : List Entry} {n : ℕ} → (IsUndone kept e → ⊥) → AreUndone kept rest n
      → AreUndone kept (e ∷ rest) n

-- The entry is of this kind.
abbrev pub is_send : Entry → Bool
is_send (Send event) = true
is_send (Recv event) = false
is_send (Crash role) = false
is_send (Recover role concerned keeps removed) = false

abbrev pub is_recv : Entry → Bool
is_recv (Send event) = false
is_recv (Recv event) = true
is_recv (Crash role) = false
is_recv (Recover role concerned keeps removed) = false

abbrev pub is_crash : Entry → Bool
is_crash (Send event) = false
is_crash (Recv event) = false
is_crash (Crash role) = true
is_crash (Recover role concerned keeps removed) = false

abbrev pub is_recover : Entry → Bool
is_recover (Send event) = false
is_recover (Recv event) = false
is_recover (Crash role) = false
is_recover (Recover role concerned keeps removed) = true

-- So many of these entries are of each kind, and so many are undone.
pub record AreCounts (kept : List Event) (run : List Entry) (counts : Counts) : Type 0 where
  pub sends : counts.sends ≡ count_by is_send run
  pub receives : counts.receives ≡ count_by is_recv run
  pub crashes : counts.crashes ≡ count_by is_crash run
  pub recoveries : counts.recoveries ≡ count_by is_recover run
  pub undone : AreUndone kept run counts.undone

-- What a row says of the entries is true.
abbrev pub IsRight : List Event → List Entry → Says → Type 0
IsRight kept entries (says.Entry place undone) = (undone ≡ true) ↔ IsUndoneAt kept entries place
IsRight kept entries (says.Fold first end counts) = AreCounts kept (slice_range entries first end) counts
IsRight kept entries says.Nothing = ⊥
IsRight kept entries (says.Arrow send receive undone) = ⊥

-- The rows tell of these entries, if these events are kept at the end.
pub record AreRows (kept : List Event) (entries : List Entry) (rows : List Says) : Type 0 where
  pub pieces : ArePieces 0 (length entries) rows
  pub right : All (IsRight kept entries) rows
  pub apart : AreApart rows

-- This is one of the things that are said.
abbrev pub IsSaid : Says → List Says → Type 0
IsSaid said [] = ⊥
IsSaid said (first ∷ others) = (said ≡ first) ⊎ IsSaid said others

-- The entry at this place has a row of its own.
abbrev pub IsShown : List Says → ℕ → Type 0
IsShown rows place = (undone : Bool) × IsSaid (says.Entry place undone) rows

-- The place is marked.
abbrev pub IsMarked : List Bool → ℕ → Type 0
IsMarked marks place = slice_get marks place ≡ Some true

-- The entries that have rows of their own are the marked ones.
abbrev pub ShowMarked : List Bool → List Says → Type 0
ShowMarked marks rows = (place : ℕ) → IsShown rows place ↔ IsMarked marks place

-- An arrow is a message with an end that is shown, and says rightly whether its Recv is undone.
pub record IsWire (net : Net) (kept : List Event) (entries : List Entry) (shows : ℕ → Type 0) (s t : ℕ) (undone : Bool) : Type 0 where
  pub message : IsMessage net entries s t
  pub shown : shows s ⊎ shows t
  pub right : (undone ≡ true) ↔ IsUndoneAt kept entries t

-- The arrow from one place to another stands there.
abbrev pub IsDrawn : List Says → ℕ → ℕ → Type 0
IsDrawn wires s t = (undone : Bool) × IsSaid (says.Arrow s t undone) wires

-- It is an arrow as above.
abbrev pub IsWireIn : Net → List Event → List Entry → (ℕ → Type 0) → Says → Type 0
IsWireIn net kept entries shows (says.Arrow s t undone) = IsWire net kept entries shows s t undone
IsWireIn net kept entries shows (says.Entry place undone) = ⊥
IsWireIn net kept entries shows (says.Fold first end counts) = ⊥
IsWireIn net kept entries shows says.Nothing = ⊥

-- No two arrows are of one message.
abbrev pub AreOnce : List Says → Type 0
AreOnce [] = Unit {0}
AreOnce (says.Arrow s t undone ∷ wires) = (IsDrawn wires s t → ⊥) × AreOnce wires
AreOnce (says.Entry place undone ∷ wires) = ⊥
AreOnce (says.Fold first end counts ∷ wires) = ⊥
AreOnce (says.Nothing ∷ wires) = ⊥

-- The arrows are the messages with an end that is shown, each once.
pub record AreWires (net : Net) (kept : List Event) (entries : List Entry) (shows : ℕ → Type 0) (wires : List Says) : Type 0 where
  pub right : All (IsWireIn net kept entries shows) wires
  pub all : (s t : ℕ) → IsMessage net entries s t → shows s ⊎ shows t → IsDrawn wires s t
  pub once : AreOnce wires

-- The rows and arrows tell of these entries, if these events are kept at the end.
pub record Tells (net : Net) (kept : List Event) (entries : List Entry) (rows wires : List Says) : Type 0 where
  pub in_rows : AreRows kept entries rows
  pub in_wires : AreWires net kept entries (IsShown rows) wires
