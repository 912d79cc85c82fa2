-- Which protocols come to which, as rows of sets, and an order of them.
use Rattle.std.specs.Prelude.{◌≡◌, ℕ, ◌^◌, ◌<◌, ◌≤◌, ◌==◌, ◌&&◌, ◌↔◌, Bool, true, false}
use Rattle.std.specs.Prelude.{Option, Some, None, List, [], ◌∷◌, ◌++◌, length, slice_get, slice_index_or}
use Rattle.rcv_tree.specs.Bits.{has_bit}
use Rattle.rcv_model.specs.Net.{IsIn}
use Rattle.rcv_do.specs.declared.calls.Call.{Call}
use Rattle.rcv_do.specs.declared.set.Set.{Set}
use Rattle.rcv_module.specs.Parts.{Part}
use Rattle.rcv_module.specs.Refusing.{Reaches}

-- a row as a number, and whether a place is in a row
abbrev pub word : List Set → ℕ → ℕ
word rows i = (slice_index_or rows i (record { 0 = 0 })).0

abbrev pub has : List Set → ℕ → ℕ → Bool
has rows i j = has_bit (word rows i) j

-- The places of a call are among so many.
pub record IsInside (count : ℕ) (c : Call) : Type 0 where
  pub holder : c.holder < count
  pub target : (j : ℕ) → c.target ≡ Some j → j < count

-- the call leads from one place to another
abbrev pub is_target : Option ℕ → ℕ → Bool
is_target None j = false
is_target (Some t) j = t == j

abbrev pub is_call : Call → ℕ → ℕ → Bool
is_call c i j = (c.holder == i) && is_target c.target j

-- One of these calls does, and one comes from one place to another by any number of them.
pub record Leads (calls : List Call) (i j : ℕ) : Type 0 where
  pub number : ℕ
  pub call : Call
  pub is : slice_get calls number ≡ Some call
  pub holds : call.holder ≡ i
  pub calls_it : call.target ≡ Some j

pub data Comes (calls : List Call) : ℕ → ℕ → Type 0 where
  itself : (i : ℕ) → Comes calls i i
  by_call : (i j k : ℕ) → Leads calls i j → Comes calls j k → Comes calls i k

-- Each of so many rows has the places to which its own comes, and no others.
pub record AreRows (calls : List Call) (count : ℕ) (rows : List Set) : Type 0 where
  pub long : length rows ≡ count
  pub inside : (i j : ℕ) → i < count → j < 64 → has rows i j ≡ true → j < count
  pub sound : (i j : ℕ) → i < count → j < count → has rows i j ≡ true → Comes calls i j
  pub complete : (i j : ℕ) → i < count → Comes calls i j → has rows i j ≡ true

-- The same, said of a module's protocols.
pub record AreRowsOf (parts : List Part) (rows : List Set) : Type 0 where
  pub long : length rows ≡ length parts
  pub inside : (i j : ℕ) → i < length parts → j < 64 → has rows i j ≡ true → j < length parts
  pub reached : (i j : ℕ) → i < length parts → j < length parts → (has rows i j ≡ true) ↔ Reaches parts i j

-- No two places come to each other.
pub record AreAcyclic (rows : List Set) : Type 0 where
  pub inside : (i j : ℕ) → i < length rows → j < 64 → has rows i j ≡ true → j < length rows
  pub own : (i : ℕ) → i < length rows → has rows i i ≡ true
  pub joined : (i j k : ℕ) → i < length rows → j < length rows → k < length rows → has rows i j ≡ true → has rows j k ≡ true → has rows i k ≡ true
  pub once : (i j : ℕ) → i < length rows → j < length rows → has rows i j ≡ true → has rows j i ≡ true → i ≡ j

-- ---- the order

-- After these, each place stands after all others in its row.
abbrev pub StandBehind : List Set → List ℕ → List ℕ → Type 0
StandBehind rows done [] = Unit {0}
StandBehind rows done (i ∷ is) =
    ((j : ℕ) → j < length rows → has rows i j ≡ true → (j ≡ i → ⊥) → IsIn j done) × StandBehind rows (done ++ i ∷ []) is

-- It has the places to which the first one comes, except its own, and each stands after those in its row.
pub record IsOrder (rows : List Set) (order : List ℕ) : Type 0 where
  pub inside : (i : ℕ) → IsIn i order → i < length rows
  pub all : (i : ℕ) → i < length rows → has rows 0 i ≡ true → (i ≡ 0 → ⊥) → IsIn i order
  pub behind : StandBehind rows [] order

-- the place is listed
abbrev pub IsListed : List Bool → ℕ → Type 0
IsListed listed i = slice_index_or listed i false ≡ true

-- Of so many first places this has the least row of those that aren't listed, which have 64 bits each; or all are listed.
abbrev pub IsLeast : List Set → List Bool → ℕ → Option ℕ → Type 0
IsLeast rows listed n None = (i : ℕ) → i < n → IsListed listed i
IsLeast rows listed n (Some p) =
    (p < n) × (IsListed listed p → ⊥)
    × ((i : ℕ) → i < n → (IsListed listed i → ⊥) → (word rows p ≤ word rows i) × (word rows i < 2 ^ 64))
