-- What one Recover does: which Crash it answers, which roles lose events by it, and where each role stands after it.
use Rattle.std.specs.Prelude.{◌≡◌, ℕ, ◌<◌, ◌≤◌, None, Some, List, [], length, slice_get, slice_index_or, MatchOption}
use Rattle.rcv_tree.specs.declared.role.RoleSet.{RoleSet}
use Rattle.rcv_tree.specs.declared.entry.Entry.{Entry}
use Rattle.rcv_tree.specs.declared.entry.Entry.TheVariants.{Crash, Recover}
use Rattle.rcv_model.specs.Net.{IsIn}
use Rattle.rcv_story.specs.declared.story.Recovery.{Recovery}
use Rattle.rcv_story.specs.Kept.{kept_before, left_after}

-- At place q stands a Recover of role p.
pub record IsRecoverAt (entries : List Entry) (q p : ℕ) : Type 0 where
  pub concerned : RoleSet
  pub keeps : List ℕ
  pub undone : ℕ
  pub there : slice_get entries q ≡ Some (Recover p concerned keeps undone)

-- Role p crashes nowhere before place q; or its latest Crash before q stands at place c.
abbrev pub HasNoCrash : List Entry → ℕ → ℕ → Type 0
HasNoCrash entries p q = (d : ℕ) → d < q → slice_get entries d ≡ Some (Crash p) → ⊥

pub record IsLatestCrash (entries : List Entry) (p q c : ℕ) : Type 0 where
  pub before : c < q
  pub there : slice_get entries c ≡ Some (Crash p)
  pub latest : (d : ℕ) → d < q → slice_get entries d ≡ Some (Crash p) → d ≤ c

-- Role r goes back by the Recover at place q: it keeps fewer events than it had. Else it stays.
abbrev pub GoesBack : List Entry → ℕ → ℕ → Type 0
GoesBack entries q r = length (left_after r entries q) < length (kept_before r entries q)

-- It stays: it keeps what it had.
abbrev pub Stays : List Entry → ℕ → ℕ → Type 0
Stays entries q r = left_after r entries q ≡ kept_before r entries q

-- The first event that it loses stands at place p.
pub record IsFirstLost (entries : List Entry) (q r p : ℕ) : Type 0 where
  pub had : IsIn p (kept_before r entries q)
  pub lost : IsIn p (left_after r entries q) → ⊥
  pub first : (o : ℕ) → IsIn o (kept_before r entries q) → (IsIn o (left_after r entries q) → ⊥) → p ≤ o

-- The last event that it keeps stands at place p.
pub record IsLastKept (entries : List Entry) (q r p : ℕ) : Type 0 where
  pub kept : IsIn p (left_after r entries q)
  pub last : (o : ℕ) → IsIn o (left_after r entries q) → o ≤ p

-- What a Recover does is told right: its place, the latest Crash of its role, and of each role the first event that it loses and
-- the last that it keeps, if there is one.
pub record IsRecovery (entries : List Entry) (x : Recovery) : Type 0 where
  pub role : ℕ
  pub recover : IsRecoverAt entries x.place role
  pub crash : MatchOption x.crash (HasNoCrash entries role x.place) (λ c. IsLatestCrash entries role x.place c)
  pub firsts : (r : ℕ) → r < 8
      → MatchOption (slice_index_or x.firsts r None) (Stays entries x.place r) (λ p. IsFirstLost entries x.place r p)
  pub lasts : (r : ℕ) → r < 8
      → MatchOption (slice_index_or x.lasts r None) (left_after r entries x.place ≡ []) (λ p. IsLastKept entries x.place r p)

-- These are exactly the recoveries, each once, in order.
pub record AreRecoveries (entries : List Entry) (xs : List Recovery) : Type 0 where
  pub sound : (i : ℕ) (x : Recovery) → slice_get xs i ≡ Some x → IsRecovery entries x
  pub complete : (q p : ℕ) → IsRecoverAt entries q p → (i : ℕ) × (x : Recovery) × (slice_get xs i ≡ Some x) × (x.place ≡ q)
  pub ascending : (i j : ℕ) (x y : Recovery) → i < j → slice_get xs i ≡ Some x → slice_get xs j ≡ Some y → x.place < y.place
