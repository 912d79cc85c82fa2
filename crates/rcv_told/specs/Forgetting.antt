-- Forgetting: what a shorter memory of the same session has in common with a longer one.
use Rattle.std.specs.Prelude.{◌≡◌, ℕ, ◌+◌, ◌≤◌, true, List, [], ◌∷◌, ◌++◌, length, drop, take, Some, slice_index}
use Rattle.rcv_tree.specs.Bits.{is_listed}
use Rattle.rcv_tree.specs.declared.event.Event.{Event}
use Rattle.rcv_tree.specs.declared.event.Message.{Message}
use Rattle.rcv_tree.specs.declared.entry.Entry.{Entry}
use Rattle.rcv_tree.specs.declared.entry.Entry.TheVariants.{Send, Recv, Crash, Recover}
use Rattle.rcv_model.specs.Net.{Net}
use Rattle.rcv_model.specs.Run.{acts, place_of, put, taken, IsQueued}
use Rattle.rcv_model.specs.Journal.{events_of}
use Rattle.rcv_told.specs.Told.{Terms, Remembered, down_at, HasFailed, MayBeTold, group_of, told_after}

-- The remembered events of a role that aren't forgotten; and those before them, which are forgotten except for their messages.
abbrev pub since : Remembered → ℕ → List Event
since m r = drop (slice_index m.seeds r) (events_of r m.held)

abbrev pub seeds_of : Remembered → ℕ → List Event
seeds_of m r = take (slice_index m.seeds r) (events_of r m.held)

-- The new memory of a role lacks so many more of its events, the next ones after those that the old one lacks.
pub record Lacks (old new : Remembered) (r gone : ℕ) : Type 0 where
  pub enough : gone ≤ length (since old r)
  pub forgotten : slice_index new.forgotten r ≡ slice_index old.forgotten r + gone
  pub since_is : since new r ≡ drop gone (since old r)
  pub point : slice_index new.points r ≡ place_of (slice_index old.points r) (acts r (take gone (since old r)))
  pub old_seeds : slice_index old.seeds r ≤ length (events_of r old.held)
  pub new_seeds : slice_index new.seeds r ≤ length (events_of r new.held)

-- The events of a role that the new memory lacks and the old one has, with those whose messages alone the old one has.
abbrev pub lacked : Remembered → ℕ → ℕ → List Event
lacked old r gone = seeds_of old r ++ take gone (since old r)

-- The channel from a to b lacks just the messages that were received among the lacked events: what else was sent among them
-- is still there, as the new memory's seeds, and nothing of the seeds was received.
pub record LacksMessages (net : Net) (old new : Remembered) (gone : ℕ → ℕ) (a b : ℕ) : Type 0 where
  pub received : List Message
  pub sent_is : put net a b (lacked old a (gone a)) ≡ received ++ put net a b (seeds_of new a)
  pub received_is : taken net a b (lacked old b (gone b)) ≡ received
  pub seeds_are : taken net a b (seeds_of new b) ≡ []

-- The new memory is of the same session as the old one, and shorter or the same.
pub record IsShorter (net : Net) (old new : Remembered) : Type 0 where
  pub gone : ℕ → ℕ
  pub lacks : (r : ℕ) → Lacks old new r (gone r)
  pub messages : (a b : ℕ) → LacksMessages net old new gone a b
  pub old_queued : IsQueued net old.held
  pub new_queued : IsQueued net new.held
  pub roles : new.roles ≡ old.roles

-- What is told loses none of the events that this memory has forgotten: each failed role has saved at least these.
abbrev pub LosesNothingForgotten : Terms → Remembered → ℕ → (ℕ → ℕ) → Type 0
LosesNothingForgotten terms new p saved =
    (q : ℕ) → is_listed (group_of terms p) q ≡ true → slice_index new.forgotten q ≤ saved q

-- An entry may be told to the longer memory, if a failure's saved counts reach what the shorter one has forgotten.
abbrev pub MayBeToldAbove : Terms → Remembered → Remembered → Entry → Type 0
MayBeToldAbove terms old new (Send e) = MayBeTold terms old (Send e)
MayBeToldAbove terms old new (Recv e) = MayBeTold terms old (Recv e)
MayBeToldAbove terms old new (Crash p) = MayBeTold terms old (Crash p)
MayBeToldAbove terms old new (Recover p concerned kept undone) =
    (down_at old p ≡ Some true)
    × ((saved : ℕ → ℕ) × LosesNothingForgotten terms new p saved × HasFailed terms old p saved concerned kept undone)

-- And all of these, one after another.
abbrev pub AreToldAbove : Terms → Remembered → Remembered → List Entry → Type 0
AreToldAbove terms old new [] = Unit {0}
AreToldAbove terms old new (e ∷ entries) =
    MayBeToldAbove terms old new e × AreToldAbove terms (told_after terms old e) (told_after terms new e) entries
