-- What becomes of messages: which Send a Recv takes, which message is received again, which a Recover drops, and which waits.
use Rattle.std.specs.Prelude.{◌≡◌, ◌↔◌, ℕ, ◌<◌, Bool, true, Option, None, Some, List, length, slice_get, slice_index_or, MatchOption}
use Rattle.rcv_tree.specs.declared.event.Event.{Event}
use Rattle.rcv_tree.specs.declared.entry.Entry.{Entry}
use Rattle.rcv_tree.specs.declared.entry.Entry.TheVariants.{Send}
use Rattle.rcv_model.specs.Net.{Net}
use Rattle.rcv_fates.specs.Fates.{IsMessage}
use Rattle.rcv_story.specs.declared.story.Dropped.{Dropped}
use Rattle.rcv_story.specs.Kept.{IsUndoneBy, IsKeptPlace}

-- The Recv at place t takes a message that an earlier Recv took.
pub record IsAgain (net : Net) (entries : List Entry) (t : ℕ) : Type 0 where
  pub send : ℕ
  pub earlier : ℕ
  pub this : IsMessage net entries send t
  pub other : IsMessage net entries send earlier
  pub before : earlier < t

-- The Recover at place q undoes the Send at place s, and no Recv of its message with it: the message was in flight.
pub record IsDropped (net : Net) (entries : List Entry) (s q : ℕ) : Type 0 where
  pub event : Event
  pub send_at : slice_get entries s ≡ Some (Send event)
  pub undone : IsUndoneBy entries s q
  pub unmet : (t : ℕ) → IsMessage net entries s t → IsUndoneBy entries t q → ⊥

-- The Send at place s is kept at the end, and no Recv of its message is: the message lies in its channel.
pub record IsWaiting (net : Net) (entries : List Entry) (s : ℕ) : Type 0 where
  pub event : Event
  pub send_at : slice_get entries s ≡ Some (Send event)
  pub kept : IsKeptPlace entries s
  pub unmet : (t : ℕ) → IsMessage net entries s t → IsKeptPlace entries t → ⊥

-- For each entry the Send whose message it takes, if it takes one.
pub record AreSendsOf (net : Net) (entries : List Entry) (sends : List (Option ℕ)) : Type 0 where
  pub size : length sends ≡ length entries
  pub each : (t : ℕ) → MatchOption (slice_index_or sends t None) ((s : ℕ) → IsMessage net entries s t → ⊥)
      (λ s. IsMessage net entries s t)

-- For each entry whether it receives a message again.
pub record AreAgain (net : Net) (entries : List Entry) (again : List Bool) : Type 0 where
  pub size : length again ≡ length entries
  pub each : (t : ℕ) → (slice_get again t ≡ Some true) ↔ IsAgain net entries t

-- A dropped message from place s, by the Recover at place q.
abbrev pub dropped_of : ℕ → ℕ → Dropped
dropped_of s q = record { send = s; recover = q }

-- These are exactly the dropped messages, each once, in the order of their Sends.
pub record AreDropped (net : Net) (entries : List Entry) (xs : List Dropped) : Type 0 where
  pub sound : (i : ℕ) (x : Dropped) → slice_get xs i ≡ Some x → IsDropped net entries x.send x.recover
  pub complete : (s q : ℕ) → IsDropped net entries s q → (i : ℕ) × (slice_get xs i ≡ Some (dropped_of s q))
  pub ascending : (i j : ℕ) (x y : Dropped) → i < j → slice_get xs i ≡ Some x → slice_get xs j ≡ Some y → x.send < y.send

-- These are exactly the waiting messages, each once, in the order of their Sends.
pub record AreWaiting (net : Net) (entries : List Entry) (xs : List ℕ) : Type 0 where
  pub sound : (i s : ℕ) → slice_get xs i ≡ Some s → IsWaiting net entries s
  pub complete : (s : ℕ) → IsWaiting net entries s → (i : ℕ) × (slice_get xs i ≡ Some s)
  pub ascending : (i j s t : ℕ) → i < j → slice_get xs i ≡ Some s → slice_get xs j ≡ Some t → s < t
