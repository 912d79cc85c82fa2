-- What the code keeps and finds while it runs: the Sends of each role, and events by their stamps.
use Rattle.std.specs.Prelude.{◌≡◌, ℕ, List, [], ◌∷◌, ◌++◌, Some, slice_get, slice_index_or, slice_set}
use Rattle.rcv_tree.specs.declared.event.Event.{Event}
use Rattle.rcv_fates.specs.declared.sends.Sent.{Sent}

-- The list of a role; a role without one has sent nothing.
abbrev pub sends_at : List (List Sent) → ℕ → List Sent
sends_at lists r = slice_index_or lists r []

-- One Send more of a role.
abbrev pub with_sent : List (List Sent) → ℕ → Sent → List (List Sent)
with_sent lists r sent = slice_set lists r (sends_at lists r ++ sent ∷ [])

-- None of the Sends has this stamp; one of them has it, and stands at this place.
abbrev pub HasNoStamp : List Sent → ℕ → Type 0
HasNoStamp sends stamp = (i : ℕ) (x : Sent) → slice_get sends i ≡ Some x → x.stamp ≡ stamp → ⊥

abbrev pub HasSent : List Sent → ℕ → ℕ → Type 0
HasSent sends stamp place = (i : ℕ) × (slice_get sends i ≡ Some (record { stamp = stamp; place = place }))

-- If there is an event with this stamp, it has this number.
abbrev pub IsNumberOf : List Event → ℕ → ℕ → Type 0
IsNumberOf events stamp n = (i : ℕ) (e : Event) → slice_get events i ≡ Some e → e.stamp ≡ stamp → i ≡ n
