-- How the state after each count follows from what a stack keeps.
use Prim.Native.Nat.{zero, suc}
use Rattle.std.specs.Prelude.{◌≡◌, ℕ, ℤ, pos, ◌+◌, ◌*◌, ◌/◌, ◌<◌, ◌≤◌, List, [], ◌∷◌, ◌++◌, length, take, drop, map, slice_index}
use Rattle.std.specs.Prelude.{slice_index_or, slice_set, vec_len, vec_capacity}
use Rattle.std.specs.List.{range_with_len}
use Rattle.rcv_checkpoint.specs.declared.state.State.{State}
use Rattle.rcv_checkpoint.specs.declared.rows.Rows.{Rows}

-- The variables with these values at these places, written in turn.
abbrev pub patched : List ℕ → List ℤ → List ℤ → List ℤ
patched [] ws xs = xs
patched (p ∷ ps) [] xs = xs
patched (p ∷ ps) (w ∷ ws) xs = patched ps ws (slice_set xs p w)

-- What is kept, as lists.
pub record Lists : Type 0 where
  pub points : List ℕ
  pub changed : List ℕ
  pub places : List ℕ
  pub values : List ℤ
  pub fulls : List State
  pub starts : List ℕ

abbrev pub lists_of : Rows → Lists
lists_of rows =
    record {
      points = rows.points.items;
      changed = rows.changed.items;
      places = rows.places.items;
      values = rows.values.items;
      fulls = rows.fulls.items;
      starts = rows.starts.items;
    }

-- How many changes the first n events made.
abbrev pub changes_before : List ℕ → ℕ → ℕ
changes_before changed zero = 0
changes_before changed (suc n) = changes_before changed n + slice_index changed n

-- The items of event number n, from 0, in a list with an item for each change.
abbrev pub of_event : {A : Type 0} → List ℕ → List A → ℕ → List A
of_event changed xs n = take (slice_index changed n) (drop (changes_before changed n) xs)

-- No state at all.
abbrev pub nowhere : State
nowhere = record { k = 0; vars = [] }

-- The state after n events: each event sets the point and patches the variables.
abbrev pub state_in : Lists → ℕ → State
state_in rows zero = slice_index_or rows.fulls 0 nowhere
state_in rows (suc n) =
    record {
      k = slice_index rows.points n;
      vars = patched (of_event rows.changed rows.places n) (of_event rows.changed rows.values n) (state_in rows n).vars;
    }

-- The states after 0, 1, 2 and so on events.
abbrev pub states_of : Lists → List State
states_of rows = map (state_in rows) (range_with_len 0 (length rows.points + 1))

-- The lists fit together, and at each count that 64 divides stand the full state and where the changes after it begin.
pub record AreRows (rows : Lists) : Type 0 where
  pub changed : length rows.changed ≡ length rows.points
  pub places : length rows.places ≡ changes_before rows.changed (length rows.points)
  pub values : length rows.values ≡ changes_before rows.changed (length rows.points)
  pub fit : (i : ℕ) → slice_index rows.places i < 16
  pub few : (i : ℕ) → slice_index rows.changed i ≤ 16
  pub fulls : length rows.fulls ≡ length rows.points / 64 + 1
  pub starts : length rows.starts ≡ length rows.points / 64 + 1
  pub full : (b : ℕ) → b * 64 ≤ length rows.points → slice_index_or rows.fulls b nowhere ≡ state_in rows (b * 64)
  pub start : (b : ℕ) → b * 64 ≤ length rows.points → slice_index rows.starts b ≡ changes_before rows.changed (b * 64)

-- There is room for so many events in all, whatever they change.
pub record HasRoom (rows : Rows) (room : ℕ) : Type 0 where
  pub points : room ≤ vec_capacity rows.points
  pub changed : room ≤ vec_capacity rows.changed
  pub places : room * 16 ≤ vec_capacity rows.places
  pub values : room * 16 ≤ vec_capacity rows.values
  pub fulls : room / 64 + 2 ≤ vec_capacity rows.fulls
  pub starts : room / 64 + 2 ≤ vec_capacity rows.starts

-- There is room for one event more.
pub record HasRoomForOne (rows : Rows) : Type 0 where
  pub points : vec_len rows.points + 1 ≤ vec_capacity rows.points
  pub changed : vec_len rows.changed + 1 ≤ vec_capacity rows.changed
  pub places : vec_len rows.places + 16 ≤ vec_capacity rows.places
  pub values : vec_len rows.values + 16 ≤ vec_capacity rows.values
  pub fulls : vec_len rows.fulls + 1 ≤ vec_capacity rows.fulls
  pub starts : vec_len rows.starts + 1 ≤ vec_capacity rows.starts

-- The capacities haven't fallen.
pub record KeepsRoom (old now : Rows) : Type 0 where
  pub points : vec_capacity old.points ≤ vec_capacity now.points
  pub changed : vec_capacity old.changed ≤ vec_capacity now.changed
  pub places : vec_capacity old.places ≤ vec_capacity now.places
  pub values : vec_capacity old.values ≤ vec_capacity now.values
  pub fulls : vec_capacity old.fulls ≤ vec_capacity now.fulls
  pub starts : vec_capacity old.starts ≤ vec_capacity now.starts

-- Four variables from this place on are the same.
abbrev pub AreSame : List ℤ → List ℤ → ℕ → Type 0
AreSame from to start = (i : ℕ) → start ≤ i → i < start + 4 → slice_index_or from i (pos 0) ≡ slice_index_or to i (pos 0)

-- After these places and values come those that take the first variables to the other ones: so many.
pub record IsNoted (places places_now : List ℕ) (values values_now from to : List ℤ) (changed : ℕ) : Type 0 where
  pub more_places : List ℕ
  pub more_values : List ℤ
  pub places_are : places_now ≡ places ++ more_places
  pub values_are : values_now ≡ values ++ more_values
  pub as_many_places : length more_places ≡ changed
  pub as_many_values : length more_values ≡ changed
  pub few : changed ≤ 16
  pub fit : (i : ℕ) → slice_index more_places i < 16
  pub patches : patched more_places more_values from ≡ to
