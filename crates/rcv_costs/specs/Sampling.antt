-- Which counts are looked at.
use Rattle.std.specs.Prelude.{ℕ, ◌+◌, ◌-◌, ◌*◌, ◌/◌, ◌≤◌, List, [], length, map, flat_map, slice_index_or}
use Rattle.std.specs.List.{All, sum_by, range_with_len}
use Rattle.std.specs.declared.alloc.Global.{Global}
use Rattle.std.specs.declared.vec.Vec.{Vec}

-- A role crashes at a count.
pub record At : Type 0 where
  pub role : ℕ
  pub count : ℕ

-- Of so many counts in all, each is looked at; of more than 2,000 every second one, of more than 4,000 every third, and so
-- on.
abbrev pub step_for : ℕ → ℕ
step_for all = (all - 1) / 2000 + 1

-- The counts of a role that makes so many events: the multiples of the step, from 0 on.
abbrev pub counts_of : ℕ → ℕ → ℕ → List At
counts_of made step r = map (λ k. record { role = r; count = k * step }) (range_with_len 0 (made / step + 1))

-- Those of all roles, in order.
abbrev pub counts_in : ℕ → (ℕ → ℕ) → ℕ → List At
counts_in roles made step = flat_map (λ r. counts_of (made r) step r) (range_with_len 0 roles)

-- The points of one role's events in a list for each; and no list has more than 100,000.
abbrev pub of_role : List (Vec ℕ Global) → ℕ → List ℕ
of_role points r = slice_index_or (map (λ p. p.items) points) r []

abbrev pub AreShort : List (Vec ℕ Global) → Type 0
AreShort points = All (λ p. length p.items ≤ 100000) points

-- How many counts they have in all: for each role one more than it makes events.
abbrev pub all_counts : List (Vec ℕ Global) → ℕ
all_counts points = sum_by (λ p. length p.items + 1) points
