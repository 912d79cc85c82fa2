-- What a failure leaves, read off a ledger.
use Rattle.std.specs.Prelude.{◌≡◌, ℕ, ◌+◌, ◌-◌, ◌<◌, ◌≤◌, ◌^◌, min, true, if◌then◌else◌, List, length, slice_get, slice_index}
use Rattle.std.specs.List.{sum_by, range_with_len}
use Rattle.rcv_tree.specs.Bits.{has_bit}
use Rattle.rcv_tree.specs.declared.event.Event.{Event}
use Rattle.rcv_tree.specs.Events.{point_or_none}
use Rattle.rcv_depend.specs.declared.keeps.Keeps.{Keeps}
use Rattle.rcv_ledger.specs.Logs.{log_at}
use Rattle.rcv_guide.specs.declared.numbers.Numbers.{Numbers}
use Rattle.rcv_guide.specs.Numbers.{numbers_at}

-- Each role of the set has a log, and there are logs for at most eight roles, whose events can be counted in 32 bits.
pub record HaveLogs (set : ℕ) (logs : List (List Event)) : Type 0 where
  pub eight : length logs ≤ 8
  pub each : (r : ℕ) → r < length logs → length (log_at logs r) < 2 ^ 32
  pub set_in : (r : ℕ) → r < 8 → has_bit set r ≡ true → r < length logs

-- How many logged events of role r are among its first so many: no more than there are.
abbrev pub logged_of : List Numbers → List (List Event) → List ℕ → ℕ → ℕ
logged_of numbers logs saved r =
    let x = numbers_at numbers r in
    min (x.seeds + (slice_index saved r - x.forgotten)) (length (log_at logs r))

-- These roles fail, and each keeps so many of its logged events.
pub record AreKeeps (numbers : List Numbers) (logs : List (List Event)) (group : ℕ) (saved : List ℕ) (keeps : Keeps) : Type 0 where
  pub group_is : keeps.failed.0 ≡ group
  pub eight : length keeps.keep ≡ 8
  pub saved_is : (r : ℕ) → r < 8 → has_bit group r ≡ true → slice_index keeps.keep r ≡ logged_of numbers logs saved r

-- The start of a failed role: the point of its first event after those that it keeps; 0 if it loses none.
abbrev pub first_lost : List (List Event) → Keeps → ℕ → ℕ
first_lost logs keeps r =
    if has_bit keeps.failed.0 r then point_or_none (slice_get (log_at logs r) (slice_index keeps.keep r)) else 0

abbrev pub AreStartsOf : List (List Event) → Keeps → List ℕ → Type 0
AreStartsOf logs keeps starts = (length starts ≡ 8) × ((r : ℕ) → r < 8 → slice_index starts r ≡ first_lost logs keeps r)

-- The counts of all events, if so many logged ones are left; 0 for a role without a log.
pub record AreMade (numbers : List Numbers) (counts made : List ℕ) : Type 0 where
  pub eight : length made ≡ 8
  pub each : (r : ℕ) → r < length numbers
      → slice_index made r ≡ (numbers_at numbers r).forgotten + (slice_index counts r - (numbers_at numbers r).seeds)
  pub others : (r : ℕ) → length numbers ≤ r → slice_index made r ≡ 0

-- How many events the logs have, and how many within these counts.
abbrev pub all_events : List (List Event) → ℕ
all_events logs = sum_by (λ r. length (log_at logs r)) (range_with_len 0 (length logs))

abbrev pub within_counts : List (List Event) → List ℕ → ℕ
within_counts logs counts = sum_by (λ r. slice_index counts r) (range_with_len 0 (length logs))

-- The counts are of logged events.
abbrev pub AreCountsOf : List (List Event) → List ℕ → Type 0
AreCountsOf logs counts = (r : ℕ) → r < length logs → slice_index counts r ≤ length (log_at logs r)
