-- What a session comes to in numbers, and the text that says it.
use Rattle.std.specs.Prelude.{ℕ, ◌≤◌, ◌+◌, ◌*◌, ◌^◌, List, ◌++◌, length, codes, decimal}
use Rattle.std.specs.List.{fold}
use Rattle.rcv_tree.specs.declared.entry.Entry.{Entry}
use Rattle.rcv_tree.specs.declared.entry.Entry.TheVariants.{Send, Recv, Crash, Recover}
use Rattle.rcv_gen.specs.declared.summary.Counts.{Counts}

-- Nothing is counted yet.
abbrev pub no_counts : Counts
no_counts = record { sends = 0; receives = 0; crashes = 0; recoveries = 0; undone = 0 }

-- One more entry is counted.
abbrev pub counted : Counts → Entry → Counts
counted counts (Send event) = record counts { sends = counts.sends + 1 }
counted counts (Recv event) = record counts { receives = counts.receives + 1 }
counted counts (Crash role) = record counts { crashes = counts.crashes + 1 }
counted counts (Recover role concerned kept undone) =
    record counts { recoveries = counts.recoveries + 1; undone = counts.undone + undone }

-- The entries of each kind, undone ones too, and the undone events of all recoveries.
abbrev pub counts_of : List Entry → Counts
counts_of entries = fold counted no_counts entries

-- What so many entries can come to: each of them is of one kind, and undoes fewer than 2 ^ 32 events.
pub record CountsWithin (number : ℕ) (counts : Counts) : Type 0 where
  pub sends_within : counts.sends ≤ number
  pub receives_within : counts.receives ≤ number
  pub crashes_within : counts.crashes ≤ number
  pub recoveries_within : counts.recoveries ≤ number
  pub undone_within : counts.undone ≤ number * 2 ^ 32

-- A line of a word and a number.
unfoldable pub number_line : List ℕ → ℕ → List ℕ
number_line word number = word ++ codes " " ++ decimal number ++ codes "\n"

-- How large the protocol is.
unfoldable pub size_line : ℕ → ℕ → List ℕ
size_line roles points = codes "roles " ++ decimal roles ++ codes " points " ++ decimal points ++ codes "\n"

-- How many events there were, undone ones too.
unfoldable pub events_line : ℕ → ℕ → List ℕ
events_line sends receives = codes "sends " ++ decimal sends ++ codes " receives " ++ decimal receives ++ codes "\n"

-- How often roles failed, and how many events that took back.
unfoldable pub failures_line : ℕ → ℕ → ℕ → List ℕ
failures_line crashes recoveries undone =
    codes "crashes " ++ decimal crashes ++ codes " recoveries " ++ decimal recoveries
    ++ codes " undone " ++ decimal undone ++ codes "\n"

-- The whole summary of the session of the input with this number: of a protocol with so many roles and points, with
-- these entries, so many kept events, and this last line of its journal.
abbrev pub summary_text : ℕ → ℕ → ℕ → List Entry → ℕ → List ℕ → List ℕ
summary_text number roles points entries kept last =
    number_line (codes "gen") number
    ++ size_line roles points
    ++ number_line (codes "entries") (length entries)
    ++ events_line (counts_of entries).sends (counts_of entries).receives
    ++ failures_line (counts_of entries).crashes (counts_of entries).recoveries (counts_of entries).undone
    ++ number_line (codes "kept") kept
    ++ last
