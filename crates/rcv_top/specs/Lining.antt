-- What `line` makes of a session.
use Rattle.std.specs.Prelude.{◌≡◌, ℕ, codes, decimal, List, ◌++◌, flat_map, length}
use Rattle.std.specs.List.{range_with_len}
use Rattle.rcv_tree.specs.declared.entry.Entry.{Entry}
use Rattle.rcv_tree.specs.Names.{name_at}
use Rattle.rcv_model.specs.Journal.{Rules, reading}
use Rattle.rcv_model.specs.Final.{IsOneThread}
use Rattle.rcv_model.specs.StableLine.{IsStableLine}
use Rattle.rcv_session.specs.Session.{SessionView, rules_of}
use Rattle.rcv_top.specs.declared.status.Status.{Status}
use Rattle.rcv_top.specs.declared.status.Status.TheVariants.{Completed}
use Rattle.rcv_top.specs.Running.{IsJournalOf}

-- The counts are the stable line of what the journal keeps: how many events of each role no recovery takes back.
abbrev pub IsLineBehind : Rules → List Entry → (ℕ → ℕ) → Type 0
IsLineBehind rules journal counts = IsStableLine rules.net rules.every (reading rules journal).kept counts

-- A role and its count, as ` NAME COUNT`.
abbrev pub count_text : List (List ℕ) → (ℕ → ℕ) → ℕ → List ℕ
count_text names counts r = codes " " ++ name_at names r ++ codes " " ++ decimal (counts r)

-- Each role, in order.
abbrev pub counts_text : List (List ℕ) → (ℕ → ℕ) → List ℕ
counts_text names counts = flat_map (count_text names counts) (range_with_len 0 (length names))

-- `line A 3 B 4 S 4`
abbrev pub line_text : List (List ℕ) → (ℕ → ℕ) → List ℕ
line_text names counts = codes "line" ++ counts_text names counts ++ codes "\n"

-- The bytes are the stable line at the end of a journal of the session.
pub record IsLineOf (session : SessionView) (journal : List Entry) (bytes : List ℕ) : Type 0 where
  pub counts : ℕ → ℕ
  pub are_counts : IsLineBehind (rules_of session) journal counts
  pub is_text : bytes ≡ line_text session.protocol.roles counts

-- One thread ran the session to its end, and the bytes are the stable line at the end of its journal. The status doesn't say which end that
-- is: it is the same if the session is limited.
pub record IsLineRun (session : SessionView) (status : Status) (bytes : List ℕ) : Type 0 where
  pub journal : List Entry
  pub is_journal : IsJournalOf session journal
  pub alone : IsOneThread (rules_of session) journal
  pub line : IsLineOf session journal bytes
  pub completed : status ≡ Completed
