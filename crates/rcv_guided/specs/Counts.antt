-- How many events each role keeps, and how many of them are stable.
use Rattle.std.specs.Prelude.{◌≡◌, ℕ, ◌+◌, ◌<◌, Bool, List, map, slice_index}
use Rattle.std.specs.List.{filter, range_with_len}
use Rattle.rcv_guide.specs.Line.{IsLine}
use Rattle.rcv_dialogue.specs.declared.few.Kept.{Kept}
use Rattle.rcv_guided.specs.Session.{SessionView, roles_in, forgotten_of, made_in}

-- How many events a role keeps, forgotten ones too.
abbrev pub made_of : SessionView → ℕ → ℕ
made_of s r = made_in s.guide r

-- So many of each role's events are stable, forgotten ones too.
pub record AreStableCounts (s : SessionView) (stable : List ℕ) : Type 0 where
  pub counts : List ℕ
  pub line : IsLine s.guide s.saves counts
  pub each : (r : ℕ) → r < roles_in s → slice_index stable r ≡ forgotten_of s r + slice_index counts r

-- The declared roles for which this holds, in order.
abbrev pub roles_where : SessionView → (ℕ → Bool) → List ℕ
roles_where s holds = filter holds (range_with_len 0 (roles_in s))

-- Each of these roles with its count.
abbrev pub with_counts : (ℕ → ℕ) → List ℕ → List Kept
with_counts count roles = map (λ r. record { role = r; count = count r }) roles
