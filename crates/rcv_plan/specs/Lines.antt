-- The lines of a plan: what they are for, and which of them stand among others.
use Rattle.std.specs.Prelude.{◌≡◌, ℕ, ◌≤◌, ◌<◌, Bool, true, false, ◌&&◌, ◌==◌, List, ◌∷◌, ◌++◌, ⊤}
use Rattle.std.specs.List.{All, list_any}
use Rattle.rcv_tree.specs.Bits.{is_listed}
use Rattle.rcv_model.specs.Plan.{PlanLine, EveryLine, CrashLine, LimitLine, RoomLine, HostLine}
use Rattle.rcv_plan.specs.declared.line.Line.{Line}
use Rattle.rcv_plan.specs.declared.line.Line.TheVariants as lines

-- what a line says
abbrev pub line_in : Line → PlanLine
line_in (lines.Every role number) = EveryLine role number
line_in (lines.Crash role number) = CrashLine role number
line_in (lines.Limit number) = LimitLine number
line_in (lines.Room number) = RoomLine number
line_in (lines.Host name roles) = HostLine roles

-- The numbers of a line that was read are in their ranges, and its roles are among so many.
abbrev pub IsReadLine : ℕ → PlanLine → Type 0
IsReadLine roles (EveryLine q n) = (q < roles) × (1 ≤ n) × (n ≤ 100000)
IsReadLine roles (CrashLine q n) = (q < roles) × (n ≤ 100000)
IsReadLine roles (LimitLine n) = (1 ≤ n) × (n ≤ 100000)
IsReadLine roles (RoomLine n) = (1 ≤ n) × (n ≤ 1024)
IsReadLine roles (HostLine qs) = All (λ q. q < roles) qs

abbrev pub IsReadPlan : ℕ → List PlanLine → Type 0
IsReadPlan roles plan = All (IsReadLine roles) plan

-- A crash line's count is as it may be read.
abbrev pub HasReadCount : PlanLine → Type 0
HasReadCount (CrashLine q n) = n ≤ 100000
HasReadCount _ = ⊤

-- The same, except that a crash count may be up to 63 more, as in a later one of several sessions.
abbrev pub IsLineFor : ℕ → PlanLine → Type 0
IsLineFor roles (EveryLine q n) = (q < roles) × (1 ≤ n) × (n ≤ 100000)
IsLineFor roles (CrashLine q n) = (q < roles) × (n ≤ 100063)
IsLineFor roles (LimitLine n) = (1 ≤ n) × (n ≤ 100000)
IsLineFor roles (RoomLine n) = (1 ≤ n) × (n ≤ 1024)
IsLineFor roles (HostLine qs) = All (λ q. q < roles) qs

-- A plan for a protocol with so many roles.
abbrev pub IsPlanFor : ℕ → List PlanLine → Type 0
IsPlanFor roles plan = All (IsLineFor roles) plan

-- The line says how often this role saves; it lets this role crash at this count, or any role at any; it names this role in a
-- host.
abbrev pub is_every : ℕ → PlanLine → Bool
is_every r (EveryLine q n) = q == r
is_every r _ = false

abbrev pub is_crash : ℕ → ℕ → PlanLine → Bool
is_crash r c (CrashLine q n) = q == r && n == c
is_crash r c _ = false

abbrev pub is_any_crash : PlanLine → Bool
is_any_crash (CrashLine q n) = true
is_any_crash _ = false

abbrev pub is_limit : PlanLine → Bool
is_limit (LimitLine n) = true
is_limit _ = false

abbrev pub is_room : PlanLine → Bool
is_room (RoomLine n) = true
is_room _ = false

abbrev pub is_host : ℕ → PlanLine → Bool
is_host r (HostLine qs) = is_listed qs r
is_host r _ = false

-- such a line stands among these
abbrev pub has_every : ℕ → List PlanLine → Bool
has_every r plan = list_any (is_every r) plan

abbrev pub has_crash : ℕ → ℕ → List PlanLine → Bool
has_crash r c plan = list_any (is_crash r c) plan

abbrev pub has_limit : List PlanLine → Bool
has_limit plan = list_any is_limit plan

abbrev pub has_room : List PlanLine → Bool
has_room plan = list_any is_room plan

abbrev pub is_hosted : ℕ → List PlanLine → Bool
is_hosted r plan = list_any (is_host r) plan

-- No role crashes twice at one count.
abbrev pub AreOnce : List PlanLine → Type 0
AreOnce plan = (front back : List PlanLine) (r n : ℕ) → plan ≡ front ++ CrashLine r n ∷ back → has_crash r n front ≡ false

-- A plan that was read for so many roles, or one of a later session.
pub record IsPlanned (roles : ℕ) (plan : List PlanLine) : Type 0 where
  pub fits : IsPlanFor roles plan
  pub once : AreOnce plan
