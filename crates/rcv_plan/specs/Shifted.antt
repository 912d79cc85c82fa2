-- The plan of a later one of several sessions.
use Rattle.std.specs.Prelude.{ℕ, ◌+◌, List, map}
use Rattle.rcv_model.specs.Plan.{PlanLine, EveryLine, CrashLine, LimitLine, RoomLine, HostLine}

-- The line with so many added to its count, if it is a crash line.
abbrev pub later_line : ℕ → PlanLine → PlanLine
later_line by (EveryLine q n) = EveryLine q n
later_line by (CrashLine q n) = CrashLine q (n + by)
later_line by (LimitLine n) = LimitLine n
later_line by (RoomLine n) = RoomLine n
later_line by (HostLine qs) = HostLine qs

-- The plan with so many added to each crash count.
abbrev pub shifted : ℕ → List PlanLine → List PlanLine
shifted by plan = map (later_line by) plan
