-- The later ones of several sessions.
use Rattle.std.proofs.Common.{◌≡◌, ℕ, ◌+◌, ◌≤◌, List, [], ◌∷◌, refl, sym, ◌∙◌, ap, subst, arith}
use Rattle.std.specs.Prelude.{◌==◌, if◌then◌else◌, Result, Ok, Err, IfOk}
use Rattle.std.specs.List.{All}
use Rattle.rcv_tree.specs.Bits.{is_listed}
use Rattle.rcv_model.specs.Plan.{PlanLine, EveryLine, CrashLine, LimitLine, RoomLine, HostLine, every_in, limit_in, room_in, host_in}
use Rattle.rcv_session.specs.Session.{SessionView, roles_of}
use Rattle.rcv_plan.specs.Lines.{HasReadCount}
use Rattle.rcv_plan.specs.Symbols.{symbols_of}
use Rattle.rcv_plan.specs.Shifted.{shifted}
use Rattle.rcv_plan.proofs.Fitting.{read_is_planned}
use Rattle.rcv_plan.proofs.Shifting.{shifted_planned, later_crashes}
use Rattle.rcv_input.specs.Input.{IsTaken}
use Rattle.rcv_input.specs.Laws.{AreSame}
use Rattle.rcv_input.proofs.Once.{one_answer}
use Rattle.rcv_later.specs.Later.{later, IsLaterOf}
use Rattle.rcv_later.specs.Laws.{TheFirstIsTheSession, IsPlannedSession, LaterSessionsArePlanned, LaterSessionsSayTheSame, LaterRulesAreTheRules}
use Rattle.rcv_later.proofs.Counted.{read_is_counted}

-- ---- the first one

shifted_by_none : (plan : List PlanLine) → shifted 0 plan ≡ plan
shifted_by_none [] = refl
shifted_by_none (EveryLine q n ∷ plan) = ap (λ (l : List PlanLine). EveryLine q n ∷ l) (shifted_by_none plan)
shifted_by_none (CrashLine q n ∷ plan) =
    let same : n + 0 ≡ n = omega arith in
    ap (λ (m : ℕ). CrashLine q m ∷ shifted 0 plan) same ∙ ap (λ (l : List PlanLine). CrashLine q n ∷ l) (shifted_by_none plan)
shifted_by_none (LimitLine n ∷ plan) = ap (λ (l : List PlanLine). LimitLine n ∷ l) (shifted_by_none plan)
shifted_by_none (RoomLine n ∷ plan) = ap (λ (l : List PlanLine). RoomLine n ∷ l) (shifted_by_none plan)
shifted_by_none (HostLine qs ∷ plan) = ap (λ (l : List PlanLine). HostLine qs ∷ l) (shifted_by_none plan)

abbrev planned_so : SessionView → List PlanLine → SessionView
planned_so session plan = record { protocol = session.protocol; scripts = session.scripts; plan = plan }

pub the_first : TheFirstIsTheSession
the_first = record { plans = shifted_by_none; sessions = λ session. ap (planned_so session) (shifted_by_none session.plan) }

-- ---- planned

pub later_planned : (session : SessionView) (i : ℕ) → i ≤ 63 → All HasReadCount session.plan → IsPlannedSession session → IsPlannedSession (later session i)
later_planned session i few counts is = record { accepted = is.accepted; planned = shifted_planned (roles_of session) i session.plan few counts is.planned }

pub taken_counts : (input : List ℕ) (session : SessionView) → IsTaken input session → All HasReadCount session.plan
taken_counts input session taken = read_is_counted session.protocol.roles (symbols_of input taken.plan.tokens) session.plan taken.plan.read

pub taken_planned : (input : List ℕ) (session : SessionView) → IsTaken input session → IsPlannedSession session
taken_planned input session taken = record {
  accepted = taken.protocol.accepted;
  planned = read_is_planned session.protocol.roles (symbols_of input taken.plan.tokens) session.plan taken.plan.read;
}

pub are_planned : LaterSessionsArePlanned
are_planned = record {
  counted = later_planned;
  taken = λ input session i few taken. later_planned session i few (taken_counts input session taken) (taken_planned input session taken);
}

-- ---- the same

pub later_same : (s t : SessionView) (i : ℕ) → AreSame s t → AreSame (later s i) (later t i)
later_same s t i same = record { protocols = same.protocols; scripts = same.scripts; plans = ap (shifted i) same.plans }

pub one_later : (input : List ℕ) (session t : SessionView) (i : ℕ) → IsTaken input session → IsLaterOf input i t → AreSame (later session i) t
one_later input session t i taken is =
    subst (λ (other : SessionView). AreSame (later session i) other) (sym is.is_later)
    (later_same session is.session i (one_answer.sessions input session is.session taken is.taken))

pub say_the_same : LaterSessionsSayTheSame
say_the_same = record { same = later_same; one = one_later }

-- a setup of what was read
pub is_later_of : {E : Type 0} (input : List ℕ) (i : ℕ) (session : SessionView) (result : Result SessionView E) → IsTaken input session → IfOk result (λ t. t ≡ later session i) → IfOk result (IsLaterOf input i)
is_later_of input i session (Ok t) taken is = record { session = session; taken = taken; is_later = is }
is_later_of input i session (Err e) taken is = tt

-- ---- the rules

every_later : (i : ℕ) (plan : List PlanLine) (r : ℕ) → every_in (shifted i plan) r ≡ every_in plan r
every_later i [] r = refl
every_later i (EveryLine q n ∷ plan) r = ap (λ (m : ℕ). if q == r then n else m) (every_later i plan r)
every_later i (CrashLine q n ∷ plan) r = every_later i plan r
every_later i (LimitLine n ∷ plan) r = every_later i plan r
every_later i (RoomLine n ∷ plan) r = every_later i plan r
every_later i (HostLine qs ∷ plan) r = every_later i plan r

host_later : (i : ℕ) (plan : List PlanLine) (r : ℕ) → host_in (shifted i plan) r ≡ host_in plan r
host_later i [] r = refl
host_later i (EveryLine q n ∷ plan) r = host_later i plan r
host_later i (CrashLine q n ∷ plan) r = host_later i plan r
host_later i (LimitLine n ∷ plan) r = host_later i plan r
host_later i (RoomLine n ∷ plan) r = host_later i plan r
host_later i (HostLine qs ∷ plan) r = ap (λ (ps : List ℕ). if is_listed qs r then qs else ps) (host_later i plan r)

limit_later : (i : ℕ) (plan : List PlanLine) → limit_in (shifted i plan) ≡ limit_in plan
limit_later i [] = refl
limit_later i (EveryLine q n ∷ plan) = limit_later i plan
limit_later i (CrashLine q n ∷ plan) = limit_later i plan
limit_later i (LimitLine n ∷ plan) = refl
limit_later i (RoomLine n ∷ plan) = limit_later i plan
limit_later i (HostLine qs ∷ plan) = limit_later i plan

room_later : (i : ℕ) (plan : List PlanLine) → room_in (shifted i plan) ≡ room_in plan
room_later i [] = refl
room_later i (EveryLine q n ∷ plan) = room_later i plan
room_later i (CrashLine q n ∷ plan) = room_later i plan
room_later i (LimitLine n ∷ plan) = room_later i plan
room_later i (RoomLine n ∷ plan) = refl
room_later i (HostLine qs ∷ plan) = room_later i plan

pub later_rules : LaterRulesAreTheRules
later_rules session i = record {
  net = refl;
  roles = refl;
  chosen = refl;
  value = refl;
  every = every_later i session.plan;
  host = host_later i session.plan;
  crash_lines = later_crashes i session.plan;
  limit = limit_later i session.plan;
  room = room_later i session.plan;
}
