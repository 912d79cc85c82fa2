-- What holds of the later ones of several sessions.
use Rattle.std.specs.Prelude.{◌≡◌, ℕ, ◌+◌, ◌≤◌, List, map}
use Rattle.std.specs.List.{All}
use Rattle.rcv_model.specs.Journal.{Rules}
use Rattle.rcv_model.specs.Plan.{PlanLine}
use Rattle.rcv_session.specs.Session.{SessionView, roles_of, rules_of}
use Rattle.rcv_accept.specs.Accepted.{IsAcceptedProtocol}
use Rattle.rcv_plan.specs.Lines.{HasReadCount, IsPlanned}
use Rattle.rcv_plan.specs.Shifted.{shifted}
use Rattle.rcv_input.specs.Input.{IsTaken}
use Rattle.rcv_input.specs.Laws.{AreSame}
use Rattle.rcv_later.specs.Later.{later, IsLaterOf}

-- With nothing added a plan is what it was, so the first of several sessions is the session itself.
pub record TheFirstIsTheSession : Type 0 where
  pub plans : (plan : List PlanLine) → shifted 0 plan ≡ plan
  pub sessions : (session : SessionView) → later session 0 ≡ session

-- Of an accepted protocol, with a plan for its roles.
pub record IsPlannedSession (session : SessionView) : Type 0 where
  pub accepted : IsAcceptedProtocol session.protocol
  pub planned : IsPlanned (roles_of session) session.plan

-- If a session is of an accepted protocol, with a plan for its roles whose counts are as they may be read, each later session
-- is of an accepted protocol with a plan for its roles. The same holds for what an input is taken as.
pub record LaterSessionsArePlanned : Type 0 where
  pub counted : (session : SessionView) (i : ℕ) → i ≤ 63 → All HasReadCount session.plan → IsPlannedSession session
      → IsPlannedSession (later session i)
  pub taken : (input : List ℕ) (session : SessionView) (i : ℕ) → i ≤ 63 → IsTaken input session
      → IsPlannedSession (later session i)

-- Sessions that say the same have later ones that say the same; so whichever session an input is taken as, its session i
-- says one thing.
pub record LaterSessionsSayTheSame : Type 0 where
  pub same : (s t : SessionView) (i : ℕ) → AreSame s t → AreSame (later s i) (later t i)
  pub one : (input : List ℕ) (session t : SessionView) (i : ℕ) → IsTaken input session → IsLaterOf input i t
      → AreSame (later session i) t

-- The rules are the same, except for the counts at which roles crash: each is i more.
pub record AreLaterRules (i : ℕ) (rules other : Rules) : Type 0 where
  pub net : other.net ≡ rules.net
  pub roles : other.roles ≡ rules.roles
  pub chosen : other.chosen ≡ rules.chosen
  pub value : other.value ≡ rules.value
  pub every : (r : ℕ) → other.every r ≡ rules.every r
  pub host : (r : ℕ) → other.host r ≡ rules.host r
  pub crash_lines : (r : ℕ) → other.crash_lines r ≡ map (λ n. n + i) (rules.crash_lines r)
  pub limit : other.limit ≡ rules.limit
  pub room : other.room ≡ rules.room

-- A later session is run by the rules of the session, except for the counts at which roles crash.
abbrev pub LaterRulesAreTheRules : Type 0
LaterRulesAreTheRules = (session : SessionView) (i : ℕ) → AreLaterRules i (rules_of session) (rules_of (later session i))
