-- A session as contracts see it: its protocol, its scripts and its plan, and the rules that it is run by.
use Rattle.std.specs.Prelude.{ℕ, ◌<◌, ◌≤◌, List, [], length, slice_index_or}
use Rattle.rcv_tree.specs.declared.protocol.Protocol.{Protocol}
use Rattle.rcv_model.specs.Net.{Net, IsIn}
use Rattle.rcv_model.specs.Text.{Body, body_of}
use Rattle.rcv_model.specs.Script.{Line}
use Rattle.rcv_model.specs.Plan.{PlanLine, session_rules}
use Rattle.rcv_model.specs.Places.{net_of}
use Rattle.rcv_model.specs.Journal.{Rules}

-- A protocol to be run, with a script for each role and a plan, which has no lines if nothing is planned.
pub record SessionView : Type 0 where
  pub protocol : Protocol
  pub scripts : List (List Line)
  pub plan : List PlanLine

-- What the text says, how many roles the protocol has, and the places that offer its points.
abbrev pub text_of : SessionView → Body
text_of session = body_of session.protocol.body

abbrev pub roles_of : SessionView → ℕ
roles_of session = length session.protocol.roles

abbrev pub net_for : SessionView → Net
net_for session = net_of (text_of session)

-- The lines of a role's script; none if it has none.
abbrev pub lines_of : SessionView → ℕ → List Line
lines_of session r = slice_index_or session.scripts r []

-- The rules of a session.
abbrev pub rules_of : SessionView → Rules
rules_of session = session_rules (text_of session) (roles_of session) (lines_of session) session.plan

-- What a plan guarantees of the rules if it was read: the numbers are in their ranges, and each host's roles are
-- declared.
pub record HaveRanges (rules : Rules) : Type 0 where
  pub every_first : (r : ℕ) → 1 ≤ rules.every r
  pub every_last : (r : ℕ) → rules.every r ≤ 100000
  pub limit_first : 1 ≤ rules.limit
  pub limit_last : rules.limit ≤ 100000
  pub room_first : 1 ≤ rules.room
  pub room_last : rules.room ≤ 1024
  pub hosts : (r q : ℕ) → IsIn q (rules.host r) → q < rules.roles

-- A point of the text.
pub record IsPointOf (session : SessionView) (p : ℕ) : Type 0 where
  pub first : 1 ≤ p
  pub last : p ≤ (net_for session).count
