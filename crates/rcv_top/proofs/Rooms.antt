-- What is taken can run, and so can each later one of several sessions of it.
use Rattle.std.proofs.Common.{ℕ, ◌≤◌, List, sym, subst}
use Rattle.rcv_plan.specs.Symbols.{symbols_of}
use Rattle.rcv_plan.proofs.Fitting.{read_is_planned}
use Rattle.rcv_core.proofs.Ranges.{ranges}
use Rattle.rcv_input.specs.Input.{IsTaken}
use Rattle.rcv_session.specs.Session.{SessionView, rules_of}
use Rattle.rcv_later.specs.Later.{later}
use Rattle.rcv_later.proofs.Laters.{later_rules}
use Rattle.rcv_top.specs.Laws.{TakenSessionsCanRun}

-- there is room in the channels of what is taken
room_of : (input : List ℕ) (session : SessionView) → IsTaken input session → 1 ≤ (rules_of session).room
room_of input session taken = (ranges session (read_is_planned session.protocol.roles (symbols_of input taken.plan.tokens) session.plan taken.plan.read)).room_first

-- and in those of each later session
later_room : (input : List ℕ) (session : SessionView) (i : ℕ) → IsTaken input session → 1 ≤ (rules_of (later session i)).room
later_room input session i taken = subst (λ (n : ℕ). 1 ≤ n) (sym (later_rules session i).room) (room_of input session taken)

pub taken_sessions_can_run : TakenSessionsCanRun
taken_sessions_can_run input session taken = (
  record { accepted = taken.protocol.accepted; room = room_of input session taken },
  λ i. record { accepted = taken.protocol.accepted; room = later_room input session i taken },
)
