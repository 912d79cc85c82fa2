-- A later one of several sessions of an input.
use Rattle.std.specs.Prelude.{◌≡◌, ℕ, List}
use Rattle.rcv_session.specs.Session.{SessionView}
use Rattle.rcv_input.specs.Input.{IsTaken}
use Rattle.rcv_plan.specs.Shifted.{shifted}

-- Session i of several, counted from 0: the same, except that each crash line has a count that is i more.
abbrev pub later : SessionView → ℕ → SessionView
later session i = record { protocol = session.protocol; scripts = session.scripts; plan = shifted i session.plan }

-- The input is taken as a session, and this is its session i.
pub record IsLaterOf (input : List ℕ) (i : ℕ) (t : SessionView) : Type 0 where
  pub session : SessionView
  pub taken : IsTaken input session
  pub is_later : t ≡ later session i
