-- Ping in a loop, and its events: what tests and examples are of.
use Rattle.std.specs.Prelude.{ℕ, pos, List, [], ◌∷◌}
use Rattle.rcv_tree.specs.declared.event.Event.{Event}
use Rattle.rcv_tree.specs.declared.event.Dir.{Dir}
use Rattle.rcv_model.specs.Text.{Body, End, Single, Loop, Again}
use Rattle.rcv_model.specs.Places.{net_of}
use Rattle.rcv_model.specs.Journal.{events_of}
use Rattle.rcv_depend.specs.Logs.{AreSound, AreLogsOf}

-- The first role sends to the second one, which answers, and so on.
abbrev pub rounds : Body
rounds = Loop [] (Single [] [] 0 1 1 (Single [] [] 1 0 2 (Again [] End))) End

abbrev pub at : ℕ → Dir → ℕ → Event
at role dir point = record { role = role; dir = dir; point = point; value = pos 0; stamp = 0; sent = 0 }

-- What the two roles did of some events.
abbrev pub both_logs : List Event → List (List Event)
both_logs h = events_of 0 h ∷ events_of 1 h ∷ []

-- The events are of the two roles, and their channels are queues.
pub record AreOfRounds (h : List Event) : Type 0 where
  pub sound : AreSound (net_of rounds) (both_logs h)
  pub logs : AreLogsOf (net_of rounds) h (both_logs h)
