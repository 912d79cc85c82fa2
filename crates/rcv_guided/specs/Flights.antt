-- The messages in flight, as answers list them.
use Rattle.std.specs.Prelude.{◌≡◌, ℕ, ◌<◌, List, Option, Some, None, map, flat_map}
use Rattle.std.specs.List.{range_with_len}
use Rattle.rcv_dialogue.specs.declared.line.Flight.{Flight}
use Rattle.rcv_guide.specs.Guide.{GuideView, roles_of, in_channel, IsOfText}
use Rattle.rcv_guided.specs.Session.{SessionView, roles_in}

-- From one role to another, oldest first.
abbrev pub flights_between : GuideView → ℕ → ℕ → List Flight
flights_between g to from = map (λ m. record { from = from; to = to; message = m }) (in_channel g from to)

-- To a role, by sender.
abbrev pub flights_to : GuideView → ℕ → List Flight
flights_to g to = flat_map (flights_between g to) (range_with_len 0 (roles_of g))

-- To these roles, by receiver.
abbrev pub flights_to_all : GuideView → List ℕ → List Flight
flights_to_all g roles = flat_map (flights_to g) roles

-- To this role, or to all.
abbrev pub AreFlightsTo : SessionView → Option ℕ → List Flight → Type 0
AreFlightsTo s None flights = flights ≡ flights_to_all s.guide (range_with_len 0 (roles_in s))
AreFlightsTo s (Some to) flights = flights ≡ flights_to s.guide to

-- Its ends are declared, and its point is one of the text's.
abbrev pub IsFlight : GuideView → Flight → Type 0
IsFlight g f = (f.from < roles_of g) × (f.to < roles_of g) × IsOfText g f.message
