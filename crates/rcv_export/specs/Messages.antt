-- The sorts of a text's messages.
use Rattle.std.specs.Prelude.{ℕ, List, map}
use Rattle.rcv_model.specs.Text.{Body, Bodies}
use Rattle.rcv_model.specs.Places.{SingleMessage, single_at, singles, singles_of}

-- Those of one message.
abbrev pub sorts_of : ℕ × SingleMessage → List (List ℕ)
sorts_of m = m.1.sorts

-- Those of each message of a body, and of bodies beside each other, in text order.
abbrev pub sorts_in : Body → List (List (List ℕ))
sorts_in body = map sorts_of (singles body)

abbrev pub sorts_beside : Bodies → List (List (List ℕ))
sorts_beside bodies = map sorts_of (singles_of bodies)

-- Those of the message of a point.
abbrev pub sorts_at : Body → ℕ → List (List ℕ)
sorts_at body p = (single_at p (singles body)).sorts
