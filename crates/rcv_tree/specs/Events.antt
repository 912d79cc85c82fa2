-- What an event is made of, and its message.
use Rattle.std.specs.Prelude.{ℕ, ℤ, Option, Some, None}
use Rattle.rcv_tree.specs.declared.event.Dir.TheVariants.{Sent, Got}
use Rattle.rcv_tree.specs.declared.event.Event.{Event}
use Rattle.rcv_tree.specs.declared.event.Message.{Message}

-- A role's Send of a number at a point, with this stamp.
abbrev pub send_of : ℕ → ℕ → ℤ → ℕ → Event
send_of role point value stamp = record { role = role; dir = Sent; point = point; value = value; stamp = stamp; sent = stamp }

-- A role's Recv of a message, with this stamp.
abbrev pub recv_of : ℕ → Message → ℕ → Event
recv_of role message stamp =
    record { role = role; dir = Got; point = message.point; value = message.value; stamp = stamp; sent = message.stamp }

-- What a Send puts on its channel, and what a Recv takes from it.
abbrev pub message_sent : Event → Message
message_sent e = record { point = e.point; value = e.value; stamp = e.stamp }

abbrev pub message_got : Event → Message
message_got e = record { point = e.point; value = e.value; stamp = e.sent }

-- The point of an event; 0, which is no point's number, where there is none.
abbrev pub point_or_none : Option Event → ℕ
point_or_none None = 0
point_or_none (Some e) = e.point
