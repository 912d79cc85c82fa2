-- Examples of events and their messages, and laws: a Send of a message puts just this message on its channel, and a Recv of it takes it.
use Rattle.std.proofs.Common.{◌≡◌, ℕ, pos, refl, arith}
use Rattle.rcv_tree.specs.declared.event.Event.{Event}
use Rattle.rcv_tree.specs.declared.event.Message.{Message}
use Rattle.rcv_tree.specs.Events.{send_of, recv_of, message_sent, message_got}

abbrev offer : Event
offer = send_of 0 1 (pos 7) 3

is_sent : message_sent offer ≡ record { point = 1; value = pos 7; stamp = 3 }
is_sent = refl

-- A Recv has two stamps, its own and that of its message.
isnt_sent_then : (recv_of 1 (message_sent offer) 5).stamp ≡ (recv_of 1 (message_sent offer) 5).sent → ⊥
isnt_sent_then e = let stamps : 5 ≡ 3 = e in omega (arith, stamps)

puts_the_message : (role : ℕ) (m : Message) → message_sent (send_of role m.point m.value m.stamp) ≡ m
puts_the_message role m = refl

takes_the_message : (role stamp : ℕ) (m : Message) → message_got (recv_of role m stamp) ≡ m
takes_the_message role stamp m = refl
