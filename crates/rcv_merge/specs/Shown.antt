-- Entries of the examples.
use Rattle.std.specs.Prelude.{ℕ, pos}
use Rattle.rcv_tree.specs.declared.entry.Entry.{Entry}
use Rattle.rcv_tree.specs.declared.entry.Entry.TheVariants.{Send, Recv}
use Rattle.rcv_tree.specs.declared.event.Dir.TheVariants.{Sent, Got}

-- A Send with its stamp, and a Recv with its own and that of its message.
abbrev pub sent : ℕ → ℕ → ℕ → Entry
sent role point stamp = Send (record { role = role; dir = Sent; point = point; value = pos 0; stamp = stamp; sent = stamp })

abbrev pub got : ℕ → ℕ → ℕ → ℕ → Entry
got role point stamp at = Recv (record { role = role; dir = Got; point = point; value = pos 0; stamp = stamp; sent = at })
