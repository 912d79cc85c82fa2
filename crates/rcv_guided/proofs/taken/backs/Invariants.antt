-- The roles so far.
use Rattle.std.proofs.Common.{◌≡◌, map}
use Rattle.std.specs.Prelude.{slice_index}
use Rattle.std.specs.List.{filter, range_with_len}
use Rattle.rcv_tree.specs.Bits.{has_bit}
use Rattle.rcv_guided.proofs.taken.backs.Given as goal

abbrev pub invariant-loop-number : goal.invariant-loop-number
invariant-loop-number l =
    l.all.items ≡ map (λ r. record { role = r; count = slice_index l.counts r; incarnation = slice_index l.incarnations r }) (filter (has_bit l.set.0) (range_with_len 0 l.number))
