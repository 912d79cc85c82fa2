use Rattle.std.proofs.Common.{rules}
use Rattle.rcv_ring.proofs.Seats.{parts}
use Rattle.rcv_ring.proofs.end.End.part.Goals as goal

pub split_seat-seat-requires : goal.split_seat-seat-requires
split_seat-seat-requires c = (search rules, search rules, parts _ _ _ _ c.requires.both.0 c.requires.both.1 c.requires.empty)
