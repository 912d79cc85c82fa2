use Rattle.std.proofs.Common.{◌≡◌, []}
use Rattle.rcv_session.specs.Session.{roles_of}
use Rattle.rcv_cells.specs.Home.{AreHome, HaveBases}
use Rattle.rcv_super.proofs.OneByOne.{first_of}
use Rattle.rcv_super.proofs.alone.catch_up.Given as goal

abbrev pub invariant-loop : goal.invariant-loop
invariant-loop l =
    (l.copy ≡ first_of l.fn.book l.counter)
    × AreHome l.copy l.lanes.items
    × HaveBases (roles_of l.fn.book.setup) [] l.lanes.items
