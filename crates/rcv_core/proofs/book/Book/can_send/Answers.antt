-- The chosen point is among the next points.
use Rattle.std.proofs.Common.{subst, sym}
use Rattle.std.specs.Prelude.{IsTrue, ◌↔◌}
use Rattle.rcv_model.specs.Net.{IsIn}
use Rattle.rcv_model.specs.Journal.{numbers_at, events_of}
use Rattle.rcv_model.proofs.Choosing.{chosen_in}
use Rattle.rcv_session.specs.Session.{net_for, lines_of}
use Rattle.rcv_core.specs.Book.{state_of, HasRoomAt}
use Rattle.rcv_core.proofs.book.Book.can_send.Goals as goal

pub has_room-requires-clause-declared : goal.has_room-requires-clause-declared
has_room-requires-clause-declared c = c.requires.step.free.declared

pub has_room-requires-clause-next : goal.has_room-requires-clause-next
has_room-requires-clause-next c = c.requires.step.next.sound c.chosen_point.result
    (subst (λ z. IsIn z c.args.offered.now) (sym c.chosen_point.ensures) (chosen_in (net_for c.args.self.now.setup) (lines_of c.args.self.now.setup) c.args.role (events_of c.args.role (state_of c.args.self.now).kept) (numbers_at (state_of c.args.self.now).roles c.args.role).attempt c.args.offered.now c.requires.sends.some))

pub returns : goal.returns
returns c = subst (λ z. IsTrue c.has_room.result ↔ HasRoomAt c.args.self.now c.args.role z) c.chosen_point.ensures c.has_room.ensures
