-- The point of the role's next event is one of the text.
use Rattle.std.proofs.Common.{subst, sym}
use Rattle.rcv_model.specs.Journal.{place}
use Rattle.rcv_core.specs.Book.{BookView}
use Rattle.rcv_core.specs.Behind.{IsNextEvent}
use Rattle.rcv_core.proofs.Books.{left_by, of_next}
use Rattle.rcv_core.proofs.book.Book.go_behind.Goals as goal

pub receive-behind-requires-clause-first : goal.receive-behind-requires-clause-first
receive-behind-requires-clause-first c =
    let next = subst (λ (b : BookView). IsNextEvent b c.args.event.now) (sym c.self.view_is) c.requires.next in
    (of_next c.self.inside.setup.now c.args.event.now.role (place (left_by c.self.inside.setup.now c.self.inside.ledger.entries) c.args.event.now.role) c.args.event.now.point c.self.invariant.book.protocol next.next).first

pub receive-behind-requires-clause-last : goal.receive-behind-requires-clause-last
receive-behind-requires-clause-last c =
    let next = subst (λ (b : BookView). IsNextEvent b c.args.event.now) (sym c.self.view_is) c.requires.next in
    (of_next c.self.inside.setup.now c.args.event.now.role (place (left_by c.self.inside.setup.now c.self.inside.ledger.entries) c.args.event.now.role) c.args.event.now.point c.self.invariant.book.protocol next.next).last
