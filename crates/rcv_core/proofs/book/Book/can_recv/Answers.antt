-- A role that awaits a message can act where one is in front.
use Rattle.std.proofs.Common.{subst, sym}
use Rattle.std.specs.Prelude.{IsTrue, ◌↔◌}
use Rattle.rcv_model.specs.Final.{CanAct}
use Rattle.rcv_session.specs.Session.{rules_of}
use Rattle.rcv_core.specs.Book.{BookView, state_of, IsNextRecv}
use Rattle.rcv_core.proofs.Stepping.{low_from, low_to, able_to_recv}
use Rattle.rcv_core.proofs.book.Book.can_recv.Goals as goal

pub front-requires : goal.front-requires
front-requires c =
    let here = subst (λ (b : BookView). IsNextRecv b c.args.role c.args.from) (sym c.self.view_is) c.requires in
    (low_from c.self.inside.setup.now c.self.inside.ledger.entries c.self.inside.numbers.items c.self.inside.ledger c.self.invariant.book c.args.role c.args.from here, low_to c.self.inside.setup.now c.self.inside.ledger.entries c.self.inside.numbers.items c.self.inside.ledger c.self.invariant.book c.args.role c.args.from here)

pub returns : goal.returns
returns c =
    let here = subst (λ (b : BookView). IsNextRecv b c.args.role c.args.from) (sym c.self.view_is) c.requires in
    subst (λ (b : BookView). IsTrue c.is_some.result ↔ CanAct (rules_of b.setup) (state_of b) c.args.role) c.self.view_is
    (able_to_recv c.self.inside.setup.now c.self.inside.ledger.entries c.self.inside.numbers.items c.self.inside.ledger c.self.invariant.book c.args.role c.args.from here c.front.result c.is_some.result c.front.ensures c.is_some.ensures)
