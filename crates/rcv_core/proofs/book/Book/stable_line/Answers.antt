-- The ledger's logs are those of the kept events.
use Rattle.std.proofs.Common.{◌≤◌, ◌≡◌, ℕ, [], sym, ap, subst, length, arith}
use Rattle.std.specs.Prelude.{slice_index}
use Rattle.rcv_model.specs.Net.{Net}
use Rattle.rcv_model.specs.Run.{acts}
use Rattle.rcv_model.proofs.Bystanders.{as_many}
use Rattle.rcv_session.specs.Session.{net_for, rules_of}
use Rattle.rcv_ledger.specs.Ledger.{AreCarried}
use Rattle.rcv_ledger.proofs.Lists.{none_there}
use Rattle.rcv_line.specs.Line.{IsLineOf}
use Rattle.rcv_line.proofs.Lines.{line_agrees}
use Rattle.rcv_core.specs.Book.{BookView, IsStableLineOf}
use Rattle.rcv_core.proofs.Books.{left_by}
use Rattle.rcv_core.proofs.Making.{logs_are, carried, few_to_cut}
use Rattle.rcv_core.proofs.book.Book.stable_line.Goals as goal

pub stable_line-requires-clause-carried : goal.stable_line-requires-clause-carried
stable_line-requires-clause-carried c = subst (λ (net : Net). AreCarried net c.self.inside.ledger.logs c.self.inside.ledger.channels) (sym c.points.ensures) (carried c.self.inside.setup.now c.self.inside.ledger.entries c.self.inside.numbers.items c.self.inside.ledger c.self.invariant.book)

pub stable_line-requires-clause-few : goal.stable_line-requires-clause-few
stable_line-requires-clause-few c = few_to_cut c.self.inside.setup.now c.self.inside.ledger.entries c.self.inside.numbers.items c.self.inside.ledger c.self.invariant.book

pub stable_line-requires-clause-steps : goal.stable_line-requires-clause-steps
stable_line-requires-clause-steps c r low = (c.everys-everys.ensures r low).1

pub returns : goal.returns
returns c =
    let setup = c.self.inside.setup.now in
    let entries = c.self.inside.ledger.entries in
    let are = logs_are setup entries c.self.inside.numbers.items c.self.inside.ledger c.self.invariant.book in
    let h = (left_by setup entries).kept in
    let is = subst (λ (net : Net). IsLineOf net c.self.inside.ledger.logs (slice_index c.everys-everys.result) c.stable_line.result) c.points.ensures c.stable_line.ensures in
    let none : (r : ℕ) → 8 ≤ r → length (acts r h) ≡ 0 = (λ r high.
    (let z = ap length (none_there c.self.inside.ledger.logs r [] (let few = are.eight in omega (arith, few, high))) in
    let b = ap length (are.lists r) in
    let n = as_many r h in
    omega (arith, z, b, n))) in
    subst (λ (b : BookView). IsStableLineOf b c.stable_line.result) c.self.view_is
    (line_agrees (net_for setup) (slice_index c.everys-everys.result) (rules_of setup).every h (slice_index c.stable_line.result) (λ r low. (c.everys-everys.ensures r low).0) none (is h are))
