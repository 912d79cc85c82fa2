-- Crashes so far, and the crash lines of the plan.
use Rattle.std.proofs.Common.{get_or, ap, subst, ◌∙◌}
use Rattle.std.specs.Prelude.{IsTrue, ◌↔◌, List, length, nat_lt}
use Rattle.rcv_model.specs.Plan.{PlanLine, crashes_in}
use Rattle.rcv_session.specs.Session.{rules_of}
use Rattle.rcv_tree.specs.declared.numbers.Numbers.{Numbers}
use Rattle.rcv_core.specs.Book.{BookView, state_of, AwaitsCrash}
use Rattle.rcv_core.proofs.Books.{declared_in, less_by, numbers_told}
use Rattle.rcv_core.proofs.book.Book.role_awaits_crash.Goals as goal

pub returns : goal.returns
returns c =
    let setup = c.self.inside.setup.now in
    let lt = declared_in c.args.self.now setup c.self.inside.ledger.entries c.args.role c.self.view_is c.requires in
    let at = c.index.ensures ∙ ap (λ q. get_or c.self.inside.numbers.items q c.index.result.now) c.role.view_is in
    let own = numbers_told setup c.self.inside.ledger.entries c.self.inside.numbers.items c.self.inside.ledger c.self.invariant.book c.args.role c.index.result.now lt at in
    let lines = c.crashes.ensures ∙ ap (λ (p : List PlanLine). length (crashes_in p c.args.role)) c.plan.ensures.value in
    subst (λ (b : BookView). IsTrue (nat_lt c.index.result.now.crashes c.crashes.result) ↔ AwaitsCrash (rules_of b.setup) (state_of b) c.args.role) c.self.view_is
    (less_by _ _ (nat_lt c.index.result.now.crashes c.crashes.result) (ap (λ (x : Numbers). nat_lt x.crashes c.crashes.result) own ∙ ap (nat_lt _) lines))
