-- A remembered choice has a point; else the role's script picks one.
use Rattle.std.proofs.Common.{get_or, refl, ap, subst, sym, ◌∙◌, arith}
use Rattle.std.specs.Prelude.{ℤ, List}
use Rattle.std.proofs.lemmas.Bool.Decides.{nat_tests}
use Rattle.rcv_model.specs.Script.{pick}
use Rattle.rcv_session.specs.Session.{net_for, lines_of}
use Rattle.rcv_core.specs.Choices.{AreSent}
use Rattle.rcv_core.specs.Book.{BookView, vars_in, IsNextStep}
use Rattle.rcv_core.proofs.Stepping.{remembered, offered_told, point_told}
use Rattle.rcv_core.proofs.book.Book.chosen_point.Goals as goal

pub returns-then-remembered-ne0 : goal.returns-then-remembered-ne0
returns-then-remembered-ne0 c =
    let setup = c.self.inside.setup.now in
    let step = subst (λ (b : BookView). IsNextStep b c.args.role c.args.offered.now) (sym c.self.view_is) c.requires.step in
    let sends = subst (λ (b : BookView). AreSent (net_for b.setup) c.args.role c.args.offered.now) (sym c.self.view_is) c.requires.sends in
    let which = c.index.ensures ∙ ap (λ q. get_or c.self.inside.choices.items q c.index.result.now) c.role.view_is in
    point_told setup c.self.inside.ledger.entries c.self.inside.numbers.items c.self.inside.ledger c.self.invariant.book c.args.role c.args.offered.now step sends c.index.result.now
    (remembered setup c.self.inside.ledger.entries c.self.inside.numbers.items c.self.inside.ledger c.self.invariant.book c.args.role step.free.declared c.index.result.now c.self.inside.choices.items c.self.invariant.chosen which (λ e. let f = c.if-remembered-ne0.true in grind (arith, nat_tests)) _ refl)
    c.args.self.now c.self.view_is

pub choose-requires-clause-some : goal.choose-requires-clause-some
choose-requires-clause-some c = c.requires.sends.some

pub choose-requires-clause-points : goal.choose-requires-clause-points
choose-requires-clause-points c =
    let step = subst (λ (b : BookView). IsNextStep b c.args.role c.args.offered.now) (sym c.self.view_is) c.requires.step in
    offered_told c.self.inside.setup.now c.self.inside.ledger.entries c.self.inside.numbers.items c.self.inside.ledger c.self.invariant.book c.args.role c.args.offered.now step

pub returns : goal.returns
returns c =
    c.choose.ensures
    ∙ ap (λ (b : BookView). pick (net_for b.setup) (lines_of b.setup c.args.role) c.vars-vars.result.now c.attempt.result c.args.offered.now) c.self.view_is
    ∙ ap (λ (v : List ℤ). pick (net_for c.args.self.now.setup) (lines_of c.args.self.now.setup c.args.role) v c.attempt.result c.args.offered.now) c.vars-vars.ensures
    ∙ ap (λ n. pick (net_for c.args.self.now.setup) (lines_of c.args.self.now.setup c.args.role) (vars_in c.args.self.now c.args.role) n c.args.offered.now) c.attempt.ensures
