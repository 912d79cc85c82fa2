-- The cells come home to the same book.
use Rattle.std.proofs.Common.{rules, subst, sym, ◌∙◌}
use Rattle.std.specs.Prelude.{OnOk, OnErr}
use Rattle.rcv_core.specs.Book.{BookView, HasMore}
use Rattle.rcv_alone.specs.Steps.{HasStepped}
use Rattle.rcv_super.specs.Bases.{IsStableIn}
use Rattle.rcv_super.specs.InOrder.{HasMadeTurn, HasFailed}
use Rattle.rcv_super.proofs.Bases.{held_on, then_ok, then_err, both_ok}
use Rattle.rcv_super.proofs.Ending.{not_final, grown_step, grown_on}
use Rattle.rcv_super.proofs.InOrder.{in_order_at, stays_at, stepped_turn, stayed_turn, failed_in_place}
use Rattle.rcv_super.proofs.rounds.go.Goals as goal

pub bring_home-requires-clause-left : goal.bring_home-requires-clause-left
bring_home-requires-clause-left g c = not_final c.args.house.now.book c.requires.can.more

pub make_step-requires-clause-more : goal.make_step-requires-clause-more
make_step-requires-clause-more g c = subst HasMore (sym c.bring_home.ensures.same) c.requires.can.more

pub go_on-requires-clause-more : goal.go_on-requires-clause-more
go_on-requires-clause-more g c κs within = subst HasMore (sym c.bring_home.ensures.same) c.requires.can.more

pub make_step-requires-clause-based : goal.make_step-requires-clause-based
make_step-requires-clause-based g c = record {
  line = c.args.line.now;
  stable = subst (λ (b : BookView). IsStableIn b c.args.line.now) (sym c.bring_home.ensures.same) c.requires.can.stable;
  bases = c.in_ok-bring_home.ensures.bases;
}

pub go_on-requires-clause-order : goal.go_on-requires-clause-order
go_on-requires-clause-order g c κs within = record {
  home = c.in_ok-bring_home.ensures.home;
  based = record {
    line = c.args.line.now;
    stable = subst (λ (b : BookView). IsStableIn b c.args.line.now) (sym c.bring_home.ensures.same) c.requires.can.stable;
    bases = c.in_ok-bring_home.ensures.bases;
  };
  watched = c.requires.can.watched;
}

pub returns-in_err-bring_home-clause-failed : goal.returns-in_err-bring_home-clause-failed
returns-in_err-bring_home-clause-failed g c = failed_in_place _ c.args.crew.now.workers c.args.house.now.book c.bring_home.new.book c.bring_home.ensures.same

pub returns-then-crew-eq1-clause-order : goal.returns-then-crew-eq1-clause-order
returns-then-crew-eq1-clause-order g c = in_order_at c.make_step.result c.args.line.now _ c.make_step.ensures.home
    (both_ok c.make_step.result
    (λ stepped. held_on c.bring_home.new.book c.make_step.new.book c.args.line.now c.bring_home.new.lanes.items c.make_step.new.lanes.items (grown_step c.bring_home.new.book c.make_step.new.book stepped) c.in_ok-bring_home.ensures.bases)
    c.make_step.ensures.stepped c.make_step.ensures.bases)
    c.requires.can.watched

pub returns-then-crew-eq1-clause-turned : goal.returns-then-crew-eq1-clause-turned
returns-then-crew-eq1-clause-turned g c = stepped_turn c.make_step.result c.args.crew.now.workers c.args.house.now.book c.make_step.new.book (search rules)
    (subst (λ (b : BookView). OnOk c.make_step.result (HasStepped b c.make_step.new.book)) c.bring_home.ensures.same c.make_step.ensures.stepped)

pub returns-then-crew-eq1-clause-failed : goal.returns-then-crew-eq1-clause-failed
returns-then-crew-eq1-clause-failed g c = stayed_turn c.make_step.result c.args.crew.now.workers c.args.house.now.book c.make_step.new.book
    (then_err c.make_step.result (λ same. same ∙ c.bring_home.ensures.same) c.make_step.ensures.same)

pub returns-clause-order : goal.returns-clause-order
returns-clause-order g c = stays_at c.go_on.result c.args.line.now _ c.go_on.new.house
    (then_ok c.go_on.result (λ (turned : HasMadeTurn c.args.crew.now.workers c.bring_home.new.book c.go_on.new.house.book). grown_on c.bring_home.new.book c.go_on.new.house.book turned.gone_on) c.go_on.ensures.turned)
    c.in_ok-bring_home.ensures.bases c.go_on.ensures.order

pub returns-clause-turned : goal.returns-clause-turned
returns-clause-turned g c =
    subst (λ (b : BookView). OnOk c.go_on.result (HasMadeTurn c.args.crew.now.workers b c.go_on.new.house.book)) c.bring_home.ensures.same c.go_on.ensures.turned

pub returns-clause-failed : goal.returns-clause-failed
returns-clause-failed g c =
    subst (λ (b : BookView). OnErr c.go_on.result (HasFailed c.args.crew.now.workers b c.go_on.new.house.book)) c.bring_home.ensures.same c.go_on.ensures.failed
