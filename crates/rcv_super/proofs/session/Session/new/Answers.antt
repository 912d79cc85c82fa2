-- The cells stand before the first entry and have forgotten nothing, all watches are of one fence, and nothing is known.
use Rattle.std.proofs.Common.{sym, subst, arith}
use Rattle.rcv_core.specs.declared.skip.Skip.{Skip}
use Rattle.rcv_core.specs.Book.{BookView}
use Rattle.rcv_core.specs.Skips.{IsSkip}
use Rattle.rcv_cells.specs.Home.{AreHome}
use Rattle.rcv_super.specs.Super.{IsAlone}
use Rattle.rcv_super.proofs.Bases.{zeros_stable}
use Rattle.rcv_super.proofs.Ending.{nothing_known}
use Rattle.rcv_super.proofs.session.Session.new.Goals as goal

pub invariant_of-result : goal.invariant_of-result
invariant_of-result c = λ not_closed. record {
  stands = subst (λ (b : BookView). IsAlone b c.in_ok-house.house.lanes.items) (sym c.in_ok-house.ensures.book) (record {
    steps = tt;
    cells_are = subst (λ (b : BookView). AreHome b c.in_ok-house.house.lanes.items) c.in_ok-house.ensures.book c.in_ok-house.ensures.home;
    bases = c.in_ok-house.ensures.bases;
  });
  watched = (c.in_ok-house.ensures.watched, c.in_ok-house.ensures.watches);
  skip_is = subst (λ (s : Skip). IsSkip c.in_ok-house.house.book s) (sym c.nothing.ensures) (nothing_known c.in_ok-house.house.book);
  stable = zeros_stable c.in_ok-house.house.book;
  few = omega (arith);
}
