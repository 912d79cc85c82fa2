-- The cells come home to the same book, and go back from there.
use Rattle.std.proofs.Common.{subst, sym}
use Rattle.rcv_core.specs.Book.{BookView}
use Rattle.rcv_super.specs.Bases.{IsStableIn}
use Rattle.rcv_super.proofs.Bases.{held_on, both_ok}
use Rattle.rcv_super.proofs.Ending.{grown_recovery}
use Rattle.rcv_super.proofs.rounds.recover_home.Goals as goal

pub recover_alone-requires-clause-based : goal.recover_alone-requires-clause-based
recover_alone-requires-clause-based c = record {
  line = c.args.line.now;
  stable = subst (λ (b : BookView). IsStableIn b c.args.line.now) (sym c.bring_home.ensures.same) c.requires.stable;
  bases = c.in_ok-bring_home.ensures.bases;
}

pub returns-clause-bases : goal.returns-clause-bases
returns-clause-bases c = both_ok c.recover_alone.result
    (λ recovered. held_on c.bring_home.new.book c.recover_alone.new.book c.args.line.now c.bring_home.new.lanes.items c.recover_alone.new.lanes.items (grown_recovery c.bring_home.new.book c.recover_alone.new.book c.args.role recovered) c.in_ok-bring_home.ensures.bases)
    c.recover_alone.ensures.recovered c.recover_alone.ensures.bases
