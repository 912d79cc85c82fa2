-- The line is stable still at the end.
use Rattle.std.proofs.Common.{◌≡◌, rules, false, sym, subst, arith}
use Rattle.rcv_core.specs.Book.{BookView}
use Rattle.rcv_core.specs.Skips.{IsSkip}
use Rattle.rcv_super.specs.Finish.{HasFinished}
use Rattle.rcv_super.proofs.Ending.{fewer_entries, finished_grown, nothing_known}
use Rattle.rcv_super.proofs.session.Session.finish_alone.Goals as goal

pub finish_alone-requires : goal.finish_alone-requires
finish_alone-requires g c =
    let open_here : c.self.inside.closed ≡ false = search rules in
    subst (λ (b : BookView). IsSkip b c.self.inside.skip) (sym c.start_choosing.ensures) (c.self.invariant open_here).skip_is

pub still_stable-requires : goal.still_stable-requires
still_stable-requires g c =
    let open_here : c.self.inside.closed ≡ false = search rules in
    let finished : HasFinished 1 c.self.inside.house.book c.finish_alone.new.book = subst (λ (b : BookView). HasFinished 1 b c.finish_alone.new.book) c.start_choosing.ensures c.finish_alone.ensures in
    record { before = c.self.inside.house.book; grown = finished_grown 1 c.self.inside.house.book c.finish_alone.new.book finished; stable = (c.self.invariant open_here).stable }

pub invariant_of-self : goal.invariant_of-self
invariant_of-self g c = λ not_closed.
    let was = c.self.invariant not_closed in
    let finished : HasFinished 1 c.self.inside.house.book c.finish_alone.new.book = subst (λ (b : BookView). HasFinished 1 b c.finish_alone.new.book) c.start_choosing.ensures c.finish_alone.ensures in
    let few = was.few in
    let grown = fewer_entries c.self.inside.house.book c.finish_alone.new.book (finished_grown 1 c.self.inside.house.book c.finish_alone.new.book finished) in
    record {
      stands = finished.end;
      watched = was.watched;
      skip_is = subst (IsSkip c.finish_alone.new.book) (sym c.nothing-self-inside.ensures) (nothing_known c.finish_alone.new.book);
      stable = c.still_stable.ensures;
      few = omega (arith, few, grown);
    }
