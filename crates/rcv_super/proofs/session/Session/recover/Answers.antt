-- The recovery forgets nothing, and the line is stable behind it.
use Rattle.std.proofs.Common.{◌≡◌, rules, false, List, sym, subst, arith}
use Rattle.rcv_session.specs.Session.{roles_of}
use Rattle.rcv_core.specs.Skips.{IsSkip}
use Rattle.rcv_cells.specs.Home.{AreHome, HaveBases}
use Rattle.rcv_fence.specs.Shown.{Shown}
use Rattle.rcv_super.specs.Super.{HasWatches}
use Rattle.rcv_super.specs.Steps.{HasRecovered}
use Rattle.rcv_super.proofs.Ending.{grown_recovery, fewer_entries, nothing_known}
use Rattle.rcv_super.proofs.session.Session.recover.Goals as goal

pub recover_home-recovered-requires-clause-stands : goal.recover_home-recovered-requires-clause-stands
recover_home-recovered-requires-clause-stands c =
    let open_here : c.self.inside.closed ≡ false = search rules in
    (c.self.invariant open_here).stands

pub recover_home-recovered-requires-clause-left : goal.recover_home-recovered-requires-clause-left
recover_home-recovered-requires-clause-left c = λ end. end.none_crashed c.args.role (search rules)

pub recover_home-recovered-requires-clause-stable : goal.recover_home-recovered-requires-clause-stable
recover_home-recovered-requires-clause-stable c =
    let open_here : c.self.inside.closed ≡ false = search rules in
    (c.self.invariant open_here).stable

pub still_stable-requires : goal.still_stable-requires
still_stable-requires c =
    let open_here : c.self.inside.closed ≡ false = search rules in
    let recovered : HasRecovered c.self.inside.house.book c.recover_home-recovered.new.house.book c.args.role = search rules in
    record { before = c.self.inside.house.book; grown = grown_recovery c.self.inside.house.book c.recover_home-recovered.new.house.book c.args.role recovered; stable = (c.self.invariant open_here).stable }

pub invariant_of-self-2 : goal.invariant_of-self-2
invariant_of-self-2 c = λ not_closed.
    let open_here : c.self.inside.closed ≡ false = search rules in
    let recovered : HasRecovered c.self.inside.house.book c.recover_home-recovered.new.house.book c.args.role = search rules in
    let home : AreHome c.recover_home-recovered.new.house.book c.recover_home-recovered.new.house.lanes.items = search rules in
    let bases : HaveBases (roles_of c.recover_home-recovered.new.house.book.setup) c.self.inside.line c.recover_home-recovered.new.house.lanes.items = search rules in
    let few = (c.self.invariant open_here).few in
    let grown = fewer_entries c.self.inside.house.book c.recover_home-recovered.new.house.book (grown_recovery c.self.inside.house.book c.recover_home-recovered.new.house.book c.args.role recovered) in
    record {
      stands = (home, bases);
      watched = subst (λ (w : Shown). HasWatches w c.recover_home-recovered.new.house.watches.items) (sym c.recover_home-recovered.ensures.watch)
          (subst (λ (ws : List Shown). HasWatches c.self.inside.house.watch ws) (sym c.recover_home-recovered.ensures.watches) (c.self.invariant open_here).watched);
      skip_is = subst (IsSkip c.recover_home-recovered.new.house.book) (sym c.nothing-self-inside.ensures) (nothing_known c.recover_home-recovered.new.house.book);
      stable = c.still_stable.ensures;
      few = omega (arith, few, grown);
    }
