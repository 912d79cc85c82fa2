-- A turn answers by what was left to do.
use Rattle.std.proofs.Common.{◌≡◌, rules, false, List, refl, sym, subst, arith}
use Rattle.rcv_role.specs.Cell.{CellView}
use Rattle.rcv_super.specs.declared.session.Turn.TheVariants.{Completed, Limited}
use Rattle.rcv_super.specs.declared.whereabouts.Whereabouts.TheVariants as places
use Rattle.rcv_core.specs.Skips.{IsSkip}
use Rattle.rcv_super.specs.Super.{IsAlone}
use Rattle.rcv_super.specs.InOrder.{IsInOrderAt, HasMadeTurn, HasFailed}
use Rattle.rcv_super.proofs.Ending.{ends, more_made, memory_wanted, step_on, grown_on, more_entries, came_some, was_before, now_before, before_away, alone_on, still_open, nothing_known, not_several}
use Rattle.rcv_super.proofs.InOrder.{when_ok}
use Rattle.rcv_super.proofs.session.Session.turn.Goals as goal

pub returns-in_default : goal.returns-in_default
returns-in_default g c =
    let open_here : c.self.inside.closed ≡ false = search rules in
    ends c.args.workers c.args.self.now c.self.inside.house.book c.self.inside.closed c.self.inside.turns c.self.inside.line c.self.view_is open_here c.end_of.result (search rules) _ (search rules)

pub step_alone-requires : goal.step_alone-requires
step_alone-requires g c =
    let open_here : c.self.inside.closed ≡ false = search rules in
    (c.self.invariant open_here).skip_is

pub next_turn-self-inside-requires : goal.next_turn-self-inside-requires
next_turn-self-inside-requires g c =
    let open_here : c.self.inside.closed ≡ false = search rules in
    let came = came_some c.self.inside.house.book c.step_alone.new.book c.step_alone.result c.in-Some.skip c.in-Some.is c.step_alone.ensures in
    let few = (c.self.invariant open_here).few in
    let more = more_entries c.self.inside.house.book c.step_alone.new.book (step_on c.self.inside.house.book c.step_alone.new.book came.1) in
    omega (arith, few, more)

pub keep_line-requires-clause-was : goal.keep_line-requires-clause-was
keep_line-requires-clause-was g c =
    let open_here : c.self.inside.closed ≡ false = search rules in
    let came = came_some c.self.inside.house.book c.step_alone.new.book c.step_alone.result c.in-Some.skip c.in-Some.is c.step_alone.ensures in
    record { before = c.self.inside.house.book; grown = grown_on c.self.inside.house.book c.step_alone.new.book (step_on c.self.inside.house.book c.step_alone.new.book came.1); stable = (c.self.invariant open_here).stable }

pub keep_line-requires-clause-home : goal.keep_line-requires-clause-home
keep_line-requires-clause-home g c = λ home. absurd (before_away c.self.inside.at (c.is_before.ensures.0 c.if-is_before.true) home)

pub invariant_of-self-then-is_before : goal.invariant_of-self-then-is_before
invariant_of-self-then-is_before g c = λ not_closed.
    let was = c.self.invariant not_closed in
    let before : c.self.inside.at ≡ places.Before = c.is_before.ensures.0 c.if-is_before.true in
    let came = came_some c.self.inside.house.book c.step_alone.new.book c.step_alone.result c.in-Some.skip c.in-Some.is c.step_alone.ensures in
    let few = was.few in
    let more = more_entries c.self.inside.house.book c.step_alone.new.book (step_on c.self.inside.house.book c.step_alone.new.book came.1) in
    let count = c.next_turn-self-inside.ensures in
    still_open c.step_alone.new.book c.keep_line.new.house.book c.keep_line.new.house.lanes.items c.self.inside.house.watch c.keep_line.new.house.watch c.self.inside.house.watches.items c.keep_line.new.house.watches.items c.self.inside.at c.in-Some.skip c.next_turn-self-inside.result c.keep_line.new.line
    (record {
      stands = now_before c.self.inside.at c.step_alone.new.book c.keep_line.new.line c.keep_line.new.house.lanes.items before
          (subst (λ (cells : List CellView). IsAlone c.step_alone.new.book cells) (sym (c.keep_line.ensures.same (before_away c.self.inside.at before)))
          (alone_on c.self.inside.house.book c.step_alone.new.book c.self.inside.house.lanes.items (was_before c.self.inside.at c.self.inside.house.book c.self.inside.line c.self.inside.house.lanes.items before was.stands) came.1));
      watched = was.watched;
      skip_is = came.2;
      stable = c.keep_line.ensures.stable;
      few = omega (arith, count, few, more);
    })
    c.keep_line.ensures.book c.keep_line.ensures.watch c.keep_line.ensures.watches

pub returns-then-is_before : goal.returns-then-is_before
returns-then-is_before g c =
    let open_here : c.self.inside.closed ≡ false = search rules in
    let came = came_some c.self.inside.house.book c.step_alone.new.book c.step_alone.result c.in-Some.skip c.in-Some.is c.step_alone.ensures in
    let made = more_made c.args.workers c.args.self.now c.self.inside.house.book c.self.inside.closed c.self.inside.turns c.self.inside.line c.self.view_is open_here came.0 c.step_alone.new.book c.keep_line.new.house.book c.keep_line.ensures.book (step_on c.self.inside.house.book c.step_alone.new.book came.1) (λ one. came.1)
    (not_several c.args.workers c.self.inside.house.book c.step_alone.new.book (search rules)) c.next_turn-self-inside.result c.keep_line.new.line c.next_turn-self-inside.ensures c.keep_line.ensures.line c.keep_line.ensures.stays in
    (made.0, open_here, made.2, made.3, made.4, record { turns = made.5.turns; line = made.5.line; stays = made.5.stays })

pub returns-in-Completed : goal.returns-in-Completed
returns-in-Completed g c =
    let open_here : c.self.inside.closed ≡ false = search rules in
    ends c.args.workers c.args.self.now c.self.inside.house.book c.self.inside.closed c.self.inside.turns c.self.inside.line c.self.view_is open_here Completed c.in-Completed.ensures c.args.self.now refl

pub returns-in-Limited : goal.returns-in-Limited
returns-in-Limited g c =
    let open_here : c.self.inside.closed ≡ false = search rules in
    ends c.args.workers c.args.self.now c.self.inside.house.book c.self.inside.closed c.self.inside.turns c.self.inside.line c.self.view_is open_here Limited c.in-Limited.ensures.0 c.args.self.now refl

pub go-made-requires-clause-can : goal.go-made-requires-clause-can
go-made-requires-clause-can g c κs within =
    let open_here : c.self.inside.closed ≡ false = search rules in
    let was = c.self.invariant open_here in
    record { more = c.in-More.ensures; stands = was.stands; stable = was.stable; watched = was.watched }

pub returns-then-is_err : goal.returns-then-is_err
returns-then-is_err g c =
    let open_here : c.self.inside.closed ≡ false = search rules in
    let failed : HasFailed c.args.workers c.self.inside.house.book c.go-made.new.house.book = search rules in
    memory_wanted c.args.workers c.args.self.now c.self.inside.house.book c.self.inside.closed c.self.inside.turns c.self.inside.line c.self.view_is open_here c.in-More.ensures c.go-made.new.house.book failed.at_most failed.same

pub next_turn-self-inside-requires-2 : goal.next_turn-self-inside-requires-2
next_turn-self-inside-requires-2 g c =
    let open_here : c.self.inside.closed ≡ false = search rules in
    let turned = when_ok c.go-made.result (HasMadeTurn c.args.workers c.self.inside.house.book c.go-made.new.house.book) (search rules) c.go-made.ensures.turned in
    let few = (c.self.invariant open_here).few in
    let more = more_entries c.self.inside.house.book c.go-made.new.house.book turned.gone_on in
    omega (arith, few, more)

pub keep_line-requires-2-clause-was : goal.keep_line-requires-2-clause-was
keep_line-requires-2-clause-was g c =
    let open_here : c.self.inside.closed ≡ false = search rules in
    let turned = when_ok c.go-made.result (HasMadeTurn c.args.workers c.self.inside.house.book c.go-made.new.house.book) (search rules) c.go-made.ensures.turned in
    record { before = c.self.inside.house.book; grown = grown_on c.self.inside.house.book c.go-made.new.house.book turned.gone_on; stable = (c.self.invariant open_here).stable }

pub keep_line-requires-2-clause-home : goal.keep_line-requires-2-clause-home
keep_line-requires-2-clause-home g c = λ e.
    let order = when_ok c.go-made.result (IsInOrderAt c.self.inside.line c.go-made.new.house) (search rules) c.go-made.ensures.order in
    (order.home, order.bases)

pub invariant_of-self-2 : goal.invariant_of-self-2
invariant_of-self-2 g c = λ not_closed.
    let open_here : c.self.inside.closed ≡ false = search rules in
    let turned = when_ok c.go-made.result (HasMadeTurn c.args.workers c.self.inside.house.book c.go-made.new.house.book) (search rules) c.go-made.ensures.turned in
    let order = when_ok c.go-made.result (IsInOrderAt c.self.inside.line c.go-made.new.house) (search rules) c.go-made.ensures.order in
    let few = (c.self.invariant open_here).few in
    let more = more_entries c.self.inside.house.book c.go-made.new.house.book turned.gone_on in
    let count = c.next_turn-self-inside-2.ensures in
    still_open c.go-made.new.house.book c.keep_line-2.new.house.book c.keep_line-2.new.house.lanes.items c.go-made.new.house.watch c.keep_line-2.new.house.watch c.go-made.new.house.watches.items c.keep_line-2.new.house.watches.items places.Home c.nothing-self-inside.result c.next_turn-self-inside-2.result c.keep_line-2.new.line
    (record {
      stands = c.keep_line-2.ensures.home refl;
      watched = order.watched;
      skip_is = subst (IsSkip c.go-made.new.house.book) (sym c.nothing-self-inside.ensures) (nothing_known c.go-made.new.house.book);
      stable = c.keep_line-2.ensures.stable;
      few = omega (arith, count, few, more);
    })
    c.keep_line-2.ensures.book c.keep_line-2.ensures.watch c.keep_line-2.ensures.watches

pub returns : goal.returns
returns g c =
    let open_here : c.self.inside.closed ≡ false = search rules in
    let turned = when_ok c.go-made.result (HasMadeTurn c.args.workers c.self.inside.house.book c.go-made.new.house.book) (search rules) c.go-made.ensures.turned in
    more_made c.args.workers c.args.self.now c.self.inside.house.book c.self.inside.closed c.self.inside.turns c.self.inside.line c.self.view_is open_here c.in-More.ensures c.go-made.new.house.book c.keep_line-2.new.house.book c.keep_line-2.ensures.book turned.gone_on turned.alone turned.together c.next_turn-self-inside-2.result c.keep_line-2.new.line c.next_turn-self-inside-2.ensures c.keep_line-2.ensures.line c.keep_line-2.ensures.stays
