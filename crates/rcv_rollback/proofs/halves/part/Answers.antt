-- One cell more is in its half, which has room for all.
use Rattle.std.proofs.Common.{rules, ◌≡◌, ◌≤◌, length, ◌∙◌, ap, subst, sym, arith}
use Rattle.std.proofs.lemmas.List.{take_all}
use Rattle.std.specs.Vec.Iter.{drain_items}
use Rattle.rcv_rollback.proofs.Splitting.{split_none, has_next, one_on, split_more, split_all}
use Rattle.rcv_rollback.proofs.halves.part.Goals as goal

pub loop-cell-init : goal.loop-cell-init
loop-cell-init g c =
    let same : c.into_iter-cell-iterator.result ≡ c.drain-cell-items.result = search rules in
    let size = c.args.cells.now.ok.0 in
    let all : drain_items c.into_iter-cell-iterator.result ≡ c.args.cells.now.items =
    ap (λ it. drain_items it) same ∙ c.drain-cell-items.ensures.rest ∙ take_all _ c.args.cells.now.items (omega (arith, size)) in (
      all,
      split_none c.args.concerned c.args.back.now.items c.args.beside.now.items c.requires.back_empty c.requires.beside_empty,
      c.requires.back_room,
      c.requires.beside_room,
    )

pub overflow_cast-role : goal.overflow_cast-role
overflow_cast-role g c =
    let few = has_next c.args.cells.now.items c.loop-cell.yielded _ _ c.in-Some.cell c.loop-cell.invariant.0 c.in-Some.ensures.steps.0 in
    let count = c.loop-cell.invariant.1.back_count in
    let size = c.loop-cell.back.ok.0 in
    let most = c.requires.few in
    omega (arith, few, count, size, most)

pub push_apart-requires-clause-back : goal.push_apart-requires-clause-back
push_apart-requires-clause-back g c =
    let few = has_next c.args.cells.now.items c.loop-cell.yielded _ _ c.in-Some.cell c.loop-cell.invariant.0 c.in-Some.ensures.steps.0 in
    let count = c.loop-cell.invariant.1.back_count in
    let size = c.loop-cell.back.ok.0 in
    let room = c.loop-cell.invariant.2 in
    omega (arith, few, count, size, room)

pub push_apart-requires-clause-beside : goal.push_apart-requires-clause-beside
push_apart-requires-clause-beside g c =
    let few = has_next c.args.cells.now.items c.loop-cell.yielded _ _ c.in-Some.cell c.loop-cell.invariant.0 c.in-Some.ensures.steps.0 in
    let count = c.loop-cell.invariant.1.beside_count in
    let size = c.loop-cell.beside.ok.0 in
    let room = c.loop-cell.invariant.3 in
    omega (arith, few, count, size, room)

pub loop-cell-preserved : goal.loop-cell-preserved
loop-cell-preserved g c =
    let next = c.in-Some.ensures.steps.0 in
    let place : c.len.result ≡ length c.loop-cell.back.items = c.len.ensures ∙ c.loop-cell.back.ok.0 in
    let pushed = c.push_apart.ensures in (
      one_on c.args.cells.now.items c.loop-cell.yielded _ _ c.in-Some.cell c.loop-cell.invariant.0 next,
      split_more c.args.concerned c.loop-cell.yielded c.loop-cell.back.items c.push_apart.new.back.items c.loop-cell.beside.items
          c.push_apart.new.beside.items c.in-Some.cell c.len.result c.has.result c.loop-cell.invariant.1 place c.has.ensures
          pushed.apart,
      subst (λ n. length c.args.cells.now.items ≤ n) (sym pushed.back_room) c.loop-cell.invariant.2,
      subst (λ n. length c.args.cells.now.items ≤ n) (sym pushed.beside_room) c.loop-cell.invariant.3,
    )

pub returns-clause-split : goal.returns-clause-split
returns-clause-split g c =
    split_all c.args.concerned c.args.cells.now.items c.loop-cell.yielded _ c.loop-cell.back.items c.loop-cell.beside.items
    c.loop-cell.invariant.0 c.in-None.ensures.steps.0 c.loop-cell.invariant.1
