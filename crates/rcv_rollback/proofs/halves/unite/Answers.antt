-- One place more was emptied, for whose cell there is room.
use Rattle.std.proofs.Common.{rules, ◌≡◌, ◌<◌, length, refl, ◌∙◌, arith}
use Rattle.rcv_rollback.proofs.Splitting.{united_none, few, few_still, united_more, united_all}
use Rattle.rcv_rollback.proofs.halves.unite.Goals as goal

pub loop-place-init : goal.loop-place-init
loop-place-init c = (united_none c.args.concerned c.args.back.now.items c.args.beside.now.items c.args.cells.now.items c.requires.empty, refl)

pub move_from-requires-clause-room : goal.move_from-requires-clause-room
move_from-requires-clause-room c = λ x has.
    let lt : c.loop-place.place < length c.args.back.now.items = search rules in
    let less = few c.args.concerned c.args.back.now.items c.args.beside.now.items c.loop-place.place c.loop-place.cells.items
    c.loop-place.back.items c.loop-place.beside.items c.loop-place.invariant.0 lt c.requires.halves.0 c.requires.halves.1 in
    let size = c.loop-place.cells.ok.0 in
    let same = c.loop-place.invariant.1 in
    let room = c.requires.room in
    omega (arith, less, size, same, room)

pub move_from-requires-in-loop-place-clause-room : goal.move_from-requires-in-loop-place-clause-room
move_from-requires-in-loop-place-clause-room c = λ x has.
    let lt : c.loop-place.place < length c.args.back.now.items = search rules in
    let less = few_still c.args.concerned c.args.back.now.items c.args.beside.now.items c.loop-place.place c.loop-place.cells.items
    c.loop-place.back.items c.loop-place.beside.items c.loop-place.invariant.0 lt c.requires.halves.0 c.move_from.new.cells.items
    c.requires.halves.1 c.move_from.ensures.none x has in
    let size = c.move_from.new.cells.ok.0 in
    let same = c.move_from.ensures.room ∙ c.loop-place.invariant.1 in
    let room = c.requires.room in
    omega (arith, less, size, same, room)

pub loop-place-preserved : goal.loop-place-preserved
loop-place-preserved c =
    let lt : c.loop-place.place < length c.args.back.now.items = search rules in (
      united_more c.args.concerned c.args.back.now.items c.args.beside.now.items c.loop-place.place c.loop-place.cells.items
          c.loop-place.back.items c.loop-place.beside.items c.loop-place.invariant.0 lt c.move_from.new.cells.items
          c.move_from-in-loop-place.new.cells.items c.move_from.new.half.items c.move_from-in-loop-place.new.half.items c.move_from.ensures.others
          c.move_from-in-loop-place.ensures.others c.move_from.ensures.moved c.move_from.ensures.none c.move_from-in-loop-place.ensures.moved
          c.move_from-in-loop-place.ensures.none,
      c.move_from-in-loop-place.ensures.room ∙ c.move_from.ensures.room ∙ c.loop-place.invariant.1,
    )

pub returns : goal.returns
returns c =
    let all : c.loop-place.place ≡ length c.args.back.now.items = search rules in
    united_all c.args.concerned c.args.back.now.items c.args.beside.now.items c.loop-place.place c.loop-place.cells.items
    c.requires.halves.0 c.loop-place.back.items c.loop-place.beside.items c.loop-place.invariant.0 all c.requires.halves.1
