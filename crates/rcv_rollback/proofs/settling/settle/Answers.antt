-- The place has what became of what stood there.
use Rattle.std.proofs.Common.{Some, refl, ◌∙◌, ap, arith}
use Rattle.std.proofs.lemmas.Option.{slice_get_read}
use Rattle.rcv_rollback.proofs.Ending.{settled_on}
use Rattle.rcv_rollback.proofs.settling.settle.Goals as goal

pub settle_at-requires-clause-going : goal.settle_at-requires-clause-going
settle_at-requires-clause-going c = λ x is.
    let count = c.requires.gone.count in
    let low = c.requires.role in
    let there = slice_get_read c.args.half.now.items _ c.args.role c.index_mut.result.now refl (omega (arith, count, low))
    c.index_mut.ensures.value in
    (c.requires.gone.left c.args.role x (there ∙ ap Some is) (omega arith)).0

pub settle_at-requires-clause-settled : goal.settle_at-requires-clause-settled
settle_at-requires-clause-settled c = λ x is.
    let count = c.requires.gone.count in
    let low = c.requires.role in
    let there = slice_get_read c.args.half.now.items _ c.args.role c.index_mut.result.now refl (omega (arith, count, low))
    c.index_mut.ensures.value in
    (c.requires.gone.left c.args.role x (there ∙ ap Some is) (omega arith)).1

pub returns-clause-gone : goal.returns-clause-gone
returns-clause-gone c =
    let count = c.requires.gone.count in
    let low = c.requires.role in
    let there = slice_get_read c.args.half.now.items _ c.args.role c.index_mut.result.now refl (omega (arith, count, low))
    c.index_mut.ensures.value in
    (settled_on c.args.book.now c.args.role c.args.half.now.items c.requires.gone _ _ there c.settle_at.ensures).0

pub returns-clause-moved : goal.returns-clause-moved
returns-clause-moved c =
    let count = c.requires.gone.count in
    let low = c.requires.role in
    let there = slice_get_read c.args.half.now.items _ c.args.role c.index_mut.result.now refl (omega (arith, count, low))
    c.index_mut.ensures.value in
    (settled_on c.args.book.now c.args.role c.args.half.now.items c.requires.gone _ _ there c.settle_at.ensures).1
