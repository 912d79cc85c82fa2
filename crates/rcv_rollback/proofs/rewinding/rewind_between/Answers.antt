-- What is told of the two places.
use Rattle.std.proofs.Common.{rules, ◌≡◌, Option, List, length, sym, ◌∙◌, ap, subst}
use Rattle.std.specs.Prelude.{slice_index_or}
use Rattle.rcv_role.specs.Cell.{CellView}
use Rattle.rcv_rollback.specs.Going.{CanRewindAt, HaveRewoundAt, HasRewoundChannel}
use Rattle.rcv_rollback.proofs.Standing.{written_back, can_at, between}
use Rattle.rcv_rollback.proofs.rewinding.rewind_between.Goals as goal

pub two_together-requires-clause-can : goal.two_together-requires-clause-can
two_together-requires-clause-can c =
    let same : c.as_mut_slice.result.now ≡ c.args.half.now.items = search rules in
    subst (λ (l : List (Option CellView)). (d : Option CellView)
    → CanRewindAt (slice_index_or l c.args.to d) (slice_index_or l c.args.from d) c.args.from c.args.keep c.args.drop_from)
    (sym same)
    (can_at c.args.half.now.items c.args.from c.args.to c.args.keep c.args.drop_from c.requires.from c.requires.to
    c.requires.pair c.requires.alone)

pub returns : goal.returns
returns c =
    let same : c.as_mut_slice.result.now ≡ c.args.half.now.items = search rules in
    let count : length c.two_together.new.items ≡ length c.args.half.now.items = c.two_together.ensures.count ∙ ap length same in
    subst (λ l. HasRewoundChannel c.args.half.now.items l c.args.from c.args.to c.args.keep c.args.drop_from)
    (sym (written_back c.args.half.now.items c.two_together.new.items _ c.args.half.now.ok.0 count))
    (between c.args.half.now.items c.two_together.new.items c.args.from c.args.to c.args.keep c.args.drop_from c.requires.from
    c.requires.to count
    (λ k d n m. c.two_together.ensures.others k d n m ∙ ap (λ l. slice_index_or l k d) same)
    (λ d. subst (λ (l : List (Option CellView)). HaveRewoundAt (slice_index_or l c.args.to d)
    (slice_index_or c.two_together.new.items c.args.to d) (slice_index_or l c.args.from d)
    (slice_index_or c.two_together.new.items c.args.from d) c.args.from c.args.keep c.args.drop_from)
    same (c.two_together.ensures.done d)))
