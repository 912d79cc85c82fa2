-- The role that is first is merged next.
use Rattle.std.proofs.Common.{rules, ◌≡◌, refl, length, [], ◌∷◌}
use Rattle.rcv_merge.specs.Merge.{lent_logs}
use Rattle.rcv_merge.proofs.Merging.{begun, merged_next, ended, less_left, is_first, are_done, first_are, eight_zeros, lists_few, lists_count}
use Rattle.rcv_merge.proofs.round.merge_round.Goals as goal

pub loop-front-init : goal.loop-front-init
loop-front-init c =
    let none : c.reserve.new.self.items ≡ [] = search rules in (
      begun (lent_logs c.args.logs.now) (0 ∷ 0 ∷ 0 ∷ 0 ∷ 0 ∷ 0 ∷ 0 ∷ 0 ∷ []) c.reserve.new.self.items 8 refl (lists_few c.args.logs.now c.requires.few) none,
      first_are (lent_logs c.args.logs.now) (0 ∷ 0 ∷ 0 ∷ 0 ∷ 0 ∷ 0 ∷ 0 ∷ 0 ∷ []) c.first_stamps-stamps.result (length c.args.logs.now) eight_zeros (lists_count c.args.logs.now) c.first_stamps-stamps.ensures,
    )

pub take-entry-requires-clause-left : goal.take-entry-requires-clause-left
take-entry-requires-clause-left c = (is_first (lent_logs c.args.logs.now) c.loop-front.heads c.loop-front.stamps c.loop-front.invariant.1 (lists_few c.args.logs.now c.requires.few) c.in-Some.front c.in-Some.ensures).left

pub loop-front-smaller : goal.loop-front-smaller
loop-front-smaller c = less_left _ _ c.loop-front.merged.items _ _ c.loop-front.invariant.0 (is_first (lent_logs c.args.logs.now) c.loop-front.heads c.loop-front.stamps c.loop-front.invariant.1 (lists_few c.args.logs.now c.requires.few) c.in-Some.front c.in-Some.ensures) c.take-entry.ensures.heads

pub loop-front-preserved : goal.loop-front-preserved
loop-front-preserved c = (
  merged_next _ c.loop-front.heads c.loop-front.merged.items c.in-Some.front.role c.take-entry.new.heads _ _ c.requires.rise c.loop-front.invariant.0 (is_first (lent_logs c.args.logs.now) c.loop-front.heads c.loop-front.stamps c.loop-front.invariant.1 (lists_few c.args.logs.now c.requires.few) c.in-Some.front c.in-Some.ensures) c.take-entry.ensures.heads c.take-entry.ensures.entry c.in_ok-push.ensures.items,
  c.take-entry.ensures.stamps,
)

pub returns : goal.returns
returns c = ended (lent_logs c.args.logs.now) c.loop-front.heads c.loop-front.merged.items c.loop-front.invariant.0 (are_done (lent_logs c.args.logs.now) c.loop-front.heads c.loop-front.stamps c.loop-front.invariant.1 c.loop-front.invariant.0.within (lists_few c.args.logs.now c.requires.few) c.in_default.ensures)
