-- The event with the least stamp comes next.
use Rattle.std.proofs.Common.{◌+◌, List, sym, subst, arith}
use Rattle.std.specs.Prelude.{slice_index, slice_set}
use Rattle.rcv_tree.specs.declared.event.Event.{Event}
use Rattle.rcv_guide.specs.Remembered.{IsMerging}
use Rattle.rcv_guide.proofs.Merging.{merge_more, merge_less}
use Rattle.rcv_guide.proofs.remembered.merged.Goals as goal

pub loop-front-smaller : goal.loop-front-smaller
loop-front-smaller c =
    let less = merge_less c.args.ledger.now.logs c.requires c.args.starts.now c.loop-front.places c.loop-front.events.items c.loop-front.invariant c.in-Some.front c.in-Some.ensures c.event.result.now c.event.ensures in
    omega (arith, less)

pub loop-front-preserved : goal.loop-front-preserved
loop-front-preserved c =
    subst (λ (l : List Event). IsMerging c.args.ledger.now.logs c.args.starts.now (slice_set c.loop-front.places c.in-Some.front.role (slice_index c.loop-front.places c.in-Some.front.role + 1)) l) (sym c.in_ok-push.ensures.items)
    (merge_more c.args.ledger.now.logs c.requires c.args.starts.now c.loop-front.places c.loop-front.events.items c.loop-front.invariant c.in-Some.front c.in-Some.ensures c.event.result.now c.event.ensures)
