use Rattle.std.proofs.Common.{Bool, true, List, Some, length, refl, subst, arith}
use Rattle.std.proofs.Math.ListN.{length-set}
use Rattle.rcv_do.specs.Rows.{IsLeast}
use Rattle.rcv_do.proofs.Ordering.{ordered_next, open_less}
use Rattle.rcv_do.proofs.reach.order_of.Goals as goal

pub loop-place-2-smaller : goal.loop-place-2-smaller
loop-place-2-smaller c =
    let least : IsLeast c.args.rows.now c.loop-place-2.listed.items (length c.args.rows.now) (Some c.in-Some.place) =
    subst (λ (l : List Bool). IsLeast c.args.rows.now l (length c.args.rows.now) (Some c.in-Some.place)) c.as_slice.ensures.value c.in-Some.ensures in
    let inside = least.0 in
    let long = c.loop-place-2.invariant.long in
    open_less c.loop-place-2.listed.items c.in-Some.place (omega (arith, inside, long)) least.1

pub loop-place-2-preserved : goal.loop-place-2-preserved
loop-place-2-preserved c =
    let least : IsLeast c.args.rows.now c.loop-place-2.listed.items (length c.args.rows.now) (Some c.in-Some.place) =
    subst (λ (l : List Bool). IsLeast c.args.rows.now l (length c.args.rows.now) (Some c.in-Some.place)) c.as_slice.ensures.value c.in-Some.ensures in
    ordered_next c.args.rows.now c.loop-place-2.order.items c.push-in-Some.new.self.items c.loop-place-2.listed.items _ c.in-Some.place c.requires.few.1 c.requires.acyclic least
    c.in_ok-push-2.ensures.items refl (length-set c.loop-place-2.listed.items c.in-Some.place true) c.loop-place-2.invariant
