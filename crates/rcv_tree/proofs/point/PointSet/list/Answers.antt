-- Each turn lists the next point, or finds that a word has no more.
use Rattle.std.proofs.Common.{◌++◌, ◌∙◌, ◌<◌, ◌/◌, ◌^◌, get_or, refl, ap, arith}
use Rattle.rcv_tree.specs.Bits.{members_from}
use Rattle.rcv_tree.proofs.Meets.{members_are}
use Rattle.rcv_tree.proofs.Listing.{left_of, word_done, next_within, next_listed}
use Rattle.rcv_tree.proofs.point.PointSet.list.Goals as goal

pub loop-before-init : goal.loop-before-init
loop-before-init c = (omega arith, ap (λ l. l ++ members_from c.args.self.0 256 1) c.new-points.ensures.items ∙ members_are c.args.self.0 256 refl)

pub loop-before-preserved-then-left-eq0 : goal.loop-before-preserved-then-left-eq0
loop-before-preserved-then-left-eq0 c =
    (omega (arith, c.loop-before-test.true), word_done c.args.self.0 c.loop-before.points.items c.loop-before.before c.loop-before-test.true (omega (arith, c.if-left-eq0.true)) c.loop-before.invariant.1)

pub loop-before-preserved : goal.loop-before-preserved
loop-before-preserved c =
    let fits : get_or c.args.self.0 (c.loop-before.before / 64) 0 < 2 ^ 64 = omega arith in
    let some : 0 < left_of c.args.self.0 c.loop-before.before = omega (arith, c.if-left-eq0.false) in
    let within = next_within c.args.self.0 c.loop-before.before fits some in
    (omega (arith, within, c.loop-before-test.true), next_listed c.args.self.0 c.loop-before.points.items c.push.new.self.items c.loop-before.before c.loop-before-test.true fits some c.in_ok-push.ensures.items c.loop-before.invariant.1)
