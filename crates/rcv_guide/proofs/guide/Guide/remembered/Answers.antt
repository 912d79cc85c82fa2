-- What is behind the seeds, merged.
use Rattle.std.proofs.Common.{List, replicate, subst, arith}
use Rattle.std.specs.declared.alloc.Global.{Global}
use Rattle.std.specs.declared.vec.Vec.{Vec}
use Rattle.rcv_tree.specs.declared.event.Event.{Event}
use Rattle.rcv_points.proofs.Firsts.{if_ok_map}
use Rattle.rcv_told.proofs.Telling.{none_at}
use Rattle.rcv_guide.specs.declared.numbers.Numbers.{Numbers}
use Rattle.rcv_guide.specs.Guide.{GuideView}
use Rattle.rcv_guide.specs.Renewal.{AreEnds}
use Rattle.rcv_guide.specs.Remembered.{AreRemembered}
use Rattle.rcv_guide.proofs.Merging.{in_order, remembers}
use Rattle.rcv_guide.proofs.guide.Guide.remembered.Goals as goal

pub merged-requires : goal.merged-requires
merged-requires c = in_order c.self.invariant

pub returns : goal.returns
returns c =
    let ends = subst (λ (n : List Numbers). AreEnds n (replicate 8 0) c.ends-starts.result) c.as_slice.ensures.value c.ends-starts.ensures in
    if_ok_map c.merged.result
    (λ (events : Vec Event Global) is.
    subst (λ (g : GuideView). AreRemembered g events.items) c.self.view_is
    (remembers c.self.invariant c.ends-starts.result events.items (λ r lt. let a = ends.each r lt in let b = none_at 8 r in omega (arith, a, b)) is))
    c.merged.ensures
