-- Each seed is of a declared role, at a point of the text.
use Rattle.std.proofs.Common.{List, length, take, flat_map, sym, ◌∙◌, ap, subst}
use Rattle.std.specs.Prelude.{All}
use Rattle.std.specs.List.{range_with_len}
use Rattle.std.specs.declared.alloc.Global.{Global}
use Rattle.std.specs.declared.vec.Vec.{Vec}
use Rattle.rcv_tree.specs.declared.event.Event.{Event}
use Rattle.rcv_points.proofs.Firsts.{if_ok_map}
use Rattle.rcv_ledger.specs.Logs.{log_at}
use Rattle.rcv_guide.specs.declared.numbers.Numbers.{Numbers}
use Rattle.rcv_guide.specs.Numbers.{numbers_at}
use Rattle.rcv_guide.specs.Guide.{GuideView, guide_of}
use Rattle.rcv_guide.specs.Remembered.{IsDeclaredIn}
use Rattle.rcv_guide.proofs.Merging.{seeds_are, seeds_declared}
use Rattle.rcv_guide.proofs.guide.Guide.seeds.Goals as goal

pub returns-clause-declared : goal.returns-clause-declared
returns-clause-declared c =
    if_ok_map c.seeds_in.result
    (λ (seeds : Vec Event Global) is.
    subst (λ (g : GuideView). All (IsDeclaredIn g) seeds.items) c.self.view_is
    (subst (λ l. All (IsDeclaredIn (guide_of c.self.inside.accepted.protocol c.self.inside.plan c.self.inside.ledger c.self.inside.numbers.items c.self.inside.room c.self.inside.told)) l)
    (sym (is ∙ ap (λ (n : List Numbers). flat_map (λ r. take (numbers_at n r).seeds (log_at c.self.inside.ledger.logs r)) (range_with_len 0 (length n))) c.as_slice.ensures.value ∙ sym (seeds_are c.self.invariant)))
    (seeds_declared c.self.invariant)))
    c.seeds_in.ensures
