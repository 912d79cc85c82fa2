-- The stack of the role has one place more.
use Rattle.std.proofs.Common.{◌∙◌, ap, arith}
use Rattle.rcv_tree.specs.Lists.{lists_in}
use Rattle.rcv_story.specs.Stacks.{with_place}
use Rattle.rcv_story.proofs.Marking.{list_more}
use Rattle.rcv_story.proofs.stacks.put.Goals as goal

pub returns : goal.returns
returns c =
    let own = c.role.view_is in
    let low = c.requires in
    list_more c.args.stacks.now.items c.role.inside.0 c.push.new.self c.index_mut.result.now (omega (arith, own, low)) c.index_mut.ensures.value c.args.place c.in_ok-push.ensures.items
    ∙ ap (λ r. with_place (lists_in c.args.stacks.now.items) r c.args.place) c.role.view_is
