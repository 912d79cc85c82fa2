-- The list of the role has the Send behind its others.
use Rattle.std.proofs.Common.{◌∙◌, ap, arith}
use Rattle.rcv_tree.specs.Lists.{lists_in}
use Rattle.rcv_fates.specs.Sends.{with_sent}
use Rattle.rcv_fates.proofs.Searching.{list_more}
use Rattle.rcv_fates.proofs.sends.note.Goals as goal

pub returns : goal.returns
returns c =
    let own = c.role.view_is in
    let low = c.requires in
    list_more c.args.lists.now.items c.role.inside.0 c.push.new.self c.index_mut.result.now (omega (arith, own, low)) c.index_mut.ensures.value c.args.sent c.in_ok-push.ensures.items
    ∙ ap (λ r. with_sent (lists_in c.args.lists.now.items) r c.args.sent) c.role.view_is
