-- The list of the role has the stamp behind its others.
use Rattle.std.proofs.Common.{◌∙◌, ap, arith}
use Rattle.rcv_tree.specs.Lists.{lists_in}
use Rattle.rcv_retold.specs.Stamps.{with_stamp}
use Rattle.rcv_retold.proofs.Listing.{list_more}
use Rattle.rcv_retold.proofs.stamps.note.Goals as goal

pub returns : goal.returns
returns c =
    let own = c.role.view_is in
    let low = c.requires in
    list_more c.args.stamps.now.items c.role.inside.0 c.push.new.self c.index_mut.result.now (omega (arith, own, low)) c.index_mut.ensures.value c.args.stamp c.in_ok-push.ensures.items
    ∙ ap (λ r. with_stamp (lists_in c.args.stamps.now.items) r c.args.stamp) c.role.view_is
