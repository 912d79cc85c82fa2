-- One save more.
use Rattle.std.proofs.Common.{get_or}
use Rattle.rcv_dialogue.specs.declared.line.Again.TheVariants as again
use Rattle.rcv_guided.proofs.Listing.{numbers_more}
use Rattle.rcv_guided.proofs.Snapshots.{one_named}
use Rattle.rcv_guided.proofs.session.GuidedSession.add_saves_of.Goals as goal

pub loop-count-preserved : goal.loop-count-preserved
loop-count-preserved c =
    let count = get_or c.told-count-items.result.now c.loop-count.count-index 0 in
    record {
      items = numbers_more (λ n. again.Save c.args.role n) c.told-count-items.result.now c.loop-count.count-index c.args.lines.now.items c.loop-count.lines.items c.push.new.self.items
          c.loop-count-test.true c.loop-count.invariant.items c.in_ok-push.ensures.items;
      named = λ all. one_named c.args.self.now c.loop-count.lines.items c.push.new.self.items (again.Save c.args.role count) c.in_ok-push.ensures.items c.requires (c.loop-count.invariant.named all);
    }
