-- One event more.
use Rattle.std.proofs.Common.{refl}
use Rattle.rcv_tree.specs.declared.event.Event.{Event}
use Rattle.rcv_guide.specs.Remembered.{IsDeclaredIn}
use Rattle.rcv_dialogue.specs.declared.line.Again.TheVariants as again
use Rattle.rcv_guided.proofs.Apart.{item_holds}
use Rattle.rcv_guided.proofs.Listing.{mapped_more}
use Rattle.rcv_guided.proofs.Snapshots.{one_named}
use Rattle.rcv_guided.proofs.session.GuidedSession.add_events.Goals as goal

pub loop-event-preserved : goal.loop-event-preserved
loop-event-preserved c =
    let is = item_holds (IsDeclaredIn c.args.self.now.guide) c.args.events.now c.args.events.now c.loop-event.event-index c.event-item.result refl c.requires c.loop-event-test.true c.event-item.is in
    record {
      items = mapped_more (λ (e : Event). again.Event e) c.args.events.now c.loop-event.event-index c.event-item.result c.args.lines.now.items c.loop-event.lines.items c.push.new.self.items
          c.loop-event-test.true c.event-item.is c.loop-event.invariant.items c.in_ok-push.ensures.items;
      named = λ all. one_named c.args.self.now c.loop-event.lines.items c.push.new.self.items (again.Event c.event-item.result) c.in_ok-push.ensures.items (is.role, (is.first, is.last)) (c.loop-event.invariant.named all);
    }
