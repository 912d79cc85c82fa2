-- One message more.
use Rattle.std.proofs.Common.{[], ◌∷◌, ◌++◌, refl, ◌∙◌, ap}
use Rattle.rcv_guide.specs.Remembered.{IsDeclaredIn}
use Rattle.rcv_dialogue.specs.declared.line.Again.{Again}
use Rattle.rcv_guided.specs.Restoring.{flight_again}
use Rattle.rcv_guided.proofs.Apart.{item_holds}
use Rattle.rcv_guided.proofs.Listing.{mapped_more}
use Rattle.rcv_guided.proofs.Snapshots.{one_named}
use Rattle.rcv_guided.proofs.session.GuidedSession.add_flights_again.Goals as goal

pub flight_again-requires : goal.flight_again-requires
flight_again-requires c = item_holds (IsDeclaredIn c.args.self.now.guide) c.args.seeds.now c.args.seeds.now c.loop-sent.sent-index c.sent-item.result refl c.requires c.loop-sent-test.true c.sent-item.is

pub loop-sent-preserved : goal.loop-sent-preserved
loop-sent-preserved c =
    let s = c.args.self.now in
    let more = c.in_ok-push.ensures.items ∙ ap (λ (x : Again). c.loop-sent.lines.items ++ x ∷ []) c.flight_again.ensures.value in
    record {
      items = mapped_more (flight_again s) c.args.seeds.now c.loop-sent.sent-index c.sent-item.result c.args.lines.now.items c.loop-sent.lines.items c.push.new.self.items
          c.loop-sent-test.true c.sent-item.is c.loop-sent.invariant.items more;
      named = λ all. one_named s c.loop-sent.lines.items c.push.new.self.items c.flight_again.result c.in_ok-push.ensures.items c.flight_again.ensures.named (c.loop-sent.invariant.named all);
    }
