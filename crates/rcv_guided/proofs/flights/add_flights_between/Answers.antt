-- One message more.
use Rattle.std.proofs.Common.{[], ◌∷◌, ◌++◌}
use Rattle.std.proofs.lemmas.List.Elements.{All-same, All-push}
use Rattle.rcv_tree.specs.declared.event.Message.{Message}
use Rattle.rcv_guide.specs.Guide.{IsOfText}
use Rattle.rcv_guided.specs.Flights.{IsFlight}
use Rattle.rcv_guided.proofs.Apart.{item_holds}
use Rattle.rcv_guided.proofs.Listing.{mapped_more}
use Rattle.rcv_guided.proofs.flights.add_flights_between.Goals as goal

pub loop-message-preserved : goal.loop-message-preserved
loop-message-preserved c = record {
  items = mapped_more (λ (m : Message). record { from = c.args.from; to = c.args.to; message = m }) c.as_slice-message-items.result.now c.loop-message.message-index c.message-item.result
      c.args.flights.now.items c.loop-message.flights.items c.push.new.self.items c.loop-message-test.true c.message-item.is c.loop-message.invariant.items c.in_ok-push.ensures.items;
  declared = λ all.
      All-same (IsFlight c.args.guide.now) c.push.new.self.items (c.loop-message.flights.items ++ record { from = c.args.from; to = c.args.to; message = c.message-item.result } ∷ []) c.in_ok-push.ensures.items
      (All-push (IsFlight c.args.guide.now) c.loop-message.flights.items (record { from = c.args.from; to = c.args.to; message = c.message-item.result }) (c.loop-message.invariant.declared all) (
        c.requires.from,
        c.requires.to,
        item_holds (IsOfText c.args.guide.now) c.in_ok-messages.messages.items c.as_slice-message-items.result.now c.loop-message.message-index c.message-item.result
            c.as_slice-message-items.ensures.value c.in_ok-messages.ensures.declared c.loop-message-test.true c.message-item.is,
      ));
}
