use Rattle.std.proofs.Common.{sym, refl}
use Rattle.rcv_reader.proofs.Reading.{message_added}
use Rattle.rcv_reader.proofs.parser.messages.add_messages.Goals as goal

pub loop-receiver-preserved : goal.loop-receiver-preserved
loop-receiver-preserved c =
    message_added _ _ _ _ _ _ _ _ _ _ _ _ _ _ c.loop-receiver-test.true (sym c.receiver-item.is) c.loop-receiver.invariant
    c.in_ok-of.ensures c.in_ok-sorts.ensures refl c.in_ok-push.ensures.ok
