use Rattle.std.proofs.Common.{ap}
use Rattle.rcv_reader.specs.Standing.{Standing}
use Rattle.rcv_reader.proofs.Blocks.{message_read}
use Rattle.rcv_reader.proofs.parser.Parser.message.Goals as goal

pub returns-clause-read : goal.returns-clause-read
returns-clause-read c =
    message_read _ _ _ _ _ _ _ c.in_ok-sorts.sorts c.in_ok-sender.sender _ _ _ _ c.in_ok-expect.ensures.read c.in_ok-sorts.ensures.read
    c.in_ok-sender.ensures.read c.in_ok-expect-2.ensures.read c.in_ok-receivers.ensures.read (ap (λ (x : Standing). x.count) c.self.view_is)
    (rw c.as_slice-list.ensures at c.in_ok-add_messages.ensures)
