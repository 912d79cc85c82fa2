use Rattle.rcv_reader.proofs.Calling.{call_read}
use Rattle.rcv_reader.proofs.parser.Parser.call.Goals as goal

pub returns-clause-read : goal.returns-clause-read
returns-clause-read c =
    call_read _ _ _ _ _ _ c.in_ok-roles.roles _ _ c.in_ok-name.ensures.read c.in_ok-expect.ensures.read c.in_ok-roles.ensures.read
    c.in_ok-expect-2.ensures.read (rw c.in_ok-protocol.ensures at c.in_ok-push.ensures.ok)
