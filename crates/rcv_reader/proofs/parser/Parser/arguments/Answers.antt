use Rattle.rcv_reader.proofs.Calling.{arguments_next}
use Rattle.rcv_reader.proofs.parser.Parser.arguments.Goals as goal

pub loop-earlier-preserved : goal.loop-earlier-preserved
loop-earlier-preserved c =
    arguments_next _ _ _ _ _ _ _ c.loop-earlier.invariant (c.takes.ensures.yes c.loop-earlier-test.true)
    c.in_ok-add_argument-2.ensures.goes c.in_ok-add_argument-2.ensures.read
