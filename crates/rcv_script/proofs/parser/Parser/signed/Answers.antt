use Rattle.rcv_script.proofs.Stops.{no_signed}
use Rattle.rcv_script.proofs.parser.Parser.signed.Goals as goal

pub returns-in_default-clause-goes : goal.returns-in_default-clause-goes
returns-in_default-clause-goes c =
    no_signed c.takes-is_below.result _ _ c.takes-is_below.ensures.yes c.takes-is_below.ensures.no c.in_default.ensures.none
