use Rattle.rcv_reader.proofs.Reading.{roles_next}
use Rattle.rcv_reader.proofs.parser.Parser.role_names.Goals as goal

pub loop-self-preserved : goal.loop-self-preserved
loop-self-preserved c =
    roles_next _ _ _ _ _ c.loop-self.invariant c.in_ok-expect.ensures.read c.in_ok-add_role.ensures.goes c.in_ok-add_role.ensures.read
    (c.takes.ensures.yes c.if-not-takes.false)
