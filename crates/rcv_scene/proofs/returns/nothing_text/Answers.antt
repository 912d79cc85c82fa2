-- Nothing is left.
use Rattle.rcv_scene.proofs.Returning.{said_none}
use Rattle.rcv_scene.proofs.returns.nothing_text.Goals as goal

pub returns : goal.returns
returns c = said_none c.in_ok-text.text.items c.in_ok-text.ensures
