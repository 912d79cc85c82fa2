-- Nothing is named.
use Rattle.rcv_scene.proofs.Returning.{none_named}
use Rattle.rcv_scene.proofs.returns.next_word.Goals as goal

pub returns : goal.returns
returns c = none_named c.in_ok-text.text.items c.in_ok-text.ensures
