-- By their fields.
use Rattle.rcv_lines.proofs.OneThing.{one_thing}
use Rattle.rcv_lines.proofs.lines_say_one_thing.Goals as goal

pub returns : goal.returns
returns c = one_thing
