-- Word by word and option by option.
use Rattle.rcv_look.specs.Commands.{given}
use Rattle.rcv_look.proofs.OneCommand.{one_command}
use Rattle.rcv_look.proofs.words_are_one_command.Goals as goal

pub returns : goal.returns
returns c = λ words a b is_a is_b. one_command (given words) a b is_a.1 is_b.1
