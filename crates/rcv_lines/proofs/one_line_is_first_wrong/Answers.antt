use Rattle.rcv_lines.proofs.FirstWrong.{one_first_wrong}
use Rattle.rcv_lines.proofs.one_line_is_first_wrong.Goals as goal

pub returns : goal.returns
returns c = one_first_wrong
