use Rattle.rcv_calm.proofs.Plans.{read_without}
use Rattle.rcv_calm.proofs.plans_without_crash_lines_are_read.Goals as goal

pub returns : goal.returns
returns c = read_without
