use Rattle.rcv_calm.proofs.Taken.{taken_without}
use Rattle.rcv_calm.proofs.texts_without_crash_lines_are_calm.Goals as goal

pub returns : goal.returns
returns c = taken_without
