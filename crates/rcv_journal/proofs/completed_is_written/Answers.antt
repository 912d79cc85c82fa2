use Rattle.rcv_journal.proofs.OneText.{completed_is_written}
use Rattle.rcv_journal.proofs.completed_is_written.Goals as goal

pub returns : goal.returns
returns c = completed_is_written
