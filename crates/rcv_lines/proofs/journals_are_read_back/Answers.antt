use Rattle.rcv_journal.specs.Recorded.{bare}
use Rattle.rcv_lines.proofs.OneJournal.{lines_spell}
use Rattle.rcv_lines.proofs.Accepting.{all_end}
use Rattle.rcv_lines.proofs.journals_are_read_back.Goals as goal

pub returns : goal.returns
returns c = λ protocol j accepted is. lines_spell (bare protocol) j (all_end protocol accepted) is
