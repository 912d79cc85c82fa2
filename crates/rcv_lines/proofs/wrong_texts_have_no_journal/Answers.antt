use Rattle.rcv_lines.proofs.FirstWrong.{spells_none}
use Rattle.rcv_lines.proofs.wrong_texts_have_no_journal.Goals as goal

pub returns : goal.returns
returns c = spells_none
