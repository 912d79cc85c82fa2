use Rattle.rcv_journal.proofs.OneText.{one_text}
use Rattle.rcv_journal.proofs.journals_have_one_text.Goals as goal

pub returns : goal.returns
returns c = one_text
