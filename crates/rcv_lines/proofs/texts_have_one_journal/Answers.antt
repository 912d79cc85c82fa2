use Rattle.rcv_journal.specs.Recorded.{bare}
use Rattle.rcv_lines.proofs.OneJournal.{one_journal}
use Rattle.rcv_lines.proofs.Accepting.{says_one}
use Rattle.rcv_lines.proofs.texts_have_one_journal.Goals as goal

pub returns : goal.returns
returns c = λ protocol text a b accepted says_a says_b. one_journal (bare protocol) text a b (says_one protocol accepted) says_a says_b
