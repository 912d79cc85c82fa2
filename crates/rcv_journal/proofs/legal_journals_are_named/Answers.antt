use Rattle.rcv_journal.proofs.Named.{legal_is_named}
use Rattle.rcv_journal.proofs.legal_journals_are_named.Goals as goal

pub returns : goal.returns
returns c = legal_is_named
