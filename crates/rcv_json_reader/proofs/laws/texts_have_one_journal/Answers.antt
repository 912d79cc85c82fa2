-- Each value says one journal.
use Rattle.rcv_json_reader.proofs.OneJournal.{texts_have_one_journal}
use Rattle.rcv_json_reader.proofs.laws.texts_have_one_journal.Goals as goal

pub returns : goal.returns
returns c = texts_have_one_journal
