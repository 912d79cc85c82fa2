-- Each memory has its closing lines.
use Rattle.rcv_retold.proofs.Beginning.{has_text}
use Rattle.rcv_retold.proofs.told_entries_have_texts.Goals as goal

pub returns : goal.returns
returns c = λ setup entries accepted formed retold. has_text setup accepted entries formed retold
