use Rattle.rcv_export.proofs.Names.{words_stay_whole}
use Rattle.rcv_export.proofs.words_stay_whole.Goals as goal

pub returns : goal.returns
returns c = words_stay_whole
