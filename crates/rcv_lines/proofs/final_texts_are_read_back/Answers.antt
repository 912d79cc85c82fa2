use Rattle.rcv_lines.proofs.FinalTexts.{final_texts}
use Rattle.rcv_lines.proofs.final_texts_are_read_back.Goals as goal

pub returns : goal.returns
returns c = final_texts
