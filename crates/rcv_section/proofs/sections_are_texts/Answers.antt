-- Text by text.
use Rattle.rcv_section.proofs.Texts as texts
use Rattle.rcv_section.proofs.sections_are_texts.Goals as goal

pub returns : goal.returns
returns c = texts.sections_are_texts
