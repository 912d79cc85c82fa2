use Rattle.rcv_grammar.proofs.read_texts_are_filled.Goals as goal

pub returns : goal.returns
returns c = Rattle.rcv_grammar.proofs.Filling.read_texts_are_filled
