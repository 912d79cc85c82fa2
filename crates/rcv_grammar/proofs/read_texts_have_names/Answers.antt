use Rattle.rcv_grammar.proofs.read_texts_have_names.Goals as goal

pub returns : goal.returns
returns c = Rattle.rcv_grammar.proofs.Named.read_texts_have_names
