use Rattle.rcv_grammar.proofs.read_modules_are_short.Goals as goal

pub returns : goal.returns
returns c = Rattle.rcv_grammar.proofs.Short.read_modules_are_short
