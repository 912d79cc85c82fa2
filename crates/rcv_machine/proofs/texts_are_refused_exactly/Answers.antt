use Rattle.rcv_machine.proofs.texts_are_refused_exactly.Goals as goal

pub returns : goal.returns
returns c = Rattle.rcv_machine.proofs.Exactly.texts_are_refused_exactly
