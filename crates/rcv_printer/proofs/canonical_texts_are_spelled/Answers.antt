use Rattle.rcv_printer.proofs.canonical_texts_are_spelled.Goals as goal

pub returns : goal.returns
returns c = Rattle.rcv_printer.proofs.ReadBack.are_spelled
