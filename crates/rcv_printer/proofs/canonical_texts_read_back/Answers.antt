use Rattle.rcv_printer.proofs.canonical_texts_read_back.Goals as goal

pub returns : goal.returns
returns c = Rattle.rcv_printer.proofs.ReadBack.reads_back
