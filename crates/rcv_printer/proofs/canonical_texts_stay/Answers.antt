use Rattle.rcv_printer.proofs.canonical_texts_stay.Goals as goal

pub returns : goal.returns
returns c = Rattle.rcv_printer.proofs.ReadBack.stays
