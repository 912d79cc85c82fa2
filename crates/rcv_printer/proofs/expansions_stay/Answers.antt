use Rattle.rcv_printer.proofs.expansions_stay.Goals as goal

pub returns : goal.returns
returns c = Rattle.rcv_printer.proofs.ReadBack.expansions_stay
