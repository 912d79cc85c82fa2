use Rattle.rcv_printer.proofs.read_protocols_are_printable.Goals as goal

pub returns : goal.returns
returns c = Rattle.rcv_grammar.proofs.Printables.read_is_printable
