use Rattle.rcv_listing.proofs.read.read_source.Goals as goal

pub returns-in-Err-clause-read : goal.returns-in-Err-clause-read
returns-in-Err-clause-read c = c.at_line.ensures c.args.input.now c.in-Err.ensures.read
