-- The last saved count of all its events, less what is forgotten.
use Rattle.rcv_guide.proofs.Lines.{last_count}
use Rattle.rcv_guide.proofs.line.last_saved.Goals as goal

pub returns : goal.returns
returns c = last_count c.args.own c.args.saves.now c.args.role c.args.count c.last.result c.requires.seeds c.last.ensures
