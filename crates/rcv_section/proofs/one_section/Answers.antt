-- The lines are the same, and so are the fronts behind them.
use Rattle.rcv_section.proofs.Fronts as fronts
use Rattle.rcv_section.proofs.one_section.Goals as goal

pub returns : goal.returns
returns c = fronts.one_section
