-- Told events keep runs.
use Rattle.rcv_told.proofs.Telling.{told_keeps_runs}
use Rattle.rcv_told.proofs.laws.told_events_keep_runs.Goals as goal

pub returns : goal.returns
returns c = told_keeps_runs
