-- Losers restart by the table.
use Rattle.rcv_told.proofs.Failing.{losers_restart_by_the_table}
use Rattle.rcv_told.proofs.laws.losers_restart_by_the_table.Goals as goal

pub returns : goal.returns
returns c = losers_restart_by_the_table
