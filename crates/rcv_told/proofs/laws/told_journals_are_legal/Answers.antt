-- Told journals are legal.
use Rattle.rcv_told.proofs.Hindsight.{told_journals_are_legal}
use Rattle.rcv_told.proofs.laws.told_journals_are_legal.Goals as goal

pub returns : goal.returns
returns c = told_journals_are_legal
