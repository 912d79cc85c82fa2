-- A crashed cell, and one with a full log, stay as they are; any other runs once.
use Rattle.std.proofs.Common.{rules, refl}
use Rattle.rcv_cells.specs.Running.{stays_crashed, stays_full, one_run}
use Rattle.rcv_cells.proofs.Running.{cell_stays}
use Rattle.rcv_cells.proofs.lanes.run_cell.Goals as goal

pub returns-then-crashed-clause-ran : goal.returns-then-crashed-clause-ran
returns-then-crashed-clause-ran g c =
    stays_crashed (search rules) (cell_stays c.args.cell.now c.requires.0 c.known.ensures.strangers)

pub returns-then-logged-ge-ROUND_STEPS-clause-ran : goal.returns-then-logged-ge-ROUND_STEPS-clause-ran
returns-then-logged-ge-ROUND_STEPS-clause-ran g c =
    stays_full (search rules) (cell_stays c.args.cell.now c.requires.0 c.known.ensures.strangers)

pub returns-clause-ran : goal.returns-clause-ran
returns-clause-ran g c = one_run (record {
  turns = _;
  watch = c.args.watch.now;
  behind = _;
  stop = _;
  of_fence = refl;
  ran = c.run-stop.ensures.ran;
  goes = c.run-stop.ensures.goes;
})
