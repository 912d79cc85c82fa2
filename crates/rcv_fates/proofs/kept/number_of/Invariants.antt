use Rattle.std.proofs.Common.{◌-◌}
use Rattle.rcv_model.specs.Journal.{events_of}
use Rattle.rcv_core.specs.Book.{state_of}
use Rattle.rcv_fates.proofs.Rising.{Narrowed}
use Rattle.rcv_fates.proofs.kept.number_of.Given as goal

abbrev pub invariant-loop-low : goal.invariant-loop-low
invariant-loop-low l = Narrowed (events_of l.role (state_of l.book).kept) l.stamp l.low l.high

abbrev pub decreases-loop-low : goal.decreases-loop-low
decreases-loop-low l = l.high - l.low
