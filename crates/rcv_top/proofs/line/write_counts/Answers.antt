-- One role more.
use Rattle.std.specs.Prelude.{slice_index}
use Rattle.rcv_top.specs.Lining.{count_text}
use Rattle.rcv_top.proofs.Counting.{goes_on}
use Rattle.rcv_top.proofs.line.write_counts.Goals as goal

pub loop-role-preserved : goal.loop-role-preserved
loop-role-preserved c =
    goes_on (count_text c.args.names.now (slice_index c.args.counts.now)) c.loop-role.role c.args.text.now c.loop-role.text c.write_count.new.text c.loop-role.invariant c.in_ok-write_count.ensures
