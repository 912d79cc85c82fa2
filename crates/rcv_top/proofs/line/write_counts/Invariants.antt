use Rattle.std.proofs.Common.{◌≡◌, ◌++◌, flat_map}
use Rattle.std.specs.List.{range_with_len}
use Rattle.std.specs.Prelude.{slice_index}
use Rattle.rcv_top.specs.Lining.{count_text}
use Rattle.rcv_top.proofs.line.write_counts.Given as goal

abbrev pub invariant-loop-role : goal.invariant-loop-role
invariant-loop-role l = l.text ≡ l.initial.text ++ flat_map (count_text l.names (slice_index l.counts)) (range_with_len 0 l.role)
