use Rattle.std.proofs.Common.{◌≡◌, ◌++◌, flat_map}
use Rattle.std.specs.List.{range_with_len}
use Rattle.rcv_losses.specs.LossText.{concerned_text}
use Rattle.rcv_losses.proofs.lines.write_concerned.Given as goal

abbrev pub invariant-loop-role : goal.invariant-loop-role
invariant-loop-role l = l.text ≡ l.fn.text ++ flat_map (concerned_text l.setup l.concerned.0) (range_with_len 0 l.role)
