-- The roles so far.
use Rattle.std.proofs.Common.{◌≡◌, ◌++◌, flat_map}
use Rattle.std.specs.List.{range_with_len}
use Rattle.rcv_journal.specs.JournalText.{kept_text}
use Rattle.rcv_scene.proofs.line.write_concerned.Given as goal

abbrev pub invariant-loop-role : goal.invariant-loop-role
invariant-loop-role l = l.text ≡ l.fn.text ++ flat_map (kept_text l.setup l.concerned.0 l.kept) (range_with_len 0 l.role)
