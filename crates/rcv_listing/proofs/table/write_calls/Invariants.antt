use Rattle.std.proofs.Common.{◌≡◌, ◌++◌, take}
use Rattle.rcv_listing.specs.Lines.{calls_text}
use Rattle.rcv_listing.proofs.table.write_calls.Given as goal

abbrev pub invariant-loop-line : goal.invariant-loop-line
invariant-loop-line l = l.text ≡ l.initial.text ++ calls_text (take l.line-index l.lines)
