use Rattle.std.proofs.Common.{◌≡◌, drop, map}
use Rattle.rcv_script.specs.Attempts.{lines_read}
use Rattle.rcv_script.specs.Lines.{line_of}
use Rattle.rcv_script.proofs.scripts.Script.reads_attempt.Given as goal

abbrev pub invariant-loop-line : goal.invariant-loop-line
invariant-loop-line l = lines_read (map line_of (drop l.line-index l.line-items)) ≡ lines_read (map line_of l.line-items)
