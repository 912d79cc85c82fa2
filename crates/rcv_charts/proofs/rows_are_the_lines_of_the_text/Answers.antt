-- The titles are the lines.
use Rattle.rcv_charts.proofs.Lines.{rows_are_lines}
use Rattle.rcv_charts.proofs.rows_are_the_lines_of_the_text.Goals as goal

pub returns : goal.returns
returns c = rows_are_lines
