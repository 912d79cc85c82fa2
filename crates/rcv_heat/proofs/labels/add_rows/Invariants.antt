use Rattle.std.proofs.Common.{◌≡◌, ◌++◌}
use Rattle.rcv_heat.specs.Words.{words_in, rows_words}
use Rattle.rcv_heat.proofs.labels.add_rows.Given as goal

abbrev pub invariant-loop-role : goal.invariant-loop-role
invariant-loop-role l = words_in l.shapes.items ≡ words_in l.fn.shapes.items ++ rows_words l.setup l.costs l.role
