-- A role's numbers before the first entry.
use Rattle.std.specs.Prelude.{false}
use Rattle.rcv_tree.specs.declared.numbers.Numbers.{Numbers}

abbrev pub fresh : Numbers
fresh = record { raw = 0; crashes = 0; crashed = false; attempt = 0; clock = 0 }
