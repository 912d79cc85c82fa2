-- The names of a list, which several may have.
use Rattle.std.specs.Prelude.{ℕ, List, []}
use Rattle.std.specs.Arc.{arc_value}
use Rattle.rcv_tree.specs.declared.name.Listed.{Listed}
use Rattle.rcv_tree.specs.declared.name.Listed.TheVariants.{Nothing, Shared}

abbrev pub names_in : Listed → List (List ℕ)
names_in Nothing = []
names_in (Shared list) = (arc_value list).items
