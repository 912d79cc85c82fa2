-- The bytes of a name, which has them in itself or in a block.
use Rattle.std.specs.Prelude.{ℕ, ◌≤◌, List, take}
use Rattle.rcv_tree.specs.declared.name.Bytes.{Bytes}
use Rattle.rcv_tree.specs.declared.name.Bytes.TheVariants.{Short, Long}

abbrev pub bytes_in : Bytes → List ℕ
bytes_in (Short inline) = take inline.len inline.bytes
bytes_in (Long block) = block.value.items

-- no more of them are counted than are in it
abbrev pub IsWithin : Bytes → Type 0
IsWithin (Short inline) = inline.len ≤ 14
IsWithin (Long block) = Unit {0}
