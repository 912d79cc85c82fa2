-- The roles of the fields so far.
use Rattle.std.proofs.Common.{◌≡◌, map, take}
use Rattle.rcv_tree.specs.Names.{name_at}
use Rattle.rcv_lines.specs.Cutting.{texts}
use Rattle.rcv_lines.specs.Named.{HaveNames}
use Rattle.rcv_lines.proofs.names.roles.Given as goal

abbrev pub invariant-loop-field : goal.invariant-loop-field
invariant-loop-field l =
    HaveNames l.fn.names l.roles.items × (map (name_at l.fn.names) l.roles.items ≡ take l.field-index (texts l.fn.fields))
