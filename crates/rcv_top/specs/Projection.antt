-- What `project` makes of a protocol.
use Rattle.std.specs.Prelude.{◌≡◌, ℕ, ◌⊎◌, List, Some, None}
use Rattle.rcv_tree.specs.declared.protocol.Protocol.{Protocol}
use Rattle.rcv_tree.specs.Names.{place_of}
use Rattle.rcv_input.specs.declared.refused.Refused.TheVariants.{NoRole}
use Rattle.rcv_input.specs.Line.{refusal_line}
use Rattle.rcv_project.specs.LocalText.{IsTextOf}
use Rattle.rcv_top.specs.declared.status.Status.{Status}
use Rattle.rcv_top.specs.declared.status.Status.TheVariants.{Completed, Refused}

-- The role with this name is written; or the protocol declares none, and the line for that is written.
abbrev pub IsProjection : Protocol → List ℕ → Status → List ℕ → Type 0
IsProjection protocol name status bytes =
    ((role : ℕ) × (place_of protocol.roles name ≡ Some role) × (status ≡ Completed) × IsTextOf (record { protocol = protocol }) role bytes)
    ⊎ ((place_of protocol.roles name ≡ None) × (status ≡ Refused) × (bytes ≡ refusal_line NoRole))
