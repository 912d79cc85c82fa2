-- What a handle owns.
use base.Fml.{Fml, ftrue}
use denote.RawPtr.{Ptr}
use Rattle.std.specs.Prelude.{Bool, true, false, Option, Some, None}
use Rattle.std_alloc.specs.Box.Ownership.{box_owns}
use Rattle.std_heap.specs.contracts.GlobalAllocator.TheImpl.{ghosts}
use Rattle.std_heap.specs.declared.Global.{Global}
use Rattle.rcv_c.specs.contracts.held.Held.{the_row}
use Rattle.rcv_c.specs.declared.held.Held.{Held}

-- Nothing, or a box with this value at the pointer.
abbrev pub owned : Global → Ptr → Option Held → Fml
owned alloc p None = ftrue
owned alloc p (Some x) = box_owns (ghosts.dealloc_token alloc) the_row p x

-- It is a box.
abbrev pub has_box : Option Held → Bool
has_box None = false
has_box (Some x) = true
