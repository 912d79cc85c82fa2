-- A log that is read is the role's.
use Rattle.std.proofs.Common.{◌≡◌, ℕ, ◌<◌, List, [], length, sym, ◌∙◌, ap, arith}
use Rattle.std.specs.Prelude.{slice_index_or}
use Rattle.std.specs.declared.alloc.Global.{Global}
use Rattle.std.specs.declared.vec.Vec.{Vec}
use Rattle.std.proofs.lemmas.List.{get_or-map, length-map}
use Rattle.rcv_tree.specs.declared.event.Event.{Event}
use Rattle.rcv_tree.specs.Lists.{lists_in}
use Rattle.rcv_depend.specs.Logs.{log_at}

pub log_read : (logs : List (Vec Event Global)) (r : ℕ) (log : Vec Event Global) → r < length (lists_in logs) → log ≡ slice_index_or logs r log → log_at (lists_in logs) r ≡ log.items
log_read logs r log lt is =
    let n = length-map logs (λ (l : Vec Event Global). l.items) in
    get_or-map (λ (l : Vec Event Global). l.items) logs r log [] (omega (arith, lt, n)) ∙ ap (λ (l : Vec Event Global). l.items) (sym is)
