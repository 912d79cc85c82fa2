use Rattle.std.proofs.Common.{◌≡◌, ℕ, List, ◌++◌, drop}
use Rattle.rcv_printer.specs.CanonicalText.{listed}
use Rattle.rcv_printer.proofs.names.put_list.Given as goal

abbrev pub invariant-loop-name : goal.invariant-loop-name
invariant-loop-name l =
    (next : List ℕ) → l.text ++ listed l.word l.between (drop l.name-index l.name-items) next ≡ l.fn.text ++ listed l.before l.between l.names next
