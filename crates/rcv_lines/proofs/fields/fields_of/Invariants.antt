-- The fields so far, and what is left of the text behind the last of them.
use Rattle.std.proofs.Common.{◌≡◌, ◌-◌, ◌≤◌, ◌++◌, take, drop}
use Rattle.rcv_lines.specs.Cutting.{fields_from, fields_of, texts}
use Rattle.rcv_lines.proofs.fields.fields_of.Given as goal

abbrev pub invariant-loop-index : goal.invariant-loop-index
invariant-loop-index l =
    (l.start ≤ l.index) × (texts l.fields.items ++ fields_from (take (l.index - l.start) (drop l.start l.fn.text)) (drop l.index l.fn.text) ≡ fields_of l.fn.text)
