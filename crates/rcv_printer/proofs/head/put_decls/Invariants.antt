use Rattle.std.proofs.Common.{◌≡◌, ℕ, List, ◌++◌, drop}
use Rattle.rcv_tree.specs.Lists.{declarations}
use Rattle.rcv_printer.specs.CanonicalText.{decl_lines}
use Rattle.rcv_printer.proofs.head.put_decls.Given as goal

abbrev pub invariant-loop-decl : goal.invariant-loop-decl
invariant-loop-decl l =
    (next : List ℕ) → l.text ++ decl_lines (drop l.decl-index l.decl-items) next ≡ l.fn.text ++ decl_lines (declarations l.decls) next
