use Rattle.std.proofs.Common.{◌≡◌, ℕ, List, ◌++◌, drop, codes}
use Rattle.rcv_printer.specs.CanonicalText.{listed, comma_list}
use Rattle.rcv_grammar.specs.Canonical.{names_at}
use Rattle.rcv_printer.proofs.names.put_roles.Given as goal

abbrev pub invariant-loop-role : goal.invariant-loop-role
invariant-loop-role l =
    (next : List ℕ) → l.text ++ listed l.word (codes ", ") (names_at l.roles (drop l.role-index l.role-items)) next ≡ l.fn.text ++ comma_list (names_at l.roles l.places) next
