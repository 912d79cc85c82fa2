-- The entry's event is of a declared role.
use Rattle.std.proofs.Common.{refl, sym, subst}
use Rattle.rcv_tree.specs.declared.entry.Entry.{Entry}
use Rattle.rcv_retold.specs.Stamps.{IsEventOf}
use Rattle.rcv_retold.proofs.kept.is_undone.Goals as goal

pub is_lost-requires-clause-declared : goal.is_lost-requires-clause-declared
is_lost-requires-clause-declared c = c.requires.declared c.in-Send.event (subst (λ (x : Entry). IsEventOf x c.in-Send.event) (sym c.in-Send.is) refl)

pub is_lost-requires-in-Recv-clause-declared : goal.is_lost-requires-in-Recv-clause-declared
is_lost-requires-in-Recv-clause-declared c = c.requires.declared c.in-Recv.event (subst (λ (x : Entry). IsEventOf x c.in-Recv.event) (sym c.in-Recv.is) refl)
