-- The entries so far have their marks.
use Rattle.std.proofs.Common.{◌≡◌, ℕ, Some, List}
use Rattle.std.specs.Prelude.{◌↔◌, slice_get}
use Rattle.rcv_tree.specs.declared.event.Event.{Event}
use Rattle.rcv_tree.specs.declared.entry.Entry.{Entry}
use Rattle.rcv_fates.specs.Fates.{IsUndone}
use Rattle.rcv_fates.proofs.Recording.{AreMarked}
use Rattle.rcv_tree.specs.Lists.{lists_in}
use Rattle.rcv_retold.specs.Stamps.{LacksStamp}
use Rattle.rcv_retold.proofs.kept.undone_of.Given as goal

abbrev pub invariant-loop-entry : goal.invariant-loop-entry
invariant-loop-entry l =
    (kept : List Event)
    → ((place : ℕ) (e : Entry) → slice_get l.entries place ≡ Some e → LacksStamp (lists_in l.stamps.items) e ↔ IsUndone kept e)
    → AreMarked kept l.entries l.entry-index l.undone.items
