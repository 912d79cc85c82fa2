-- The entries so far have their marks.
use Rattle.std.specs.Prelude.{List}
use Rattle.rcv_tree.specs.declared.event.Event.{Event}
use Rattle.rcv_fates.specs.Record.{HasKept}
use Rattle.rcv_fates.proofs.Recording.{AreMarked}
use Rattle.rcv_scene.proofs.journal_picture.undone_of.Given as goal

abbrev pub invariant-loop-place : goal.invariant-loop-place
invariant-loop-place l = (kept : List Event) → HasKept l.record kept → AreMarked kept l.record.entries l.place l.undone.items
