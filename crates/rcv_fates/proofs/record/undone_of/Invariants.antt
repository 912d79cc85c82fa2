-- The entries so far have their marks.
use Rattle.rcv_core.specs.Book.{state_of}
use Rattle.rcv_fates.proofs.Recording.{AreMarked}
use Rattle.rcv_fates.proofs.record.undone_of.Given as goal

abbrev pub invariant-loop-place : goal.invariant-loop-place
invariant-loop-place l = AreMarked (state_of l.book).kept l.book.entries l.place l.undone.items
