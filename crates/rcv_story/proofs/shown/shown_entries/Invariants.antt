-- The marks of the places so far.
use Rattle.std.specs.Prelude.{length}
use Rattle.rcv_story.proofs.Showing.{AreShownTo}
use Rattle.rcv_story.proofs.shown.shown_entries.Given as goal

abbrev pub invariant-loop-place : goal.invariant-loop-place
invariant-loop-place l = AreShownTo (length l.record.entries) l.story.recoveries.items l.place l.shown.items
