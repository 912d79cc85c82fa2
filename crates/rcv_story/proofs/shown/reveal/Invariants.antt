-- The places so far are shown, and there are none beyond the end.
use Rattle.std.specs.Prelude.{◌≡◌, ◌≤◌, ◌⊎◌}
use Rattle.rcv_story.specs.Marks.{AddsMarks, IsFromTo}
use Rattle.rcv_story.proofs.shown.reveal.Given as goal

abbrev pub invariant-loop-place : goal.invariant-loop-place
invariant-loop-place l = AddsMarks (IsFromTo l.from l.place) l.fn.shown l.shown × ((l.place ≤ l.place-end) ⊎ (l.place ≡ l.from))
