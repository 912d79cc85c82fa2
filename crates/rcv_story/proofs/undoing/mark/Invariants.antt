-- The places so far are marked.
use Rattle.std.specs.Prelude.{take}
use Rattle.rcv_model.specs.Net.{IsIn}
use Rattle.rcv_story.specs.Stacks.{AreMarked}
use Rattle.rcv_story.proofs.undoing.mark.Given as goal

abbrev pub invariant-loop-place : goal.invariant-loop-place
invariant-loop-place l = AreMarked (λ p. IsIn p (take l.place-index l.places)) l.recover l.fn.undone.items l.undone.items
