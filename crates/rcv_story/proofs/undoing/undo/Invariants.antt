-- What is taken from the roles so far is marked.
use Rattle.rcv_tree.specs.Lists.{lists_in}
use Rattle.rcv_story.specs.Stacks.{AreMarked, IsTaken}
use Rattle.rcv_story.proofs.undoing.undo.Given as goal

abbrev pub invariant-loop-role : goal.invariant-loop-role
invariant-loop-role l = AreMarked (IsTaken l.concerned l.kept (lists_in l.stacks.items) l.role) l.recover l.fn.undone.items l.undone.items
