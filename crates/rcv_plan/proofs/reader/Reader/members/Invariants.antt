use Rattle.std.proofs.Common.{◌≡◌, ◌≤◌, length}
use Rattle.rcv_plan.specs.Items.{next_members}
use Rattle.rcv_plan.proofs.reader.Reader.members.Given as goal

abbrev pub decreases-loop-self : goal.decreases-loop-self
decreases-loop-self l = length l.self.rest

abbrev pub invariant-loop-self : goal.invariant-loop-self
invariant-loop-self l =
    (next_members l.roles l.known l.members l.self.rest ≡ next_members l.fn.roles l.fn.known l.fn.members l.fn.self.rest) × (length l.self.rest ≤ length l.fn.self.rest)
