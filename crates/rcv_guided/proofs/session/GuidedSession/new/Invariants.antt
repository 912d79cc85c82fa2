use Rattle.std.proofs.Common.{◌≡◌, replicate}
use Rattle.rcv_guided.proofs.session.GuidedSession.new.Given as goal

abbrev pub invariant-loop-role : goal.invariant-loop-role
invariant-loop-role l = l.incarnations.items ≡ replicate l._role 0
