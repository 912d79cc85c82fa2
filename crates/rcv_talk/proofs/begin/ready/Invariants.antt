-- The names so far.
use Rattle.std.proofs.Common.{◌≡◌, ◌++◌, codes, flat_map, take}
use Rattle.rcv_talk.specs.Openings.{spaced}
use Rattle.rcv_talk.proofs.begin.ready.Given as goal

abbrev pub invariant-loop-name : goal.invariant-loop-name
invariant-loop-name l = l.text ≡ codes "ready 1" ++ flat_map spaced (take l.name-index l.fn.session.guide.protocol.roles)
