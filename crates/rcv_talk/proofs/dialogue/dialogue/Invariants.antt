-- What was told so far goes on.
use Rattle.std.proofs.Common.{ℕ, List}
use Rattle.rcv_pipe.specs.Pipe.{Waits}
use Rattle.rcv_talk.specs.Around.{around}
use Rattle.rcv_talk.specs.Talking.{TalksOn}
use Rattle.rcv_talk.proofs.dialogue.dialogue.Given as goal

abbrev pub invariant-loop : goal.invariant-loop
invariant-loop g l =
    (behind : List ℕ) → Waits l.initial.pipe behind
    → TalksOn l.initial.session behind (around g.S.Source.rest g.S.Source.given g.S.Source.faults l.initial.source l.source g.K.Sink.written g.K.Sink.faults l.initial.sink l.sink) l.session l.pipe
