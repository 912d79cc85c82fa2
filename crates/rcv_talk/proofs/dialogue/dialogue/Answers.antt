-- One round behind another.
use Rattle.rcv_talk.proofs.Rounds.{starts, stops, then_ends, then_on}
use Rattle.rcv_talk.proofs.dialogue.dialogue.Goals as goal

pub loop-init : goal.loop-init
loop-init g c behind waits =
    starts c.args.session.now behind (g.S.Source.rest c.args.source.now) (g.S.Source.given c.args.source.now) (g.S.Source.faults c.args.source.now)
    (g.K.Sink.written c.args.sink.now) (g.K.Sink.faults c.args.sink.now) c.args.pipe.now waits

pub returns-in-Err : goal.returns-in-Err
returns-in-Err g c behind waits =
    let t = c.loop.invariant behind waits in
    then_ends _ _ behind _ _ _ _ _ _ _ _ _ _ _ _ _ _ _ c.loop.pipe t c.in-Err.status (c.in-Err.ensures.says t.rest t.waits)

pub loop-preserved : goal.loop-preserved
loop-preserved g c behind waits =
    let t = c.loop.invariant behind waits in
    then_on _ _ behind _ _ _ _ _ _ _ _ _ _ _ _ _ _ _ c.loop.pipe t c.round.new.session c.round.new.pipe (c.in_default.ensures.says t.rest t.waits)

pub returns : goal.returns
returns g c behind waits = stops _ _ behind _ _ (c.loop.invariant behind waits)
