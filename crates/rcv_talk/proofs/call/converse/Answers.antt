-- The first line is written, and then the dialogue held.
use Rattle.std.proofs.Common.{◌∙◌, inr, refl}
use Rattle.rcv_talk.specs.Around.{around}
use Rattle.rcv_talk.proofs.Calls.{fails_at_line, held_waits, talks_behind}
use Rattle.rcv_talk.proofs.call.converse.Goals as goal

pub returns-in-Done : goal.returns-in-Done
returns-in-Done g c =
    talks_behind c.args.session.now c.args.pipe.now.held
    (around g.S.Source.rest g.S.Source.given g.S.Source.faults c.args.source.now c.dialogue.new.source g.K.Sink.written g.K.Sink.faults c.args.sink.now c.dialogue.new.sink)
    (g.K.Sink.written c.write.new.sink) (g.K.Sink.faults c.write.new.sink) _ _ _ (c.as_slice.ensures.value ∙ c.in-Ok.ensures) c.in-Done.is c.write.ensures.wrote
    (c.dialogue.ensures c.args.pipe.now.held (held_waits c.args.pipe.now c.requires))

pub returns-in-Ok : goal.returns-in-Ok
returns-in-Ok g c =
    fails_at_line c.args.session.now c.args.pipe.now.held
    (around g.S.Source.rest g.S.Source.given g.S.Source.faults c.args.source.now c.args.source.now g.K.Sink.written g.K.Sink.faults c.args.sink.now c.write.new.sink)
    _ c.write.result (c.as_slice.ensures.value ∙ c.in-Ok.ensures) c.in_default.not-Done (record { rest = refl; given = refl; calm = refl }) c.write.ensures.later c.write.ensures.wrote

pub returns : goal.returns
returns g c = inr (inr (record { is = refl; unread = record { rest = refl; given = refl; calm = refl }; silent = refl; calm = refl }))
