-- What was read, if anything was.
use Rattle.rcv_talk.proofs.Rounds.{fails_to_read, has_read, is_over}
use Rattle.rcv_talk.proofs.dialogue.wait.Goals as goal

pub returns-in-Ok-eq0-clause-says : goal.returns-in-Ok-eq0-clause-says
returns-in-Ok-eq0-clause-says g c bytes waits lack =
    let e = c.in-Ok-eq0.ensures in
    is_over c.args.pipe.now c.fill.new.self bytes _ _ _ _ _ _ c.in-Ok-eq0.field-0 c.end_of.result waits lack e.reads c.in-Ok-eq0.field-0-test e.long e.fine (c.end_of.ensures bytes)

pub returns-in-Ok-clause-says : goal.returns-in-Ok-clause-says
returns-in-Ok-clause-says g c bytes waits lack =
    let e = c.in-Ok.ensures in
    has_read c.args.pipe.now c.fill.new.self bytes _ _ _ _ _ _ c.in-Ok.field-0 waits lack e.reads e.long e.fine

pub returns-in-Err-clause-says : goal.returns-in-Err-clause-says
returns-in-Err-clause-says g c bytes waits lack =
    let e = c.in-Err.ensures in
    fails_to_read c.args.pipe.now bytes _ _ _ _ _ _ waits lack e.rest e.given e.cause.failed
