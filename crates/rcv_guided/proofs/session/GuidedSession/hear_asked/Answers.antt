-- The question is answered by the session, or by the shorter one.
use Rattle.rcv_guided.proofs.Asked.{said_of_asking, said_of_asking_behind}
use Rattle.rcv_guided.proofs.session.GuidedSession.hear_asked.Goals as goal

pub returns-then-matches-clause-says : goal.returns-then-matches-clause-says
returns-then-matches-clause-says c =
    said_of_asking_behind c.args.self.now c.shorten.new.self c.args.asked c.args.text.now c.say_asked.new.text c.say_asked.result
    c.shorten.ensures.judging c.shorten.ensures.history c.shorten.ensures.protocol c.say_asked.ensures

pub returns-clause-says : goal.returns-clause-says
returns-clause-says c =
    said_of_asking c.args.self.now c.args.asked c.args.text.now c.say_asked-2.new.text c.say_asked-2.result c.say_asked-2.ensures
