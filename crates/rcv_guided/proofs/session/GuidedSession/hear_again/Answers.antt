-- What is restored is answered.
use Rattle.rcv_guided.proofs.Restored.{said_of_again}
use Rattle.rcv_guided.proofs.session.GuidedSession.hear_again.Goals as goal

pub returns-clause-says : goal.returns-clause-says
returns-clause-says c =
    said_of_again c.args.self.now c.restore.new.self c.args.told.now c.restore.result c.args.text.now c.say_found.new.text c.say_found.result c.restore.ensures.comes c.restore.ensures.protocol c.say_found.ensures
