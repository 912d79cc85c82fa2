-- The crash is judged where it is told.
use Rattle.std.proofs.Common.{refl, inl}
use Rattle.rcv_dialogue.specs.declared.line.Line.TheVariants as line
use Rattle.rcv_guided.proofs.Going.{on_same}
use Rattle.rcv_guided.proofs.Saying.{said_of_line}
use Rattle.rcv_guided.proofs.session.GuidedSession.hear_crash.Goals as goal

pub returns-clause-says : goal.returns-clause-says
returns-clause-says c =
    said_of_line c.args.self.now c.args.self.now c.take_crash.new.self (line.Crash c.args.role) c.take_crash.result c.args.text.now c.say_found.new.text c.say_found.result
    (inl refl) (on_same c.args.self.now c.args.self.now refl) c.take_crash.ensures.comes c.take_crash.ensures.protocol c.say_found.ensures
