-- The save is judged where it is told.
use Rattle.std.proofs.Common.{refl, inl, inr}
use Rattle.rcv_dialogue.specs.declared.line.Line.TheVariants as line
use Rattle.rcv_guided.proofs.Going.{on_same}
use Rattle.rcv_guided.proofs.Saying.{unchanged_by, said_of_line}
use Rattle.rcv_guided.proofs.session.GuidedSession.hear_save.Goals as goal

pub returns-in-Some-clause-says : goal.returns-in-Some-clause-says
returns-in-Some-clause-says c =
    said_of_line c.args.self.now c.args.self.now c.args.self.now (line.Save c.args.told.now) c.in-Some.refusal c.args.text.now c.say.new.text c.say.result
    (inl refl) (on_same c.args.self.now c.args.self.now refl) (unchanged_by c.args.self.now (line.Save c.args.told.now) c.in-Some.refusal (λ added after same. inr (inl c.in-Some.ensures.why, same))) refl c.say.ensures

pub returns-clause-says : goal.returns-clause-says
returns-clause-says c =
    said_of_line c.args.self.now c.args.self.now c.take_save-answer.new.self (line.Save c.args.told.now) c.take_save-answer.result c.args.text.now c.say-2.new.text c.say-2.result
    (inl refl) (on_same c.args.self.now c.args.self.now refl) c.take_save-answer.ensures.comes c.take_save-answer.ensures.protocol c.say-2.ensures
