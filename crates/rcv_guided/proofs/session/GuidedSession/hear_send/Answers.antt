-- The line is judged where there is room.
use Rattle.std.proofs.Common.{◌∙◌, inr}
use Rattle.rcv_dialogue.specs.declared.line.Line.TheVariants as line
use Rattle.rcv_dialogue.specs.declared.answer.Answer.TheVariants as answer
use Rattle.rcv_guided.proofs.Saying.{unchanged_by, said_of_line}
use Rattle.rcv_guided.proofs.Told.{no_memory_to_send}
use Rattle.rcv_guided.proofs.session.GuidedSession.hear_send.Goals as goal

pub returns-then-is_err-clause-says : goal.returns-then-is_err-clause-says
returns-then-is_err-clause-says c =
    said_of_line c.args.self.now c.make_room.new.self c.make_room.new.self (line.Send c.args.told.now) answer.Memory c.args.text.now c.say.new.text c.say.result
    c.make_room.ensures.judging c.make_room.ensures.history (no_memory_to_send c.make_room.new.self c.args.told.now) c.make_room.ensures.protocol c.say.ensures

pub returns-in-Some-clause-says : goal.returns-in-Some-clause-says
returns-in-Some-clause-says c =
    said_of_line c.args.self.now c.make_room.new.self c.make_room.new.self (line.Send c.args.told.now) c.in-Some.refusal c.args.text.now c.say-in-Some.new.text c.say-in-Some.result
    c.make_room.ensures.judging c.make_room.ensures.history (unchanged_by c.make_room.new.self (line.Send c.args.told.now) c.in-Some.refusal (λ added after same. inr (c.in-Some.ensures.why, same))) c.make_room.ensures.protocol c.say-in-Some.ensures

pub returns-clause-says : goal.returns-clause-says
returns-clause-says c =
    said_of_line c.args.self.now c.make_room.new.self c.take_send-answer.new.self (line.Send c.args.told.now) c.take_send-answer.result c.args.text.now c.say-2.new.text c.say-2.result
    c.make_room.ensures.judging c.make_room.ensures.history c.take_send-answer.ensures.comes (c.take_send-answer.ensures.protocol ∙ c.make_room.ensures.protocol) c.say-2.ensures
