-- The line is judged where there is room.
use Rattle.std.proofs.Common.{refl, inr}
use Rattle.rcv_dialogue.specs.declared.line.Line.TheVariants as line
use Rattle.rcv_dialogue.specs.declared.answer.Answer.TheVariants as answer
use Rattle.rcv_guided.proofs.Saying.{unchanged_by, answer_by}
use Rattle.rcv_guided.proofs.Told.{no_memory_to_receive}
use Rattle.rcv_guided.proofs.session.GuidedSession.tell_receipt.Goals as goal

pub returns-then-is_err-clause-heard : goal.returns-then-is_err-clause-heard
returns-then-is_err-clause-heard c =
    let told = line.Recv c.args.told.now in
    record {
      said = answer.Memory;
      answer = answer_by c.args.self.now c.make_room.new.self c.make_room.new.self told answer.Memory
          c.make_room.ensures.judging c.make_room.ensures.history (no_memory_to_receive c.make_room.new.self c.args.told.now);
      kind_is = refl;
    }

pub returns-in-Some-clause-heard : goal.returns-in-Some-clause-heard
returns-in-Some-clause-heard c =
    let told = line.Recv c.args.told.now in
    record {
      said = c.in-Some.refusal;
      answer = answer_by c.args.self.now c.make_room.new.self c.make_room.new.self told c.in-Some.refusal
          c.make_room.ensures.judging c.make_room.ensures.history
          (unchanged_by c.make_room.new.self told c.in-Some.refusal (λ added after same. inr (c.in-Some.ensures.why, same)));
      kind_is = c.heard_of.ensures;
    }

pub returns-clause-heard : goal.returns-clause-heard
returns-clause-heard c =
    record {
      said = c.take_receipt-answer.result;
      answer = answer_by c.args.self.now c.make_room.new.self c.take_receipt-answer.new.self (line.Recv c.args.told.now) c.take_receipt-answer.result
          c.make_room.ensures.judging c.make_room.ensures.history c.take_receipt-answer.ensures.comes;
      kind_is = c.heard_of-2.ensures;
    }
