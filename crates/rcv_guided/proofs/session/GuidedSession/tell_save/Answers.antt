-- The save is judged where it is told.
use Rattle.std.proofs.Common.{inl, inr}
use Rattle.rcv_dialogue.specs.declared.line.Line.TheVariants as line
use Rattle.rcv_guided.proofs.Saying.{unchanged_by, answer_in}
use Rattle.rcv_guided.proofs.session.GuidedSession.tell_save.Goals as goal

pub returns-in-Some-clause-heard : goal.returns-in-Some-clause-heard
returns-in-Some-clause-heard c =
    let told = line.Save c.args.told.now in
    record {
      said = c.in-Some.refusal;
      answer = answer_in c.args.self.now c.args.self.now told c.in-Some.refusal
          (unchanged_by c.args.self.now told c.in-Some.refusal (λ added after same. inr (inl c.in-Some.ensures.why, same)));
      kind_is = c.heard_of.ensures;
    }

pub returns-clause-heard : goal.returns-clause-heard
returns-clause-heard c =
    record {
      said = c.take_save-answer.result;
      answer = answer_in c.args.self.now c.take_save-answer.new.self (line.Save c.args.told.now) c.take_save-answer.result c.take_save-answer.ensures.comes;
      kind_is = c.heard_of-2.ensures;
    }
