-- The session's protocol is the guide's.
use Rattle.std.proofs.Common.{◌≡◌, ◌++◌, subst}
use Rattle.std.specs.Prelude.{OnOk}
use Rattle.rcv_accept.specs.Accepted.{AcceptedView}
use Rattle.rcv_dialogue.specs.Answers.{answer_text}
use Rattle.rcv_guided.proofs.session.GuidedSession.say.Goals as goal

pub returns : goal.returns
returns c = subst (λ (a : AcceptedView). OnOk c.write.result (c.write.new.text ≡ c.args.text.now ++ answer_text a c.args.said.now)) c.accepted.ensures c.write.ensures
