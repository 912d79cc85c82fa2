-- The setup is of the session.
use Rattle.std.proofs.Common.{subst}
use Rattle.rcv_session.specs.Session.{SessionView}
use Rattle.rcv_diagnosis.specs.Diagnosing.{is_json, IsOfText}
use Rattle.rcv_diagnosis.proofs.Saying.{Answers}
use Rattle.rcv_diagnosis.proofs.session.of_session.Goals as goal

pub returns : goal.returns
returns c = subst (λ (s : SessionView). Answers (IsOfText (is_json c.args.text.now) s c.args.text.now c.args.feeds) c.of_text.result) c.in_ok-setup.ensures c.of_text.ensures
