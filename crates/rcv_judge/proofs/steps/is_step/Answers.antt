-- What comes next of a role is one step.
use Rattle.std.proofs.Common.{◌≡◌, true, false, subst}
use Rattle.rcv_model.specs.Final.{IsActOf}
use Rattle.rcv_accept.specs.Accepted.{IsAcceptedProtocol}
use Rattle.rcv_session.specs.Session.{SessionView, rules_of}
use Rattle.rcv_core.specs.Book.{state_of}
use Rattle.rcv_judge.proofs.Unique.{two_ends, one_act}
use Rattle.rcv_judge.proofs.steps.is_step.Goals as goal

pub returns-in-Some : goal.returns-in-Some
returns-in-Some c =
    let accepted : IsAcceptedProtocol c.args.book.now.setup.protocol = subst (λ (s : SessionView). IsAcceptedProtocol s.protocol) c.setup.ensures c.roles.ensures.accepted in (
      (λ t. subst (IsActOf (rules_of c.args.book.now.setup) (state_of c.args.book.now) c.args.role) (c.is_same.ensures.0 t) c.in-Some.ensures),
      (λ x. c.is_same.ensures.1 (one_act (rules_of c.args.book.now.setup) (state_of c.args.book.now) c.args.role c.in-Some.step c.args.entry.now (two_ends c.args.book.now.setup accepted) c.in-Some.ensures x)),
    )

pub returns-in-None : goal.returns-in-None
returns-in-None c = ((λ t. let wrong : false ≡ true = t in absurd (cc)), λ x. absurd (c.in-None.ensures (c.args.entry.now, x)))
