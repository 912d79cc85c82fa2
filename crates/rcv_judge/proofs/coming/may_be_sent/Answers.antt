-- Where the role has a step, the Send is that step or doesn't come.
use Rattle.std.proofs.Common.{sym, ◌∙◌, subst}
use Rattle.rcv_accept.specs.Accepted.{IsAcceptedProtocol}
use Rattle.rcv_session.specs.Session.{SessionView, rules_of}
use Rattle.rcv_core.specs.Book.{state_of}
use Rattle.rcv_judge.proofs.Unique.{two_ends, is_that_step, step_may}
use Rattle.rcv_judge.proofs.coming.may_be_sent.Goals as goal

pub returns-in-Some : goal.returns-in-Some
returns-in-Some c =
    let accepted : IsAcceptedProtocol c.args.book.now.setup.protocol = subst (λ (s : SessionView). IsAcceptedProtocol s.protocol) c.setup.ensures c.roles.ensures.accepted in (
      (λ t. step_may (rules_of c.args.book.now.setup) (state_of c.args.book.now) c.in-Some.step c.args.event.now c.in-Some.ensures (c.is_same.ensures.0 t ∙ c.requires)),
      λ may. c.is_same.ensures.1 (is_that_step (rules_of c.args.book.now.setup) (state_of c.args.book.now) c.in-Some.step c.args.event.now (two_ends c.args.book.now.setup accepted) c.in-Some.ensures may ∙ sym c.requires),
    )
