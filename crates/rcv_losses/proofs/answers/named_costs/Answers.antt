-- The setup's protocol is as it was, and so are its names; and the step isn't 0.
use Rattle.std.proofs.Common.{subst, arith}
use Rattle.rcv_tree.specs.declared.protocol.Protocol.{Protocol}
use Rattle.rcv_accept.specs.Accepted.{IsAcceptedProtocol}
use Rattle.rcv_costs.proofs.Naming.{named}
use Rattle.rcv_losses.proofs.Saying.{named_there}
use Rattle.rcv_losses.proofs.answers.named_costs.Goals as goal

pub returns-clause-named : goal.returns-clause-named
returns-clause-named c =
    let same = c.in_ok-costs.ensures.setup.protocol in
    named_there c.args.setup.now c.costs_of.new.setup same c.in_ok-costs.costs.list.items
    (named c.args.setup.now c.in_ok-costs.costs (subst (λ (p : Protocol). IsAcceptedProtocol p) same c.protocol-protocol.ensures.accepted) c.in_ok-costs.ensures.costs)

pub returns-clause-step : goal.returns-clause-step
returns-clause-step c = let is = c.in_ok-costs.ensures.costs.step_is in omega (arith, is)
