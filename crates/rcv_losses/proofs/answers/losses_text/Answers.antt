-- The setup's protocol is as it was, and so is the text.
use Rattle.std.proofs.Common.{◌∙◌}
use Rattle.rcv_losses.proofs.Saying.{text_there}
use Rattle.rcv_losses.proofs.answers.losses_text.Goals as goal

pub returns-clause-text : goal.returns-clause-text
returns-clause-text c = record {
  costs = c.in_ok-costs.costs;
  are = c.in_ok-costs.ensures.costs;
  is_text = c.in_ok-text.ensures ∙ text_there c.args.setup.now c.named_costs.new.setup c.in_ok-costs.ensures.setup.protocol c.in_ok-costs.costs.step c.in_ok-costs.costs.list.items;
}
