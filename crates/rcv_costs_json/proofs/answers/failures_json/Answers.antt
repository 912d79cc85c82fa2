-- The setup's protocol is as it was, and so is the value.
use Rattle.std.proofs.Common.{◌∙◌, ap, subst}
use Rattle.serde_json.specs.Data.{Data}
use Rattle.rcv_export.specs.Pieces.{line_of}
use Rattle.rcv_export.specs.ReadBack.{IsReadAs}
use Rattle.rcv_costs_json.proofs.There.{value_there}
use Rattle.rcv_costs_json.proofs.answers.failures_json.Goals as goal

pub returns-clause-json : goal.returns-clause-json
returns-clause-json c =
    let costs = c.in_ok-costs.costs in
    let same = value_there c.args.setup.now c.named_costs.new.setup costs c.in_ok-costs.ensures.setup.protocol in
    record {
      costs = costs;
      are = c.in_ok-costs.ensures.costs;
      is_json = c.in_ok-text.ensures.json ∙ ap line_of same;
      is_read = subst (λ (d : Data). IsReadAs c.in_ok-text.text.items d) same c.in_ok-text.ensures.read;
    }
