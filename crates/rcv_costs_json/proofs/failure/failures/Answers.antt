-- One cost more.
use Rattle.std.proofs.Common.{map, ◌∙◌, ap}
use Rattle.serde_json.specs.View.{view}
use Rattle.rcv_costs_json.specs.CostsJson.{failure_data}
use Rattle.rcv_costs_json.proofs.Growing.{one_fits, one_value}
use Rattle.rcv_costs_json.proofs.failure.failures.Goals as goal

pub loop-cost-preserved : goal.loop-cost-preserved
loop-cost-preserved c =
    let costs = c.args.costs.now in
    let i = c.loop-cost.cost-index in
    let cost = c.cost-item.result in
    record {
      values = ap (map view) c.in_ok-push.ensures.items
          ∙ one_value (failure_data c.args.setup.now) costs i cost c.loop-cost.list.items c.in_ok-value.value c.loop-cost-test.true c.cost-item.is c.loop-cost.invariant.values c.in_ok-value.ensures;
      fit = one_fits costs i cost c.loop-cost-test.true c.cost-item.is c.loop-cost.invariant.fit c.cost_fits.ensures;
    }
