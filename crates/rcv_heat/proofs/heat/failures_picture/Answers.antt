-- The setup's protocol and what it saves are as they were.
use Rattle.std.proofs.Common.{◌∙◌}
use Rattle.rcv_heat.proofs.There.{titles_there, shown_there, said_there}
use Rattle.rcv_heat.proofs.heat.failures_picture.Goals as goal

pub returns-clause-picture : goal.returns-clause-picture
returns-clause-picture c =
    let old = c.args.setup.now in
    let new = c.named_costs.new.setup in
    let differs = c.in_ok-costs.ensures.setup in
    let costs = c.in_ok-costs.costs in
    let picture = c.in_ok-picture.picture in
    record {
      costs = costs;
      are = c.in_ok-costs.ensures.costs;
      titles = c.in_ok-picture.ensures.titles ∙ titles_there old new differs costs.list.items;
      cells = shown_there old new differs costs picture c.in_ok-picture.ensures.cells;
      words = said_there old new differs costs picture c.in_ok-picture.ensures.words;
    }
