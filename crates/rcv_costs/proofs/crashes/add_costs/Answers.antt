-- One crash more.
use Rattle.std.proofs.Common.{◌++◌, ◌∷◌, [], List, ◌∙◌, ap, append_assoc}
use Rattle.rcv_costs.specs.declared.numbers.Cost.{Cost}
use Rattle.rcv_costs.specs.Costs.{IsCostOfRole}
use Rattle.rcv_costs.proofs.Sessions.{crash_again}
use Rattle.rcv_costs.proofs.Adding.{all_and, counts_more, cost_moves, differs_behind, own_behind}
use Rattle.rcv_costs.proofs.crashes.add_costs.Goals as goal

pub cost_now-requires-clause-crash : goal.cost_now-requires-clause-crash
cost_now-requires-clause-crash c = crash_again c.loop-sample.setup c.crash_once.new.setup c.args.role _ c.in_ok-crash_once.ensures.ok

pub cost_now-requires-clause-points : goal.cost_now-requires-clause-points
cost_now-requires-clause-points c = own_behind c.args.setup.now c.crash_once.new.setup c.args.role c.args.points.now (differs_behind c.args.setup.now c.loop-sample.setup c.crash_once.new.setup c.args.role _ c.loop-sample.invariant.differs c.in_ok-crash_once.ensures.ok) c.requires.points

pub returns-in_err-cost_now-clause-setup : goal.returns-in_err-cost_now-clause-setup
returns-in_err-cost_now-clause-setup c = differs_behind c.args.setup.now c.loop-sample.setup c.crash_once.new.setup c.args.role _ c.loop-sample.invariant.differs c.in_ok-crash_once.ensures.ok

pub returns-in_err-push-clause-setup : goal.returns-in_err-push-clause-setup
returns-in_err-push-clause-setup c = differs_behind c.args.setup.now c.loop-sample.setup c.crash_once.new.setup c.args.role _ c.loop-sample.invariant.differs c.in_ok-crash_once.ensures.ok

pub loop-sample-preserved : goal.loop-sample-preserved
loop-sample-preserved c =
    let so = c.loop-sample.invariant in
    let cost = c.in_ok-cost_now.field-0 in
    record {
      differs = differs_behind c.args.setup.now c.loop-sample.setup c.crash_once.new.setup c.args.role _ so.differs c.in_ok-crash_once.ensures.ok;
      added = so.added ++ cost ∷ [];
      is = c.in_ok-push.ensures.items ∙ ap (λ (l : List Cost). l ++ cost ∷ []) so.is ∙ append_assoc _ so.added (cost ∷ []);
      counts = counts_more c.args.role c.args.step c.loop-sample.sample so.added cost c.in_ok-cost_now.ensures.at so.counts;
      each = all_and (IsCostOfRole c.args.setup.now c.args.role c.args.points.now) so.added cost so.each (cost_moves c.args.setup.now c.loop-sample.setup c.crash_once.new.setup c.args.role _ c.args.points.now cost so.differs c.in_ok-crash_once.ensures.ok c.in_ok-cost_now.ensures.at c.in_ok-cost_now.ensures.cost);
    }
