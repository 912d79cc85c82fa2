-- One role more.
use Rattle.std.proofs.Common.{rules, ◌≡◌, map, ◌∙◌, ap}
use Rattle.std.specs.List.{range_with_len}
use Rattle.serde_json.specs.View.{view}
use Rattle.rcv_session.specs.Session.{roles_of}
use Rattle.rcv_costs_json.specs.CostsJson.{total_data}
use Rattle.rcv_costs_json.proofs.Growing.{one_role_value}
use Rattle.rcv_costs_json.proofs.totals.totals.Goals as goal

pub loop-role-preserved : goal.loop-role-preserved
loop-role-preserved c =
    ap (map view) c.in_ok-push.ensures.items
    ∙ one_role_value (total_data c.args.setup.now c.args.costs.now) c.loop-role.role c.loop-role.list.items c.in_ok-value.value c.loop-role.invariant c.in_ok-value.ensures

pub returns : goal.returns
returns c =
    let all : c.loop-role.role ≡ roles_of c.args.setup.now = search rules in
    c.loop-role.invariant ∙ ap (λ n. map (total_data c.args.setup.now c.args.costs.now) (range_with_len 0 n)) all
