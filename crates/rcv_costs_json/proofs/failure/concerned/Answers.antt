-- One role more.
use Rattle.std.proofs.Common.{rules, ◌≡◌, [], flat_map, map, ◌∙◌, ap, arith}
use Rattle.std.specs.List.{range_with_len}
use Rattle.serde_json.specs.View.{view}
use Rattle.rcv_session.specs.Session.{roles_of}
use Rattle.rcv_export.proofs.Growing.{goes_on}
use Rattle.rcv_costs_json.specs.CostsJson.{concerned_data}
use Rattle.rcv_costs_json.proofs.failure.concerned.Goals as goal

pub loop-role-preserved : goal.loop-role-preserved
loop-role-preserved c = goes_on (concerned_data c.args.setup.now c.args.concerned.0) 0 c.loop-role.role c.loop-role.role [] (map view c.loop-role.list.items) (map view c.push_concerned.new.list.items) (omega arith) c.loop-role.invariant c.in_ok-push_concerned.ensures

pub returns : goal.returns
returns c =
    let all : c.loop-role.role ≡ roles_of c.args.setup.now = search rules in
    c.loop-role.invariant ∙ ap (λ n. flat_map (concerned_data c.args.setup.now c.args.concerned.0) (range_with_len 0 n)) all
