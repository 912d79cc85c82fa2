-- One role more.
use Rattle.std.proofs.Common.{rules, ◌≡◌, ◌++◌, flat_map, ◌∙◌, ap}
use Rattle.std.specs.List.{range_with_len}
use Rattle.rcv_session.specs.Session.{roles_of}
use Rattle.rcv_losses.specs.LossText.{role_line}
use Rattle.rcv_losses.proofs.Saying.{said_one_more}
use Rattle.rcv_losses.proofs.lines.write_roles.Goals as goal

pub loop-role-preserved : goal.loop-role-preserved
loop-role-preserved c = said_one_more (role_line c.args.setup.now c.args.costs.now) c.args.text.now c.loop-role.text c.write_role.new.text c.loop-role.role c.loop-role.invariant c.in_ok-write_role.ensures

pub returns : goal.returns
returns c =
    let all : c.loop-role.role ≡ roles_of c.args.setup.now = search rules in
    c.loop-role.invariant ∙ ap (λ n. c.args.text.now ++ flat_map (role_line c.args.setup.now c.args.costs.now) (range_with_len 0 n)) all
