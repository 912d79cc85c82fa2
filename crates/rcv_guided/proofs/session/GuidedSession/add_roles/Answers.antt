-- One role more.
use Rattle.std.proofs.Common.{◌≡◌, ◌<◌, [], ◌∷◌, ◌++◌, map, ◌∙◌, ap, arith}
use Rattle.std.specs.List.{range_with_len}
use Rattle.rcv_dialogue.specs.declared.line.Again.{Again}
use Rattle.rcv_guided.specs.Session.{SessionView, roles_in}
use Rattle.rcv_guided.specs.Restoring.{role_again}
use Rattle.rcv_guided.proofs.Listing.{ranged_more}
use Rattle.rcv_guided.proofs.Snapshots.{one_named}
use Rattle.rcv_guided.proofs.session.GuidedSession.add_roles.Goals as goal

pub loop-role-preserved : goal.loop-role-preserved
loop-role-preserved c =
    let s = c.args.self.now in
    let more = c.in_ok-push.ensures.items ∙ ap (λ (x : Again). c.loop-role.lines.items ++ x ∷ []) c.role_again.ensures in
    let lt : c.loop-role.role < roles_in s =
    (let test = c.loop-role-test.true in let value = c.roles-role-end.ensures.value in let same = ap (λ (x : SessionView). roles_in x) c.self.view_is in omega (arith, test, value, same)) in
    record {
      items = ranged_more (role_again s) c.loop-role.role c.args.lines.now.items c.loop-role.lines.items c.push.new.self.items c.loop-role.invariant.items more;
      named = λ all. one_named s c.loop-role.lines.items c.push.new.self.items (role_again s c.loop-role.role) more lt (c.loop-role.invariant.named all);
    }

pub returns-clause-value : goal.returns-clause-value
returns-clause-value c =
    let s = c.args.self.now in
    let all : c.loop-role.role ≡ roles_in s =
    (let test = c.loop-role-test.false in let low = c.loop-role.auto.role-end in let value = c.roles-role-end.ensures.value in let same = ap (λ (x : SessionView). roles_in x) c.self.view_is in omega (arith, test, low, value, same)) in
    c.loop-role.invariant.items ∙ ap (λ n. c.args.lines.now.items ++ map (role_again s) (range_with_len 0 n)) all
