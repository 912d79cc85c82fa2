-- One role more.
use Rattle.std.proofs.Common.{◌≡◌, ◌++◌, flat_map, ◌∙◌, ap, arith}
use Rattle.std.specs.List.{range_with_len}
use Rattle.rcv_guided.specs.Session.{SessionView, roles_in}
use Rattle.rcv_guided.specs.Restoring.{saves_again}
use Rattle.rcv_guided.proofs.Listing.{added_more}
use Rattle.rcv_guided.proofs.session.GuidedSession.add_saves.Goals as goal

pub loop-role-preserved : goal.loop-role-preserved
loop-role-preserved c = record {
  items = added_more (saves_again c.args.self.now) c.loop-role.role c.args.lines.now.items c.loop-role.lines.items c.add_saves_of.new.lines.items
      c.loop-role.invariant.items c.in_ok-add_saves_of.ensures.value;
  named = λ all. c.in_ok-add_saves_of.ensures.named (c.loop-role.invariant.named all);
}

pub returns-clause-value : goal.returns-clause-value
returns-clause-value c =
    let s = c.args.self.now in
    let all : c.loop-role.role ≡ roles_in s =
    (let test = c.loop-role-test.false in let low = c.loop-role.auto.role-end in let value = c.roles-role-end.ensures.value in let same = ap (λ (x : SessionView). roles_in x) c.self.view_is in omega (arith, test, low, value, same)) in
    c.loop-role.invariant.items ∙ ap (λ n. c.args.lines.now.items ++ flat_map (saves_again s) (range_with_len 0 n)) all
