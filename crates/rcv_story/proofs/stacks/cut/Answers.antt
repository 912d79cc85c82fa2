-- One stack more is cut.
use Rattle.std.proofs.Common.{◌≡◌, ◌<◌, length, ◌∙◌, ap, arith}
use Rattle.std.proofs.lemmas.List.{length-set}
use Rattle.rcv_tree.specs.Lists.{lists_in}
use Rattle.rcv_story.specs.Stacks.{stack_at, left_count}
use Rattle.rcv_story.proofs.Marking.{own_list, list_cut, lists_length, cut_here, cut_others}
use Rattle.rcv_story.proofs.stacks.cut.Goals as goal

pub loop-role-preserved : goal.loop-role-preserved
loop-role-preserved c =
    let items = c.loop-role.stacks.items in
    let role = c.loop-role.role in
    let low : role < 8 = c.loop-role-test.true in
    let eight = c.loop-role.invariant.eight in
    let size = lists_length items in
    let lt : role < length items = omega (arith, low, eight) in
    let is = list_cut items role c.truncate.new.self c.index_mut.result.now lt c.index_mut.ensures.value c.left_of-left.result c.truncate.ensures.items in
    let own = own_list items role c.index.result.now c.index.result.now lt c.index.ensures in
    let tall : c.len.result ≡ length c.index.result.now.items = (let e = c.len.ensures in let len = c.index.result.now.ok.0 in omega (arith, e, len)) in
    let count : c.left_of-left.result ≡ left_count c.args.concerned c.args.kept.now role (length (stack_at (lists_in items) role)) = c.left_of-left.ensures ∙ ap (left_count c.args.concerned c.args.kept.now role) (tall ∙ ap length own) in
    record {
      eight = length-set items role c.truncate.new.self ∙ eight;
      done = λ r below. ap (λ l. stack_at l r) is ∙ cut_here c.args.concerned c.args.kept.now (lists_in items) (lists_in c.args.stacks.now.items) role c.left_of-left.result (size ∙ eight) low c.loop-role.invariant.others count c.loop-role.invariant.done r below;
      others = λ r above. ap (λ l. stack_at l r) is ∙ cut_others c.args.concerned c.args.kept.now (lists_in items) (lists_in c.args.stacks.now.items) role c.left_of-left.result (size ∙ eight) low c.loop-role.invariant.others count r above;
    }
