-- What is taken from one role more is marked.
use Rattle.std.proofs.Common.{◌≡◌, ◌-◌, List, ℕ, length, take, drop, ◌∙◌, ap, subst, arith}
use Rattle.rcv_model.specs.Net.{IsIn}
use Rattle.rcv_tree.specs.Lists.{lists_in}
use Rattle.rcv_story.specs.Stacks.{stack_at, left_count, AreMarked}
use Rattle.rcv_story.proofs.Places.{in_take, in_drop}
use Rattle.rcv_story.proofs.Marking.{own_list, end_of, taken_next}
use Rattle.rcv_story.proofs.undoing.undo.Goals as goal

pub mark-requires : goal.mark-requires
mark-requires c = λ p i.
    let low = c.loop-role-test.true in
    let eight = c.requires.eight in
    let own = c.as_slice-stack.ensures.value ∙ own_list c.args.stacks.now.items c.loop-role.role c.index.result.now c.index.result.now (omega (arith, low, eight)) c.index.ensures in
    let inside = in_drop c.left_of-left.result p c.as_slice-stack.result.now (in_take (length c.as_slice-stack.result.now - c.left_of-left.result) p (drop c.left_of-left.result c.as_slice-stack.result.now) i) in
    let within = c.requires.within c.loop-role.role p low (subst (IsIn p) own inside) in
    let size = c.loop-role.invariant.size in
    omega (arith, within, size)

pub loop-role-preserved : goal.loop-role-preserved
loop-role-preserved c =
    let low = c.loop-role-test.true in
    let eight = c.requires.eight in
    let role = c.loop-role.role in
    let lists = lists_in c.args.stacks.now.items in
    let stack = c.as_slice-stack.result.now in
    let own = c.as_slice-stack.ensures.value ∙ own_list c.args.stacks.now.items role c.index.result.now c.index.result.now (omega (arith, low, eight)) c.index.ensures in
    let end : take (length stack - c.left_of-left.result) (drop c.left_of-left.result stack) ≡ drop (left_count c.args.concerned c.args.kept.now role (length (stack_at lists role))) (stack_at lists role) =
    end_of c.left_of-left.result stack
    ∙ ap (λ (n : ℕ). drop n stack) c.left_of-left.ensures
    ∙ ap (λ (l : List ℕ). drop (left_count c.args.concerned c.args.kept.now role (length l)) l) own in
    taken_next c.args.concerned c.args.kept.now lists role c.args.recover c.args.undone.now.items c.loop-role.undone.items c.mark.new.undone.items c.loop-role.invariant
    (subst (λ (l : List ℕ). AreMarked (λ p. IsIn p l) c.args.recover c.loop-role.undone.items c.mark.new.undone.items) end c.mark.ensures)
