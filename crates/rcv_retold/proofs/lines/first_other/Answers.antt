-- By the first line that differs, or by the text that stops first.
use Rattle.std.proofs.Common.{◌≡◌, ◌<◌, length, arith}
use Rattle.std.proofs.lemmas.Bool.Decides.{nat_tests}
use Rattle.rcv_retold.proofs.Comparing.{differ, at_end, stops}
use Rattle.rcv_retold.proofs.lines.first_other.Goals as goal

pub returns-then-not-is_same-clause-is : goal.returns-then-not-is_same-clause-is
returns-then-not-is_same-clause-is c =
    let told = c.is_empty.ensures in
    let more = c.loop-text_left-test.true in
    let some : 0 < length c.loop-text_left.text_left.now = grind (arith, nat_tests) in
    differ c.args.text.now c.args.right.now c.loop-text_left.text_left.now c.loop-text_left.right_left.now c.loop-text_left.number c.loop-text_left.invariant
    c.first_line.result.0.now c.first_line.result.1.now c.first_line-in-loop-text_left.result.0.now c.first_line-in-loop-text_left.result.1.now
    c.first_line.ensures.parts c.first_line-in-loop-text_left.ensures.parts (c.first_line.ensures.some some) (c.first_line.ensures.line some) c.first_line-in-loop-text_left.ensures.line
    (λ same. (let t = c.is_same.ensures.1 same in let f = c.if-not-is_same.true in cc))

pub returns-then-is_empty-clause-is : goal.returns-then-is_empty-clause-is
returns-then-is_empty-clause-is c =
    let told = c.is_empty.ensures in
    let over = c.loop-text_left-test.false in
    let none : length c.loop-text_left.text_left.now ≡ 0 = grind (arith, nat_tests) in
    let right_told = c.is_empty-2.ensures in
    let right_over = c.if-is_empty.true in
    let right_none : length c.loop-text_left.right_left.now ≡ 0 = grind (arith, nat_tests) in
    at_end c.args.text.now c.args.right.now c.loop-text_left.text_left.now c.loop-text_left.right_left.now c.loop-text_left.number c.loop-text_left.invariant none right_none

pub returns-else-is_empty-clause-is : goal.returns-else-is_empty-clause-is
returns-else-is_empty-clause-is c =
    let told = c.is_empty.ensures in
    let over = c.loop-text_left-test.false in
    let none : length c.loop-text_left.text_left.now ≡ 0 = grind (arith, nat_tests) in
    let right_told = c.is_empty-2.ensures in
    let right_over = c.if-is_empty.false in
    let more : 0 < length c.loop-text_left.right_left.now = grind (arith, nat_tests) in
    stops c.args.text.now c.args.right.now c.loop-text_left.text_left.now c.loop-text_left.right_left.now c.loop-text_left.number c.loop-text_left.invariant none more
