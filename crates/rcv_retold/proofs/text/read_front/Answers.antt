-- One entry more.
use Rattle.std.proofs.Common.{◌<◌, ◌+◌, List, length, sym, subst, arith}
use Rattle.std.proofs.lemmas.Bool.Decides.{nat_tests}
use Rattle.rcv_tree.specs.declared.entry.Entry.{Entry}
use Rattle.rcv_retold.proofs.Fronts.{IsFront, one_more}
use Rattle.rcv_retold.proofs.text.read_front.Goals as goal

pub loop-rest-preserved : goal.loop-rest-preserved
loop-rest-preserved c =
    let told = c.is_empty.ensures in
    let more = c.loop-rest-test.true in
    let some : 0 < length c.loop-rest.rest.now = grind (arith, nat_tests) in
    let says = rw c.in-Some.is at c.in_ok-entry.ensures.some in
    subst (λ (l : List Entry). IsFront c.args.accepted.now.protocol c.args.text.now l (c.loop-rest.bytes + length c.first_line.result.0.now) c.first_line.result.1.now) (sym c.in_ok-push-in-Some.ensures.items)
    (one_more c.args.accepted.now.protocol c.args.text.now c.loop-rest.entries.items c.loop-rest.bytes c.loop-rest.rest.now c.loop-rest.invariant c.in-Some.entry c.first_line.result.0.now c.first_line.result.1.now
    c.first_line.ensures.parts (c.first_line.ensures.some some) says.0 says.1)
