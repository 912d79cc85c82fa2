use Rattle.std.proofs.Common.{◌<◌, ◌^◌, length, refl, sym, ap, subst, arith}
use Rattle.rcv_module.specs.Parts.{parts_of, sites}
use Rattle.rcv_do.specs.Code.{AreFirsts, parts_in}
use Rattle.rcv_do.proofs.Traced.{origins_made}
use Rattle.rcv_do.proofs.trace.origins_of.Goals as goal

pub returns : goal.returns
returns c =
    let calls = c.requires.lines in
    let kept = ap length c.as_slice-calls.ensures in
    let range = c.as_slice-calls.type_inv in
    let few : length (sites (parts_of c.args.whole.now)) < 2 ^ 64 = omega (arith, calls, kept, range) in
    origins_made c.args.whole.now _ _ _ _ few c.of-parts.ensures refl refl
    (subst (AreFirsts (parts_in c.of-parts.result)) (sym c.as_slice.ensures.value) c.in_ok-firsts.ensures) c.requires.order c.new-points.ensures.items c.in_ok-block.ensures c.in_ok-names_of.ensures
