-- One number after another.
use Rattle.std.proofs.Common.{◌-◌, length, map, sym, ◌∙◌, arith, ext_get_or}
use Rattle.std.proofs.lemmas.List.{length-map, get_or-map}
use Rattle.rcv_checkpoint.proofs.rows.lessen.Goals as goal

pub returns-clause-items : goal.returns-clause-items
returns-clause-items c =
    let xs = c.args.list.now.items in
    let long = c.loop-place.invariant.long in
    let all = c.loop-place-test.false in
    let n = c.len-place-end.ensures in
    let ok = c.args.list.now.ok.0 in
    ext_get_or 0 c.loop-place.list.items (map (λ x. x - c.args.by) xs) (long ∙ sym (length-map xs (λ x. x - c.args.by)))
    (λ i lt. c.loop-place.invariant.done i (omega (arith, lt, long, all, n, ok)) ∙ sym (get_or-map (λ x. x - c.args.by) xs i 0 0 (omega (arith, lt, long))))
