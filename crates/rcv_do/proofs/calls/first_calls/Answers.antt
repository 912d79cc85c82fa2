use Rattle.std.proofs.Common.{◌≡◌, length, length-append, [], ◌∷◌, ◌∙◌, ap, arith}
use Rattle.rcv_module.specs.Parts.{part_of}
use Rattle.rcv_do.specs.Code.{call_of, parts_in, protocols_in}
use Rattle.rcv_do.proofs.Calling.{counted_next, firsts_next}
use Rattle.rcv_do.proofs.Faulting.{part_at}
use Rattle.rcv_do.proofs.calls.first_calls.Goals as goal

pub loop-index-preserved : goal.loop-index-preserved
loop-index-preserved c =
    let pushed = c.in_ok-push.ensures.items in
    let one = length-append c.loop-index.firsts.items (c.len.result ∷ []) in
    let new = ap length pushed in
    let long : length c.loop-index.firsts.items ≡ c.loop-index.index = c.loop-index.invariant.long in
    record {
      long = omega (arith, one, new, long);
      counted = counted_next (call_of (parts_in c.args.parts.now)) (parts_in c.args.parts.now) c.loop-index.index (part_of c.at.result.now) _ _
          (part_at (protocols_in c.args.parts.now) c.loop-index.index c.at.result.now c.at.ensures) c.in_ok-add_block.ensures c.loop-index.invariant.counted;
      firsts = firsts_next (parts_in c.args.parts.now) c.loop-index.index c.len.result _ _ long pushed (c.len.ensures ∙ c.loop-index.calls.ok.0 ∙ c.loop-index.invariant.counted) c.loop-index.invariant.firsts;
    }
