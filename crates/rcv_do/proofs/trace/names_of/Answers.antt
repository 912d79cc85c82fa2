use Rattle.std.proofs.Common.{◌∙◌}
use Rattle.rcv_do.specs.Code.{protocols_in}
use Rattle.rcv_do.proofs.Calling.{names_from, names_next}
use Rattle.rcv_do.proofs.trace.names_of.Goals as goal

pub loop-index-preserved : goal.loop-index-preserved
loop-index-preserved c =
    names_next (protocols_in c.args.parts.now) c.loop-index.index c.at.result.now c.in_ok-of.field-0 c.loop-index.names c.push.new.self (names_from (protocols_in c.args.parts.now))
    c.at.ensures c.in_ok-push.ensures.ok (c.in_ok-of.ensures ∙ c.as_slice.ensures) c.loop-index.invariant
