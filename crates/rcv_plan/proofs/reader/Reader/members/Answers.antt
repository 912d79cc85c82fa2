use Rattle.std.proofs.Common.{◌∙◌, ap, length, arith}
use Rattle.rcv_plan.proofs.Found.{comma_more}
use Rattle.rcv_plan.proofs.reader.Reader.members.Goals as goal

pub loop-self-preserved : goal.loop-self-preserved
loop-self-preserved c =
    let cut = c.takes_comma.ensures.yes c.loop-self-test.true in
    let size = ap length cut in
    (comma_more c.args.roles.now c.args.known.now c.loop-self.members c.member.new.members _ _ _ cut c.in_ok-member.ensures.goes ∙ c.loop-self.invariant.0, omega (arith, size, c.loop-self.invariant.1, c.in_ok-member.ensures.shorter))
