-- One role after another.
use Rattle.std.proofs.Common.{◌≡◌, length-set, ◌∙◌, arith}
use Rattle.rcv_guide.specs.Failing.{first_lost}
use Rattle.rcv_guide.proofs.Filling.{set_done}
use Rattle.rcv_guide.proofs.failing.starts.Goals as goal

pub loop-role-preserved : goal.loop-role-preserved
loop-role-preserved c =
    record {
      eight = length-set c.loop-role.starts c.loop-role.role c.start_by.result ∙ c.loop-role.invariant.eight;
      done = set_done (λ r v. v ≡ first_lost c.args.ledger.now.logs c.args.keeps.now r) c.loop-role.starts c.loop-role.role c.start_by.result (omega (arith, c.loop-role.invariant.eight, c.loop-role-test.true)) c.loop-role.invariant.done c.start_by.ensures;
    }

pub returns : goal.returns
returns c = (c.loop-role.invariant.eight, λ r lt. c.loop-role.invariant.done r (omega (arith, lt, c.loop-role-test.false)))
