-- One role after another is told.
use Rattle.std.proofs.Common.{◌≡◌, ◌<◌, length-set, ◌∙◌, arith}
use Rattle.rcv_session.specs.Session.{rules_of}
use Rattle.rcv_core.proofs.Filling.{set_done}
use Rattle.rcv_core.proofs.setup.Setup.everys.Goals as goal

pub loop-role-preserved : goal.loop-role-preserved
loop-role-preserved c =
    record {
      eight = length-set c.loop-role.everys c.loop-role.role c.every.result ∙ c.loop-role.invariant.eight;
      done = set_done (λ r v. (v ≡ (rules_of c.args.self.now).every r) × (0 < v)) c.loop-role.everys c.loop-role.role c.every.result (omega (arith, c.loop-role.invariant.eight, c.loop-role-test.true)) c.loop-role.invariant.done (c.every.ensures.value, (let f = c.every.ensures.first in omega (arith, f)));
    }

pub returns : goal.returns
returns c r low = c.loop-role.invariant.done r (omega (arith, low, c.loop-role-test.false))
