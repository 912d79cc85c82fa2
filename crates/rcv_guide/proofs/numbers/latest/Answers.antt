-- One role after another.
use Rattle.std.proofs.Common.{sym, ◌∙◌, ap, drop, ◌+◌, arith}
use Rattle.std.specs.Prelude.{max}
use Rattle.rcv_guide.specs.Numbers.{latest_from}
use Rattle.rcv_guide.proofs.Filling.{latest_step, latest_end}
use Rattle.rcv_guide.proofs.numbers.latest.Goals as goal

pub loop-role-preserved : goal.loop-role-preserved
loop-role-preserved c =
    ap (λ n. max n (latest_from c.args.roles.0 (c.loop-role.role + 1) (drop (c.loop-role.role + 1) c.args.numbers.now))) (c.max-latest.ensures ∙ ap (λ n. max n c.loop-role.latest) c.clock_in.ensures)
    ∙ latest_step c.args.roles.0 c.loop-role.role c.loop-role.latest c.args.numbers.now (omega (arith, c.loop-role-test.true))
    ∙ c.loop-role.invariant

pub returns : goal.returns
returns c = sym (latest_end c.args.roles.0 c.loop-role.role c.loop-role.latest c.args.numbers.now (omega (arith, c.loop-role-test.false))) ∙ c.loop-role.invariant
