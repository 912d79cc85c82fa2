use Rattle.std.proofs.Common.{◌<◌, length, rules, ◌∙◌, ap}
use Rattle.std.specs.Prelude.{nat_le}
use Rattle.rcv_plan.proofs.Due.{reached}
use Rattle.rcv_plan.proofs.plan.is_due.Goals as goal

pub returns-in-Some : goal.returns-in-Some
returns-in-Some c =
    let within : c.args.crashes < length c.args.counts.now = search rules in
    ap (λ n. nat_le n c.args.raw) (search rules) ∙ reached c.args.raw c.args.crashes c.args.counts.now c.requires within
