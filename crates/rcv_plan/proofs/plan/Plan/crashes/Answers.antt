use Rattle.std.proofs.Common.{◌≡◌, rules, length, ◌∙◌}
use Rattle.std.proofs.lemmas.List.Sorted.{length_permutation}
use Rattle.rcv_plan.proofs.plan.Plan.crashes.Goals as goal

pub returns-in-Some : goal.returns-in-Some
returns-in-Some c =
    let all : c.len.result ≡ length c.in-Some.row.now.crashes.items = search rules in
    all ∙ length_permutation _ _ c.in-Some.ensures.some.crashes
