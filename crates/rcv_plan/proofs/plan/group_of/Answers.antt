use Rattle.std.proofs.Common.{◌≡◌, ℕ, List, ◌<◌, rules, subst, sym}
use Rattle.std.specs.Prelude.{slice_index_or}
use Rattle.std.specs.List.{All}
use Rattle.rcv_plan.proofs.Rows.{host_is_in}
use Rattle.rcv_plan.proofs.plan.group_of.Goals as goal

pub with-group-requires-in-loop-member : goal.with-group-requires-in-loop-member
with-group-requires-in-loop-member c =
    let all : All (λ q. q < 8) c.host_of-member-items.result.now = subst (λ (qs : List ℕ). All (λ q. q < 8) qs) (sym c.host_of-member-items.ensures) (host_is_in 8 _ c.args.role c.requires.fits) in
    let is : c.member-item.result ≡ slice_index_or c.host_of-member-items.result.now c.loop-member.member-index c.member-item.result = search rules in
    subst (λ n. n < 8) (sym is) (all c.loop-member.member-index c.member-item.result c.loop-member-test.true)
