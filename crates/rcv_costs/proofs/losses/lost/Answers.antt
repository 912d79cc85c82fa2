-- One role more.
use Rattle.std.proofs.Common.{rules, ◌≡◌, ◌<◌, ◌∙◌, ap, arith}
use Rattle.rcv_session.specs.Session.{SessionView, roles_of, rules_of}
use Rattle.rcv_core.specs.Book.{state_of}
use Rattle.rcv_costs.specs.Losses.{sum_over, lost_by}
use Rattle.rcv_costs.proofs.Sums.{one_role_more, lost_told}
use Rattle.rcv_costs.proofs.losses.lost.Goals as goal

pub loop-member-preserved : goal.loop-member-preserved
loop-member-preserved c =
    let eight : c.loop-member.member < 8 = search rules in
    record {
      sum = one_role_more (lost_by (rules_of c.args.book.now.setup) (state_of c.args.book.now) c.args.role) c.loop-member.member c.loop-member.lost c.lost_by.result c.loop-member.invariant.sum (lost_told c.args.book.now.setup (state_of c.args.book.now) c.args.role c.loop-member.member _ c.group-group.result.0 c.lost_by.result (c.plan.ensures.value ∙ ap (λ (x : SessionView). x.plan) c.setup-2.ensures) c.group-group.ensures eight c.lost_by.ensures);
      few = omega (arith, c.loop-member.invariant.few, c.lost_by.type_inv);
    }

pub returns : goal.returns
returns c =
    let all : c.loop-member.member ≡ roles_of c.args.book.now.setup = search rules in
    c.loop-member.invariant.sum ∙ ap (λ n. sum_over n (lost_by (rules_of c.args.book.now.setup) (state_of c.args.book.now) c.args.role)) all
