-- One channel more.
use Rattle.std.proofs.Common.{rules, ◌≡◌, ◌<◌, ◌∙◌, ap, arith}
use Rattle.rcv_session.specs.Session.{roles_of, net_for}
use Rattle.rcv_core.specs.Book.{state_of}
use Rattle.rcv_costs.specs.Losses.{sum_over, again_on}
use Rattle.rcv_costs.proofs.Sums.{one_role_more}
use Rattle.rcv_costs.proofs.losses.again_from.Goals as goal

pub loop-to-preserved : goal.loop-to-preserved
loop-to-preserved c =
    let lt : c.loop-to.to < roles_of c.args.book.now.setup = search rules in
    record {
      sum = λ old have. one_role_more (again_on (net_for c.args.book.now.setup) old (state_of c.args.book.now).kept c.args.from) c.loop-to.to c.loop-to.again c.again_on.result (c.loop-to.invariant.sum old have) (c.again_on.ensures old (have.each c.loop-to.to lt));
      few = omega (arith, c.loop-to.invariant.few, c.again_on.type_inv);
    }

pub returns-clause-value : goal.returns-clause-value
returns-clause-value c =
    let all : c.loop-to.to ≡ roles_of c.args.book.now.setup = search rules in
    λ old have. c.loop-to.invariant.sum old have ∙ ap (λ n. sum_over n (again_on (net_for c.args.book.now.setup) old (state_of c.args.book.now).kept c.args.from)) all
