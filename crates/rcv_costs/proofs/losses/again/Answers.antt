-- The channels of one sender more.
use Rattle.std.proofs.Common.{rules, ◌≡◌, ◌<◌, ℕ, ◌∙◌, ap, arith}
use Rattle.rcv_session.specs.Session.{roles_of, net_for}
use Rattle.rcv_core.specs.Book.{state_of}
use Rattle.rcv_costs.specs.Losses.{sum_over, again_on}
use Rattle.rcv_costs.proofs.Sums.{one_role_more}
use Rattle.rcv_costs.proofs.losses.again.Goals as goal

pub loop-from-preserved : goal.loop-from-preserved
loop-from-preserved c =
    let lt : c.loop-from.from < roles_of c.args.book.now.setup = search rules in
    record {
      sum = λ old have. one_role_more (λ (s : ℕ). sum_over (roles_of c.args.book.now.setup) (again_on (net_for c.args.book.now.setup) old (state_of c.args.book.now).kept s)) c.loop-from.from c.loop-from.again c.again_from-again.result (c.loop-from.invariant.sum old have) (c.again_from-again.ensures.value old (have c.loop-from.from lt));
      few = omega (arith, c.loop-from.invariant.few, c.again_from-again.ensures.few);
    }

pub returns : goal.returns
returns c =
    let all : c.loop-from.from ≡ roles_of c.args.book.now.setup = search rules in
    λ old have. c.loop-from.invariant.sum old have ∙ ap (λ n. sum_over n (λ (s : ℕ). sum_over (roles_of c.args.book.now.setup) (again_on (net_for c.args.book.now.setup) old (state_of c.args.book.now).kept s))) all
