use Rattle.std.proofs.Common.{◌+◌, ◌*◌, ◌≤◌, length}
use Rattle.rcv_script.specs.Machine.{a_product, a_sum, Factors, Terms}
use Rattle.rcv_script.specs.Descent.{at_depth, Written}
use Rattle.rcv_script.proofs.parser.Parser.+descent.Given as goal

abbrev pub decreases-atom : goal.decreases-atom
decreases-atom l = 4 * length l.self.now.rest

abbrev pub decreases-product : goal.decreases-product
decreases-product l = 4 * length l.self.now.rest + 1

abbrev pub decreases-sum : goal.decreases-sum
decreases-sum l = 4 * length l.self.now.rest + 2

abbrev pub invariant-product-loop-banned : goal.invariant-product-loop-banned
invariant-product-loop-banned l =
    let p = at_depth l.names l.banned l.depth in record {
      written : Written (λ k. a_product p k) (λ f k. Factors p f k) l.fn.steps l.steps l.fn.self.rest l.self.rest;
      shorter : length l.self.rest ≤ length l.fn.self.rest;
    }

abbrev pub decreases-product-loop-banned : goal.decreases-product-loop-banned
decreases-product-loop-banned l = length l.self.rest

abbrev pub invariant-sum-loop-minus : goal.invariant-sum-loop-minus
invariant-sum-loop-minus l =
    let p = at_depth l.names l.banned l.depth in record {
      written : Written (λ k. a_sum p k) (λ f k. Terms p f k) l.fn.steps l.steps l.fn.self.rest l.self.rest;
      shorter : length l.self.rest ≤ length l.fn.self.rest;
    }

abbrev pub decreases-sum-loop-minus : goal.decreases-sum-loop-minus
decreases-sum-loop-minus l = length l.self.rest
