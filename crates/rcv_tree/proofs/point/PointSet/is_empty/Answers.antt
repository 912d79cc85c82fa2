use Rattle.std.proofs.Common.{◌≡◌, arith}
use Rattle.std.proofs.lemmas.Bool.Decides.{nat_tests}
use Rattle.rcv_tree.proofs.Meets.{all_words, empty_has_none, none_is_empty}
use Rattle.rcv_tree.proofs.point.PointSet.is_empty.Goals as goal

pub returns : goal.returns
returns c = (
  λ t p point. empty_has_none c.args.self.0 p point (let e : all_words c.args.self.0 ≡ 0 = grind (arith, nat_tests) in e),
  λ all. let e : all_words c.args.self.0 ≡ 0 = none_is_empty c.args.self.0 (omega arith) (omega arith) (omega arith) (omega arith) all in grind (arith, nat_tests),
)
