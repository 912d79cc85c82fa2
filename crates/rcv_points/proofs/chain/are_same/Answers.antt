-- Two lists of points are the same where their numbers are.
use Rattle.std.proofs.lemmas.Bool.Decides.{Decides-eqb}
use Rattle.std.proofs.lemmas.Slice.Eq.{slice_eq-Decides}
use Rattle.rcv_points.proofs.chain.are_same.Goals as goal

pub returns : goal.returns
returns c = slice_eq-Decides Decides-eqb c.args.left.now c.args.right.now c.eq.result c.eq.ensures
