-- The roles are compared one by one.
use Rattle.std.proofs.lemmas.Bool.Decides.{Decides-eqb}
use Rattle.std.proofs.lemmas.Slice.Eq.{slice_eq-Decides}
use Rattle.rcv_judge.proofs.same.are_same_roles.Goals as goal

pub returns : goal.returns
returns c = slice_eq-Decides Decides-eqb c.args.one.now c.args.other.now c.eq.result c.eq.ensures
