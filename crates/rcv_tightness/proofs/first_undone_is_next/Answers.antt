use Rattle.rcv_tightness.proofs.Firsts.{first_undone_is_next}
use Rattle.rcv_tightness.proofs.first_undone_is_next.Goals as goal

pub returns : goal.returns
returns c = first_undone_is_next
