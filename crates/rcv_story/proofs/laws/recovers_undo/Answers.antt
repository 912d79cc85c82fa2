use Rattle.rcv_story.proofs.Fating.{recover_undoes}
use Rattle.rcv_story.proofs.laws.recovers_undo.Goals as goal

pub returns : goal.returns
returns c = recover_undoes
