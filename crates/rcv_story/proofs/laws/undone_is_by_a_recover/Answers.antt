use Rattle.rcv_story.proofs.Legal.{undone_by_one}
use Rattle.rcv_story.proofs.laws.undone_is_by_a_recover.Goals as goal

pub returns : goal.returns
returns c = undone_by_one
