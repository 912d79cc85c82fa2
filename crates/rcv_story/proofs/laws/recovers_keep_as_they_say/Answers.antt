use Rattle.rcv_story.proofs.Legal.{keep_as_said}
use Rattle.rcv_story.proofs.laws.recovers_keep_as_they_say.Goals as goal

pub returns : goal.returns
returns c = keep_as_said
