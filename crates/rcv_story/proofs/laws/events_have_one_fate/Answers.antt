use Rattle.rcv_story.proofs.Fating.{one_fate}
use Rattle.rcv_story.proofs.laws.events_have_one_fate.Goals as goal

pub returns : goal.returns
returns c = one_fate
