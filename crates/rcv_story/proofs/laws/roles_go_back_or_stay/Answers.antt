use Rattle.rcv_story.proofs.Fating.{back_or_stay}
use Rattle.rcv_story.proofs.laws.roles_go_back_or_stay.Goals as goal

pub returns : goal.returns
returns c = back_or_stay
