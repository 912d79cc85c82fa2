use Rattle.rcv_story.proofs.Legal.{kept_are_kept}
use Rattle.rcv_story.proofs.laws.kept_places_are_kept.Goals as goal

pub returns : goal.returns
returns c = kept_are_kept
