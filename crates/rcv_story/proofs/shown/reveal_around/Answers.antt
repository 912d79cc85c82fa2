-- The range is around the place.
use Rattle.std.proofs.Common.{refl}
use Rattle.rcv_story.proofs.Showing.{around}
use Rattle.rcv_story.proofs.shown.reveal_around.Goals as goal

pub returns : goal.returns
returns c = around c.args.place c.args.before c.args.after _ _ c.args.shown.now c.reveal.new.shown c.saturating_sub-from.ensures refl c.reveal.ensures
