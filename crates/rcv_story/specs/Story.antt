-- The story of a journal that is drawn.
use Rattle.rcv_session.specs.Session.{net_for}
use Rattle.rcv_fates.specs.Record.{RecordView}
use Rattle.rcv_story.specs.declared.story.Story.{Story}
use Rattle.rcv_story.specs.Recoveries.{AreRecoveries}
use Rattle.rcv_story.specs.Messages.{AreSendsOf, AreAgain, AreDropped, AreWaiting}

-- The story tells exactly what happens in the entries: the recoveries, and what becomes of the messages.
pub record IsStory (r : RecordView) (story : Story) : Type 0 where
  pub recoveries : AreRecoveries r.entries story.recoveries.items
  pub sends : AreSendsOf (net_for r.setup) r.entries story.sends.items
  pub again : AreAgain (net_for r.setup) r.entries story.again.items
  pub dropped : AreDropped (net_for r.setup) r.entries story.dropped.items
  pub waiting : AreWaiting (net_for r.setup) r.entries story.waiting.items
