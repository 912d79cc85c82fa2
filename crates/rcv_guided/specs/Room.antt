-- Steps of making room.
use Rattle.std.specs.Prelude.{◌≡◌, ℕ, ◌*◌, ◌<◌, replicate}
use Rattle.rcv_saves.specs.Counts.{above}
use Rattle.rcv_saves.specs.Saves.{SavesView, told_of}
use Rattle.rcv_guide.specs.Numbers.{numbers_at}
use Rattle.rcv_guide.specs.Guide.{GuideView, roles_of, HasForgotten}
use Rattle.rcv_guided.specs.Session.{SessionView}

-- What is told of each role's saves is what was told above its forgotten events.
pub record HaveForgotten (g : GuideView) (old new : SavesView) : Type 0 where
  pub steps : new.steps ≡ old.steps
  pub saved : (r : ℕ) → r < roles_of g → told_of new r ≡ above (numbers_at g.numbers r).forgotten (told_of old r)

-- There is twice the room, and nothing more is forgotten.
pub record HasGrown (old new : SessionView) : Type 0 where
  pub forgotten : HasForgotten old.guide new.guide (replicate 8 0) (2 * old.guide.room)
  pub rest : new ≡ record old { guide = new.guide }
