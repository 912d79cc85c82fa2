-- A session's house between its turns, and what a turn of so many workers comes to.
use Rattle.std.specs.Prelude.{◌≡◌, ℕ, ◌≤◌, List}
use Rattle.rcv_session.specs.Session.{roles_of}
use Rattle.rcv_core.specs.Book.{BookView, HasMore}
use Rattle.rcv_alone.specs.Steps.{HasStepped}
use Rattle.rcv_cells.specs.declared.house.House.{House}
use Rattle.rcv_cells.specs.Home.{AreHome, HaveBases, SameBases}
use Rattle.rcv_super.specs.declared.whereabouts.Whereabouts.{Whereabouts}
use Rattle.rcv_super.specs.Super.{HasWatches, Stands}
use Rattle.rcv_super.specs.Bases.{IsStableIn, AreBased}
use Rattle.rcv_super.specs.Steps.{HasGoneOn}
use Rattle.rcv_super.specs.Rounds.{HasGoneTogether, HasRecoveredAtMost}

-- Something is left to do, the cells stand there with this line, which is stable, and each worker has a watch of the one fence.
pub record CanTurn (at : Whereabouts) (line : List ℕ) (house : House) : Type 0 where
  pub more : HasMore house.book
  pub stands : Stands at house.book line house.lanes.items
  pub stable : IsStableIn house.book line
  pub watched : HasWatches house.watch house.watches.items

-- The cells are at home, and have forgotten no state that a recovery can ask for; and each worker has a watch.
pub record IsInOrder (house : House) : Type 0 where
  pub home : AreHome house.book house.lanes.items
  pub based : AreBased house.book house.lanes.items
  pub watched : HasWatches house.watch house.watches.items

-- They are at home, and have forgotten the states before this line, and no others.
pub record IsInOrderAt (line : List ℕ) (house : House) : Type 0 where
  pub home : AreHome house.book house.lanes.items
  pub bases : HaveBases (roles_of house.book.setup) line house.lanes.items
  pub watched : HasWatches house.watch house.watches.items

-- They are at home again, and none of them forgot anything.
pub record StaysInOrder (old new : House) : Type 0 where
  pub home : AreHome new.book new.lanes.items
  pub bases : SameBases old.lanes.items new.lanes.items
  pub watched : HasWatches new.watch new.watches.items

-- A turn added an entry at least: with one worker the one that one thread makes, and with several what a round made, or a recovery with what
-- ran beside it.
pub record HasMadeTurn (workers : ℕ) (old new : BookView) : Type 0 where
  pub gone_on : HasGoneOn old new
  pub alone : workers ≡ 1 → HasStepped old new
  pub together : 2 ≤ workers → HasGoneTogether old new

-- Memory ran out in it: with one worker the book is as it was, and with several the Recover of the least crashed role may stand there.
pub record HasFailed (workers : ℕ) (old new : BookView) : Type 0 where
  pub at_most : HasRecoveredAtMost old new
  pub same : workers ≡ 1 → new ≡ old
