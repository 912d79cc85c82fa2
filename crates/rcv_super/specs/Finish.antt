-- What the turns of a session come to.
use Rattle.std.specs.Prelude.{◌≡◌, ℕ, ◌%◌, ◌<◌, ◌≤◌, true, false, List, Result, Ok, Err}
use Rattle.rcv_tree.specs.declared.entry.Entry.{Entry}
use Rattle.rcv_core.specs.Book.{BookView, with_more, IsAtEnd, EndsAlone}
use Rattle.rcv_cells.specs.Home.{HasGrown}
use Rattle.rcv_super.specs.Super.{SuperView}
use Rattle.rcv_super.specs.Turn.{HasNotCounted}
use Rattle.rcv_super.specs.declared.session.SessionError.{SessionError}
use Rattle.rcv_super.specs.declared.session.SessionError.TheVariants.{Closed, Memory}

-- So many workers brought a session to its end: entries were added to its book, and nothing is left to do. One worker
-- added those that one thread does.
pub record HasFinished (workers : ℕ) (old new : BookView) : Type 0 where
  pub more : List Entry
  pub added : new ≡ with_more old more
  pub end : IsAtEnd new
  pub alone : workers ≡ 1 → EndsAlone old new

-- What one worker's run to the end by the book alone did: an open session stays open, and has come to its end as one thread comes there,
-- without a turn. It needs no memory.
abbrev pub FinishedAlone : SuperView → SuperView → Result (Unit {0}) SessionError → Type 0
FinishedAlone old new (Ok done) =
    (old.closed ≡ false) × (new.closed ≡ false) × HasFinished 1 old.book new.book × HasNotCounted old new
FinishedAlone old new (Err Closed) = (old.closed ≡ true) × (new ≡ old)
FinishedAlone old new (Err Memory) = ⊥

-- Turns were counted, or none; and if none of these was a 1,024th one, the line is what it was.
pub record HasTurned (old new : SuperView) : Type 0 where
  pub turns : old.turns ≤ new.turns
  pub stays : ((n : ℕ) → old.turns < n → n ≤ new.turns → n % 1024 ≡ 0 → ⊥) → new.stable ≡ old.stable

-- What a run to the end did: an open session came to its end and stays open, or ran out of memory and is closed from then on.
abbrev pub Finished : ℕ → SuperView → SuperView → Result (Unit {0}) SessionError → Type 0
Finished workers old new (Ok done) =
    (old.closed ≡ false) × (new.closed ≡ false) × HasFinished workers old.book new.book × HasTurned old new
Finished workers old new (Err Closed) = (old.closed ≡ true) × (new ≡ old)
Finished workers old new (Err Memory) =
    (old.closed ≡ false) × (new.closed ≡ true) × HasGrown old.book new.book × HasTurned old new
