-- What a turn of a session and a recovery do, by what they answer.
use Rattle.std.specs.Prelude.{◌≡◌, ◌+◌, ◌%◌, ◌≤◌, ℕ, true, false, Result, Ok, Err}
use Rattle.rcv_model.specs.Final.{IsCompleted, IsLimited}
use Rattle.rcv_session.specs.Session.{rules_of}
use Rattle.rcv_core.specs.Book.{BookView, state_of, HasMore, IsStableLineOf}
use Rattle.rcv_super.specs.Super.{SuperView}
use Rattle.rcv_alone.specs.Steps.{HasStepped}
use Rattle.rcv_super.specs.Steps.{HasGoneOn, HasRecovered}
use Rattle.rcv_super.specs.Rounds.{HasGoneTogether, HasRecoveredAtMost}
use Rattle.rcv_super.specs.declared.session.Turn.{Turn}
use Rattle.rcv_super.specs.declared.session.Turn.TheVariants.{More, Completed, Limited}
use Rattle.rcv_super.specs.declared.session.SessionError.{SessionError}
use Rattle.rcv_super.specs.declared.session.SessionError.TheVariants.{Closed, Memory}

-- An open session at its end: all roles are done, or some role has come to the limit. And one with something left to do.
pub record IsAtCompletion (session : SuperView) : Type 0 where
  pub not_closed : session.closed ≡ false
  pub end : IsCompleted (rules_of session.book.setup) (state_of session.book)

pub record IsAtLimit (session : SuperView) : Type 0 where
  pub not_closed : session.closed ≡ false
  pub end : IsLimited (rules_of session.book.setup) (state_of session.book)

pub record GoesOn (session : SuperView) : Type 0 where
  pub not_closed : session.closed ≡ false
  pub more : HasMore session.book

-- A book at its end, by what a turn answers there.
abbrev pub IsEndOf : BookView → Turn → Type 0
IsEndOf book Completed = IsCompleted (rules_of book.setup) (state_of book)
IsEndOf book Limited = IsLimited (rules_of book.setup) (state_of book)
IsEndOf book More = ⊥

-- A turn was counted. After each 1,024th the line is the book's stable line; otherwise it is what it was.
pub record HasCounted (old new : SuperView) : Type 0 where
  pub turns : new.turns ≡ old.turns + 1
  pub line : new.turns % 1024 ≡ 0 → IsStableLineOf new.book new.stable
  pub stays : (new.turns % 1024 ≡ 0 → ⊥) → new.stable ≡ old.stable

-- No turn was counted, and the line is what it was.
pub record HasNotCounted (old new : SuperView) : Type 0 where
  pub turns : new.turns ≡ old.turns
  pub stable : new.stable ≡ old.stable

-- What a turn of so many workers did. An open session with something left to do goes on by at least one entry: with one worker by the entry
-- that one thread makes, and with several by a round, or by a recovery with what runs beside it. Or memory runs out, and it is closed from
-- then on: its book is as it was, except that with several workers the Recover of a crashed role may stand there.
abbrev pub Turned : ℕ → SuperView → SuperView → Result Turn SessionError → Type 0
Turned workers old new (Ok Completed) = IsAtCompletion old × (new ≡ old)
Turned workers old new (Ok Limited) = IsAtLimit old × (new ≡ old)
Turned workers old new (Ok More) =
    GoesOn old × (new.closed ≡ false) × HasGoneOn old.book new.book × (workers ≡ 1 → HasStepped old.book new.book)
    × (2 ≤ workers → HasGoneTogether old.book new.book) × HasCounted old new
Turned workers old new (Err Closed) = (old.closed ≡ true) × (new ≡ old)
Turned workers old new (Err Memory) =
    GoesOn old × (new.closed ≡ true) × HasRecoveredAtMost old.book new.book
    × (workers ≡ 1 → new.book ≡ old.book) × HasNotCounted old new

-- What a recovery of a crashed role did.
abbrev pub Recovered : ℕ → SuperView → SuperView → Result (Unit {0}) SessionError → Type 0
Recovered role old new (Ok done) =
    (old.closed ≡ false) × (new.closed ≡ false) × HasRecovered old.book new.book role × HasNotCounted old new
Recovered role old new (Err Closed) = (old.closed ≡ true) × (new ≡ old)
Recovered role old new (Err Memory) =
    (old.closed ≡ false) × (new.closed ≡ true) × (new.book ≡ old.book) × HasNotCounted old new
