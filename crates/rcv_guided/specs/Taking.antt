-- What the parts of a failure keep, as functions pass it on.
use Rattle.std.specs.Prelude.{◌≡◌, ℕ, ◌+◌, ◌*◌, ◌<◌, ◌≤◌, nat_lt, None, List, [], length, map, IfSome, slice_index}
use Rattle.std.specs.List.{sum_by}
use Rattle.rcv_tree.specs.Bits.{has_bit}
use Rattle.rcv_tree.specs.declared.entry.Entry.{Entry}
use Rattle.rcv_guide.specs.declared.recovery.Recovery.{Recovery}
use Rattle.rcv_guide.specs.Guide.{terms_of, most_told}
use Rattle.rcv_dialogue.specs.declared.answer.Answer.{Answer}
use Rattle.rcv_dialogue.specs.declared.answer.Answer.TheVariants as answer
use Rattle.rcv_dialogue.specs.declared.answer.Back.{Back}
use Rattle.rcv_dialogue.specs.declared.answer.Undone.{Undone}
use Rattle.rcv_dialogue.specs.declared.few.Failed.{Failed}
use Rattle.rcv_dialogue.specs.declared.line.Flight.{Flight}
use Rattle.rcv_guided.specs.Session.{SessionView, roles_in, forgotten_of, incarnation_of}
use Rattle.rcv_guided.specs.Histories.{GoesOnBy}
use Rattle.rcv_guided.specs.Counts.{made_of, roles_where, with_counts}
use Rattle.rcv_guided.specs.Flights.{flights_to_all}
use Rattle.rcv_guided.specs.Failures.{told_count, IsFirstBelow, is_concerned, back_of, in_turn, FailInTurn, MayRestart}
use Rattle.rcv_guided.specs.declared.taken.Taken.{Taken}

-- The told counts reach what is forgotten.
abbrev pub AreEnough : SessionView → List Failed → Type 0
AreEnough s failed = (r : ℕ) → r < roles_in s → IfSome (told_count failed r) (λ count. forgotten_of s r ≤ count)

-- So many failures can be told: a crash and a recovery of each.
abbrev pub HasRoomFor : SessionView → ℕ → Type 0
HasRoomFor s count = s.guide.told + count ≤ most_told

-- The same protocol and plan, and no more is forgotten; at most so much more is told.
pub record IsStill (old new : SessionView) (count : ℕ) : Type 0 where
  pub protocol : new.guide.protocol ≡ old.guide.protocol
  pub plan : new.guide.plan ≡ old.guide.plan
  pub told : new.guide.told ≤ old.guide.told + count
  pub forgotten : (r : ℕ) → r < roles_in old → forgotten_of new r ≡ forgotten_of old r

-- Failures may be told; and a recovery.
pub record MayFail (s : SessionView) (failed : List Failed) : Type 0 where
  pub above : IsFirstBelow s failed None
  pub room : HasRoomFor s (2 * length failed)

pub record MayRestartNow (s : SessionView) (failed : List Failed) : Type 0 where
  pub may : MayRestart s failed
  pub room : HasRoomFor s 1

-- What was counted of these recoveries.
pub record IsTaken (backs : List Recovery) (taken : Taken) : Type 0 where
  pub undone : taken.undone ≡ sum_by (λ back. back.undone) backs
  pub concerned : (r : ℕ) → r < 8 → has_bit taken.concerned.0 r ≡ is_concerned backs r

-- The roles failed in turn, and this was counted.
pub record HaveTaken (old : SessionView) (failed : List Failed) (taken : Taken) (new : SessionView) : Type 0 where
  pub backs : List Recovery
  pub entries : List Entry
  pub fail : FailInTurn failed (in_turn (terms_of old.guide) [] failed) old backs entries new
  pub taken_is : IsTaken backs taken
  pub history : GoesOnBy old entries new
  pub protocol : new.guide.protocol ≡ old.guide.protocol

-- The answer is what was counted, with who has another incarnation than before, and what is in flight to these.
abbrev pub raised_in : List ℕ → SessionView → List ℕ
raised_in before s = roles_where s (λ r. nat_lt (slice_index before r) (incarnation_of s r))

pub record IsTakenAnswer (before : List ℕ) (taken : Taken) (s : SessionView) (undone : Undone) (back : List Back) (flight : List Flight) : Type 0 where
  pub count : undone.undone ≡ taken.undone
  pub kept_is : undone.kept.now ≡ with_counts (made_of s) (roles_where s (has_bit taken.concerned.0))
  pub back_is : back ≡ map (back_of s) (raised_in before s)
  pub flight_is : flight ≡ flights_to_all s.guide (raised_in before s)

abbrev pub SaysTaken : List ℕ → Taken → SessionView → Answer → Type 0
SaysTaken before taken s (answer.Recovered undone back flight) = IsTakenAnswer before taken s undone back.now flight.now
SaysTaken before taken s _ = ⊥
