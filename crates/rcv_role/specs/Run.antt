-- What a run did, by what it answers.
use Rattle.std.specs.Prelude.{◌≡◌, ℕ, ◌+◌, ◌<◌, Option, Some, None, List, [], ◌∷◌, ◌++◌, length}
use Rattle.std.specs.List.{All}
use Rattle.rcv_fence.specs.Codes.{code, IsPairOf}
use Rattle.rcv_fence.specs.Shown.{Shown}
use Rattle.rcv_role.specs.declared.poll.Poll.{Poll}
use Rattle.rcv_role.specs.declared.poll.Poll.TheVariants as polls
use Rattle.rcv_role.specs.declared.poll.Stop.{Stop}
use Rattle.rcv_role.specs.declared.poll.Stop.TheVariants.{Waiting, Done, Crashed, Tired, Spent, Fenced}
use Rattle.rcv_role.specs.Part.{PartView, ReachesRole, first_lost}
use Rattle.rcv_role.specs.Cell.{CellView}
use Rattle.rcv_role.specs.Poll.{Polled}

-- The word of the fence is a role's point, and a failure of that role that goes back to it reaches the part's role.
pub record IsFencedBy (p : PartView) (word : ℕ) : Type 0 where
  pub role : ℕ
  pub point : ℕ
  pub pair : IsPairOf word role point
  pub reaches : ReachesRole p.setup role point p.role

-- The word lets the role go on.
abbrev pub LetsPass : PartView → ℕ → Type 0
LetsPass p word = IsFencedBy p word → ⊥

-- So many looks loaded these words, after those that were loaded before, and each of them lets the role go on.
pub record AllPass (p : PartView) (before now : List ℕ) (looks : ℕ) : Type 0 where
  pub words : List ℕ
  pub loaded : now ≡ before ++ words
  pub count : length words ≡ looks
  pub pass : All (LetsPass p) words

-- What a crashed role raises: its first event that it hasn't saved; nothing if it has saved all.
abbrev pub signal : ℕ → Option ℕ → List ℕ
signal r None = []
signal r (Some n) = code r n ∷ []

abbrev pub signal_of : PartView → List ℕ
signal_of p = signal p.role (first_lost p)

-- So many polls, one after the other, made a step each.
pub data Moves (from : CellView) : ℕ → CellView → Type 0 where
  unmoved : Moves from 0 from
  step : {n : ℕ} {a b : CellView} → Moves from n a → Polled a b polls.Moved → Moves from (n + 1) b

-- After some steps, fewer than the turns, a poll answered this. There was a look before each poll, and no look showed a failure
-- that reaches the role.
pub record EndsBy (turns : ℕ) (old new : CellView) (watch now : Shown) (poll : Poll) : Type 0 where
  pub steps : ℕ
  pub few : steps < turns
  pub before : CellView
  pub made : Moves old steps before
  pub last : Polled before new poll
  pub looks : now.looks ≡ watch.looks + steps + 1
  pub passed : AllPass old.part watch.seen now.seen (steps + 1)
  pub unfenced : IsFencedBy old.part now.last → ⊥

-- After some steps, fewer than the turns, a look showed a failure that reaches the role, and no poll came after it. No
-- look before it showed one.
pub record EndsFenced (turns : ℕ) (old new : CellView) (watch now : Shown) : Type 0 where
  pub steps : ℕ
  pub few : steps < turns
  pub made : Moves old steps new
  pub looks : now.looks ≡ watch.looks + steps + 1
  pub seen_before : List ℕ
  pub passed : AllPass old.part watch.seen seen_before steps
  pub loaded : now.seen ≡ seen_before ++ now.last ∷ []
  pub fenced : IsFencedBy old.part now.last
  pub raised : now.raised ≡ watch.raised

-- Each turn made a step, after a look that showed no failure that reaches the role.
pub record EndsSpent (turns : ℕ) (old new : CellView) (watch now : Shown) : Type 0 where
  pub made : Moves old turns new
  pub looks : now.looks ≡ watch.looks + turns
  pub passed : AllPass old.part watch.seen now.seen turns
  pub unfenced : IsFencedBy old.part now.last → ⊥
  pub raised : now.raised ≡ watch.raised

-- Only a crash raises the fence: once, if there is an event that the role hasn't saved.
abbrev pub Ran : ℕ → CellView → CellView → Shown → Shown → Stop → Type 0
Ran turns old new watch now Waiting = EndsBy turns old new watch now polls.Waiting × (now.raised ≡ watch.raised)
Ran turns old new watch now Done = EndsBy turns old new watch now polls.Done × (now.raised ≡ watch.raised)
Ran turns old new watch now Tired = EndsBy turns old new watch now polls.Tired × (now.raised ≡ watch.raised)
Ran turns old new watch now Crashed =
    EndsBy turns old new watch now polls.Crashed × (now.raised ≡ watch.raised ++ signal_of new.part)
Ran turns old new watch now Spent = EndsSpent turns old new watch now
Ran turns old new watch now Fenced = EndsFenced turns old new watch now
