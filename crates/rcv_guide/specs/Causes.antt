-- Causes of refusals: why something may not be told. Each has a relation.
use Rattle.std.specs.Prelude.{◌≡◌, ℕ, ◌<◌, ◌≤◌, true, false, List, [], ◌∷◌, Some}
use Rattle.rcv_tree.specs.declared.event.Message.{Message}
use Rattle.rcv_guide.specs.declared.cause.Cause.{Cause}
use Rattle.rcv_guide.specs.declared.cause.Cause.TheVariants.{Undeclared, Down, Up, Stale, Full, NotNext, Empty, NotFront, Forgotten}
use Rattle.rcv_guide.specs.declared.news.News.{News}
use Rattle.rcv_guide.specs.Numbers.{numbers_at}
use Rattle.rcv_guide.specs.Guide.{GuideView, net_for, roles_of, stand, most_told, HasRoom, IsAble, IsTurnToSend, IsTurnToReceive, HaveSavedEnough, message, in_channel}

-- The role isn't declared.
abbrev pub IsUndeclared : GuideView → ℕ → Type 0
IsUndeclared g r = roles_of g ≤ r

-- It is declared, and down; and it is declared, and up.
abbrev pub IsDown : GuideView → ℕ → Type 0
IsDown g r = (stand g r).down ≡ Some true

-- It is up, and in another attempt than the one that is told.
pub record IsStale (g : GuideView) (news : News) : Type 0 where
  pub up : (stand g news.role).down ≡ Some false
  pub other : news.attempt ≡ (numbers_at g.numbers news.role).attempt → ⊥

-- It is up in that attempt, and there is no room.
pub record IsFull (g : GuideView) (news : News) : Type 0 where
  pub up : (stand g news.role).down ≡ Some false
  pub attempt : news.attempt ≡ (numbers_at g.numbers news.role).attempt
  pub full : HasRoom g → ⊥

-- It is able, but it isn't its turn to send there; or not its turn to receive there.
pub record IsNotNextToSend (g : GuideView) (news : News) : Type 0 where
  pub able : IsAble g news
  pub turn : IsTurnToSend g news → ⊥

pub record IsNotNextToReceive (g : GuideView) (news : News) : Type 0 where
  pub able : IsAble g news
  pub turn : IsTurnToReceive g news → ⊥

-- It is its turn to receive, but nothing lies in the channel.
pub record IsEmpty (g : GuideView) (news : News) : Type 0 where
  pub able : IsAble g news
  pub turn : IsTurnToReceive g news
  pub nothing : in_channel g ((net_for g).sender news.point) news.role ≡ []

-- It is its turn to receive, but another message is in front.
pub record IsNotFront (g : GuideView) (news : News) (stamp : ℕ) : Type 0 where
  pub able : IsAble g news
  pub turn : IsTurnToReceive g news
  pub front : Message
  pub rest : List Message
  pub there : in_channel g ((net_for g).sender news.point) news.role ≡ front ∷ rest
  pub other : front ≡ message news stamp → ⊥

-- That message isn't in front: there is none, or another one.
abbrev pub IsCauseNotInFront : GuideView → News → ℕ → Cause → Type 0
IsCauseNotInFront g news stamp Empty = IsEmpty g news
IsCauseNotInFront g news stamp NotFront = IsNotFront g news stamp
IsCauseNotInFront g news stamp Undeclared = ⊥
IsCauseNotInFront g news stamp Down = ⊥
IsCauseNotInFront g news stamp Up = ⊥
IsCauseNotInFront g news stamp Stale = ⊥
IsCauseNotInFront g news stamp Full = ⊥
IsCauseNotInFront g news stamp NotNext = ⊥
IsCauseNotInFront g news stamp Forgotten = ⊥

-- Why a role may not make an event, before it is asked which.
abbrev pub IsCauseToStop : GuideView → News → Cause → Type 0
IsCauseToStop g news Undeclared = IsUndeclared g news.role
IsCauseToStop g news Down = IsDown g news.role
IsCauseToStop g news Stale = IsStale g news
IsCauseToStop g news Full = IsFull g news
IsCauseToStop g news Up = ⊥
IsCauseToStop g news NotNext = ⊥
IsCauseToStop g news Empty = ⊥
IsCauseToStop g news NotFront = ⊥
IsCauseToStop g news Forgotten = ⊥

-- Why a Send may not come, and why a Recv may not.
abbrev pub IsCauseNotToSend : GuideView → News → Cause → Type 0
IsCauseNotToSend g news NotNext = IsNotNextToSend g news
IsCauseNotToSend g news Undeclared = IsUndeclared g news.role
IsCauseNotToSend g news Down = IsDown g news.role
IsCauseNotToSend g news Stale = IsStale g news
IsCauseNotToSend g news Full = IsFull g news
IsCauseNotToSend g news Up = ⊥
IsCauseNotToSend g news Empty = ⊥
IsCauseNotToSend g news NotFront = ⊥
IsCauseNotToSend g news Forgotten = ⊥

abbrev pub IsCauseNotToReceive : GuideView → News → ℕ → Cause → Type 0
IsCauseNotToReceive g news stamp NotNext = IsNotNextToReceive g news
IsCauseNotToReceive g news stamp Empty = IsEmpty g news
IsCauseNotToReceive g news stamp NotFront = IsNotFront g news stamp
IsCauseNotToReceive g news stamp Undeclared = IsUndeclared g news.role
IsCauseNotToReceive g news stamp Down = IsDown g news.role
IsCauseNotToReceive g news stamp Stale = IsStale g news
IsCauseNotToReceive g news stamp Full = IsFull g news
IsCauseNotToReceive g news stamp Up = ⊥
IsCauseNotToReceive g news stamp Forgotten = ⊥

-- Why a crash isn't taken.
abbrev pub IsCauseNotToCrash : GuideView → ℕ → Cause → Type 0
IsCauseNotToCrash g p Undeclared = IsUndeclared g p
IsCauseNotToCrash g p Down = IsDown g p
IsCauseNotToCrash g p Full = ((stand g p).down ≡ Some false) × (most_told ≤ g.told)
IsCauseNotToCrash g p Up = ⊥
IsCauseNotToCrash g p Stale = ⊥
IsCauseNotToCrash g p NotNext = ⊥
IsCauseNotToCrash g p Empty = ⊥
IsCauseNotToCrash g p NotFront = ⊥
IsCauseNotToCrash g p Forgotten = ⊥

-- Why a recovery isn't taken.
abbrev pub IsCauseNotToRecover : GuideView → ℕ → List ℕ → Cause → Type 0
IsCauseNotToRecover g p saved Undeclared = IsUndeclared g p
IsCauseNotToRecover g p saved Up = (stand g p).down ≡ Some false
IsCauseNotToRecover g p saved Full = IsDown g p × (most_told ≤ g.told)
IsCauseNotToRecover g p saved Forgotten = IsDown g p × (g.told < most_told) × (HaveSavedEnough g p saved → ⊥)
IsCauseNotToRecover g p saved Down = ⊥
IsCauseNotToRecover g p saved Stale = ⊥
IsCauseNotToRecover g p saved NotNext = ⊥
IsCauseNotToRecover g p saved Empty = ⊥
IsCauseNotToRecover g p saved NotFront = ⊥
