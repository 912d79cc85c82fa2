-- What a session answers to told events, and what they leave.
use Rattle.std.specs.Prelude.{◌≡◌, ℕ, ◌<◌, ◌≤◌, ◌⊎◌, nat_le, if◌then◌else◌, List, [], ◌∷◌, Option, Some, None, slice_get}
use Rattle.rcv_tree.specs.declared.entry.Entry.{Entry}
use Rattle.rcv_tree.specs.declared.entry.Entry.TheVariants as entry
use Rattle.rcv_tree.specs.declared.event.Message.{Message}
use Rattle.rcv_saves.specs.Counts.{with_count}
use Rattle.rcv_saves.specs.Saves.{told_of, with_told}
use Rattle.rcv_guide.specs.declared.news.News.{News}
use Rattle.rcv_guide.specs.Numbers.{with_crash}
use Rattle.rcv_guide.specs.Guide.{net_for, stand, in_channel, most_told, sent, received, stamp_to_send, stamp_to_receive, with_event, with_numbers, IsTurnToSend, IsTurnToReceive}
use Rattle.rcv_dialogue.specs.Lines.{IsLine}
use Rattle.rcv_dialogue.specs.declared.line.Line.TheVariants as line
use Rattle.rcv_dialogue.specs.declared.line.ToldSend.{ToldSend}
use Rattle.rcv_dialogue.specs.declared.line.ToldRecv.{ToldRecv}
use Rattle.rcv_dialogue.specs.declared.line.ToldSave.{ToldSave}
use Rattle.rcv_dialogue.specs.declared.answer.Answer.{Answer}
use Rattle.rcv_dialogue.specs.declared.answer.Answer.TheVariants as answer
use Rattle.rcv_dialogue.specs.declared.answer.Cause.TheVariants as cause
use Rattle.rcv_dialogue.specs.declared.answer.Stale.TheVariants as stale
use Rattle.rcv_guided.specs.Session.{SessionView, forgotten_of}
use Rattle.rcv_guided.specs.Hearing.{accepted_of, news_of, Agrees, IsHeard, IsUnheard, IsUnchanged, IsUp, IsDown}
use Rattle.rcv_guided.specs.Turns.{IsTurnOf}
use Rattle.rcv_guided.specs.Counts.{made_of}

-- The lines are of the form.
abbrev pub IsToldSend : SessionView → ToldSend → Type 0
IsToldSend s told = IsLine (accepted_of s) (line.Send told)

abbrev pub IsToldRecv : SessionView → ToldRecv → Type 0
IsToldRecv s told = IsLine (accepted_of s) (line.Recv told)

abbrev pub IsToldSave : SessionView → ToldSave → Type 0
IsToldSave s told = IsLine (accepted_of s) (line.Save told)

-- ---- sends

abbrev pub news_of_send : SessionView → ToldSend → News
news_of_send s told = news_of s told.role told.point told.value

-- A send may come: its role is heard, it is the role's turn, and if a stamp is told, it is the right one.
pub record MaySend (s : SessionView) (told : ToldSend) : Type 0 where
  pub heard : IsHeard s told.role told.incarnation
  pub turn : IsTurnToSend s.guide (news_of_send s told)
  pub stamp : Agrees told.stamp (stamp_to_send s.guide told.role)

-- It is taken. The answer is the message's stamp.
pub record IsSent (s : SessionView) (told : ToldSend) (said : Answer) (added : List Entry) (after : SessionView) : Type 0 where
  pub may : MaySend s told
  pub says : said ≡ answer.Sent (stamp_to_send s.guide told.role)
  pub adds : added ≡ entry.Send (sent s.guide (news_of_send s told)) ∷ []
  pub is : after ≡ record s { guide = with_event s.guide (sent s.guide (news_of_send s told)) }

-- It isn't the role's turn, and the answer says what is next for the role; or it is, but the told stamp isn't the right one.
pub record IsNoTurnToSend (s : SessionView) (told : ToldSend) : Type 0 where
  pub heard : IsHeard s told.role told.incarnation
  pub none : IsTurnToSend s.guide (news_of_send s told) → ⊥

pub record IsWrongStampToSend (s : SessionView) (told : ToldSend) (right : ℕ) : Type 0 where
  pub heard : IsHeard s told.role told.incarnation
  pub turn : IsTurnToSend s.guide (news_of_send s told)
  pub other : Agrees told.stamp right → ⊥
  pub is : right ≡ stamp_to_send s.guide told.role

abbrev pub IsMistakenSend : SessionView → ToldSend → Answer → Type 0
IsMistakenSend s told (answer.Illegal (cause.Turn turn)) = IsNoTurnToSend s told × IsTurnOf s told.role turn
IsMistakenSend s told (answer.Illegal (cause.Stamp right)) = IsWrongStampToSend s told right
IsMistakenSend s told _ = ⊥

-- It isn't taken: its role isn't heard, or it is mistaken.
abbrev pub IsRefusalOfSend : SessionView → ToldSend → Answer → Type 0
IsRefusalOfSend s told said = IsUnheard s told.role told.incarnation said ⊎ IsMistakenSend s told said

-- What comes of a send: it is taken; or it isn't, and this is why; or there was no memory for it.
abbrev pub Sends : SessionView → ToldSend → Answer → List Entry → SessionView → Type 0
Sends s told said added after =
    IsSent s told said added after ⊎ ((IsRefusalOfSend s told said ⊎ (said ≡ answer.Memory)) × IsUnchanged s added after)

-- ---- receives

abbrev pub news_of_recv : SessionView → ToldRecv → News
news_of_recv s told = news_of s told.role told.point told.value

-- What lies in the channel from the point's sender.
abbrev pub channel_of : SessionView → ToldRecv → List Message
channel_of s told = in_channel s.guide ((net_for s.guide).sender told.point) told.role

-- A message with this stamp was received before, or its Send was taken back. Either the message is older than the one in front;
-- or none lies in front, and its sender, whose clock this is, has come to that stamp. (Stamps grow along a channel.)
abbrev pub IsPast : List Message → ℕ → ℕ → Type 0
IsPast [] clock stamp = stamp ≤ clock
IsPast (front ∷ rest) clock stamp = stamp < front.stamp

abbrev pub IsPastIn : List Message → ℕ → Option ℕ → Type 0
IsPastIn lies clock None = ⊥
IsPastIn lies clock (Some stamp) = IsPast lies clock stamp

-- The message is old: it is one to this role, and past.
pub record IsOldMessage (s : SessionView) (told : ToldRecv) : Type 0 where
  pub receiver : (net_for s.guide).receiver told.point ≡ told.role
  pub past : IsPastIn (channel_of s told) (stand s.guide ((net_for s.guide).sender told.point)).clock told.sent

-- This message lies in front.
abbrev pub IsFront : SessionView → ToldRecv → Message → Type 0
IsFront s told front = slice_get (channel_of s told) 0 ≡ Some front

-- The stamp of the told message. If it isn't told, it is that of the message in front, or 0 if there is none.
abbrev pub stamp_told : Option ℕ → List Message → ℕ
stamp_told (Some stamp) lies = stamp
stamp_told None [] = 0
stamp_told None (front ∷ rest) = front.stamp

-- This is the told message. Its stamp needn't be told.
pub record IsToldMessage (told : ToldRecv) (front : Message) : Type 0 where
  pub point : front.point ≡ told.point
  pub value : front.value ≡ told.value
  pub sent : Agrees told.sent front.stamp

-- The role is heard, and the message isn't old; and it is the role's turn.
pub record IsNewReceipt (s : SessionView) (told : ToldRecv) : Type 0 where
  pub heard : IsHeard s told.role told.incarnation
  pub fresh : IsOldMessage s told → ⊥

pub record IsTimelyReceipt (s : SessionView) (told : ToldRecv) : Type 0 where
  pub new : IsNewReceipt s told
  pub turn : IsTurnToReceive s.guide (news_of_recv s told)

-- A receive may come: it is the role's turn, a message lies in front, it is the told one, and if the receive's stamp is told,
-- it is the right one.
pub record MayReceive (s : SessionView) (told : ToldRecv) : Type 0 where
  pub timely : IsTimelyReceipt s told
  pub front : Message
  pub lies : IsFront s told front
  pub is : IsToldMessage told front
  pub stamp : Agrees told.stamp (stamp_to_receive s.guide told.role front.stamp)

-- It is taken. The answer is its stamp, and the message's.
pub record IsReceived (s : SessionView) (told : ToldRecv) (said : Answer) (added : List Entry) (after : SessionView) : Type 0 where
  pub may : MayReceive s told
  pub says : said ≡ answer.Received (stamp_to_receive s.guide told.role may.front.stamp) may.front.stamp
  pub adds : added ≡ entry.Recv (received s.guide (news_of_recv s told) may.front.stamp) ∷ []
  pub is : after ≡ record s { guide = with_event s.guide (received s.guide (news_of_recv s told) may.front.stamp) }

-- The message is old.
pub record IsLateReceipt (s : SessionView) (told : ToldRecv) : Type 0 where
  pub heard : IsHeard s told.role told.incarnation
  pub old : IsOldMessage s told

-- It isn't the role's turn.
pub record IsNoTurnToReceive (s : SessionView) (told : ToldRecv) : Type 0 where
  pub new : IsNewReceipt s told
  pub none : IsTurnToReceive s.guide (news_of_recv s told) → ⊥

-- Nothing lies in the channel; or another message than the told one lies in front.
pub record IsTooEarly (s : SessionView) (told : ToldRecv) : Type 0 where
  pub timely : IsTimelyReceipt s told
  pub empty : channel_of s told ≡ []

pub record IsOutOfOrder (s : SessionView) (told : ToldRecv) (front : Message) : Type 0 where
  pub timely : IsTimelyReceipt s told
  pub lies : IsFront s told front
  pub other : IsToldMessage told front → ⊥

-- It is the right message, but the told stamp isn't the right one.
pub record IsWrongStampToReceive (s : SessionView) (told : ToldRecv) (right : ℕ) : Type 0 where
  pub timely : IsTimelyReceipt s told
  pub front : Message
  pub lies : IsFront s told front
  pub told_is : IsToldMessage told front
  pub other : Agrees told.stamp right → ⊥
  pub is : right ≡ stamp_to_receive s.guide told.role front.stamp

-- The answer is the message in front.
pub record SaysFront (s : SessionView) (told : ToldRecv) (said : Answer) : Type 0 where
  pub front : Message
  pub lies : IsFront s told front
  pub says : said ≡ answer.Illegal (cause.Front front)

abbrev pub IsMistakenReceipt : SessionView → ToldRecv → Answer → Type 0
IsMistakenReceipt s told (answer.Stale stale.Message) = IsLateReceipt s told
IsMistakenReceipt s told (answer.Illegal (cause.Turn turn)) = IsNoTurnToReceive s told × IsTurnOf s told.role turn
IsMistakenReceipt s told (answer.Illegal cause.Empty) = IsTooEarly s told
IsMistakenReceipt s told (answer.Illegal (cause.Front front)) = IsOutOfOrder s told front
IsMistakenReceipt s told (answer.Illegal (cause.Stamp right)) = IsWrongStampToReceive s told right
IsMistakenReceipt s told _ = ⊥

abbrev pub IsRefusalOfReceipt : SessionView → ToldRecv → Answer → Type 0
IsRefusalOfReceipt s told said = IsUnheard s told.role told.incarnation said ⊎ IsMistakenReceipt s told said

-- What comes of a receive: it is taken; or it isn't, and this is why; or there was no memory for it.
abbrev pub Receives : SessionView → ToldRecv → Answer → List Entry → SessionView → Type 0
Receives s told said added after =
    IsReceived s told said added after ⊎ ((IsRefusalOfReceipt s told said ⊎ (said ≡ answer.Memory)) × IsUnchanged s added after)

-- ---- saves

-- The session once a role has saved its state after so many events. It keeps nothing of a save within what is forgotten.
abbrev pub with_save : SessionView → ℕ → ℕ → SessionView
with_save s r count =
    if nat_le count (forgotten_of s r) then s
    else record s { saves = with_told s.saves r (with_count count (told_of s.saves r)) }

-- A save may come: its role is heard, and has made so many events.
pub record MaySave (s : SessionView) (told : ToldSave) : Type 0 where
  pub heard : IsHeard s told.role told.incarnation
  pub enough : told.count ≤ made_of s told.role

-- It is taken, and adds nothing to the history.
pub record IsKept (s : SessionView) (told : ToldSave) (said : Answer) (added : List Entry) (after : SessionView) : Type 0 where
  pub may : MaySave s told
  pub says : said ≡ answer.Done
  pub nothing : added ≡ []
  pub is : after ≡ with_save s told.role told.count

-- The role has made fewer events, and the answer says how many.
pub record IsAhead (s : SessionView) (told : ToldSave) (made : ℕ) : Type 0 where
  pub heard : IsHeard s told.role told.incarnation
  pub is : made ≡ made_of s told.role
  pub fewer : made < told.count

abbrev pub IsMistakenSave : SessionView → ToldSave → Answer → Type 0
IsMistakenSave s told (answer.Illegal (cause.Count made)) = IsAhead s told made
IsMistakenSave s told _ = ⊥

abbrev pub IsRefusalOfSave : SessionView → ToldSave → Answer → Type 0
IsRefusalOfSave s told said = IsUnheard s told.role told.incarnation said ⊎ IsMistakenSave s told said

-- What comes of a save: it is taken; or it isn't, and this is why; or there was no memory for it.
abbrev pub HasSaved : SessionView → ToldSave → Answer → List Entry → SessionView → Type 0
HasSaved s told said added after =
    IsKept s told said added after ⊎ ((IsRefusalOfSave s told said ⊎ (said ≡ answer.Memory)) × IsUnchanged s added after)

-- ---- crashes

-- The role was up, and is down.
pub record IsCrashed (s : SessionView) (r : ℕ) (said : Answer) (added : List Entry) (after : SessionView) : Type 0 where
  pub up : IsUp s r
  pub says : said ≡ answer.Done
  pub adds : added ≡ entry.Crash r ∷ []
  pub is : after ≡ record s { guide = with_numbers s.guide (with_crash s.guide.numbers r) }

-- It was down; or it was up, and 2^62 things were told.
abbrev pub IsRefusalOfCrash : SessionView → ℕ → Answer → Type 0
IsRefusalOfCrash s r (answer.Illegal cause.Down) = IsDown s r
IsRefusalOfCrash s r answer.Memory = IsUp s r × (most_told ≤ s.guide.told)
IsRefusalOfCrash s r _ = ⊥

-- What comes of a crash: it is taken; or it isn't, and this is why. It never needs memory.
abbrev pub Crashes : SessionView → ℕ → Answer → List Entry → SessionView → Type 0
Crashes s r said added after = IsCrashed s r said added after ⊎ (IsRefusalOfCrash s r said × IsUnchanged s added after)
