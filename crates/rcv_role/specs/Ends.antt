-- The ends of a role's channels, one of each kind for each other role, and what a step does to one of them.
use Rattle.std.specs.Prelude.{◌≡◌, ℕ, ◌+◌, ◌-◌, ◌<◌, ◌≤◌, nat_lt, if◌then◌else◌, Bool, false, Option, Some, is_some, IfSome, List, [], ◌∷◌, ◌++◌, length, take, slice_get, slice_index_or}
use Rattle.rcv_tree.specs.declared.event.Event.{Event}
use Rattle.rcv_tree.specs.declared.event.Message.{Message}
use Rattle.rcv_model.specs.Net.{Net}
use Rattle.rcv_model.specs.Run.{put, taken}
use Rattle.rcv_model.specs.Journal.{Rules}
use Rattle.rcv_ring.specs.Lists.{Begins}
use Rattle.rcv_ring.specs.Points.{HasPoint, CanPass}
use Rattle.rcv_mailbox.specs.Ends.{End, through, Knows, IsChannel, WasFull, WasEmpty, ReceivesAgain, TakesFront}

-- Where the ends between role r and another role q stand in r's lists, in order of declaration.
abbrev pub slot : ℕ → ℕ → ℕ
slot r q = if nat_lt q r then q else q - 1

abbrev pub end_at : List End → ℕ → ℕ → End → End
end_at ends r q d = slice_index_or ends (slot r q) d

-- The post carries all points from r to q.
pub record IsPostTo (rules : Rules) (r q : ℕ) (post : End) : Type 0 where
  pub limit : post.limit ≡ rules.limit
  pub room : post.base.room ≡ rules.room
  pub points : (p : ℕ) → 1 ≤ p → p ≤ rules.net.count → rules.net.sender p ≡ r → rules.net.receiver p ≡ q
      → HasPoint post.base.points p

-- The inbox carries no other points than those from q to r.
pub record IsInboxFrom (rules : Rules) (r q : ℕ) (inbox : End) : Type 0 where
  pub limit : inbox.limit ≡ rules.limit
  pub points : (p : ℕ) → HasPoint inbox.base.points p
      → (p ≤ rules.net.count) × (rules.net.sender p ≡ q) × (rules.net.receiver p ≡ r)

-- An end of each kind for each other role.
pub record AreEnds (rules : Rules) (r : ℕ) (posts inboxes : List End) : Type 0 where
  pub declared : r < rules.roles
  pub post_count : length posts + 1 ≡ rules.roles
  pub inbox_count : length inboxes + 1 ≡ rules.roles
  pub post : (q : ℕ) (d : End) → q < rules.roles → (q ≡ r → ⊥) → IsPostTo rules r q (end_at posts r q d)
  pub inbox : (q : ℕ) (d : End) → q < rules.roles → (q ≡ r → ⊥) → IsInboxFrom rules r q (end_at inboxes r q d)

-- Nothing was sent on the post, and nothing taken from the inbox.
pub record IsFresh (post inbox : End) : Type 0 where
  pub put : post.list ≡ []
  pub sent : post.base.sent ≡ []
  pub taken : inbox.list ≡ []
  pub got : inbox.got ≡ 0

abbrev pub AreFresh : ℕ → ℕ → List End → List End → Type 0
AreFresh roles r posts inboxes =
    (q : ℕ) (d : End) → q < roles → (q ≡ r → ⊥) → IsFresh (end_at posts r q d) (end_at inboxes r q d)

-- The ends between r and q hold what these events of r say: all that it put on the post, and what it received from the
-- inbox, which may hold more. The role ever made so many events.
pub record IsSettledWith (net : Net) (r q : ℕ) (events : List Event) (raw : ℕ) (post inbox : End) : Type 0 where
  pub put : post.list ≡ put net r q events
  pub through : through post ≤ raw
  pub got : inbox.got ≡ length (taken net q r events)
  pub taken : take inbox.got inbox.list ≡ taken net q r events

-- The message went onto the post, or the post was full and holds what it held.
pub record HasSent (old new : End) (m : Message) (sent : Bool) : Type 0 where
  pub list : new.list ≡ (if sent then old.list ++ m ∷ [] else old.list)
  pub through : through new ≤ (if sent then through old + 1 else through old)
  pub full : sent ≡ false → WasFull old new
  pub limit : new.limit ≡ old.limit
  pub room : new.base.room ≡ old.base.room
  pub points : new.base.points ≡ old.base.points
  pub channel : (e : End) → IsChannel old e → IsChannel new e

-- The next message came from the inbox, or it was empty.
pub record HasReceived (old new : End) (o : Option Message) : Type 0 where
  pub got : new.got ≡ (if is_some o then old.got + 1 else old.got)
  pub front : IfSome o (λ m. (slice_get new.list old.got ≡ Some m) × CanPass old.base.points m)
  pub again : ReceivesAgain old new
  pub takes : IfSome o (TakesFront old new)
  pub empty : is_some o ≡ false → (old.got ≡ length old.list) × WasEmpty old new
  pub kept : is_some o ≡ false → new.list ≡ old.list
  pub begins : Begins old.list new.list
  pub limit : new.limit ≡ old.limit
  pub points : new.base.points ≡ old.base.points
  pub channel : (e : End) → IsChannel e old → IsChannel e new

-- The message was put on the post, after all that it held.
pub record HasPut (old new : End) (m : Message) : Type 0 where
  pub list : new.list ≡ old.list ++ m ∷ []

-- The message was received from the inbox. It was the next of those taken before, or else the front of the channel; no other
-- was taken.
pub record HasTaken (old new : End) (m : Message) : Type 0 where
  pub got : new.got ≡ old.got + 1
  pub message : slice_get new.list old.got ≡ Some m
  pub begins : Begins old.list new.list
  pub again : ReceivesAgain old new
  pub front : TakesFront old new m

-- The end stays an end of the same channel, and keeps what its maker gave it.
pub record StaysEnd (old new : End) : Type 0 where
  pub limit : new.limit ≡ old.limit
  pub ring : new.base.ring ≡ old.base.ring
  pub room : new.base.room ≡ old.base.room
  pub points : new.base.points ≡ old.base.points

-- The end tells what it told, except for what it knows of the other end.
pub record IsSameAs (old new : End) : Type 0 where
  pub stays : StaysEnd old new
  pub list : new.list ≡ old.list
  pub got : new.got ≡ old.got
  pub dropped : new.dropped ≡ old.dropped
  pub rewound : new.rewound ≡ old.rewound

-- The ends of a channel went back: the first of the messages that were put stay, and all of those are taken. The first of
-- these are received. Both ends know it, and how many messages were dropped.
pub record AreRewound (post post_now inbox inbox_now : End) (keep drop_from : ℕ) : Type 0 where
  pub begins : Begins inbox.list post.list
  pub put : post_now.list ≡ take drop_from post.list
  pub taken : inbox_now.list ≡ take drop_from post.list
  pub got : inbox_now.got ≡ keep
  pub through : through post_now ≡ through post
  pub post_stays : StaysEnd post post_now
  pub inbox_stays : StaysEnd inbox inbox_now
  pub channel : IsChannel post_now inbox_now
  pub knows : Knows post_now drop_from × Knows inbox_now drop_from
  pub rewound : (post_now.rewound ≡ drop_from) × (inbox_now.rewound ≡ drop_from)
  pub post_dropped : post_now.dropped + drop_from ≡ post.dropped + length post.list
  pub inbox_dropped : inbox_now.dropped + drop_from ≡ inbox.dropped + length post.list

-- All other ends are as they were.
pub record OthersStay (old new : List End) (at : ℕ) : Type 0 where
  pub count : length new ≡ length old
  pub others : (k : ℕ) (d : End) → (k ≡ at → ⊥) → slice_index_or new k d ≡ slice_index_or old k d
