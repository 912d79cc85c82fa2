-- What contracts see of the ends of a channel, and what they keep.
use Rattle.std.specs.Prelude.{◌≡◌, ℕ, ◌+◌, ◌^◌, ◌<◌, ◌≤◌, List, [], ◌∷◌, ◌++◌, take, drop, length}
use Rattle.std.specs.List.{All}
use Rattle.rcv_tree.specs.declared.event.Message.{Message}
use Rattle.rcv_ring.specs.Points.{CanPass}
use Rattle.rcv_ring.specs.Shown.{RingId, Shown, IsSameEnd, LooksOnce, fresh}

-- The end of the ring below it; the messages that it put and that weren't dropped, or that it took and that weren't
-- dropped; how many of those taken were received; how many messages the channel carries at most without a rewind; how
-- many were dropped, and how many the last rewind left.
pub record End : Type 0 where
  pub base : Shown
  pub list : List Message
  pub got : ℕ
  pub limit : ℕ
  pub dropped : ℕ
  pub rewound : ℕ

-- What a post put, and what an inbox took.
abbrev pub posted : End → List Message
posted post = post.list

abbrev pub fetched : End → List Message
fetched inbox = inbox.list

-- How many messages a post ever sent.
abbrev pub through : End → ℕ
through post = length post.base.sent

-- An end of a new channel.
abbrev pub new_end : RingId → ℕ → ℕ → List ℕ → End
new_end ring room limit points =
    record { base = fresh ring room points; list = []; got = 0; limit = limit; dropped = 0; rewound = 0 }

-- The end with another number of received messages.
abbrev pub received : End → ℕ → End
received inbox n = record inbox { got = n }

-- A post and an inbox are the ends of one channel. The messages that the last rewind left are kept by each of them, and
-- didn't go through the ring again.
pub record IsChannel (post inbox : End) : Type 0 where
  pub ring : inbox.base.ring ≡ post.base.ring
  pub dropped_is : inbox.dropped ≡ post.dropped
  pub rewound_is : inbox.rewound ≡ post.rewound
  pub limit_is : inbox.limit ≡ post.limit
  pub first : take post.rewound inbox.list ≡ take post.rewound post.list

-- The end has its ring, its room, its points and its limit as before.
abbrev pub IsSamePlace : End → End → Type 0
IsSamePlace old new = IsSameEnd old.base new.base × (new.limit ≡ old.limit)

-- Nothing was rewound either.
abbrev pub IsUncut : End → End → Type 0
IsUncut old new = IsSamePlace old new × (new.dropped ≡ old.dropped) × (new.rewound ≡ old.rewound)

-- The other end has done its part of so many messages, counted along `put`, as far as this end knows.
abbrev pub Knows : End → ℕ → Type 0
Knows e n = e.base.known ≡ n + e.dropped

-- A look of this call found so few taken that `room` messages lay in the ring; or so few put that none did.
abbrev pub WasFull : End → End → Type 0
WasFull old new = LooksOnce old.base new.base × (length new.list + new.dropped ≡ new.base.seen + new.base.room)

abbrev pub WasEmpty : End → End → Type 0
WasEmpty old new = LooksOnce old.base new.base × (length new.list + new.dropped ≡ new.base.seen)

-- If some message that was taken isn't received, it is received next, and nothing else changes. Else the front of the ring is taken.
abbrev pub ReceivesAgain : End → End → Type 0
ReceivesAgain old new = old.got < length old.list → new ≡ received old (old.got + 1)

abbrev pub TakesFront : End → End → Message → Type 0
TakesFront old new m = old.got ≡ length old.list → new.list ≡ old.list ++ m ∷ []

-- The list is what went through the ring without what was dropped: as long, and the same after its first `rewound` messages. (Those came
-- through the ring before; what was dropped lies after them there.)
pub record Follows (all : List Message) (dropped rewound : ℕ) (list : List Message) : Type 0 where
  pub count : length all ≡ dropped + length list
  pub within : rewound ≤ length list
  pub behind : drop (dropped + rewound) all ≡ drop rewound list

-- What a post keeps: room is reserved for so many messages, and the limit fits in.
pub record IsPost (base : Shown) (list : List Message) (reserved limit dropped rewound : ℕ) : Type 0 where
  pub follows : Follows base.sent dropped rewound list
  pub room : limit ≤ reserved
  pub few : length list ≤ limit
  pub sent_few : length base.sent ≤ 2 ^ 62

-- What an inbox keeps: room is reserved for as many messages as the limit, and what it took are messages of its points.
pub record IsInbox (base : Shown) (list : List Message) (reserved got limit dropped rewound : ℕ) : Type 0 where
  pub follows : Follows base.taken dropped rewound list
  pub room : limit ≤ reserved
  pub received_few : got ≤ length list
  pub pass : All (CanPass base.points) list

-- What contracts see of what they keep.
abbrev pub post_of : Shown → List Message → ℕ → ℕ → ℕ → End
post_of base list limit dropped rewound =
    record { base = base; list = list; got = 0; limit = limit; dropped = dropped; rewound = rewound }

abbrev pub inbox_of : Shown → List Message → ℕ → ℕ → ℕ → ℕ → End
inbox_of base list got limit dropped rewound =
    record { base = base; list = list; got = got; limit = limit; dropped = dropped; rewound = rewound }
