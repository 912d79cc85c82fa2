-- What contracts see of a cell, and how it goes on.
use Rattle.std.specs.Prelude.{◌≡◌, ℕ, ◌+◌, ◌<◌, List, ◌++◌, length, slice_index_or}
use Rattle.rcv_tree.specs.declared.entry.Timed.{Timed}
use Rattle.rcv_tree.specs.declared.event.Event.{Event}
use Rattle.rcv_theory.specs.Own.{IsOwnLog, own_through}
use Rattle.rcv_session.specs.Session.{roles_of, net_for, rules_of}
use Rattle.rcv_ring.specs.Lists.{Begins}
use Rattle.rcv_mailbox.specs.Ends.{End, through, received, Knows, IsChannel}
use Rattle.rcv_role.specs.Part.{PartView, HasNoStrangers, cleared}
use Rattle.rcv_role.specs.Ends.{slot, end_at, IsSettledWith, IsSameAs, AreRewound, OthersStay}

-- The role's part, and its ends, in order of declaration: a post to each other role, and an inbox from each.
pub record CellView : Type 0 where
  pub part : PartView
  pub posts : List End
  pub inboxes : List End

abbrev pub cell_of : PartView → List End → List End → CellView
cell_of p posts inboxes = record { part = p; posts = posts; inboxes = inboxes }

-- The cell with its log cleared.
abbrev pub without_log : CellView → CellView
without_log c = record c { part = cleared c.part }

-- The cell's ends hold what these events say; and they hold what its own events say.
abbrev pub IsSettledAt : CellView → List Event → Type 0
IsSettledAt c events =
    (q : ℕ) (d : End) → q < roles_of c.part.setup → (q ≡ c.part.role → ⊥)
    → IsSettledWith (net_for c.part.setup) c.part.role q events c.part.own.numbers.raw (end_at c.posts c.part.role q d)
    (end_at c.inboxes c.part.role q d)

abbrev pub IsSettled : CellView → Type 0
IsSettled c = IsSettledAt c c.part.own.events

-- The cell tells what it told, except for what its ends know of the others.
pub record HasMet (old new : CellView) : Type 0 where
  pub part : new.part ≡ old.part
  pub posts : (k : ℕ) (d : End) → IsSameAs (slice_index_or old.posts k d) (slice_index_or new.posts k d)
  pub through : (k : ℕ) (d : End) → through (slice_index_or new.posts k d) ≡ through (slice_index_or old.posts k d)
  pub inboxes : (k : ℕ) (d : End) → IsSameAs (slice_index_or old.inboxes k d) (slice_index_or new.inboxes k d)

-- The ends of the channel from one cell to another; and they are the ends of one channel.
abbrev pub post_to : CellView → CellView → End → End
post_to from to d = end_at from.posts from.part.role to.part.role d

abbrev pub inbox_from : CellView → CellView → End → End
inbox_from from to d = end_at to.inboxes to.part.role from.part.role d

abbrev pub AreJoined : CellView → CellView → Type 0
AreJoined from to = (d : End) → IsChannel (post_to from to d) (inbox_from from to d)

-- Both ends of the channel from one cell to another learnt what the other one did: so many messages lie between them.
pub record HaveMet (from from_now to to_now : CellView) (between : ℕ) : Type 0 where
  pub sender : HasMet from from_now
  pub receiver : HasMet to to_now
  pub begins : (d : End) → Begins (inbox_from from to d).list (post_to from to d).list
  pub count : (d : End) → length (post_to from to d).list ≡ length (inbox_from from to d).list + between
  pub inbox_knows : (d : End) → Knows (inbox_from from_now to_now d) (length (post_to from to d).list)
  pub post_knows : (d : End) → Knows (post_to from_now to_now d) (length (inbox_from from to d).list)

-- Both ends of the channel went back, and nothing else changed.
pub record HaveRewound (from from_now to to_now : CellView) (keep drop_from : ℕ) : Type 0 where
  pub sender_part : from_now.part ≡ from.part
  pub sender_inboxes : from_now.inboxes ≡ from.inboxes
  pub other_posts : OthersStay from.posts from_now.posts (slot from.part.role to.part.role)
  pub receiver_part : to_now.part ≡ to.part
  pub receiver_posts : to_now.posts ≡ to.posts
  pub other_inboxes : OthersStay to.inboxes to_now.inboxes (slot to.part.role from.part.role)
  pub rewound : (d : End) → AreRewound (post_to from to d) (post_to from_now to_now d)
      (inbox_from from to d) (inbox_from from_now to_now d) keep drop_from

-- The receiving end went back alone, and nothing else changed.
pub record HasRewoundAlone (old new : CellView) (sender keep : ℕ) : Type 0 where
  pub part : new.part ≡ old.part
  pub posts : new.posts ≡ old.posts
  pub other_inboxes : OthersStay old.inboxes new.inboxes (slot old.part.role sender)
  pub inbox : (d : End)
      → end_at new.inboxes old.part.role sender d ≡ received (end_at old.inboxes old.part.role sender d) keep

-- There is an end. It is for places where one has a name.
pub record IsThere : Type 0 where
  pub end : End

-- The cell went on by these entries. The role may make each of them by its own events and numbers, and the entries turn these
-- into what it has now. The cell forgets nothing, and its ends stay those of the same channels.
pub record Goes (old new : CellView) : Type 0 where
  pub more : List Timed
  pub setup : new.part.setup ≡ old.part.setup
  pub role : new.part.role ≡ old.part.role
  pub base : new.part.base ≡ old.part.base
  pub log : new.part.log ≡ old.part.log ++ more
  pub lawful : IsOwnLog (rules_of old.part.setup) old.part.role old.part.own more
  pub own : new.part.own ≡ own_through old.part.own more
  pub settled : IsSettled new
  pub strangers : HasNoStrangers new.part
  pub posts : (q : ℕ) (d e : End) → q < roles_of old.part.setup → (q ≡ old.part.role → ⊥)
      → IsChannel (end_at old.posts old.part.role q d) e → IsChannel (end_at new.posts old.part.role q d) e
  pub inboxes : (q : ℕ) (d e : End) → q < roles_of old.part.setup → (q ≡ old.part.role → ⊥)
      → IsChannel e (end_at old.inboxes old.part.role q d) → IsChannel e (end_at new.inboxes old.part.role q d)
