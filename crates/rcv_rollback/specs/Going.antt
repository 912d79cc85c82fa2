-- Cells of a half on their way back: channel after channel, and then part after part.
use Rattle.std.specs.Prelude.{◌≡◌, ℕ, ◌+◌, ◌^◌, ◌<◌, ◌≤◌, ◌==◌, ◌&&◌, ◌||◌, Bool, false, Option, Some, None, List, length, take, slice_get, nat_lt, if◌then◌else◌}
use Rattle.rcv_tree.specs.declared.event.Event.{Event}
use Rattle.rcv_model.specs.Net.{Net}
use Rattle.rcv_model.specs.Run.{put, taken}
use Rattle.rcv_model.specs.Journal.{own_of}
use Rattle.rcv_theory.specs.Own.{own_back}
use Rattle.rcv_ring.specs.Lists.{Begins}
use Rattle.rcv_mailbox.specs.Ends.{End, through}
use Rattle.rcv_session.specs.Session.{roles_of, net_for}
use Rattle.rcv_core.specs.Book.{BookView, state_of}
use Rattle.rcv_role.specs.Part.{PartView, gone_back, cut_back}
use Rattle.rcv_role.specs.Ends.{end_at}
use Rattle.rcv_role.specs.Cell.{CellView, IsSettledAt, AreJoined, post_to, inbox_from, HaveRewound, HasRewoundAlone}
use Rattle.rcv_rollback.specs.Halves.{Has, Lacks}
use Rattle.rcv_rollback.specs.Back.{kept_of, kept_in, clock_in_book, HasGone, HasGoneAlone}

-- All places but one are as they were.
pub record StayBut (old new : List (Option CellView)) (place : ℕ) : Type 0 where
  pub count : length new ≡ length old
  pub others : (k : ℕ) → (k ≡ place → ⊥) → slice_get new k ≡ slice_get old k

-- The channel from one cell to another can go back to these counts; and the receiving end alone can.
pub record CanRewind (from to : CellView) (keep drop_from : ℕ) : Type 0 where
  pub setup : from.part.setup ≡ to.part.setup
  pub apart : from.part.role ≡ to.part.role → ⊥
  pub channel : AreJoined from to
  pub got : (d : End) → keep ≤ (inbox_from from to d).got
  pub order : keep ≤ drop_from
  pub put : (d : End) → drop_from ≤ length (post_to from to d).list

pub record CanRewindAlone (to : CellView) (from keep : ℕ) : Type 0 where
  pub declared : from < roles_of to.part.setup
  pub apart : from ≡ to.part.role → ⊥
  pub got : (d : End) → keep ≤ (end_at to.inboxes to.part.role from d).got

-- The channel between what stands at two places can go back: both its ends, or the receiving one alone.
pub record CanRewindAt (to from : Option CellView) (s keep drop_from : ℕ) : Type 0 where
  pub pair : (a b : CellView) → from ≡ Some a → to ≡ Some b → CanRewind a b keep drop_from
  pub alone : (b : CellView) → from ≡ None → to ≡ Some b → CanRewindAlone b s keep

-- The channel between what stands at two places went back to so many messages, and so many of these are received: both its
-- ends; the receiving one alone if no sender stands there; and neither if no receiver does.
abbrev pub HaveRewoundAt : Option CellView → Option CellView → Option CellView → Option CellView → ℕ → ℕ → ℕ → Type 0
HaveRewoundAt None to_now from from_now s keep drop_from = (to_now ≡ None) × (from_now ≡ from)
HaveRewoundAt (Some b) to_now None from_now s keep drop_from =
    (b' : CellView) × (to_now ≡ Some b') × (from_now ≡ None) × HasRewoundAlone b b' s keep
HaveRewoundAt (Some b) to_now (Some a) from_now s keep drop_from =
    (b' : CellView) × (a' : CellView) × (to_now ≡ Some b') × (from_now ≡ Some a') × HaveRewound a a' b b' keep drop_from

-- The sender stands at place s after a rewind of both.
pub record HasSender (half : List (Option CellView)) (s : ℕ) (from to to_now : CellView) (keep drop_from : ℕ)
    : Type 0 where
  pub from_now : CellView
  pub has : Has half s from_now
  pub rewound : HaveRewound from from_now to to_now keep drop_from

-- So does the receiver at place t; and after a rewind of the receiving end alone.
pub record HasBoth (half : List (Option CellView)) (s t : ℕ) (from to : CellView) (keep drop_from : ℕ) : Type 0 where
  pub to_now : CellView
  pub has : Has half t to_now
  pub sender : HasSender half s from to to_now keep drop_from

pub record HasReceiver (half : List (Option CellView)) (s t : ℕ) (to : CellView) (keep : ℕ) : Type 0 where
  pub to_now : CellView
  pub has : Has half t to_now
  pub rewound : HasRewoundAlone to to_now s keep

-- The channel from place s to place t went back, as far as its ends are in the half.
pub record HasRewoundChannel (old new : List (Option CellView)) (s t keep drop_from : ℕ) : Type 0 where
  pub count : length new ≡ length old
  pub others : (k : ℕ) → (k ≡ s → ⊥) → (k ≡ t → ⊥) → slice_get new k ≡ slice_get old k
  pub none : Lacks old t → (k : ℕ) → slice_get new k ≡ slice_get old k
  pub empty : Lacks old s → Lacks new s
  pub alone : (b : CellView) → Has old t b → Lacks old s → HasReceiver new s t b keep
  pub pair : (a b : CellView) → Has old s a → Has old t b → HasBoth new s t a b keep drop_from

-- What can be told of a cell that goes back, without its ends.
pub record IsGoing (book : BookView) (r : ℕ) (c : CellView) : Type 0 where
  pub setup_is : c.part.setup ≡ book.setup
  pub role_is : c.part.role ≡ r
  pub failed : Bool
  pub back : own_of (state_of book) r ≡ own_back c.part.own (kept_in book r) failed (clock_in_book book r)
  pub made : kept_in book r ≤ length c.part.own.events
  pub base : c.part.base ≤ kept_in book r
  pub held : (own_of (state_of book) r).numbers.crashed ≡ false → kept_in book r ≤ c.part.held
  pub attempt : c.part.own.numbers.attempt + 1 < 2 ^ 32

-- A post holds what these events put on it, and so many events were ever made; an inbox holds what they took from it.
pub record HoldsPut (net : Net) (s r : ℕ) (events : List Event) (raw : ℕ) (post : End) : Type 0 where
  pub put : post.list ≡ put net s r events
  pub through : through post ≤ raw

pub record HoldsTaken (net : Net) (s r : ℕ) (events : List Event) (inbox : End) : Type 0 where
  pub got : inbox.got ≡ length (taken net s r events)
  pub taken : take inbox.got inbox.list ≡ taken net s r events

-- The channel from s to r is one of those that went back before the one from `from` to `to`.
abbrev pub is_passed : ℕ → ℕ → ℕ → ℕ → Bool
is_passed from to s r = nat_lt s from || (s == from && nat_lt r to)

-- What a role's ends of such a channel hold: what the book keeps, or still all that the role did.
abbrev pub by_then : BookView → Bool → ℕ → CellView → List Event
by_then book passed r c = if passed then kept_of book r else c.part.own.events

-- The channels before the one from `from` to `to` went back.
pub record AreGoing (book : BookView) (from to : ℕ) (half : List (Option CellView)) : Type 0 where
  pub count : length half ≡ roles_of book.setup
  pub each : (r : ℕ) (c : CellView) → Has half r c → IsGoing book r c
  pub posts : (r q : ℕ) (c : CellView) (d : End) → Has half r c → q < roles_of book.setup → (q ≡ r → ⊥)
      → HoldsPut (net_for book.setup) r q (by_then book (is_passed from to r q) r c) c.part.own.numbers.raw
      (end_at c.posts r q d)
  pub inboxes : (r q : ℕ) (c : CellView) (d : End) → Has half r c → q < roles_of book.setup → (q ≡ r → ⊥)
      → HoldsTaken (net_for book.setup) q r (by_then book (is_passed from to q r) r c) (end_at c.inboxes r q d)
  pub joined : (s r : ℕ) (a b : CellView) → Has half s a → Has half r b → (s ≡ r → ⊥) → AreJoined a b
  pub begun : (s r : ℕ) (a b : CellView) (e : End) → Has half s a → Has half r b → (s ≡ r → ⊥)
      → Begins (inbox_from a b e).list (post_to a b e).list
  pub spared : (r q : ℕ) (c : CellView) → Has half r c → Lacks half q
      → put (net_for book.setup) r q (kept_of book r) ≡ put (net_for book.setup) r q c.part.own.events

-- What a cell is after a rewind of the channel from s to t.
pub record IsStep (book : BookView) (half : List (Option CellView)) (s t keep r : ℕ) (old new : CellView) : Type 0 where
  pub part : new.part ≡ old.part
  pub posts : (q : ℕ) (d : End) → (q ≡ r → ⊥) → (r ≡ s → q ≡ t → ⊥) → end_at new.posts r q d ≡ end_at old.posts r q d
  pub inboxes : (q : ℕ) (d : End) → (q ≡ r → ⊥) → (r ≡ t → q ≡ s → ⊥)
      → end_at new.inboxes r q d ≡ end_at old.inboxes r q d
  pub spared : (q : ℕ) (d : End) → Lacks half q → end_at new.posts r q d ≡ end_at old.posts r q d
  pub alone : (d : End) → r ≡ t → Lacks half s
      → end_at new.inboxes t s d ≡ record (end_at old.inboxes t s d) { got = keep }
  pub put : (d : End) → r ≡ s
      → HoldsPut (net_for book.setup) s t (kept_of book s) old.part.own.numbers.raw (end_at new.posts s t d)
  pub taken : (d : End) → r ≡ t → HoldsTaken (net_for book.setup) s t (kept_of book t) (end_at new.inboxes t s d)

pub record HasStep (book : BookView) (old new : List (Option CellView)) (s t keep r : ℕ) (c : CellView) : Type 0 where
  pub cell : CellView
  pub has : Has new r cell
  pub step : IsStep book old s t keep r c cell

pub record HaveStepped (book : BookView) (old new : List (Option CellView)) (s t keep : ℕ) : Type 0 where
  pub count : length new ≡ length old
  pub empty : (r : ℕ) → Lacks old r → Lacks new r
  pub each : (r : ℕ) (c : CellView) → Has old r c → HasStep book old new s t keep r c
  pub joined : (a b : CellView) → Has new s a → Has new t b → AreJoined a b
  pub begun : (a b : CellView) (e : End) → Has new s a → Has new t b
      → Begins (inbox_from a b e).list (post_to a b e).list

-- The cell at place r has the log that it had and forgot nothing, and to cells outside its half its post is as it was.
pub record HasMoved (old new : List (Option CellView)) (r : ℕ) (c : CellView) : Type 0 where
  pub cell : CellView
  pub has : Has new r cell
  pub base : cell.part.base ≡ c.part.base
  pub log : cell.part.log ≡ c.part.log
  pub alone : (q : ℕ) → Lacks old q → HasGoneAlone r q c cell

pub record HaveMoved (old new : List (Option CellView)) : Type 0 where
  pub count : length new ≡ length old
  pub empty : (r : ℕ) → Lacks old r → Lacks new r
  pub each : (r : ℕ) (c : CellView) → Has old r c → HasMoved old new r c

-- The part of a cell that goes back.
abbrev pub part_back : Bool → PartView → ℕ → ℕ → PartView
part_back stays p keep clock = if stays then cut_back p keep clock else gone_back p keep clock

-- The part of the cell went back, and its ends are as they were.
pub record HasGoneInPlace (book : BookView) (r : ℕ) (old new : CellView) : Type 0 where
  pub gone : HasGone book r old new
  pub posts : new.posts ≡ old.posts
  pub inboxes : new.inboxes ≡ old.inboxes

-- The part of the cell at a place went back, if one stands there; and no place without a cell got one.
abbrev pub HasGoneAt : BookView → ℕ → Option CellView → Option CellView → Type 0
HasGoneAt book r None new = new ≡ None
HasGoneAt book r (Some c) new = (c' : CellView) × (new ≡ Some c') × HasGoneInPlace book r c c'

-- All channels went back, and so did the parts of the first n cells.
pub record AreGone (book : BookView) (n : ℕ) (half : List (Option CellView)) : Type 0 where
  pub count : length half ≡ roles_of book.setup
  pub left : (r : ℕ) (c : CellView) → Has half r c → n ≤ r → IsGoing book r c × IsSettledAt c (kept_of book r)
  pub gone : (r : ℕ) (c : CellView) → Has half r c → r < n → HasGone book r c c
  pub joined : (s r : ℕ) (a b : CellView) → Has half s a → Has half r b → (s ≡ r → ⊥) → AreJoined a b
  pub begun : (s r : ℕ) (a b : CellView) (e : End) → Has half s a → Has half r b → (s ≡ r → ⊥)
      → Begins (inbox_from a b e).list (post_to a b e).list
