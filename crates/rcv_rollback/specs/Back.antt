-- Cells go back to what a book keeps: the ends of their channels first, one after another, and then their parts.
use Rattle.std.specs.Prelude.{◌≡◌, ℕ, ◌+◌, ◌^◌, ◌<◌, ◌≤◌, Bool, false, Option, List, length}
use Rattle.rcv_tree.specs.declared.event.Event.{Event}
use Rattle.rcv_model.specs.Run.{acts, put}
use Rattle.rcv_model.specs.Journal.{own_of, numbers_at, events_of}
use Rattle.rcv_theory.specs.Own.{own_back}
use Rattle.rcv_ring.specs.Lists.{Begins}
use Rattle.rcv_mailbox.specs.Ends.{End, received}
use Rattle.rcv_session.specs.Session.{roles_of, net_for}
use Rattle.rcv_core.specs.Book.{BookView, state_of}
use Rattle.rcv_role.specs.Part.{HasNoStrangers}
use Rattle.rcv_role.specs.Ends.{end_at}
use Rattle.rcv_role.specs.Cell.{CellView, IsSettled, AreJoined, post_to, inbox_from}
use Rattle.rcv_rollback.specs.Halves.{Has, Lacks}

-- What the book keeps of a role, and how much that is.
abbrev pub kept_of : BookView → ℕ → List Event
kept_of book r = events_of r (state_of book).kept

abbrev pub kept_in : BookView → ℕ → ℕ
kept_in book r = length (acts r (state_of book).kept)

abbrev pub clock_in_book : BookView → ℕ → ℕ
clock_in_book book r = (numbers_at (state_of book).roles r).clock

-- The cell of role r can go back to what the book keeps of the role: its first events, with its numbers set. The state
-- after these is held, unless the role stays crashed, and none of those that it goes back to was forgotten.
pub record CanGo (book : BookView) (r : ℕ) (c : CellView) : Type 0 where
  pub setup_is : c.part.setup ≡ book.setup
  pub role_is : c.part.role ≡ r
  pub failed : Bool
  pub back : own_of (state_of book) r ≡ own_back c.part.own (kept_in book r) failed (clock_in_book book r)
  pub made : kept_in book r ≤ length c.part.own.events
  pub base : c.part.base ≤ kept_in book r
  pub held : (own_of (state_of book) r).numbers.crashed ≡ false → kept_in book r ≤ c.part.held
  pub attempt : c.part.own.numbers.attempt + 1 < 2 ^ 32
  pub settled : IsSettled c

-- The cells of a half can go back. They are joined with one another, and what they sent to cells that aren't among them
-- is kept.
pub record CanGoBack (book : BookView) (half : List (Option CellView)) : Type 0 where
  pub count : length half ≡ roles_of book.setup
  pub each : (r : ℕ) (c : CellView) → Has half r c → CanGo book r c
  pub joined : (s r : ℕ) (a b : CellView) → Has half s a → Has half r b → (s ≡ r → ⊥) → AreJoined a b
  pub begun : (s r : ℕ) (a b : CellView) (e : End) → Has half s a → Has half r b → (s ≡ r → ⊥)
      → Begins (inbox_from a b e).list (post_to a b e).list
  pub spared : (r q : ℕ) (c : CellView) → Has half r c → Lacks half q
      → put (net_for book.setup) r q (kept_of book r) ≡ put (net_for book.setup) r q c.part.own.events

-- The cell of role r went back to what the book keeps of the role. Its log is as it was, and it forgot nothing.
pub record HasGone (book : BookView) (r : ℕ) (old new : CellView) : Type 0 where
  pub setup_is : new.part.setup ≡ book.setup
  pub role_is : new.part.role ≡ r
  pub own : own_of (state_of book) r ≡ new.part.own
  pub base : new.part.base ≡ old.part.base
  pub log : new.part.log ≡ old.part.log
  pub settled : IsSettled new
  pub strangers : HasNoStrangers new.part

-- Its post to another role is as it was, and its inbox from there may have gone back alone.
pub record HasGoneAlone (r q : ℕ) (old new : CellView) : Type 0 where
  pub post : (e : End) → end_at new.posts r q e ≡ end_at old.posts r q e
  pub count : ℕ
  pub inbox : (e : End) → end_at new.inboxes r q e ≡ received (end_at old.inboxes r q e) count

-- The cell of role r in one half went back, and stands in the other.
pub record IsBack (book : BookView) (old new : List (Option CellView)) (r : ℕ) (c : CellView) : Type 0 where
  pub cell : CellView
  pub has : Has new r cell
  pub gone : HasGone book r c cell
  pub alone : (q : ℕ) → Lacks old q → HasGoneAlone r q c cell

-- The cells of a half went back, and are joined still; no place that was empty has one.
pub record HaveGoneBack (book : BookView) (old new : List (Option CellView)) : Type 0 where
  pub count : length new ≡ length old
  pub empty : (r : ℕ) → Lacks old r → Lacks new r
  pub each : (r : ℕ) (c : CellView) → Has old r c → IsBack book old new r c
  pub joined : (s r : ℕ) (a b : CellView) → Has new s a → Has new r b → (s ≡ r → ⊥) → AreJoined a b
  pub begun : (s r : ℕ) (a b : CellView) (e : End) → Has new s a → Has new r b → (s ≡ r → ⊥)
      → Begins (inbox_from a b e).list (post_to a b e).list
