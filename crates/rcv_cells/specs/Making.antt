-- The channels of a new session, role by role.
use Rattle.std.specs.Prelude.{◌≡◌, ℕ, ◌+◌, ◌<◌, ◌≤◌, true, List, [], ◌∷◌, ◌++◌, length, slice_index_or, All}
use Rattle.rcv_tree.specs.Bits.{IsPoint, is_listed}
use Rattle.rcv_model.specs.Net.{Net}
use Rattle.rcv_model.specs.Journal.{Rules}
use Rattle.rcv_ring.specs.Points.{HasPoint}
use Rattle.rcv_mailbox.specs.Ends.{End, IsChannel}
use Rattle.rcv_session.specs.Session.{SessionView}
use Rattle.rcv_role.specs.Part.{first_part}
use Rattle.rcv_role.specs.Ends.{end_at, IsPostTo, IsInboxFrom}
use Rattle.rcv_role.specs.Cell.{CellView, cell_of, IsSettled}
use Rattle.rcv_cells.specs.Home.{cell_at}

-- These are the points from role s to role r among the first n.
pub record ArePointsBetween (net : Net) (s r n : ℕ) (points : List ℕ) : Type 0 where
  pub all : All IsPoint points
  pub sound : (p : ℕ) → is_listed points p ≡ true
      → (1 ≤ p) × (p ≤ n) × (net.sender p ≡ s) × (net.receiver p ≡ r)
  pub complete : (p : ℕ) → 1 ≤ p → p ≤ n → net.sender p ≡ s → net.receiver p ≡ r → is_listed points p ≡ true

-- The set has the points from role s to role r, and no others.
pub record IsSetBetween (net : Net) (s r : ℕ) (words : List ℕ) : Type 0 where
  pub sound : (p : ℕ) → HasPoint words p → (p ≤ net.count) × (net.sender p ≡ s) × (net.receiver p ≡ r)
  pub complete : (p : ℕ) → 1 ≤ p → p ≤ net.count → net.sender p ≡ s → net.receiver p ≡ r → HasPoint words p

-- The channel from role s to role r carries the points from one to the other, and nothing was sent on it.
pub record IsNewChannel (rules : Rules) (s r : ℕ) (post inbox : End) : Type 0 where
  pub channel : IsChannel post inbox
  pub post_is : IsPostTo rules s r post
  pub inbox_is : IsInboxFrom rules r s inbox
  pub put : post.list ≡ []
  pub sent : post.base.sent ≡ []
  pub taken : inbox.list ≡ []
  pub got : inbox.got ≡ 0

-- The ends of a role: a post to each other role, and an inbox from each.
pub record EndsView : Type 0 where
  pub posts : List End
  pub inboxes : List End

abbrev pub no_ends : EndsView
no_ends = record { posts = []; inboxes = [] }

abbrev pub with_ends : EndsView → End → End → EndsView
with_ends ends post inbox = record { posts = ends.posts ++ post ∷ []; inboxes = ends.inboxes ++ inbox ∷ [] }

abbrev pub ends_of : List EndsView → ℕ → EndsView → EndsView
ends_of all r d = slice_index_or all r d

-- The first n roles have the ends of channels among them.
pub record AreOpen (rules : Rules) (n : ℕ) (all : List EndsView) : Type 0 where
  pub count : length all ≡ n
  pub posts : (r : ℕ) (d : EndsView) → r < n → length (ends_of all r d).posts + 1 ≡ n
  pub inboxes : (r : ℕ) (d : EndsView) → r < n → length (ends_of all r d).inboxes + 1 ≡ n
  pub each : (s r : ℕ) (d : EndsView) (e : End) → s < n → r < n → (s ≡ r → ⊥)
      → IsNewChannel rules s r (end_at (ends_of all s d).posts s r e) (end_at (ends_of all r d).inboxes r s e)

-- The first n roles have, and the next one has come to have channels with the first j of them.
pub record AreOpenTo (rules : Rules) (n j : ℕ) (all : List EndsView) (mine : EndsView) : Type 0 where
  pub count : length all ≡ n
  pub few : j ≤ n
  pub posts_done : (r : ℕ) (d : EndsView) → r < j → length (ends_of all r d).posts ≡ n
  pub posts_left : (r : ℕ) (d : EndsView) → j ≤ r → r < n → length (ends_of all r d).posts + 1 ≡ n
  pub inboxes_done : (r : ℕ) (d : EndsView) → r < j → length (ends_of all r d).inboxes ≡ n
  pub inboxes_left : (r : ℕ) (d : EndsView) → j ≤ r → r < n → length (ends_of all r d).inboxes + 1 ≡ n
  pub my_posts : length mine.posts ≡ j
  pub my_inboxes : length mine.inboxes ≡ j
  pub each : (s r : ℕ) (d : EndsView) (e : End) → s < n → r < n → (s ≡ r → ⊥)
      → IsNewChannel rules s r (end_at (ends_of all s d).posts s r e) (end_at (ends_of all r d).inboxes r s e)
  pub to : (q : ℕ) (d : EndsView) (e : End) → q < j
      → IsNewChannel rules q n (end_at (ends_of all q d).posts q n e) (end_at mine.inboxes n q e)
  pub from : (q : ℕ) (d : EndsView) (e : End) → q < j
      → IsNewChannel rules n q (end_at mine.posts n q e) (end_at (ends_of all q d).inboxes q n e)

-- The cells of the first n roles before their first events, with these ends.
pub record AreFirst (setup : SessionView) (n : ℕ) (all : List EndsView) (cells : List CellView) : Type 0 where
  pub count : length cells ≡ n
  pub each : (r : ℕ) (d : CellView) (e : EndsView) → r < n
      → cell_at cells r d ≡ cell_of (first_part setup r) (ends_of all r e).posts (ends_of all r e).inboxes
  pub settled : (r : ℕ) (d : CellView) → r < n → IsSettled (cell_at cells r d)
