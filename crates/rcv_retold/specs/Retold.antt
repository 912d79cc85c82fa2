-- Told journals: what may be told again as it stands, and what it does to a guide.
use Rattle.std.specs.Prelude.{◌≡◌, ℕ, ◌+◌, ◌<◌, ◌≤◌, true, List, [], ◌∷◌, length, take, Some, slice_get, slice_index}
use Rattle.rcv_tree.specs.declared.event.Event.{Event}
use Rattle.rcv_tree.specs.declared.entry.Entry.{Entry}
use Rattle.rcv_tree.specs.declared.entry.Entry.TheVariants.{Send, Recv, Crash, Recover}
use Rattle.rcv_tree.specs.declared.protocol.Protocol.{Protocol}
use Rattle.rcv_model.specs.Text.{body_of}
use Rattle.rcv_model.specs.Journal.{events_of}
use Rattle.rcv_model.specs.Plan.{host_in}
use Rattle.rcv_session.specs.Session.{SessionView, roles_of, net_for}
use Rattle.rcv_ledger.specs.Logs.{log_at, with_event_of}
use Rattle.rcv_told.specs.Told.{Terms, Remembered, nothing_told, told, told_after, down_at, HasFailed, MayBeTold}
use Rattle.rcv_guide.specs.declared.news.News.{News}
use Rattle.rcv_guide.specs.Numbers.{numbers_at}
use Rattle.rcv_guide.specs.Guide.{GuideView, terms_of, IsMemory, IsAfter}
use Rattle.rcv_retold.specs.Stamps.{stamps_at, stamps_of}

-- The terms by which a session's roles are told. Its scripts aren't part of them.
abbrev pub terms_for : SessionView → Terms
terms_for session = record { net = net_for session; roles = roles_of session; host = host_in session.plan }

-- Both protocols have the same roles and the same text.
pub record HasSameText (p q : Protocol) : Type 0 where
  pub names : p.roles ≡ q.roles
  pub bodies : body_of p.body ≡ body_of q.body

-- The session with this protocol instead of its own.
abbrev pub with_protocol : SessionView → Protocol → SessionView
with_protocol session protocol = record session { protocol = protocol }

-- An entry may be told as it stands. A recovery must take back exactly what it states, if each failed role has saved as many
-- events as it states of it, and no more.
abbrev pub MayBeRetold : Terms → Remembered → Entry → Type 0
MayBeRetold terms m (Send e) = MayBeTold terms m (Send e)
MayBeRetold terms m (Recv e) = MayBeTold terms m (Recv e)
MayBeRetold terms m (Crash p) = MayBeTold terms m (Crash p)
MayBeRetold terms m (Recover p concerned kept undone) =
    (down_at m p ≡ Some true) × HasFailed terms m p (slice_index kept) concerned kept undone

-- Each of these entries may be told as it stands, after those before it.
abbrev pub IsRetoldFrom : Terms → Remembered → List Entry → Type 0
IsRetoldFrom terms m [] = Unit {0}
IsRetoldFrom terms m (e ∷ entries) = MayBeRetold terms m e × IsRetoldFrom terms (told_after terms m e) entries

abbrev pub IsRetold : Terms → List Entry → Type 0
IsRetold terms entries = IsRetoldFrom terms (nothing_told terms.roles) entries

-- The entry with number k, counted from 0, is the first that may not be told as it stands.
pub record IsFirstUntold (terms : Terms) (entries : List Entry) (k : ℕ) : Type 0 where
  pub inside : k < length entries
  pub before : IsRetold terms (take k entries)
  pub wrong : (e : Entry) → slice_get entries k ≡ Some e → MayBeRetold terms (told terms (take k entries)) e → ⊥

-- What is told of an event, in the attempt that its role is in.
abbrev pub news_for : GuideView → Event → News
news_for g e = record { role = e.role; attempt = (numbers_at g.numbers e.role).attempt; point = e.point; value = e.value }

-- What an entry does to the logs of a guide.
abbrev pub Follows : List (List Event) → List (List Event) → Entry → Type 0
Follows old new (Send e) = new ≡ with_event_of old e.role e
Follows old new (Recv e) = new ≡ with_event_of old e.role e
Follows old new (Crash p) = new ≡ old
Follows old new (Recover p concerned kept undone) = (r : ℕ) → (n : ℕ) × (log_at new r ≡ take n (log_at old r))

-- A guide was told an entry.
pub record GoesOn (old new : GuideView) (e : Entry) : Type 0 where
  pub after : IsAfter old new e
  pub protocol : new.protocol ≡ old.protocol
  pub plan : new.plan ≡ old.plan
  pub room : new.room ≡ old.room
  pub used : new.used ≤ old.used + 1
  pub told : new.told ≤ old.told + 1
  pub logs : Follows old.logs new.logs e

-- The entry may not be told to this guide, whatever its memory is.
abbrev pub IsUntold : GuideView → Entry → Type 0
IsUntold g e = (m : Remembered) → IsMemory g m → MayBeRetold (terms_of g) m e → ⊥

abbrev pub IsTellable : GuideView → Entry → Type 0
IsTellable g e = (m : Remembered) → IsMemory g m → MayBeRetold (terms_of g) m e

-- The guide has a memory, and nothing of it is forgotten.
pub record HasWhole (g : GuideView) : Type 0 where
  pub memory : Remembered
  pub is : IsMemory g memory
  pub forgotten : (r : ℕ) → slice_index memory.forgotten r ≡ 0
  pub seeds : (r : ℕ) → slice_index memory.seeds r ≡ 0

-- For each role, the stamps of the events that are held at the end of these entries.
pub record HasStamps (session : SessionView) (entries : List Entry) (lists : List (List ℕ)) : Type 0 where
  pub count : length lists ≡ roles_of session
  pub each : (r : ℕ) → r < roles_of session → stamps_at lists r ≡ stamps_of (events_of r (told (terms_for session) entries).held)
