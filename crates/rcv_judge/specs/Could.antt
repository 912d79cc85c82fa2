-- What a role can do next after a journal, whether or not its channels have room.
use Rattle.std.specs.Prelude.{◌≡◌, ◌≢◌, ℕ, List, [], Option, MatchOption}
use Rattle.rcv_tree.specs.declared.entry.Entry.{Entry}
use Rattle.rcv_tree.specs.declared.event.Event.{Event}
use Rattle.rcv_model.specs.Net.{IsIn}
use Rattle.rcv_model.specs.Next.{AreNext}
use Rattle.rcv_model.specs.Act.{IsDone}
use Rattle.rcv_model.specs.Journal.{numbers_at, place, MaySend, May}
use Rattle.rcv_theory.specs.Round.{role_of}
use Rattle.rcv_session.specs.Session.{net_for, rules_of}
use Rattle.rcv_core.specs.Book.{BookView, state_of, in_channel}
use Rattle.rcv_core.specs.Book as books
use Rattle.rcv_judge.specs.declared.could.Could.{Could}
use Rattle.rcv_judge.specs.declared.could.Could.TheVariants.{Make, Awaits, Done, AtLimit}

-- This entry is one of the role and may come, and no other entry of the role may.
pub record IsOneOf (book : BookView) (r : ℕ) (e : Entry) : Type 0 where
  pub role : role_of e ≡ r
  pub may : May (rules_of book.setup) (state_of book) e
  pub one : (d : Entry) → role_of d ≡ r → May (rules_of book.setup) (state_of book) d → d ≡ e

-- No entry of the role may come.
abbrev pub NoneMay : BookView → ℕ → Type 0
NoneMay book r = (e : Entry) → role_of e ≡ r → May (rules_of book.setup) (state_of book) e → ⊥

-- The role is done.
abbrev pub IsDoneIn : BookView → ℕ → Type 0
IsDoneIn book r = IsDone (net_for book.setup) r (state_of book).kept

-- The one entry that the role can make. Or there is none, and why: it is done; it isn't, and has made as many events as
-- it may; or neither, and it awaits a message from another role, which hasn't sent it.
abbrev pub IsCould : BookView → ℕ → Could → Type 0
IsCould book r (Make e) = IsOneOf book r e
IsCould book r Done = NoneMay book r × IsDoneIn book r
IsCould book r AtLimit =
    NoneMay book r × (IsDoneIn book r → ⊥) × ((numbers_at (state_of book).roles r).raw ≡ (rules_of book.setup).limit)
IsCould book r (Awaits from) =
    NoneMay book r × (IsDoneIn book r → ⊥) × ((numbers_at (state_of book).roles r).raw ≢ (rules_of book.setup).limit)
    × books.Awaits book r from × (in_channel book from r ≡ [])

-- These are the role's next points, and there are some. The sender sends each; if it is another role, the role itself receives
-- each.
pub record HasSender (book : BookView) (r from : ℕ) : Type 0 where
  pub zs : List ℕ
  pub next : AreNext (net_for book.setup) r (place (state_of book) r) zs
  pub some : zs ≢ []
  pub sends : (z : ℕ) → IsIn z zs → (net_for book.setup).sender z ≡ from
  pub receives : from ≢ r → (z : ℕ) → IsIn z zs → (net_for book.setup).receiver z ≡ r

-- Who sends at the role's next points; none if it is done.
abbrev pub IsNextSender : BookView → ℕ → Option ℕ → Type 0
IsNextSender book r sender = MatchOption sender (IsDoneIn book r) (HasSender book r)

-- The event is one of the role, and a Send that may come.
abbrev pub IsSendOf : BookView → ℕ → Event → Type 0
IsSendOf book r e = (e.role ≡ r) × MaySend (rules_of book.setup) (state_of book) e
