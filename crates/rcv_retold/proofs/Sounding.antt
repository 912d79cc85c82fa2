-- The entries of a told journal are sound: they name what the protocol declares, stamps grow, and each Recv has one Send.
use Rattle.std.proofs.Common.{ℕ, ◌<◌, ◌^◌, true, false, List, [], ◌∷◌, length, take, sym}
use Rattle.rcv_tree.specs.declared.event.Event.{Event}
use Rattle.rcv_tree.specs.declared.entry.Entry.{Entry}
use Rattle.rcv_tree.specs.declared.entry.Entry.TheVariants.{Send, Recv, Crash, Recover}
use Rattle.rcv_model.specs.Next.{IsNext, IsProper}
use Rattle.rcv_model.proofs.Forms.{proper}
use Rattle.rcv_model.proofs.Ways.{next_in_text}
use Rattle.rcv_accept.specs.Accepted.{IsAcceptedProtocol}
use Rattle.rcv_session.specs.Session.{SessionView, text_of, roles_of, net_for}
use Rattle.rcv_journal.specs.JournalText.{IsNamedEvent, IsNamed}
use Rattle.rcv_told.specs.Told.{Terms, Remembered, nothing_told, told, told_from, told_after, MayBeTold, IsToldFrom, IsTold}
use Rattle.rcv_fates.specs.Record.{IsSound}
use Rattle.rcv_retold.specs.Retold.{terms_for, MayBeRetold, IsRetoldFrom}
use Rattle.rcv_retold.specs.Laws.{RetoldIsTold}
use Rattle.rcv_retold.proofs.Growing.{IsSized, sized_first, sized_after, declared, told_grow}
use Rattle.rcv_retold.proofs.Sending.{told_at, told_one_send}

sized_from : (terms : Terms) (m : Remembered) (entries : List Entry) → IsSized terms m → IsSized terms (told_from terms m entries)
sized_from terms m [] size = size
sized_from terms m (x ∷ entries) size = sized_from terms (told_after terms m x) entries (sized_after terms m x size)

pub sized : (terms : Terms) (entries : List Entry) → IsSized terms (told terms entries)
sized terms entries = sized_from terms (nothing_told terms.roles) entries (sized_first terms)

module _ (setup : SessionView) (form : IsProper (net_for setup) (roles_of setup)) where
  at_next : (e : Event) (k : ℕ) → e.role < roles_of setup → IsNext (net_for setup) e.role k e.point → IsNamedEvent setup e
  at_next e k low n =
      let inside = next_in_text (net_for setup) (roles_of setup) e.role k e.point form n in
      record { role = low; first = inside.0; last = inside.1 }

  named : (m : Remembered) (x : Entry) → IsSized (terms_for setup) m → MayBeTold (terms_for setup) m x → IsNamed setup x
  named m (Send e) size may = (at_next e _ (declared (terms_for setup) m e.role false size may.up) may.next, sym may.sends)
  named m (Recv e) size may = (at_next e _ (declared (terms_for setup) m e.role false size may.up) may.next, sym may.receives)
  named m (Crash p) size may = declared (terms_for setup) m p false size may
  named m (Recover p concerned kept undone) size may = declared (terms_for setup) m p true size may.0

pub told_sound : (setup : SessionView) (entries : List Entry) → IsAcceptedProtocol setup.protocol → length entries < 2 ^ 32 → IsTold (terms_for setup) entries → IsSound setup entries
told_sound setup entries plain few is = record {
  accepted = plain;
  few = few;
  named = λ place e there. named setup (proper (text_of setup) (roles_of setup) plain.form) (told (terms_for setup) (take place entries)) e (sized (terms_for setup) (take place entries)) (told_at (terms_for setup) entries place e is there);
  grow = λ i j d e. told_grow (terms_for setup) entries i j d e is;
  sent = λ t got. told_one_send (terms_for setup) entries is t got;
}

-- what may be told as it stands may be told
pub retold_may : (terms : Terms) (m : Remembered) (e : Entry) → MayBeRetold terms m e → MayBeTold terms m e
retold_may terms m (Send e) may = may
retold_may terms m (Recv e) may = may
retold_may terms m (Crash p) may = may
retold_may terms m (Recover p concerned kept undone) may = (may.0, (_, may.1))

all_told : (terms : Terms) (m : Remembered) (entries : List Entry) → IsRetoldFrom terms m entries → IsToldFrom terms m entries
all_told terms m [] is = tt
all_told terms m (e ∷ entries) is = (retold_may terms m e is.0, all_told terms (told_after terms m e) entries is.1)

pub retold_is_told : RetoldIsTold
retold_is_told terms entries is = all_told terms (nothing_told terms.roles) entries is
