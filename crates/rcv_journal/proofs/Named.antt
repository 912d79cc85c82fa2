-- The entries of a legal journal name declared roles and points of the text, of which the roles are the ends.
use Rattle.std.proofs.Common.{◌≡◌, ℕ, ◌<◌, ◌≤◌, List, [], ◌∷◌, length, sym, ◌∙◌, subst}
use Rattle.std.proofs.lemmas.List.{length-set, length-replicate}
use Rattle.std.proofs.lemmas.List.Elements.{All-nil, All-cons}
use Rattle.rcv_tree.specs.declared.event.Event.{Event}
use Rattle.rcv_tree.specs.declared.entry.Entry.{Entry}
use Rattle.rcv_tree.specs.declared.entry.Entry.TheVariants.{Send, Recv, Crash, Recover}
use Rattle.rcv_model.specs.Net.{IsIn}
use Rattle.rcv_model.specs.Next.{IsNext, AreNext, IsProper}
use Rattle.rcv_model.specs.Journal.{State, start, group_of, kept_by, concerned_in, numbers_behind, after, May, IsLegalFrom, IsLegal}
use Rattle.rcv_model.proofs.Forms.{proper}
use Rattle.rcv_model.proofs.Roles.{length_mapped}
use Rattle.rcv_model.proofs.Ways.{ends_declared, next_in_text}
use Rattle.rcv_accept.specs.Accepted.{IsAcceptedProtocol}
use Rattle.rcv_session.specs.Session.{SessionView, text_of, roles_of, net_for, rules_of}
use Rattle.rcv_journal.specs.JournalText.{IsNamedEvent, IsNamed, AreNamed}

-- the ends of each point of an accepted text are declared
pub ends_named : (setup : SessionView) (p : ℕ) → IsAcceptedProtocol setup.protocol → 1 ≤ p → p ≤ (net_for setup).count → ((net_for setup).sender p < roles_of setup) × ((net_for setup).receiver p < roles_of setup)
ends_named setup p plain first last =
    let way = plain.accepted.reached p first last in
    ends_declared (net_for setup) (roles_of setup) p way.0 [] (proper (text_of setup) (roles_of setup) plain.form) way.1

module _ (setup : SessionView) (form : IsProper (net_for setup) (roles_of setup)) where
  at_next : (e : Event) (k : ℕ) (offered : List ℕ) → e.role < roles_of setup → AreNext (net_for setup) e.role k offered → IsIn e.point offered → IsNamedEvent setup e
  at_next e k offered declared next among =
      let n : IsNext (net_for setup) e.role k e.point = next.sound e.point among in
      let inside = next_in_text (net_for setup) (roles_of setup) e.role k e.point form n in
      record { role = declared; first = inside.0; last = inside.1 }

  pub named : (s : State) (e : Entry) → length s.roles ≡ roles_of setup → May (rules_of setup) s e → IsNamed setup e
  named s (Send e) size may = (at_next e _ may.offered may.free.declared may.next may.among, sym (may.sends e.point may.among))
  named s (Recv e) size may = (at_next e _ may.own.offered may.own.free.declared may.own.next may.among, sym (may.own.receives e.point may.among).0)
  named s (Crash p) size may = may.0
  named s (Recover p concerned kept undone) size may = subst (λ n. p < n) size may.crashed.0

  keeps_size : (s : State) (e : Entry) → length s.roles ≡ roles_of setup → length (after (rules_of setup) s e).roles ≡ roles_of setup
  keeps_size s (Send e) size = length-set s.roles e.role _ ∙ size
  keeps_size s (Recv e) size = length-set s.roles e.role _ ∙ size
  keeps_size s (Crash p) size = length-set s.roles p _ ∙ size
  keeps_size s (Recover p concerned kept undone) size =
      length_mapped (numbers_behind s (group_of (rules_of setup) p) (concerned_in (rules_of setup) s p) (kept_by (rules_of setup) s p)) 0 s.roles ∙ size

  named_from : (s : State) (entries : List Entry) → length s.roles ≡ roles_of setup → IsLegalFrom (rules_of setup) s entries → AreNamed setup entries
  named_from s [] size legal = All-nil (IsNamed setup)
  named_from s (e ∷ entries) size legal =
      All-cons (IsNamed setup) e entries (named s e size legal.0) (named_from (after (rules_of setup) s e) entries (keeps_size s e size) legal.1)

pub legal_is_named : (setup : SessionView) (entries : List Entry) → IsAcceptedProtocol setup.protocol → IsLegal (rules_of setup) entries → AreNamed setup entries
legal_is_named setup entries plain legal =
    named_from setup (proper (text_of setup) (roles_of setup) plain.form) (start (roles_of setup)) entries (length-replicate (roles_of setup) _) legal
