-- The entries that are shown name declared roles and points.
use Rattle.std.proofs.Common.{ℕ, ◌<◌, subst}
use Rattle.rcv_tree.specs.declared.entry.Entry.{Entry}
use Rattle.rcv_tree.specs.declared.entry.Entry.TheVariants.{Send, Recv, Crash, Recover}
use Rattle.rcv_model.specs.Next.{IsProper}
use Rattle.rcv_model.specs.Journal.{May, IsLegal}
use Rattle.rcv_model.proofs.Forms.{proper}
use Rattle.rcv_model.proofs.Numbers.{bounded}
use Rattle.rcv_model.proofs.Ways.{next_in_text}
use Rattle.rcv_theory.specs.Round.{role_of}
use Rattle.rcv_accept.specs.Accepted.{IsAcceptedProtocol}
use Rattle.rcv_session.specs.Session.{SessionView, text_of, roles_of, net_for, rules_of}
use Rattle.rcv_core.specs.Book.{BookView, state_of}
use Rattle.rcv_journal.specs.JournalText.{IsNamed, IsDeclared}
use Rattle.rcv_journal.proofs.Named.{ends_named, named}
use Rattle.rcv_journal.specs.Form.{IsFormedEntry}
use Rattle.rcv_journal.specs.Recorded.{bare}
use Rattle.rcv_judge.specs.declared.could.Could.{Could}
use Rattle.rcv_judge.specs.declared.could.Could.TheVariants.{Make, Awaits, Done, AtLimit}
use Rattle.rcv_judge.specs.Could.{IsCould}
use Rattle.rcv_diagnosis.specs.Making.{IsShown}

-- an entry of the form
pub formed_is_declared : (session : SessionView) (e : Entry) → IsFormedEntry (bare session.protocol) e → IsDeclared session e
formed_is_declared session (Send e) is = let n = is.0.named in record { role = n.role; first = n.first; last = n.last }
formed_is_declared session (Recv e) is = let n = is.named in record { role = n.role; first = n.first; last = n.last }
formed_is_declared session (Crash p) is = is
formed_is_declared session (Recover p concerned kept undone) is = is.role

pub declared_role : (session : SessionView) (e : Entry) → IsDeclared session e → role_of e < roles_of session
declared_role session (Send e) is = is.role
declared_role session (Recv e) is = is.role
declared_role session (Crash p) is = is
declared_role session (Recover p concerned kept undone) is = is

named_is_declared : (session : SessionView) (e : Entry) → IsNamed session e → IsDeclared session e
named_is_declared session (Send e) is = is.0
named_is_declared session (Recv e) is = is.0
named_is_declared session (Crash p) is = is
named_is_declared session (Recover p concerned kept undone) is = is

-- an entry that may come
pub may_is_declared : (book : BookView) → IsAcceptedProtocol book.setup.protocol → IsLegal (rules_of book.setup) book.entries → (e : Entry) → May (rules_of book.setup) (state_of book) e → IsDeclared book.setup e
may_is_declared book plain legal e may =
    named_is_declared book.setup e (named book.setup (proper (text_of book.setup) (roles_of book.setup) plain.form) (state_of book) e (bounded (rules_of book.setup) book.entries legal).numbers may)

-- what a role could do
pub is_shown : (book : BookView) → IsAcceptedProtocol book.setup.protocol → IsLegal (rules_of book.setup) book.entries → (r : ℕ) (could : Could) → IsCould book r could → IsShown book.setup could
is_shown book plain legal r (Make e) is = may_is_declared book plain legal e is.may
is_shown book plain legal r (Awaits from) is =
    let next = is.3.some in
    let known : IsProper (net_for book.setup) (roles_of book.setup) = proper (text_of book.setup) (roles_of book.setup) plain.form in
    let inside = next_in_text (net_for book.setup) (roles_of book.setup) r _ next.0 known next.1 in
    subst (λ q. q < roles_of book.setup) (is.3.receives next.0 next.1).1 (ends_named book.setup next.0 plain inside.0 inside.1).0
is_shown book plain legal r Done is = tt
is_shown book plain legal r AtLimit is = tt
