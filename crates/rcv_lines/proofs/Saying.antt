-- What no reader of one kind found.
use Rattle.std.proofs.Common.{◌≡◌, ◌<◌, ℕ, List, [], ◌∷◌, codes, decimal}
use Rattle.rcv_tree.specs.declared.event.Event.{Event}
use Rattle.rcv_tree.specs.declared.event.Dir.TheVariants.{Sent, Got}
use Rattle.rcv_tree.specs.declared.entry.Entry.{Entry}
use Rattle.rcv_tree.specs.declared.entry.Entry.TheVariants.{Send, Recv, Crash, Recover}
use Rattle.rcv_tree.specs.declared.role.RoleSet.{RoleSet}
use Rattle.rcv_session.specs.Session.{SessionView, roles_of}
use Rattle.rcv_journal.specs.declared.line.RoleLine.{RoleLine}
use Rattle.rcv_journal.specs.JournalText.{name_of}
use Rattle.rcv_journal.specs.Form.{IsFormedEntry, IsFormedEvent, AreLimited}
use Rattle.rcv_lines.specs.Fields.{end_fields, entry_fields, event_fields, line_fields, role_fields}
use Rattle.rcv_lines.specs.Line.{EndLine, EntryLine, IsFormedLine, IsFormedRoleLine, LineView, RoleLineOf}

pub no_entry : (setup : SessionView) (F : List (List ℕ))
    → ((e : Event) → IsFormedEvent setup Sent e → F ≡ event_fields setup (codes "send") e [] → ⊥)
    → ((e : Event) → IsFormedEvent setup Got e → F ≡ event_fields setup (codes "recv") e ((60 ∷ decimal e.sent) ∷ []) → ⊥)
    → ((r : ℕ) → r < roles_of setup → F ≡ codes "crash" ∷ name_of setup r ∷ [] → ⊥)
    → ((p : ℕ) (concerned : RoleSet) (kept : List ℕ) (undone : ℕ) → IsFormedEntry setup (Recover p concerned kept undone) → F ≡ entry_fields setup (Recover p concerned kept undone) → ⊥)
    → (e : Entry) → IsFormedEntry setup e → F ≡ entry_fields setup e → ⊥
no_entry setup F send recv crash recover (Send e) formed is = send e formed.0 is
no_entry setup F send recv crash recover (Recv e) formed is = recv e formed is
no_entry setup F send recv crash recover (Crash r) formed is = crash r formed is
no_entry setup F send recv crash recover (Recover p concerned kept undone) formed is = recover p concerned kept undone formed is

pub no_line : (setup : SessionView) (F : List (List ℕ))
    → ((e : Entry) → IsFormedEntry setup e → F ≡ entry_fields setup e → ⊥)
    → ((line : RoleLine) → IsFormedRoleLine setup line → F ≡ role_fields setup line → ⊥)
    → ((roles : List ℕ) → AreLimited setup roles → F ≡ end_fields setup roles → ⊥)
    → (said : LineView) → IsFormedLine setup said → F ≡ line_fields setup said → ⊥
no_line setup F entry role end (EntryLine e) formed is = entry e formed is
no_line setup F entry role end (RoleLineOf line) formed is = role line formed is
no_line setup F entry role end (EndLine limited) formed is = end limited formed is
