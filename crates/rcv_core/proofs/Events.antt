-- An event that may come: its kind is what the entry says, and it is the next one of its role.
use Rattle.std.proofs.Common.{◌≡◌, ap}
use Rattle.rcv_tree.specs.declared.event.Event.{Event}
use Rattle.rcv_tree.specs.declared.event.Dir.{Dir}
use Rattle.rcv_tree.specs.declared.event.Dir.TheVariants.{Sent, Got}
use Rattle.rcv_tree.specs.declared.entry.Entry.TheVariants.{Send, Recv}
use Rattle.rcv_model.specs.Journal.{Rules, State, May, MaySend, MayRecv}
use Rattle.rcv_session.specs.Session.{rules_of}
use Rattle.rcv_ledger.specs.Logs.{entry_of}
use Rattle.rcv_core.specs.Behind.{IsNextEvent}
use Rattle.rcv_core.specs.Book.{BookView, state_of}

pub entry_sent : (rules : Rules) (s : State) (e : Event) → MaySend rules s e → entry_of e.dir e ≡ Send e
entry_sent rules s e may = ap (λ (d : Dir). entry_of d e) may.is_send

pub entry_got : (rules : Rules) (s : State) (e : Event) → MayRecv rules s e → entry_of e.dir e ≡ Recv e
entry_got rules s e may = ap (λ (d : Dir). entry_of d e) may.own.is_recv

pub next_event : (book : BookView) (dir : Dir) (e : Event) → May (rules_of book.setup) (state_of book) (entry_of dir e) → IsNextEvent book e
next_event book Sent e may = record { declared = may.free.declared; next = may.next.sound e.point may.among }
next_event book Got e may = record { declared = may.own.free.declared; next = may.own.next.sound e.point may.among }
