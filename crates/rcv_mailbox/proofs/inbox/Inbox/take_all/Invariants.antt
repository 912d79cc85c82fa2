use Rattle.std.proofs.Common.{◌≡◌, ◌≤◌, ◌+◌, ◌-◌, length}
use Rattle.rcv_mailbox.specs.Ends.{IsChannel, IsUncut}
use Rattle.rcv_mailbox.proofs.inbox.Inbox.take_all.Given as goal

-- each turn takes one of the messages that were held when the ends met
abbrev pub invariant-loop : goal.invariant-loop
invariant-loop l =
    IsChannel l.beside l.self
    × (length l.self.list + (l.held - l.counter) ≡ length l.beside.list)
    × (length l.beside.list ≤ l.self.limit)
    × (length l.beside.list + l.self.dropped ≤ l.self.base.known)
    × (l.self.got ≡ l.initial.self.got)
    × (l.initial.self.base.looks ≤ l.self.base.looks)
    × IsUncut l.initial.self l.self
