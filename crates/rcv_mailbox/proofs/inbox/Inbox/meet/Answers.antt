use Rattle.std.proofs.Common.{ℕ, subst}
use Rattle.rcv_ring.specs.Lists.{Begins}
use Rattle.rcv_mailbox.specs.Ends.{End, Follows, IsChannel}
use Rattle.rcv_mailbox.proofs.Lists.{begins_channel}
use Rattle.rcv_mailbox.proofs.inbox.Inbox.meet.Goals as goal

pub returns-clause-begins : goal.returns-clause-begins
returns-clause-begins c =
    let a = c.self.inside in
    let b = c.beside.inside in
    let P : End × End → Type 0 = λ z. IsChannel z.1 z.0 → Begins z.0.list z.1.list in
    subst P (λ i. (c.self.view_is i, c.beside.view_is i))
    (λ h. begins_channel b.pusher.sent a.puller.taken b.put.items a.taken.items b.dropped b.rewound c.beside.invariant.follows
    (subst (λ (z : ℕ × ℕ). Follows a.puller.taken z.0 z.1 a.taken.items) (λ i. (h.dropped_is i, h.rewound_is i)) c.self.invariant.follows) h.first c.meet.ensures.begins)
    c.requires
