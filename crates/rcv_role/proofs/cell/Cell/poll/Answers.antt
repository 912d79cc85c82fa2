-- A poll that does nothing leaves the cell as it is.
use Rattle.std.proofs.Common.{ap, length, arith}
use Rattle.rcv_role.proofs.Going.{stays_as, tired_polled}
use Rattle.rcv_role.proofs.cell.Cell.poll.Goals as goal

pub returns-in_default-clause-goes : goal.returns-in_default-clause-goes
returns-in_default-clause-goes c = stays_as c.self.inside.part c.self.inside.posts.items c.self.inside.inboxes.items c.args.self.now c.self.view_is c.requires.settled c.known.ensures.strangers

pub returns-then-is_tired-clause-polled : goal.returns-then-is_tired-clause-polled
returns-then-is_tired-clause-polled c =
    tired_polled c.self.inside.part c.self.inside.posts.items c.self.inside.inboxes.items c.args.self.now c.self.view_is c.requires.settled c.known.ensures.strangers c.offered-offered.result.now
    (λ due. absurd (let t = c.due.ensures.1 due in let f = c.if-due.false in cc))
    c.offered-offered.ensures
    (λ none. absurd (let e = ap length none in let le = c.in-len1-up.len_at_least in omega (arith, e, le)))
    (c.is_tired.ensures.0 c.if-is_tired.true)

pub returns-then-is_tired-clause-goes : goal.returns-then-is_tired-clause-goes
returns-then-is_tired-clause-goes c = stays_as c.self.inside.part c.self.inside.posts.items c.self.inside.inboxes.items c.args.self.now c.self.view_is c.requires.settled c.known.ensures.strangers
