-- The ends of a point of an accepted text are declared.
use Rattle.std.proofs.Common.{◌<◌, sym, subst}
use Rattle.rcv_session.specs.Session.{roles_of}
use Rattle.rcv_journal.proofs.Named.{ends_named}
use Rattle.rcv_journal.proofs.head.Head.of.Goals as goal

pub beginning-requires-clause-declared : goal.beginning-requires-clause-declared
beginning-requires-clause-declared g c =
    let ends = ends_named c.args.setup.now c.args.point c.protocol-protocol.ensures.accepted c.requires.first c.requires.last in
    subst (λ r. r < roles_of c.args.setup.now) (sym c.sender.ensures) ends.0

pub beginning-requires-2-clause-declared : goal.beginning-requires-2-clause-declared
beginning-requires-2-clause-declared g c =
    let ends = ends_named c.args.setup.now c.args.point c.protocol-protocol.ensures.accepted c.requires.first c.requires.last in
    subst (λ r. r < roles_of c.args.setup.now) (sym c.receiver.ensures) ends.1
