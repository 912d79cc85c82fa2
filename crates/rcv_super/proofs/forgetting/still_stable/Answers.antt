-- Stable counts stay stable as legal entries are added.
use Rattle.std.proofs.Common.{subst}
use Rattle.rcv_accept.specs.Accepted.{IsAcceptedProtocol}
use Rattle.rcv_session.specs.Session.{SessionView}
use Rattle.rcv_super.proofs.Bases.{stays_stable}
use Rattle.rcv_super.proofs.forgetting.still_stable.Goals as goal

pub returns : goal.returns
returns c = stays_stable c.requires.before c.args.book.now c.args.line.now (subst (λ (s : SessionView). IsAcceptedProtocol s.protocol) c.setup.ensures c.protocol-protocol.ensures.accepted) c.entries-entries.ensures.legal c.requires.grown c.requires.stable
