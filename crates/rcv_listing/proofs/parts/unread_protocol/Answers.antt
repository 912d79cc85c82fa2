-- What the reader refuses is the input's first refusal.
use Rattle.std.proofs.Common.{ap, subst}
use Rattle.std.specs.Prelude.{MatchOption}
use Rattle.rcv_found.specs.Grammars.{OfProtocol}
use Rattle.rcv_found.specs.Findings.{IsFindingIn}
use Rattle.rcv_found.specs.declared.finding.Finding.TheVariants.{Taken}
use Rattle.rcv_listing.specs.Unread.{IsUnreadIn}
use Rattle.rcv_listing.proofs.Unreading.{protocol_unread}
use Rattle.rcv_listing.proofs.parts.unread_protocol.Goals as goal

pub returns-in-Some-clause-unread : goal.returns-in-Some-clause-unread
returns-in-Some-clause-unread c = protocol_unread c.args.input.now c.split.result.protocol c.in-Some.unread (ap (λ p. p.protocol) c.split.ensures.parts)
    (subst (λ o. MatchOption o (IsFindingIn OfProtocol c.args.input.now c.split.result.protocol Taken) (IsUnreadIn OfProtocol c.args.input.now c.split.result.protocol))
    c.in-Some.is c.in_ok-found.ensures.unread)
