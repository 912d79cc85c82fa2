-- A next point is one of the text, and all are alike.
use Rattle.std.proofs.Common.{rules, ◌≡◌}
use Rattle.rcv_role.proofs.Parts.{offered_point, whose_sends, whose_recvs}
use Rattle.rcv_role.proofs.part.Part.partner.Goals as goal

pub sender-sender-requires-clause-first : goal.sender-sender-requires-clause-first
sender-sender-requires-clause-first c = (offered_point _ c.args.self.now c.self.inside.tail c.self.view_is c.self.invariant.0 c.args.offered.now c.requires.offers c.args.first c.requires.among).first

pub sender-sender-requires-clause-last : goal.sender-sender-requires-clause-last
sender-sender-requires-clause-last c = (offered_point _ c.args.self.now c.self.inside.tail c.self.view_is c.self.invariant.0 c.args.offered.now c.requires.offers c.args.first c.requires.among).last

pub returns-then-eq : goal.returns-then-eq
returns-then-eq c =
    let own : c.sender-sender.result ≡ c.self.inside.role = search rules in
    whose_sends _ c.args.self.now c.self.inside.tail c.self.view_is c.self.invariant.0 c.args.offered.now c.requires.offers c.args.first c.sender-sender.result c.requires.among c.sender-sender.ensures own

pub returns-else-eq : goal.returns-else-eq
returns-else-eq c =
    let other : c.sender-sender.result ≡ c.self.inside.role → ⊥ = search rules in
    whose_recvs _ c.args.self.now c.self.inside.tail c.self.view_is c.self.invariant.0 c.args.offered.now c.requires.offers c.args.first c.sender-sender.result c.requires.among c.sender-sender.ensures other
