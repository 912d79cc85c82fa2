-- The role's point is a place of the role.
use Rattle.std.proofs.Common.{inr, sym, ◌∙◌}
use Rattle.rcv_accept.specs.Accepted.{net_for}
use Rattle.rcv_export.proofs.Tables.{own_is_of}
use Rattle.rcv_export.proofs.role.push_place.Goals as goal

pub place_value-requires-clause-place : goal.place_value-requires-clause-place
place_value-requires-clause-place c = inr (c.requires.first, c.requires.last, own_is_of (net_for c.args.accepted.now) c.args.role c.args.place (sym c.owns.ensures ∙ c.if-owns.true))
