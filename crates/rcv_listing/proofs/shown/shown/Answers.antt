-- Next points stand in the text.
use Rattle.std.proofs.Common.{refl}
use Rattle.rcv_points.specs.Follow.{net_in}
use Rattle.rcv_accept.proofs.Rules.{next_in_text}
use Rattle.rcv_listing.proofs.shown.shown.Goals as goal

pub returns-then-is_at_place-clause-text : goal.returns-then-is_at_place-clause-text
returns-then-is_at_place-clause-text c = next_in_text (net_in c.args.points.now) 8 c.args.role c.args.number c.in_ok-look_ahead.field-0.next.items c.in_ok-look_ahead.field-0.next.items refl c.count-count.ensures.within.proper c.in_ok-look_ahead.ensures.next
