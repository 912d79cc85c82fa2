use Rattle.std.proofs.Common.{◌≡◌, [], ◌∷◌, ap, ◌∙◌, rules}
use Rattle.atomic_table.specs.Table.{rest}
use Rattle.rcv_ring.proofs.Steps.{lifts, releases}
use Rattle.rcv_ring.proofs.end.End.take.Goals as goal

pub load-requires : goal.load-requires
load-requires c = (search rules, search rules, lifts _ _ _ _ _ c.requires.pulls c.requires.between c.requires.more)

pub swap-requires : goal.swap-requires
swap-requires c =
    let view = c.args.self.now.seat.me.0 in
    let bare : rest c.load.new.seat.me.1 ≡ [] = ap rest c.load.ensures.2.2 ∙ c.args.self.now.idle in
    let message = c.slot_mut-message.result.now in
    (search rules, search rules, releases _ _ _ _ _ view c.load.ensures.2.0 message _ (λ i. (c.load.ensures.2.1 i, (c.requires.place i, message) ∷ bare i)) c.requires.pulls c.requires.next)
