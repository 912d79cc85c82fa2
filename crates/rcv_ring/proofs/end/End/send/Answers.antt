use Rattle.std.proofs.Common.{◌≡◌, [], ◌∷◌, ap, ◌∙◌, rules}
use Rattle.atomic_table.specs.Table.{rest}
use Rattle.rcv_ring.proofs.Steps.{claims, publishes}
use Rattle.rcv_ring.proofs.end.End.send.Goals as goal

pub load-requires : goal.load-requires
load-requires c = (search rules, search rules, claims _ _ _ _ _ c.requires.pushes c.requires.between c.requires.room)

pub swap-requires : goal.swap-requires
swap-requires c =
    let view = c.args.self.now.seat.me.0 in
    let bare : rest c.load.new.seat.me.1 ≡ [] = ap rest c.load.ensures.2.2 ∙ c.args.self.now.idle in
    let me = c.exchange.ensures.3 ∙ (λ i. (c.load.ensures.2.1 i, (c.requires.place i, c.args.message) ∷ bare i)) in
    (search rules, search rules, publishes _ _ _ _ _ view c.load.ensures.2.0 c.args.message _ me c.requires.pushes c.requires.room c.requires.passes c.requires.next)
