-- Each part goes on behind the one before.
use Rattle.std.proofs.Common.{decimal, ap}
use Rattle.rcv_page.proofs.Adding.{then, adds_same}
use Rattle.rcv_journal.proofs.entries.write_head.Goals as goal

pub returns : goal.returns
returns g c =
    let name = adds_same _ _ _ _ c.name_of.ensures c.word-2.ensures in
    let point = adds_same _ _ _ _ (ap decimal c.point.view_is) c.number.ensures in
    let label = adds_same _ _ _ _ c.label.ensures c.word-3.ensures in
    let front = then (then (then c.word.ensures name) c.byte.ensures) point in
    then (then (then front c.byte-2.ensures) label) c.byte-3.ensures
