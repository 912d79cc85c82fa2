-- Each part goes on behind the one before.
use Rattle.rcv_page.proofs.Adding.{then, adds_same}
use Rattle.rcv_journal.proofs.entries.write_recover.Goals as goal

pub returns : goal.returns
returns g c =
    let name = adds_same _ _ _ _ c.name_of.ensures c.word-2.ensures in
    let front = then (then (then (then c.word.ensures name) c.word-3.ensures) c.number.ensures) c.byte.ensures in
    then (then front c.write_concerned.ensures) c.byte-2.ensures
