-- Each part goes on behind the one before.
use Rattle.rcv_page.proofs.Adding.{then, adds_same}
use Rattle.rcv_journal.proofs.roles.write_role.Goals as goal

pub returns : goal.returns
returns g c =
    let name = adds_same _ _ _ _ c.name_of.ensures c.word-2.ensures in
    let word = adds_same _ _ _ _ c.text_of_word.ensures c.word-5.ensures in
    let kept = then (then (then c.word.ensures name) c.word-3.ensures) c.number.ensures in
    let raw = then (then kept c.word-4.ensures) c.number-2.ensures in
    then (then (then raw c.byte.ensures) word) c.byte-2.ensures
