-- Three texts.
use Rattle.std.proofs.Common.{◌≡◌, List, subst, OnOk}
use Rattle.rcv_picture.specs.declared.look.Look.TheVariants.{Big, Note}
use Rattle.rcv_heat.specs.Words.{Words, words_in, cell_hint, row_hint}
use Rattle.rcv_heat.proofs.Saying.{three}
use Rattle.rcv_heat.proofs.labels.add_head.Goals as goal

pub returns : goal.returns
returns c =
    let said = three (words_in c.args.shapes.now.items) (words_in c.add_words.new.shapes.items) (words_in c.add_words-2.new.shapes.items) 26 44 58 Big Note Note
    c.in_ok-title.title.items c.in_ok-cells.cells.items c.in_ok-rows.rows.items c.args.title.now cell_hint row_hint
    c.in_ok-add_words.ensures c.in_ok-add_words-2.ensures c.in_ok-title.ensures.items c.in_ok-cells.ensures.items c.in_ok-rows.ensures.items in
    subst (λ (ws : List Words). OnOk c.add_words-3.result (words_in c.add_words-3.new.shapes.items ≡ ws)) said c.add_words-3.ensures
