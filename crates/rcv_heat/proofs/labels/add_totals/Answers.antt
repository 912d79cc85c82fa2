-- Three texts, if there is a worst crash.
use Rattle.std.proofs.Common.{◌≡◌, ℕ, ◌+◌, Option, Some, List, ◌++◌, ◌∙◌, ap, subst, OnOk}
use Rattle.rcv_picture.specs.declared.look.Look.TheVariants.{Plain, Note}
use Rattle.rcv_costs.specs.declared.numbers.Cost.{Cost}
use Rattle.rcv_losses.specs.Totals.{costs_by, undone_in_all, kept_in_all}
use Rattle.rcv_heat.specs.Heat.{row_of}
use Rattle.rcv_heat.specs.Words.{Words, words_in, undone_text, restart_text, worst_at_text, totals_words}
use Rattle.rcv_heat.proofs.Saying.{three}
use Rattle.rcv_heat.proofs.labels.add_totals.Goals as goal

pub returns : goal.returns
returns c =
    let old = words_in c.args.shapes.now.items in
    let costs = costs_by c.args.role c.args.costs.now in
    let top = c.row-top.result in
    let said = three old (words_in c.add_words.new.shapes.items) (words_in c.add_words-2.new.shapes.items) (top + 13) (top + 28) (top + 43) Plain Note Note
    c.in_ok-undone.undone.items c.in_ok-restart.restart.items c.in_ok-worst.worst.items
    (undone_text (undone_in_all costs)) (restart_text (kept_in_all costs)) (worst_at_text c.in-Some.worst)
    c.in_ok-add_words.ensures c.in_ok-add_words-2.ensures
    (c.in_ok-undone.ensures ∙ ap undone_text c.undone_by.ensures) (c.in_ok-restart.ensures ∙ ap restart_text c.kept_by.ensures) c.in_ok-worst.ensures in
    let there = ap (λ (y : ℕ). old ++ totals_words y costs (Some c.in-Some.worst)) c.row-top.ensures.value in
    let worst = ap (λ (o : Option Cost). old ++ totals_words (row_of c.args.role) costs o) c.in-Some.ensures in
    subst (λ (ws : List Words). OnOk c.add_words-3.result (words_in c.add_words-3.new.shapes.items ≡ ws)) (said ∙ there ∙ worst) c.add_words-3.ensures
