-- The name, and then what the crashes come to.
use Rattle.std.proofs.Common.{◌≡◌, Option, List, ◌++◌, ◌∙◌, ap, subst, OnOk, append_assoc}
use Rattle.rcv_costs.specs.declared.numbers.Cost.{Cost}
use Rattle.rcv_losses.specs.Totals.{costs_by, worst_of}
use Rattle.rcv_heat.specs.Heat.{row_of}
use Rattle.rcv_heat.specs.Words.{Words, words_in, names_words, totals_words}
use Rattle.rcv_heat.proofs.labels.add_row.Goals as goal

pub returns : goal.returns
returns c =
    let old = words_in c.args.shapes.now.items in
    let session = c.args.setup.now in
    let role = c.args.role in
    let costs = costs_by role c.args.costs.now in
    let totals = totals_words (row_of role) costs (worst_of costs) in
    subst (λ (ws : List Words). OnOk c.add_totals.result (words_in c.add_totals.new.shapes.items ≡ ws))
    (ap (λ (ws : List Words). ws ++ totals) c.in_ok-add_name.ensures
    ∙ append_assoc old (names_words session c.worst_of.result role) totals
    ∙ ap (λ (o : Option Cost). old ++ (names_words session o role ++ totals)) c.worst_of.ensures)
    c.add_totals.ensures
