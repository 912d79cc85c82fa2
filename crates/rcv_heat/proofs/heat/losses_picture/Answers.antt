-- The cells are the groups that have a title, and the words come first.
use Rattle.std.proofs.Common.{List, map, ◌∙◌, sym, ap, subst}
use Rattle.rcv_picture.specs.declared.group.Group.{Group}
use Rattle.rcv_costs.specs.declared.numbers.Cost.{Cost}
use Rattle.rcv_losses.specs.Totals.{worst_of}
use Rattle.rcv_heat.specs.Heat.{AreCells, title_of}
use Rattle.rcv_heat.specs.Words.{words_in}
use Rattle.rcv_heat.proofs.Cells.{all_titled, their_titles}
use Rattle.rcv_heat.proofs.heat.losses_picture.Goals as goal

pub returns-clause-titles : goal.returns-clause-titles
returns-clause-titles c =
    let session = c.args.setup.now in
    let costs = c.args.costs.now.list.items in
    let cells = c.in_ok-cells.cells.items in
    let are = subst (λ (l : List Cost). AreCells session c.of-grid.result (worst_of l) l cells) c.as_slice-list.ensures.value c.in_ok-cells.ensures in
    ap (λ (gs : List Group). map title_of gs) (c.in_ok-groups.ensures.cells ∙ all_titled session c.of-grid.result (worst_of costs) costs cells are)
    ∙ their_titles session c.of-grid.result (worst_of costs) costs cells are

pub returns-clause-cells : goal.returns-clause-cells
returns-clause-cells c =
    let session = c.args.setup.now in
    let costs = c.args.costs.now.list.items in
    let cells = c.in_ok-cells.cells.items in
    let are = subst (λ (l : List Cost). AreCells session c.of-grid.result (worst_of l) l cells) c.as_slice-list.ensures.value c.in_ok-cells.ensures in
    record {
      grid = c.of-grid.result;
      is_grid = c.of-grid.ensures.grid;
      step_is = c.of-grid.ensures.step;
      cells = subst (AreCells session c.of-grid.result (worst_of costs) costs)
          (sym (c.in_ok-groups.ensures.cells ∙ all_titled session c.of-grid.result (worst_of costs) costs cells are)) are;
    }

pub returns-clause-words : goal.returns-clause-words
returns-clause-words c =
    let first = c.in_ok-groups.ensures.words in
    record {
      title_is = c.in_ok-title.ensures;
      description_is = c.in_ok-foot.ensures;
      words = first.words;
      others = first.others;
      first = first.first;
      words_are = ap words_in first.are ∙ c.in_ok-words.ensures;
    }
