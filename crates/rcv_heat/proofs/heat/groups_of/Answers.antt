-- The words come first, and then the counts.
use Rattle.std.proofs.Common.{List, [], ◌∷◌, ◌++◌, ◌∙◌, ap}
use Rattle.rcv_picture.specs.declared.group.Group.{Group}
use Rattle.rcv_heat.proofs.heat.groups_of.Goals as goal

pub returns-clause-words : goal.returns-clause-words
returns-clause-words c = record {
  words = c.untitled.result;
  others = c.untitled-2.result ∷ c.args.cells.items;
  first = c.in_ok-append.ensures.items
      ∙ ap (λ (gs : List Group). gs ++ c.args.cells.items) (c.in_ok-push-2.ensures.items ∙ ap (λ (gs : List Group). gs ++ c.untitled-2.result ∷ []) (c.in_ok-push.ensures.items ∙ ap (λ (gs : List Group). gs ++ c.untitled.result ∷ []) c.new-groups.ensures.items));
  are = c.untitled.ensures.shapes;
}
