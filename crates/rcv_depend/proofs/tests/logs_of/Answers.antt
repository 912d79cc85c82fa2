-- Both logs, in order.
use Rattle.std.proofs.Common.{List, [], ◌∷◌, ◌++◌, map, ◌∙◌, ap}
use Rattle.rcv_tree.specs.declared.event.Event.{Event}
use Rattle.rcv_model.specs.Journal.{events_of}
use Rattle.rcv_depend.proofs.tests.logs_of.Goals as goal

pub returns : goal.returns
returns c =
    let first = c.in_ok-first.first in
    let second = c.in_ok-second.second in
    let whole = c.in_ok-push-2.ensures.items ∙ ap (λ l. l ++ second ∷ []) (c.in_ok-push.ensures.items ∙ ap (λ l. l ++ first ∷ []) c.new-logs.ensures.items) in
    ap (λ l. map (λ log. log.items) l) whole ∙ ap (λ (l : List Event). l ∷ second.items ∷ []) c.in_ok-first.ensures ∙ ap (λ (l : List Event). events_of 0 c.args.events.now ∷ l ∷ []) c.in_ok-second.ensures
