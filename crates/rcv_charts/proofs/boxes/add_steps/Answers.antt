-- A line more.
use Rattle.std.proofs.Common.{◌∷◌, [], ◌++◌, take, ◌∙◌, ap, append_assoc}
use Rattle.rcv_tree.specs.Lists.{lists_in}
use Rattle.rcv_charts.specs.Titles.{texts_in}
use Rattle.rcv_charts.proofs.Showing.{texts-append, lists_more}
use Rattle.rcv_charts.proofs.boxes.add_steps.Goals as goal

pub loop-step-preserved : goal.loop-step-preserved
loop-step-preserved c =
    let i = c.loop-step.step-index in
    let steps = c.args.steps.now in
    let before = texts_in c.args.shapes.now.items in
    ap texts_in c.in_ok-push.ensures.items ∙ texts-append c.loop-step.shapes.items (c.text.result ∷ [])
    ∙ ap (λ s. texts_in c.loop-step.shapes.items ++ texts_in (s ∷ [])) c.text.ensures
    ∙ ap (λ ws. texts_in c.loop-step.shapes.items ++ ws ∷ []) (c.in_ok-words.ensures.items ∙ c.as_slice.ensures.value)
    ∙ ap (λ ts. ts ++ c.step-item.result.items ∷ []) c.loop-step.invariant
    ∙ append_assoc before (lists_in (take i steps)) (c.step-item.result.items ∷ [])
    ∙ ap (λ ts. before ++ ts) (lists_more steps i c.step-item.result c.loop-step-test.true c.step-item.is)
