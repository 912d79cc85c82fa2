-- The words of a box.
use Rattle.std.proofs.Common.{◌∷◌, [], ◌++◌, ◌∙◌, ap}
use Rattle.rcv_tree.specs.Lists.{lists_in}
use Rattle.rcv_charts.specs.Titles.{texts_in}
use Rattle.rcv_charts.specs.StateTitles.{act_word}
use Rattle.rcv_charts.proofs.Showing.{texts-append}
use Rattle.rcv_charts.proofs.boxes.group_of.Goals as goal

pub returns-clause-shown : goal.returns-clause-shown
returns-clause-shown c =
    let word = act_word c.args.state.now.act in
    let head = c.in_ok-head.head.items in
    let pushed = ap texts_in c.in_ok-push.ensures.items ∙ texts-append c.in_ok-shapes.shapes.items (c.text.result ∷ []) ∙ ap (λ ts. ts ++ texts_in (c.text.result ∷ [])) c.in_ok-shapes.ensures ∙ ap (λ s. (word ∷ []) ++ texts_in (s ∷ [])) c.text.ensures in
    record {
      titled = ap (λ v. v.items) c.titled.ensures.title ∙ c.in_ok-title_of.ensures.value;
      head = head;
      words =
          ap (λ v. texts_in v.items) c.titled.ensures.shapes ∙ c.in_ok-add_steps.ensures ∙ ap (λ ts. ts ++ lists_in c.as_slice.result.now) pushed
          ∙ ap (λ ss. word ∷ head ∷ lists_in ss) c.as_slice.ensures.value ∙ ap (λ ts. word ∷ head ∷ ts) c.in_ok-steps.ensures;
    }
