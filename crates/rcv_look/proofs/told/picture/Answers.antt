-- The states are the guide's, and the ends are theirs.
use Rattle.std.proofs.Common.{List, ◌∙◌, ap, map, subst}
use Rattle.std.proofs.lemmas.Result.{IfOk-weaker}
use Rattle.rcv_dialogue.specs.declared.answer.RoleState.{RoleState}
use Rattle.rcv_scene.specs.declared.ends.RoleEnd.{RoleEnd}
use Rattle.rcv_look.specs.Drawing.{IsDrawing, told_end}
use Rattle.rcv_look.proofs.told.picture.Goals as goal

pub returns : goal.returns
returns c = IfOk-weaker c.draw.result _ _
    (λ text is m kept memory has. record {
      states = c.in_ok-states.states.items;
      are_states = c.in_ok-states.ensures m memory;
      drawing = subst (λ (ends : List RoleEnd). IsDrawing c.args.record.now.setup c.args.record.now.entries kept ends text.items)
          (c.as_slice-2.ensures.value ∙ c.in_ok-ends.ensures ∙ ap (λ (l : List RoleState). map told_end l) c.as_slice.ensures.value) (is kept has);
    }) c.draw.ensures
