-- What was told is what the picture's groups say, what is shown is marked, and the text is short.
use Rattle.std.proofs.Common.{◌≤◌, length, ◌∙◌, ap, subst}
use Rattle.std.proofs.lemmas.Result.{IfOk-weaker}
use Rattle.rcv_look.specs.Drawing.{most_drawn}
use Rattle.rcv_look.proofs.Telling.{drawn_so}
use Rattle.rcv_look.proofs.draw.draw.Goals as goal

pub returns : goal.returns
returns c = IfOk-weaker c.short.result _ _
    (λ text is kept has. drawn_so c.args.record.now kept c.args.ends.now c.in_ok-story.story c.in_ok-shown.shown.items c.as_slice.result.now c.in_ok-picture.picture c.in_ok-told.told.rows.items c.in_ok-told.told.wires.items c.as_slice-3.result.now c.as_slice-2.result.now text.items
    has c.in_ok-story.ensures c.in_ok-shown.ensures c.as_slice.ensures.value c.in_ok-told.ensures.marked
    c.as_slice-3.ensures.value c.as_slice-2.ensures.value (c.in_ok-told.ensures.tells kept has) c.in_ok-picture.ensures.told c.in_ok-picture.ensures.titled c.in_ok-picture.ensures.drawn
    (is.0 ∙ c.in_ok-text.ensures) (subst (λ n. length text.items ≤ most_drawn n) (ap length c.entries.ensures.value) is.1)) c.short.ensures
