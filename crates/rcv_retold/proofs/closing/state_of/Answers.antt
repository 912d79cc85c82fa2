-- The role is up.
use Rattle.std.proofs.Common.{◌≡◌, false, Some, ◌∙◌, ap}
use Rattle.rcv_retold.proofs.Ending.{is_done, waits}
use Rattle.rcv_retold.proofs.closing.state_of.Goals as goal

pub returns-then-is_over : goal.returns-then-is_over
returns-then-is_over c = λ m mem.
    let up : c.is_down.result ≡ false = (let f = c.if-is_down.false in cc) in
    is_done c.args.guide.now c.args.role c.requires m mem (c.is_down.ensures ∙ ap Some up) (c.is_over.ensures.0 c.if-is_over.true)

pub returns-else-is_over : goal.returns-else-is_over
returns-else-is_over c = λ m mem.
    let up : c.is_down.result ≡ false = (let f = c.if-is_down.false in cc) in
    waits c.args.guide.now c.args.role c.requires m mem (c.is_down.ensures ∙ ap Some up)
    (λ over. (let t = c.is_over.ensures.1 over in let f = c.if-is_over.false in cc))
