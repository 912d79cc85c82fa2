-- The entries are told, and the lines behind them are right; or there is a first wrong line.
use Rattle.std.proofs.Common.{◌+◌, ℕ, ◌∙◌, ap}
use Rattle.rcv_told.specs.Told.{told}
use Rattle.rcv_retold.specs.Retold.{terms_for}
use Rattle.rcv_look.proofs.Guided.{wrong_said, drawn_said}
use Rattle.rcv_look.proofs.told.judged.Goals as goal

pub returns-in_ok-picture-in-Ok : goal.returns-in_ok-picture-in-Ok
returns-in_ok-picture-in-Ok c =
    let made = c.in-Ok.ensures in
    let m = told (terms_for c.args.setup.now) c.args.front.now.entries.items in
    drawn_said c.args.setup.now c.args.text.now c.args.feeds c.args.front.now.entries.items c.judge.new.guide c.in-Ok.record c.in_ok-picture-in-Ok.field-0.items
    made.told made.setup made.entries made.protocol (c.in_ok-picture-in-Ok.ensures m m.held made.memory made.kept)

pub returns-in-Err-Line : goal.returns-in-Err-Line
returns-in-Err-Line c =
    wrong_said c.illegal.result c.args.setup.now c.args.text.now c.args.feeds c.in-Err-Line.number (c.from.result + c.from-in-Err-Line.result)
    (c.in-Err-Line.ensures.wrong c.in-Err-Line.number c.in-Err-Line.field-0-is)
    (ap (λ (n : ℕ). n + c.from-in-Err-Line.result) c.from.ensures ∙ ap (λ (n : ℕ). c.args.feeds + n) c.from-in-Err-Line.ensures)
    c.illegal.ensures.status c.illegal.ensures.bytes
