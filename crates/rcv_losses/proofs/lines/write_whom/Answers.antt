-- Two pieces.
use Rattle.std.proofs.Common.{◌≡◌, List, ℕ, subst, OnOk, codes}
use Rattle.rcv_losses.specs.LossText.{names_text}
use Rattle.rcv_losses.proofs.Saying.{push_right}
use Rattle.rcv_losses.proofs.lines.write_whom.Goals as goal

pub returns : goal.returns
returns c =
    subst (λ (l : List ℕ). OnOk c.write_names.result (c.write_names.new.text ≡ l))
    (push_right c.args.text.now c.word.new.self (codes ", concerned") (names_text c.args.setup.now c.args.concerned.0) c.in_ok-word.ensures.ok)
    c.write_names.ensures
