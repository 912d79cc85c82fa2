-- Word by word.
use Rattle.std.proofs.Common.{◌≡◌, ◌++◌, List, ℕ, subst, append_assoc, append-nil}
use Rattle.std.specs.Prelude.{OnOk}
use Rattle.rcv_dialogue.specs.declared.line.Again.TheVariants as again
use Rattle.rcv_dialogue.specs.Answers.{again_text, message_text}
use Rattle.rcv_dialogue.proofs.snapshot.flight.Goals as goal

pub returns : goal.returns
returns c =
    let a = c.args.accepted.now in
    let f = c.args.flight.now in
    let whole : c.named-2.new.text ++ message_text a f.message ≡ c.args.text.now ++ again_text a (again.Flight f) =
    rw (c.in_ok-named-2.ensures, c.in_ok-named.ensures, c.in_ok-word.ensures.ok) (simp (append_assoc, append-nil)) in
    subst (λ (t : List ℕ). OnOk c.message.result (c.message.new.text ≡ t)) whole c.message.ensures
