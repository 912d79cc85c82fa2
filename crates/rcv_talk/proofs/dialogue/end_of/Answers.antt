-- Something waits.
use Rattle.std.proofs.Common.{◌∙◌, ◌==◌, sym, ap, length, not, true≢false}
use Rattle.rcv_talk.proofs.Rounds.{held_waits, long_waits}
use Rattle.rcv_talk.proofs.dialogue.end_of.Goals.{then-is_long, else-is_long}
use Rattle.rcv_talk.proofs.dialogue.end_of.Goals as goal

pub returns-then-not-is_empty : goal.returns-then-not-is_empty
returns-then-not-is_empty c bytes waits =
    elim c.if-is_long.branch [
      | then-is_long w ↦ long_waits c.args.pipe.now bytes (sym c.is_long.ensures ∙ w.if-is_long.true) waits
      | else-is_long w ↦ held_waits c.args.pipe.now bytes
          (λ none. true≢false (sym c.if-not-is_empty.true ∙ w.value-is ∙ ap not (w.is_empty.ensures ∙ ap (λ h. length h == 0) w.held.ensures.value ∙ ap (λ k. k == 0) none))) waits
    ]
