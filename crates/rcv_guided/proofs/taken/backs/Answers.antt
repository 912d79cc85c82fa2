-- One role more.
use Rattle.std.proofs.Common.{Vec, Global, ℕ, List, sym, ◌∙◌, ap}
use Rattle.std.specs.Prelude.{slice_index}
use Rattle.rcv_tree.specs.Bits.{has_bit}
use Rattle.rcv_dialogue.specs.declared.answer.Back.{Back}
use Rattle.rcv_guided.proofs.Listing.{mapped_in, mapped_out}
use Rattle.rcv_guided.proofs.taken.backs.Goals as goal
use Rattle.rcv_guided.proofs.taken.backs.Goals.{then-has+in_ok-push, else-has}

abbrev back_at : List ℕ → List ℕ → ℕ → Back
back_at counts incarnations r = record { role = r; count = slice_index counts r; incarnation = slice_index incarnations r }

pub loop-number-preserved : goal.loop-number-preserved
loop-number-preserved c = elim c.if-has.branch [
  | then-has+in_ok-push w ↦
      ap (λ (v : Vec Back Global). v.items) w.all-is ∙ w.in_ok-push.ensures.items
      ∙ mapped_in (back_at c.args.counts.now c.args.incarnations.now) (has_bit c.args.set.0) c.loop-number.number c.loop-number.all.items (sym c.has.ensures ∙ w.if-has.true) c.loop-number.invariant
  | else-has w ↦
      ap (λ (v : Vec Back Global). v.items) w.all-is
      ∙ mapped_out (back_at c.args.counts.now c.args.incarnations.now) (has_bit c.args.set.0) c.loop-number.number c.loop-number.all.items (sym c.has.ensures ∙ w.if-has.false) c.loop-number.invariant
]
