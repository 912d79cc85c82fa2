-- One role more.
use Rattle.std.proofs.Common.{Vec, Global, ℕ, List, sym, ◌∙◌, ap}
use Rattle.std.specs.Prelude.{slice_index}
use Rattle.rcv_tree.specs.Bits.{has_bit}
use Rattle.rcv_dialogue.specs.declared.few.Kept.{Kept}
use Rattle.rcv_guided.proofs.Listing.{mapped_in, mapped_out}
use Rattle.rcv_guided.proofs.taken.keeping.Goals as goal
use Rattle.rcv_guided.proofs.taken.keeping.Goals.{then-has+in_ok-push, else-has}

abbrev kept_at : List ℕ → ℕ → Kept
kept_at counts r = record { role = r; count = slice_index counts r }

pub loop-role-preserved : goal.loop-role-preserved
loop-role-preserved c = elim c.if-has.branch [
  | then-has+in_ok-push w ↦
      ap (λ (v : Vec Kept Global). v.items) w.kept-is ∙ w.in_ok-push.ensures.items
      ∙ mapped_in (kept_at c.args.counts.now) (has_bit c.args.set.0) c.loop-role.role c.loop-role.kept.items (sym c.has.ensures ∙ w.if-has.true) c.loop-role.invariant
  | else-has w ↦
      ap (λ (v : Vec Kept Global). v.items) w.kept-is
      ∙ mapped_out (kept_at c.args.counts.now) (has_bit c.args.set.0) c.loop-role.role c.loop-role.kept.items (sym c.has.ensures ∙ w.if-has.false) c.loop-role.invariant
]
