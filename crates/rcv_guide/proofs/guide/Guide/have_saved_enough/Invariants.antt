use Rattle.std.proofs.Common.{◌≡◌, ◌<◌, ◌≤◌, ℕ, true}
use Rattle.std.specs.Prelude.{slice_index}
use Rattle.rcv_tree.specs.Bits.{has_bit}
use Rattle.rcv_guide.specs.Numbers.{numbers_at}
use Rattle.rcv_guide.proofs.guide.Guide.have_saved_enough.Given as goal

abbrev pub invariant-loop-number : goal.invariant-loop-number
invariant-loop-number l =
    (q : ℕ) → q < l.number → has_bit l.group.0 q ≡ true → (numbers_at l.self.numbers q).forgotten ≤ slice_index l.saved q
