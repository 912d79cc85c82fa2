-- By whether the role is concerned.
use Rattle.std.proofs.Common.{◌≡◌, ℕ, true, false, sym, ◌∙◌, ap}
use Rattle.std.specs.Prelude.{slice_index, if◌then◌else◌}
use Rattle.rcv_tree.specs.Bits.{has_bit}
use Rattle.rcv_retold.proofs.Counts.{listed_at}
use Rattle.rcv_retold.proofs.tell.listed.Goals as goal

pub returns-then-has : goal.returns-then-has
returns-then-has c =
    let bit : has_bit c.args.back.now.concerned.0 c.args.role ≡ true = sym c.has.ensures ∙ c.if-has.true in
    ap (λ (n : ℕ). slice_index c.args.back.now.kept n) c.role.view_is
    ∙ sym (ap (λ b. if b then slice_index c.args.back.now.kept c.args.role else 0) bit)
    ∙ sym (listed_at c.args.back.now c.args.role c.requires)

pub returns-else-has : goal.returns-else-has
returns-else-has c =
    let bit : has_bit c.args.back.now.concerned.0 c.args.role ≡ false = sym c.has.ensures ∙ c.if-has.false in
    sym (ap (λ b. if b then slice_index c.args.back.now.kept c.args.role else 0) bit)
    ∙ sym (listed_at c.args.back.now c.args.role c.requires)
