use Rattle.std.proofs.Common.{◌≡◌, ℕ, ◌-◌, length, length-drop, sym, ap, arith}
use Rattle.std.specs.Prelude.{slice_range}
use Rattle.std.proofs.lemmas.List.{length-take}
use Rattle.rcv_lexer.proofs.Scanning.{onward_more, onward_letter}
use Rattle.rcv_lexer.proofs.scan.bad_letter.Goals as goal

pub returns-in_default-clause-place : goal.returns-in_default-clause-place
returns-in_default-clause-place c =
    let left : length (slice_range c.args.bundle.now c.loop-place.place c.args.part.end) ≡ c.args.part.end - c.loop-place.place =
    omega (arith, length-take {A = ℕ}, length-drop {A = ℕ}) in
    onward_letter _ _ _ c.loop-place.invariant (λ e. absurd (omega (arith, ap length e, left))) (sym c.in_default.ensures.piece)

pub loop-place-preserved : goal.loop-place-preserved
loop-place-preserved c = onward_more _ _ _ _ c.loop-place.invariant (sym c.in-Some.ensures.piece)
