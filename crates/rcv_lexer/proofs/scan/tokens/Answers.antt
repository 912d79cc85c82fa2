use Rattle.std.proofs.Common.{◌≡◌, ℕ, ◌+◌, ◌-◌, [], length, take, drop, append-nil, length-drop, subst, refl, sym, ap, ◌∙◌, arith}
use Rattle.rcv_lexer.specs.Tokens.{line_at, AreTokens}
use Rattle.std.specs.Prelude.{slice_range}
use Rattle.std.proofs.lemmas.List.{length-take}
use Rattle.rcv_lexer.proofs.Scanning.{progress_more, line-more}
use Rattle.rcv_lexer.proofs.TokenBytes.{all_lie}
use Rattle.rcv_lexer.proofs.scan.tokens.Goals as goal
use Rattle.std.proofs.lemmas.Grind.{common_steps}
use Rattle.rcv_lexer.proofs.scan.tokens.Goals.{in-Some-token+in_ok-push, in_default-token}

pub loop-place-preserved : goal.loop-place-preserved
loop-place-preserved c =
    progress_more _ _ _ _ _ _ _ c.in-Some.piece c.loop-place.invariant (sym c.in-Some.ensures.piece)
    (elim c.match-piece.branch [
      | in-Some-token+in_ok-push w ↦ grind (arith, common_steps)
      | in_default-token w ↦ grind (arith, common_steps)
    ])
    (ap (λ i. i + c.line_feeds-line-in-loop-place.result) c.loop-place.invariant.line-is
    ∙ ap (λ i. line_at c.args.bundle.now c.loop-place.place + i) c.line_feeds-line-in-loop-place.ensures
    ∙ line-more c.args.bundle.now c.loop-place.place c.in-Some.piece.len)

pub returns-in_default-clause-tokens : goal.returns-in_default-clause-tokens
returns-in_default-clause-tokens c =
    let left : length (slice_range c.args.bundle.now c.loop-place.place c.args.part.end) ≡ c.args.part.end - c.loop-place.place =
    omega (arith, length-take {A = ℕ}, length-drop {A = ℕ}) in (
      c.loop-place.line,
      refl,
      (
        c.loop-place.place,
        c.loop-place.invariant.letter c.loop-place.place
            ([], _, refl, (λ e. absurd (omega (arith, ap length e, left))), sym c.in_default.ensures.piece, refl),
        c.loop-place.invariant.line-is,
      ),
    )

pub returns-clause-tokens : goal.returns-clause-tokens
returns-clause-tokens c =
    let nothing : c.args.part.end - c.loop-place.place ≡ 0 = omega arith in
    subst (AreTokens c.args.bundle.now c.args.part) (append-nil c.loop-place.list.items)
    (c.loop-place.invariant.tokens [] ([], ap (λ (i : ℕ). take i (drop c.loop-place.place c.args.bundle.now)) nothing, refl))

pub returns-clause-within : goal.returns-clause-within
returns-clause-within c = all_lie c.args.bundle.now c.args.part _ (returns-clause-tokens c)
