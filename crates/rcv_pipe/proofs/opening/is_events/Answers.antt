-- The line is one of the two.
use Rattle.std.proofs.Common.{◌≡◌, ◌∙◌, ◌++◌, ◌∷◌, [], inl, inr, ⊎_elim, refl, sym, ap, codes, true≢false}
use Rattle.std.specs.Cmp.Lexicographic.{bytes_decides}
use Rattle.rcv_pipe.specs.Feeds.{ended}
use Rattle.rcv_pipe.proofs.opening.is_events.Goals as goal

pub returns-then-eq : goal.returns-then-eq
returns-then-eq c =
    let line : c.args.line.now ≡ codes "%% events\n" = (bytes_decides c.args.line.now c.as_slice.result.now).0 (sym c.eq.ensures ∙ c.if-eq.true) ∙ c.as_slice.ensures in
    (λ _. record { line = codes "%% events"; is = inl refl; bytes_are = line }, λ _. c.if-eq.true)

pub returns-else-eq : goal.returns-else-eq
returns-else-eq c =
    let text = c.args.line.now in (
      λ on. record {
        line = codes "%% events" ++ 13 ∷ [];
        is = inr refl;
        bytes_are = (bytes_decides text c.as_slice-else-eq.result.now).0 (sym c.eq-else-eq.ensures ∙ on) ∙ c.as_slice-else-eq.ensures;
      },
      λ events. ⊎_elim
          (λ is. absurd (true≢false (sym (c.eq.ensures ∙ (bytes_decides text c.as_slice.result.now).1 (events.bytes_are ∙ ap ended is ∙ sym c.as_slice.ensures)) ∙ c.if-eq.false)))
          (λ is. c.eq-else-eq.ensures ∙ (bytes_decides text c.as_slice-else-eq.result.now).1 (events.bytes_are ∙ ap ended is ∙ sym c.as_slice-else-eq.ensures)) events.is,
    )
