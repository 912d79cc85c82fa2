-- The journal that the text spells, or its first wrong line.
use Rattle.std.proofs.Common.{◌≡◌, ◌+◌, ℕ, inl, refl, sym, ap, subst, arith}
use borrow.Enum.Total.{values_d}
use Rattle.rcv_input.specs.declared.refused.Refused.TheVariants.{Line}
use Rattle.rcv_lines.specs.contracts.text.LinesError as errors
use Rattle.rcv_lines.specs.declared.text.LinesError.{LinesError}
use Rattle.rcv_replay.specs.declared.replayed.Replayed.TheVariants.{Refused}
use Rattle.rcv_session.specs.Session.{SessionView}
use Rattle.rcv_journal.specs.Recorded.{bare}
use Rattle.rcv_replay.proofs.Judging.{few_entries, few_wrong, formed_said, malformed_said}
use Rattle.rcv_replay.proofs.replay.of_text.Goals as goal

pub verdict-requires : goal.verdict-requires
verdict-requires c = let few = few_entries (bare c.accepted.result.now.protocol) c.args.text.now c.in-Ok.journal c.in-Ok.ensures.ok in omega (arith, few, c.requires.text)

pub returns-in-Ok : goal.returns-in-Ok
returns-in-Ok c =
    let session : SessionView = record { protocol = c.args.taken.accepted.protocol; scripts = c.args.taken.scripts.lines; plan = c.args.taken.plan } in
    formed_said c.verdict.result session c.in_ok-setup.setup c.accepted.result.now.protocol c.args.text.now c.args.feeds c.in-Ok.journal c.in_ok-setup.ensures c.accepted.ensures c.in-Ok.ensures.ok c.verdict.ensures

pub overflow_add-result : goal.overflow_add-result
overflow_add-result c =
    let few = few_wrong (bare c.accepted.result.now.protocol) c.args.text.now c.in-Err-Line.number (c.in-Err-Line.ensures.line c.in-Err-Line.number c.in-Err-Line.field-0-is) in
    let same = subst (λ (e : LinesError). (values_d errors.enum 0 (0, tt) e).0 ≡ c.in-Err-Line.number) (sym c.in-Err-Line.field-0-is) refl in
    omega (arith, few, same, c.requires.feeds, c.requires.text)

pub returns-in-Err-Line : goal.returns-in-Err-Line
returns-in-Err-Line c =
    let session : SessionView = record { protocol = c.args.taken.accepted.protocol; scripts = c.args.taken.scripts.lines; plan = c.args.taken.plan } in
    let same = subst (λ (e : LinesError). (values_d errors.enum 0 (0, tt) e).0 ≡ c.in-Err-Line.number) (sym c.in-Err-Line.field-0-is) refl in
    inl (
      c.in-Err-Line.number,
      ap (λ (n : ℕ). Refused (Line 51 (c.args.feeds + n))) same,
      malformed_said session c.in_ok-setup.setup c.accepted.result.now.protocol c.args.text.now c.in-Err-Line.number
          c.in_ok-setup.ensures c.accepted.ensures (c.in-Err-Line.ensures.line c.in-Err-Line.number c.in-Err-Line.field-0-is),
    )
