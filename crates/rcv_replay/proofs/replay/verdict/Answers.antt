-- Each entry may come, or the first that can't.
use Rattle.std.proofs.Common.{◌≡◌, List, length, ap, ◌∙◌, arith, subst}
use Rattle.std.specs.Prelude.{IfOk, ◌+◌}
use borrow.Enum.Total.{values_d}
use Rattle.rcv_judge.specs.contracts.judge.JudgeError as errors
use Rattle.rcv_judge.specs.declared.judge.JudgeError.{JudgeError}
use Rattle.rcv_tree.specs.declared.entry.Entry.{Entry}
use Rattle.rcv_session.specs.Session.{SessionView, rules_of}
use Rattle.rcv_core.specs.Book.{BookView}
use Rattle.rcv_journal.specs.Recorded.{JournalView}
use Rattle.rcv_judge.specs.Judged.{IsFirstWrong}
use Rattle.rcv_replay.specs.Replaying.{IsVerdict}
use Rattle.rcv_replay.proofs.replay.verdict.Goals as goal

pub returns-in-Ok : goal.returns-in-Ok
returns-in-Ok c = subst (λ (s : SessionView). IfOk c.close.result (IsVerdict s c.args.journal.now)) (ap (λ (b : BookView). b.setup) c.in-Ok.ensures.ok) c.close.ensures

pub from_one-requires : goal.from_one-requires
from_one-requires c =
    let first = (c.in-Err-Entry.ensures.wrong c.in-Err-Entry.number c.in-Err-Entry.field-0-is).inside in
    let same = ap length (c.as_slice.ensures.value ∙ ap (λ (v : JournalView). v.entries) c.journal.view_is) in
    omega (arith, first, same, c.requires)

pub returns-in-Err-Entry : goal.returns-in-Err-Entry
returns-in-Err-Entry c =
    let told = subst (λ (e : JudgeError). c.from_one.result ≡ (values_d errors.enum 0 (0, tt) e).0 + 1) c.in-Err-Entry.field-0-is c.from_one.ensures in
    let same = c.as_slice.ensures.value ∙ ap (λ (v : JournalView). v.entries) c.journal.view_is in
    (c.in-Err-Entry.number, told, subst (λ (es : List Entry). IsFirstWrong (rules_of c.args.setup.now) es c.in-Err-Entry.number) same (c.in-Err-Entry.ensures.wrong c.in-Err-Entry.number c.in-Err-Entry.field-0-is))
