-- What a session hears leaves its protocol as it is.
use Rattle.std.proofs.Common.{◌≡◌, ◌∙◌, ℕ, Bool, true, false, cond, List, [], ◌∷◌, inl, inr, refl, ap, ⊎_elim}
use Rattle.std.specs.Prelude.{nat_le}
use Rattle.rcv_tree.specs.declared.entry.Entry.{Entry}
use Rattle.rcv_saves.specs.Counts.{with_count}
use Rattle.rcv_saves.specs.Saves.{told_of, with_told}
use Rattle.rcv_guide.specs.declared.recovery.Recovery.{Recovery}
use Rattle.rcv_guide.specs.Numbers.{with_crash}
use Rattle.rcv_guide.specs.Guide.{GuideView, with_numbers}
use Rattle.rcv_dialogue.specs.declared.answer.Answer.{Answer}
use Rattle.rcv_dialogue.specs.declared.answer.Answer.TheVariants as answer
use Rattle.rcv_dialogue.specs.declared.few.Failed.{Failed}
use Rattle.rcv_dialogue.specs.declared.line.Again.{Again}
use Rattle.rcv_dialogue.specs.declared.line.Again.TheVariants as again
use Rattle.rcv_dialogue.specs.declared.line.Line.{Line}
use Rattle.rcv_dialogue.specs.declared.line.Line.TheVariants as line
use Rattle.rcv_dialogue.specs.declared.line.ToldRecovery.{ToldRecovery}
use Rattle.rcv_guided.specs.Session.{SessionView, forgotten_of}
use Rattle.rcv_guided.specs.Events.{with_save}
use Rattle.rcv_guided.specs.Failures.{is_down_in, fallen, first_of, FailInTurn, Fails, Recovers}
use Rattle.rcv_guided.specs.Restoring.{restored_by, Restores}
use Rattle.rcv_guided.specs.Answers.{Comes, Hears}

abbrev IsOfSameProtocol : SessionView → SessionView → Type 0
IsOfSameProtocol old new = new.guide.protocol ≡ old.guide.protocol

same_session : (old new : SessionView) → new ≡ old → IsOfSameProtocol old new
same_session old new is = ap (λ (s : SessionView). s.guide.protocol) is

saved_keeps : (s : SessionView) (r count : ℕ) → IsOfSameProtocol s (with_save s r count)
saved_keeps s r count = go (nat_le count (forgotten_of s r))
  where
    go : (b : Bool) → IsOfSameProtocol s (cond b s (record s { saves = with_told s.saves r (with_count count (told_of s.saves r)) }))
    go true = refl
    go false = refl

-- ---- failures

fallen_keeps : (s : SessionView) (p : ℕ) → IsOfSameProtocol s (fallen s p)
fallen_keeps s p = go (is_down_in s.guide p)
  where
    go : (b : Bool) → IsOfSameProtocol s (cond b s (record s { guide = with_numbers s.guide (with_crash s.guide.numbers p) }))
    go true = refl
    go false = refl

turns_keep : (failed : List Failed) (roles : List ℕ) (s : SessionView) (backs : List Recovery) (entries : List Entry) (new : SessionView) → FailInTurn failed roles s backs entries new → IsOfSameProtocol s new
turns_keep failed [] s [] entries new f = same_session s new f.1
turns_keep failed [] s (back ∷ backs) entries new f = absurd f
turns_keep failed (p ∷ roles) s [] entries new f = absurd f
turns_keep failed (p ∷ roles) s (back ∷ backs) entries new f =
    turns_keep failed roles f.0 backs f.1 new f.3 ∙ ap (λ (g : GuideView). g.protocol) f.2.back_is.recovered.gone.rest ∙ fallen_keeps s p

fails_keep : (s : SessionView) (failed : List Failed) (said : Answer) (added : List Entry) (after : SessionView) → Fails s failed said added after → IsOfSameProtocol s after
fails_keep s failed answer.Done added after x = same_session s after x.1.same
fails_keep s failed (answer.Sent stamp) added after x = same_session s after x.1.same
fails_keep s failed (answer.Received stamp sent) added after x = same_session s after x.1.same
fails_keep s failed (answer.Recovered undone back flight) added after x = turns_keep failed _ s x.all.backs added after x.all.fail
fails_keep s failed (answer.Illegal cause) added after x = same_session s after x.1.same
fails_keep s failed (answer.Stale stale) added after x = same_session s after x.1.same
fails_keep s failed answer.Long added after x = same_session s after x.1.same
fails_keep s failed (answer.Wrong w) added after x = same_session s after x.1.same
fails_keep s failed answer.Memory added after x = same_session s after x.1.same
fails_keep s failed (answer.Next role turn) added after x = same_session s after x.1.same
fails_keep s failed (answer.NextDown role) added after x = same_session s after x.1.same
fails_keep s failed (answer.Kept kept) added after x = same_session s after x.1.same
fails_keep s failed (answer.Line stable) added after x = same_session s after x.1.same
fails_keep s failed (answer.Role own incarnation) added after x = same_session s after x.1.same
fails_keep s failed (answer.Flight flights) added after x = same_session s after x.1.same
fails_keep s failed answer.Points added after x = same_session s after x.1.same
fails_keep s failed (answer.Table lines text) added after x = same_session s after x.1.same
fails_keep s failed (answer.Snapshot lines) added after x = same_session s after x.1.same
fails_keep s failed (answer.End states) added after x = same_session s after x.1.same

recovers_keep : (s : SessionView) (told : ToldRecovery) (said : Answer) (added : List Entry) (after : SessionView) → Recovers s told said added after → IsOfSameProtocol s after
recovers_keep s told answer.Done added after x = same_session s after x.1.same
recovers_keep s told (answer.Sent stamp) added after x = same_session s after x.1.same
recovers_keep s told (answer.Received stamp sent) added after x = same_session s after x.1.same
recovers_keep s told (answer.Recovered undone back flight) added after x = turns_keep told.failed (first_of told.failed ∷ []) s x.all.backs added after x.all.fail
recovers_keep s told (answer.Illegal cause) added after x = same_session s after x.1.same
recovers_keep s told (answer.Stale stale) added after x = same_session s after x.1.same
recovers_keep s told answer.Long added after x = same_session s after x.1.same
recovers_keep s told (answer.Wrong w) added after x = same_session s after x.1.same
recovers_keep s told answer.Memory added after x = same_session s after x.1.same
recovers_keep s told (answer.Next role turn) added after x = same_session s after x.1.same
recovers_keep s told (answer.NextDown role) added after x = same_session s after x.1.same
recovers_keep s told (answer.Kept kept) added after x = same_session s after x.1.same
recovers_keep s told (answer.Line stable) added after x = same_session s after x.1.same
recovers_keep s told (answer.Role own incarnation) added after x = same_session s after x.1.same
recovers_keep s told (answer.Flight flights) added after x = same_session s after x.1.same
recovers_keep s told answer.Points added after x = same_session s after x.1.same
recovers_keep s told (answer.Table lines text) added after x = same_session s after x.1.same
recovers_keep s told (answer.Snapshot lines) added after x = same_session s after x.1.same
recovers_keep s told (answer.End states) added after x = same_session s after x.1.same

-- ---- snapshots

restored_keeps : (s : SessionView) (told : Again) → IsOfSameProtocol s (restored_by s told)
restored_keeps s (again.Session told) = refl
restored_keeps s (again.Role told) = refl
restored_keeps s (again.Flight told) = refl
restored_keeps s (again.Event e) = refl
restored_keeps s (again.Save r count) = refl

restores_keep : (s : SessionView) (told : Again) (said : Answer) (added : List Entry) (after : SessionView) → Restores s told said added after → IsOfSameProtocol s after
restores_keep s told said added after x = ⊎_elim
    (λ taken. same_session (restored_by s told) after taken.is ∙ restored_keeps s told)
    (λ other. ⊎_elim (λ unfit. same_session s after unfit.same) (λ wants. same_session s after wants.same) other)
    x.comes

-- ---- all lines

comes_keep : (s : SessionView) (told : Line) (said : Answer) (added : List Entry) (after : SessionView) → Comes s told said added after → IsOfSameProtocol s after
comes_keep s (line.Send told) said added after (inl x) = ap (λ (a : SessionView). a.guide.protocol) x.is
comes_keep s (line.Send told) said added after (inr x) = same_session s after x.1.same
comes_keep s (line.Recv told) said added after (inl x) = ap (λ (a : SessionView). a.guide.protocol) x.is
comes_keep s (line.Recv told) said added after (inr x) = same_session s after x.1.same
comes_keep s (line.Save told) said added after (inl x) = ap (λ (a : SessionView). a.guide.protocol) x.is ∙ saved_keeps s told.role told.count
comes_keep s (line.Save told) said added after (inr x) = same_session s after x.1.same
comes_keep s (line.Fail failed) said added after x = fails_keep s failed said added after x
comes_keep s (line.Crash r) said added after (inl x) = ap (λ (a : SessionView). a.guide.protocol) x.is
comes_keep s (line.Crash r) said added after (inr x) = same_session s after x.1.same
comes_keep s (line.Recover told) said added after x = recovers_keep s told said added after x
comes_keep s (line.Ask asked) said added after x = same_session s after x.1.same
comes_keep s (line.Again told) said added after x = restores_keep s told said added after x

pub hears_keep : (old : SessionView) (told : Line) (said : Answer) (added : List Entry) (after : SessionView) → Hears old told said added after → IsOfSameProtocol old after
hears_keep old told said added after h =
    comes_keep h.judging told said added after h.comes ∙ ⊎_elim (λ same. same_session old h.judging same) (λ still. still.protocol) h.is
