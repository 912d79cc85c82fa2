-- Something is said of each input.
use Rattle.std.proofs.Common.{◌≡◌, ◌<◌, ◌^◌, ◌+◌, ℕ, Bool, true, false, Some, None, Option, List, [], ◌∷◌, length, take, refl, inl, inr, ⊎_elim, length-take, arith}
use Rattle.std.specs.Prelude.{◌↔◌, ◌≢◌}
use Rattle.rcv_model.specs.Next.{IsProper}
use Rattle.rcv_model.specs.Text.{body_of}
use Rattle.rcv_model.proofs.Forms.{proper}
use Rattle.rcv_accept.specs.Accepted.{IsAcceptedProtocol}
use Rattle.rcv_session.specs.Session.{SessionView, rules_of}
use Rattle.rcv_input.specs.declared.refused.Refused.TheVariants.{Line}
use Rattle.rcv_input.proofs.Once.{one_answer}
use Rattle.rcv_journal.specs.Recorded.{JournalView}
use Rattle.rcv_judge.proofs.Deciding.{entries_judged}
use Rattle.rcv_judge.proofs.ClosingsJudged.{closings_judged}
use Rattle.rcv_lines.proofs.TakenOrWrong.{taken_or_wrong}
use Rattle.rcv_replay.specs.declared.cut.Cut.{Cut}
use Rattle.rcv_replay.specs.declared.replayed.Replayed.{Replayed}
use Rattle.rcv_replay.specs.declared.replayed.Replayed.TheVariants as said
use Rattle.rcv_replay.specs.Cutting.{cut_of, bundle_of, journal_of, feeds_before, line_of_end}
use Rattle.rcv_replay.specs.Replaying.{IsVerdict, IsOfText, IsOfBundle, IsReplay}
use Rattle.rcv_replay.specs.Laws.{ReplaysExist}

has_some : (limited : List ℕ) → (b : Bool) × ((b ≡ true) ↔ (limited ≢ []))
has_some [] = (false, ((λ t. absurd (cc)), (λ some. absurd (some refl))))
has_some (r ∷ limited) = (true, ((λ t e. cc), (λ some. refl)))

verdict_some : (session : SessionView) (j : JournalView) → IsAcceptedProtocol session.protocol → (x : Replayed) × IsVerdict session j x
verdict_some session j accepted = ⊎_elim
    (λ legal. ⊎_elim
    (λ closes. let some = has_some j.limited in (said.Legal (length j.entries) some.0, (legal, closes, refl, some.1)))
    (λ never. (said.WrongEnd, (legal, never)))
    (closings_judged (rules_of session) j.entries j.roles j.limited lawful accepted.accepted.lanes_end legal))
    (λ first. (said.WrongEntry (first.0 + 1), (first.0, refl, first.1)))
    (entries_judged (rules_of session) j.entries lawful accepted.accepted.lanes_end)
  where
    lawful : IsProper (rules_of session).net (rules_of session).roles
    lawful = proper (body_of session.protocol.body) (length session.protocol.roles) accepted.form

text_some : (session : SessionView) (text : List ℕ) (feeds : ℕ) → IsAcceptedProtocol session.protocol → (x : Replayed) × IsOfText session text feeds x
text_some session text feeds accepted = ⊎_elim
    (λ spells. let v = verdict_some session spells.0 accepted in (v.0, inr (spells.0, spells.1, v.1)))
    (λ wrong. (said.Refused (Line 51 (feeds + wrong.0)), inl (wrong.0, refl, wrong.1)))
    (taken_or_wrong session.protocol text accepted)

bundle_some : (bundle text : List ℕ) (feeds : ℕ) → length bundle < 2 ^ 63 → (x : Replayed) × IsOfBundle bundle text feeds x
bundle_some bundle text feeds short = ⊎_elim
    (λ t. let x = text_some t.0 text feeds t.1.protocol.accepted in (x.0, inr (t.0, t.1, x.1)))
    (λ r. (said.Refused r.0, inl (r.0, refl, r.1)))
    (one_answer.answered bundle short)

shorter : (n : ℕ) (xs : List ℕ) → length xs < 2 ^ 63 → length (take n xs) < 2 ^ 63
shorter n xs short = let e = length-take n xs in omega (arith, e, short)

pub replays_exist : ReplaysExist
replays_exist input short = go (cut_of input) refl
  where
    go : (found : Option Cut) → cut_of input ≡ found → (x : Replayed) × IsReplay input x
    go None none = (said.Refused (Line 50 (line_of_end input)), inl (none, refl))
    go (Some cut) is =
        let x = bundle_some (bundle_of input cut) (journal_of input cut) (feeds_before input cut) (shorter cut.end input short) in
        (x.0, inr (cut, is, x.1))
