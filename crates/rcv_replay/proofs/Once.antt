-- Of an input one thing is said.
use Rattle.std.proofs.Common.{◌≡◌, ℕ, ◌+◌, Bool, true, false, List, refl, sym, ◌∙◌, ap, ap₂, subst, ⊎_elim}
use Rattle.std.specs.Prelude.{◌↔◌}
use Rattle.std.proofs.lemmas.Option.{none-some, same_Some}
use Rattle.rcv_session.specs.Session.{SessionView, rules_of}
use Rattle.rcv_accept.specs.Accepted.{IsAcceptedProtocol}
use Rattle.rcv_input.specs.declared.refused.Refused.TheVariants.{Line}
use Rattle.rcv_input.proofs.Once.{one_answer}
use Rattle.rcv_journal.specs.Recorded.{JournalView, bare}
use Rattle.rcv_judge.proofs.FirstWrong.{one_first}
use Rattle.rcv_lines.proofs.Accepting.{says_one}
use Rattle.rcv_lines.proofs.FirstWrong.{one_first_wrong, spells_none}
use Rattle.rcv_lines.proofs.OneJournal.{one_journal}
use Rattle.rcv_replay.specs.declared.cut.Cut.{Cut}
use Rattle.rcv_replay.specs.declared.replayed.Replayed.{Replayed}
use Rattle.rcv_replay.specs.declared.replayed.Replayed.TheVariants as said
use Rattle.rcv_replay.specs.Cutting.{bundle_of, journal_of, feeds_before}
use Rattle.rcv_replay.specs.Replaying.{IsVerdict, IsOfText, IsOfBundle}
use Rattle.rcv_replay.specs.Laws.{OneReplay}
use Rattle.rcv_replay.proofs.Moving.{text_moves}

one_bool : (P : Type 0) (a b : Bool) → ((a ≡ true) ↔ P) → ((b ≡ true) ↔ P) → a ≡ b
one_bool P true true x y = refl
one_bool P true false x y = sym (y.1 (x.0 refl))
one_bool P false true x y = x.1 (y.0 refl)
one_bool P false false x y = refl

one_verdict : (session : SessionView) (j : JournalView) (x y : Replayed) → IsVerdict session j x → IsVerdict session j y → x ≡ y
one_verdict session j (said.Legal n a) (said.Legal m b) x y = ap₂ said.Legal (x.2 ∙ sym y.2) (one_bool _ a b x.3 y.3)
one_verdict session j (said.Legal n a) (said.WrongEntry l) x y = absurd ((one_first (rules_of session) j.entries y.0 y.0).none x.0 y.2)
one_verdict session j (said.Legal n a) said.WrongEnd x y = absurd (y.1 x.1)
one_verdict session j (said.Legal n a) (said.Refused r) x y = absurd y
one_verdict session j (said.WrongEntry k) (said.Legal m b) x y = absurd ((one_first (rules_of session) j.entries x.0 x.0).none y.0 x.2)
one_verdict session j (said.WrongEntry k) (said.WrongEntry l) x y =
    ap said.WrongEntry (x.1 ∙ ap (λ i. i + 1) ((one_first (rules_of session) j.entries x.0 y.0).same x.2 y.2) ∙ sym y.1)
one_verdict session j (said.WrongEntry k) said.WrongEnd x y = absurd ((one_first (rules_of session) j.entries x.0 x.0).none y.0 x.2)
one_verdict session j (said.WrongEntry k) (said.Refused r) x y = absurd y
one_verdict session j said.WrongEnd (said.Legal m b) x y = absurd (x.1 y.1)
one_verdict session j said.WrongEnd (said.WrongEntry l) x y = absurd ((one_first (rules_of session) j.entries y.0 y.0).none x.0 y.2)
one_verdict session j said.WrongEnd said.WrongEnd x y = refl
one_verdict session j said.WrongEnd (said.Refused r) x y = absurd y
one_verdict session j (said.Refused r) y a b = absurd a

one_text : (session : SessionView) (text : List ℕ) (feeds : ℕ) (x y : Replayed) → IsAcceptedProtocol session.protocol → IsOfText session text feeds x → IsOfText session text feeds y → x ≡ y
one_text session text feeds x y accepted is other = ⊎_elim
    (λ a. ⊎_elim
    (λ b. a.1 ∙ ap (λ k. said.Refused (Line 51 (feeds + k))) (one_first_wrong (bare session.protocol) text a.0 b.0 a.2 b.2) ∙ sym b.1)
    (λ b. absurd (spells_none (bare session.protocol) text a.0 b.0 a.2 b.1)) other)
    (λ a. ⊎_elim
    (λ b. absurd (spells_none (bare session.protocol) text b.0 a.0 b.2 a.1))
    (λ b. one_verdict session b.0 x y (subst (λ (j : JournalView). IsVerdict session j x) (one_journal (bare session.protocol) text a.0 b.0 (says_one session.protocol accepted) a.1 b.1) a.2) b.2) other)
    is

one_bundle : (bundle text : List ℕ) (feeds : ℕ) (x y : Replayed) → IsOfBundle bundle text feeds x → IsOfBundle bundle text feeds y → x ≡ y
one_bundle bundle text feeds x y is other = ⊎_elim
    (λ a. ⊎_elim
    (λ b. a.1 ∙ ap said.Refused (one_answer.refusals bundle a.0 b.0 a.2 b.2) ∙ sym b.1)
    (λ b. absurd (one_answer.either bundle b.0 a.0 b.1 a.2)) other)
    (λ a. ⊎_elim
    (λ b. absurd (one_answer.either bundle a.0 b.0 a.1 b.2))
    (λ b. one_text b.0 text feeds x y b.1.protocol.accepted (text_moves a.0 b.0 text feeds x (one_answer.sessions bundle a.0 b.0 a.1 b.1) a.2) b.2) other)
    is

pub one_replay : OneReplay
one_replay input x y is other = ⊎_elim
    (λ a. ⊎_elim (λ b. a.1 ∙ sym b.1) (λ b. absurd (none-some b.0 (sym a.0 ∙ b.1))) other)
    (λ a. ⊎_elim
    (λ b. absurd (none-some a.0 (sym b.0 ∙ a.1)))
    (λ b. one_bundle (bundle_of input b.0) (journal_of input b.0) (feeds_before input b.0) x y
    (subst (λ (c : Cut). IsOfBundle (bundle_of input c) (journal_of input c) (feeds_before input c) x) (same_Some a.0 b.0 (sym a.1 ∙ b.1)) a.2) b.2) other)
    is
