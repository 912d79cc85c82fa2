-- Each text is a journal's, or has a first wrong line.
use Rattle.std.proofs.Common.{◌≡◌, ◌∙◌, ◌+◌, ℕ, Bool, true, false, List, [], ◌∷◌, ◌++◌, length, refl, sym, subst, ◌⊎◌, inl, inr, ⊎_elim, append_assoc, append-nil}
use Rattle.std.proofs.lemmas.Bool.{cases_eq}
use Rattle.rcv_session.specs.Session.{SessionView, roles_of}
use Rattle.rcv_journal.specs.Recorded.{JournalView, bare}
use Rattle.rcv_journal.specs.Form.{Spells, IsFirstWrong, lines_of}
use Rattle.rcv_lines.specs.Line.{LineView, EntryLine, RoleLineOf, EndLine, SaysLine}
use Rattle.rcv_lines.specs.Reading.{ReadingView, MayCome, Follows, IsRead, nothing_read, with_line}
use Rattle.rcv_lines.specs.ReadingLaws.{TextsAreTakenOrWrong}
use Rattle.rcv_lines.proofs.Accepting.{says_one}
use Rattle.rcv_lines.proofs.Deciding.{OrNot, both, says_or_not}
use Rattle.rcv_lines.proofs.FirstWrong.{wrong_line, wrong_end}
use Rattle.rcv_lines.proofs.Progress.{begun, more, spelled}
use Rattle.rcv_lines.proofs.Views.{SaysOne}

may_come : (roles n : ℕ) (v : LineView) → OrNot (MayCome roles n v)
may_come roles n (EntryLine e) = cases_eq n 0
may_come roles n (RoleLineOf line) = cases_eq line.role n
may_come roles n (EndLine limited) = cases_eq n roles

is_false : (b : Bool) → OrNot (b ≡ false)
is_false false = inl refl
is_false true = inr (λ e. cc)

follows : (roles : ℕ) (r : ReadingView) (v : LineView) → OrNot (Follows roles r v)
follows roles r v = both (is_false r.over) (may_come roles (length r.journal.roles) v)

abbrev Answer : SessionView → List ℕ → Type 0
Answer setup text = ((j : JournalView) × Spells setup text j) ⊎ ((k : ℕ) × IsFirstWrong setup text k)

module _ (setup : SessionView) (one : SaysOne setup) (text : List ℕ) where
  -- no line is left
  at_end : (done : List (List ℕ)) (r : ReadingView) (over : Bool) → r.over ≡ over → lines_of text ≡ done → IsRead setup done r → Answer setup text
  at_end done r false is whole read = inr (length done + 1, wrong_end setup one text done r whole read is)
  at_end done r true is whole read =
      inl (r.journal, spelled setup text r.journal.entries r.journal.roles r.journal.limited (subst (λ b. IsRead setup (lines_of text) (record { journal = r.journal; over = b })) is (subst (λ ls. IsRead setup ls r) (sym whole) read)))

  from : (rest done : List (List ℕ)) (r : ReadingView) → lines_of text ≡ done ++ rest → IsRead setup done r → Answer setup text
  from [] done r whole read = at_end done r r.over refl (whole ∙ append-nil done) read
  from (line ∷ rest) done r whole read = go (says_or_not setup line) (λ v says next. from rest (done ++ line ∷ []) (with_line r v) (whole ∙ sym (append_assoc done (line ∷ []) rest))
      (more setup done r.journal.entries r.journal.roles r.journal.limited r.over line v read says next))
    where
      wrong : ((v : LineView) → SaysLine setup line v → Follows (roles_of setup) r v → ⊥) → Answer setup text
      wrong none = inr (length done + 1, wrong_line setup one text done line rest r whole read none)

      go : OrNot ((v : LineView) × SaysLine setup line v) → ((v : LineView) → SaysLine setup line v → Follows (roles_of setup) r v → Answer setup text) → Answer setup text
      go (inr nothing) on = wrong (λ v says next. nothing (v, says))
      go (inl (v, says)) on = ⊎_elim
          (λ next. on v says next)
          (λ other. wrong (λ w said next. other (subst (Follows (roles_of setup) r) (one w v said.0 says.0 (sym said.1 ∙ says.1)) next)))
          (follows (roles_of setup) r v)

pub taken_or_wrong : TextsAreTakenOrWrong
taken_or_wrong protocol text accepted = from (bare protocol) (says_one protocol accepted) text (lines_of text) [] nothing_read refl (begun (bare protocol))
