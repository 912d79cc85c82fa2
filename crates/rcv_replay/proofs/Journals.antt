-- A replay is legal exactly where the text is that of a legal and final journal.
use Rattle.std.proofs.Common.{◌≡◌, ◌∙◌, ℕ, Bool, true, false, cond, List, [], ◌∷◌, ◌++◌, length, map, flat_map, refl, sym, ap, ap₂, subst, inl, inr, ⊎_elim, ◌⊎◌, append_assoc, append-nil}
use Rattle.std.specs.Prelude.{◌==◌}
use Rattle.std.proofs.lemmas.Option.{none-some, same_Some}
use Rattle.std.proofs.lemmas.Grind.{flat_map-append}
use Rattle.rcv_tree.specs.declared.entry.Entry.{Entry}
use Rattle.rcv_model.specs.Journal.{reading, IsLegal}
use Rattle.rcv_model.specs.Next.{IsProper}
use Rattle.rcv_model.specs.Text.{body_of}
use Rattle.rcv_model.specs.Final.{IsFinal, AreDone, IsLimited, HasOneAtLimit}
use Rattle.rcv_model.proofs.Choosing.{chosen_in}
use Rattle.rcv_model.proofs.Finals.{done_or_limited}
use Rattle.rcv_model.proofs.Forms.{proper}
use Rattle.rcv_session.specs.Session.{SessionView, net_for, lines_of, rules_of}
use Rattle.rcv_plan.specs.Symbols.{symbols_of}
use Rattle.rcv_plan.proofs.Fitting.{read_is_planned}
use Rattle.rcv_core.proofs.Ranges.{ranges}
use Rattle.rcv_input.specs.Input.{IsTaken}
use Rattle.rcv_input.proofs.Once.{one_answer}
use Rattle.rcv_journal.specs.declared.line.RoleLine.{RoleLine}
use Rattle.rcv_journal.specs.JournalText.{entry_line, role_line, last_line}
use Rattle.rcv_journal.specs.Lines.{AreLinesOf, limited_in}
use Rattle.rcv_journal.specs.Recorded.{JournalView, bare}
use Rattle.rcv_journal.specs.Form as form
use Rattle.rcv_journal.specs.Form.{Spells, end_line, journal_lines}
use Rattle.rcv_judge.specs.Closing.{ClosesRight}
use Rattle.rcv_judge.proofs.Closings.{closed_completed, closed_limited}
use Rattle.rcv_lines.proofs.Splitting.{goes_on}
use Rattle.rcv_lines.proofs.FinalTexts.{done_end, limit_end, joined}
use Rattle.rcv_echo.proofs.ReadBack.{taken_texts}
use Rattle.rcv_replay.specs.declared.cut.Cut.{Cut}
use Rattle.rcv_replay.specs.declared.replayed.Replayed.TheVariants as said
use Rattle.rcv_replay.specs.Cutting.{bundle_of, journal_of, feeds_before}
use Rattle.rcv_replay.specs.Replaying.{IsVerdict, IsOfText, IsOfBundle}
use Rattle.rcv_replay.specs.Laws.{IsWholeText, LegalReplaysAreJournals}
use Rattle.rcv_replay.proofs.Moving.{text_moves}

-- the lines of a text, one behind another, are the text
abbrev whole : List (List ℕ) → List ℕ
whole lines = flat_map (λ (line : List ℕ). line) lines

one_byte : (begun : List ℕ) (b : ℕ) (rest : List ℕ) (ends : Bool) → whole (form.lines_from [] rest) ≡ rest → whole (form.lines_from (begun ++ b ∷ []) rest) ≡ (begun ++ b ∷ []) ++ rest
    → whole (cond ends ((begun ++ b ∷ []) ∷ form.lines_from [] rest) (form.lines_from (begun ++ b ∷ []) rest)) ≡ begun ++ b ∷ rest
one_byte begun b rest true ended on = ap (λ xs. (begun ++ b ∷ []) ++ xs) ended ∙ append_assoc begun (b ∷ []) rest
one_byte begun b rest false ended on = on ∙ append_assoc begun (b ∷ []) rest

whole_from : (begun text : List ℕ) → whole (form.lines_from begun text) ≡ begun ++ text
whole_from [] [] = refl
whole_from (b ∷ begun) [] = refl
whole_from begun (b ∷ rest) = ap whole (goes_on begun b rest) ∙ one_byte begun b rest (b == 10) (whole_from [] rest) (whole_from (begun ++ b ∷ []) rest)

-- the lines of a journal, one behind another
lines_joined : (setup : SessionView) (j : JournalView) → whole (journal_lines setup j) ≡ flat_map (entry_line setup) j.entries ++ flat_map (role_line setup) j.roles ++ end_line setup j.limited
lines_joined setup j =
    flat_map-append (λ (line : List ℕ). line) (map (entry_line setup) j.entries ++ map (role_line setup) j.roles) (end_line setup j.limited ∷ [])
    ∙ ap₂ (λ xs ys. xs ++ ys) (flat_map-append (λ (line : List ℕ). line) (map (entry_line setup) j.entries) (map (role_line setup) j.roles) ∙ ap₂ (λ xs ys. xs ++ ys) (joined (entry_line setup) j.entries) (joined (role_line setup) j.roles)) (append-nil (end_line setup j.limited))

-- ---- a session that was taken

module _ (input : List ℕ) (session : SessionView) (taken : IsTaken input session) (entries : List Entry) (legal : IsLegal (rules_of session) entries) (final : IsFinal (rules_of session) (reading (rules_of session) entries)) where
  lawful : IsProper (rules_of session).net (rules_of session).roles
  lawful = proper (body_of session.protocol.body) (length session.protocol.roles) taken.protocol.accepted.form

  ends : AreDone (rules_of session) (reading (rules_of session) entries) ⊎ (IsLimited (rules_of session) (reading (rules_of session) entries) × HasOneAtLimit (rules_of session) (reading (rules_of session) entries))
  ends = go (done_or_limited (rules_of session) entries lawful taken.protocol.accepted.accepted (λ r events attempt zs some. chosen_in (net_for session) (lines_of session) r events attempt zs some) (ranges session (read_is_planned session.protocol.roles (symbols_of input taken.plan.tokens) session.plan taken.plan.read)).room_first legal final)
    where
      go : AreDone (rules_of session) (reading (rules_of session) entries) ⊎ HasOneAtLimit (rules_of session) (reading (rules_of session) entries) → AreDone (rules_of session) (reading (rules_of session) entries) ⊎ (IsLimited (rules_of session) (reading (rules_of session) entries) × HasOneAtLimit (rules_of session) (reading (rules_of session) entries))
      go (inl done) = inl done
      go (inr one) = inr ((final, λ done. one.2 (done one.0 one.1)), one)

  -- its lines close right
  closes : (lines : List RoleLine) → AreLinesOf (rules_of session) (reading (rules_of session) entries) lines → ClosesRight session entries lines (limited_in lines)
  closes lines are = ⊎_elim
      (λ done. closed_completed (rules_of session) (reading (rules_of session) entries) lines lines (limited_in lines) are refl (λ r lt. refl) refl (final, done))
      (λ one. closed_limited (rules_of session) (reading (rules_of session) entries) lines lines (limited_in lines) are refl (λ r lt. refl) refl one)
      ends

  -- the last line of the journal is that of its text
  last_same : (lines : List RoleLine) → AreLinesOf (rules_of session) (reading (rules_of session) entries) lines → end_line (bare session.protocol) (limited_in lines) ≡ last_line session lines
  last_same lines are = ⊎_elim
      (λ done. done_end session (reading (rules_of session) entries) lines are done)
      (λ one. limit_end session (reading (rules_of session) entries) lines are one.1)
      ends

-- a legal verdict is on a text of a legal and final journal
whole_of : (input : List ℕ) (session : SessionView) (text : List ℕ) (feeds count : ℕ) (limited : Bool) → IsTaken input session → IsOfText session text feeds (said.Legal count limited) → IsWholeText session text count limited
whole_of input session text feeds count limited taken is = ⊎_elim (λ wrong. absurd (let other = wrong.1 in cc)) (λ formed. go formed.0 formed.1 formed.2) is
  where
    go : (j : JournalView) → Spells (bare session.protocol) text j → IsVerdict session j (said.Legal count limited) → IsWholeText session text count limited
    go j spells verdict =
        let closes_so = verdict.1 in
        let same : j.limited ≡ limited_in j.roles = closes_so.named in
        record {
          entries = j.entries;
          counted = verdict.2;
          legal = verdict.0;
          final = closes_so.final;
          is_text = record {
            lines = j.roles;
            are_lines = closes_so.lines;
            is_text =
                sym (whole_from [] text)
                ∙ ap whole spells.1
                ∙ lines_joined (bare session.protocol) j
                ∙ ap (λ l. flat_map (entry_line (bare session.protocol)) j.entries ++ flat_map (role_line (bare session.protocol)) j.roles ++ l) (ap (end_line (bare session.protocol)) same ∙ last_same input session taken j.entries verdict.0 closes_so.final j.roles closes_so.lines);
          };
          told = (
            (λ t done. verdict.3.0 t (closes_so.completed.1 done)),
            (λ left. verdict.3.1 (λ none. left (closes_so.completed.0 none))),
          );
        }

-- and such a text has a legal verdict
legal_of : (input : List ℕ) (session : SessionView) (text : List ℕ) (feeds count : ℕ) (limited : Bool) → IsTaken input session → IsWholeText session text count limited → IsOfText session text feeds (said.Legal count limited)
legal_of input session text feeds count limited taken is =
    let read = taken_texts input session is.entries text taken is.legal is.final is.is_text in
    let closes_so = closes input session taken is.entries is.legal is.final read.lines read.are_lines in
    inr (
      record { entries = is.entries; roles = read.lines; limited = limited_in read.lines },
      read.spells,
      (
        is.legal,
        closes_so,
        is.counted,
        (
          (λ t none. is.told.0 t (closes_so.completed.0 none)),
          (λ some. is.told.1 (λ done. some (closes_so.completed.1 done))),
        ),
      ),
    )

pub legal_journals : LegalReplaysAreJournals
legal_journals input cut session count limited cut_is taken = (
  (λ is. ⊎_elim
      (λ uncut. absurd (none-some cut (sym uncut.0 ∙ cut_is)))
      (λ parted. ⊎_elim
      (λ refused. absurd (let other = refused.1 in cc))
      (λ of. whole_of (bundle_of input cut) session (journal_of input cut) (feeds_before input cut) count limited taken
      (text_moves of.0 session (journal_of input cut) (feeds_before input cut) (said.Legal count limited)
      (one_answer.sessions (bundle_of input cut) of.0 session of.1 taken) of.2))
      (subst (λ (c : Cut). IsOfBundle (bundle_of input c) (journal_of input c) (feeds_before input c) (said.Legal count limited)) (same_Some parted.0 cut (sym parted.1 ∙ cut_is)) parted.2))
      is),
  (λ is. inr (cut, cut_is, inr (session, taken, legal_of (bundle_of input cut) session (journal_of input cut) (feeds_before input cut) count limited taken is))),
)
