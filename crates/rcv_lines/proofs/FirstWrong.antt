-- The first wrong line: where the reading stops, and that there is one at most.
use Rattle.std.proofs.Common.{◌≡◌, ◌∙◌, ◌<◌, ◌≤◌, ◌+◌, ◌-◌, ℕ, zero, suc, Bool, true, false, List, [], ◌∷◌, ◌++◌, length, take, drop, refl, sym, ap, subst, inl, inr, ⊎_elim, arith, append_assoc, append-nil, length-append, Option, Result, Some, None, IfOk, IfErr, IfSome, IfNone, ok_or}
use Rattle.std.proofs.lemmas.Bool.{cases_lt}
use Rattle.std.proofs.lemmas.List.{take-append-drop}
use Rattle.std.proofs.Math.Seq.{take-append_seam}
use Rattle.rcv_session.specs.Session.{SessionView, roles_of}
use Rattle.rcv_journal.specs.Recorded.{JournalView}
use Rattle.rcv_journal.specs.Form.{MayBegin, Spells, IsFirstWrong, lines_of}
use Rattle.rcv_lines.specs.Line.{LineView, SaysLine}
use Rattle.rcv_lines.specs.Reading.{ReadingView, Follows, IsRead, TakesText}
use Rattle.rcv_lines.specs.declared.text.LinesError.{LinesError}
use Rattle.rcv_lines.specs.declared.text.LinesError.TheVariants.{Line}
use Rattle.rcv_lines.proofs.Views.{SaysOne}
use Rattle.rcv_lines.proofs.Progress.{HasRead, completed, goes_on, next_follows, spelled, stops_early}

take_one_more : (front : List (List ℕ)) (x : List ℕ) (rest : List (List ℕ)) → take (suc (length front)) (front ++ x ∷ rest) ≡ front ++ x ∷ []
take_one_more [] x rest = refl
take_one_more (b ∷ bs) x rest = ap (λ xs. b ∷ xs) (take_one_more bs x rest)

-- what was read before a line
before_is : (front rest : List (List ℕ)) (lines : List (List ℕ)) → lines ≡ front ++ rest → take (length front + 1 - 1) lines ≡ front
before_is front rest lines is =
    let back : length front + 1 - 1 ≡ length front = omega arith in
    ap (λ n. take n lines) back ∙ ap (take (length front)) is ∙ take-append_seam front rest

module _ (setup : SessionView) (one : SaysOne setup) where
  -- a line that says nothing that may come is the first wrong one
  pub wrong_line : (text : List ℕ) (done : List (List ℕ)) (line : List ℕ) (rest : List (List ℕ)) (r : ReadingView) → lines_of text ≡ done ++ line ∷ rest → IsRead setup done r → ((v : LineView) → SaysLine setup line v → Follows (roles_of setup) r v → ⊥) → IsFirstWrong setup text (length done + 1)
  wrong_line text done line rest r is read none =
      let start : MayBegin setup done = completed setup done r.journal.entries r.journal.roles r.journal.limited r.over read in
      let upto : take (length done + 1) (lines_of text) ≡ done ++ line ∷ [] =
      let next : length done + 1 ≡ suc (length done) = omega arith in
      ap (λ n. take n (lines_of text)) next ∙ ap (take (suc (length done))) is ∙ take_one_more done line rest in
      let long : length (lines_of text) ≡ length done + suc (length rest) = ap length is ∙ length-append done (line ∷ rest) in
      record {
        first = omega arith;
        before = subst (MayBegin setup) (sym (before_is done (line ∷ rest) (lines_of text) is)) start;
        wrong = inl (omega (arith, long), λ begins. let next = next_follows setup one done r line read (subst (MayBegin setup) upto begins) in none next.0 next.1 next.2);
      }

  -- where the text stops before its last line, the line behind it is the first wrong one
  pub wrong_end : (text : List ℕ) (done : List (List ℕ)) (r : ReadingView) → lines_of text ≡ done → IsRead setup done r → r.over ≡ false → IsFirstWrong setup text (length done + 1)
  wrong_end text done r is read over =
      let start : MayBegin setup done = completed setup done r.journal.entries r.journal.roles r.journal.limited r.over read in
      let all : IsRead setup (lines_of text) r = subst (λ lines. IsRead setup lines r) (sym is) read in
      record {
        first = omega arith;
        before = subst (MayBegin setup) (sym (before_is done [] (lines_of text) (is ∙ sym (append-nil done)))) start;
        wrong = inr (ap (λ lines. length lines + 1) (sym is), λ j spells. stops_early setup one text r j all over spells);
      }

-- a text with a first wrong line is none of the form
pub spells_none : (setup : SessionView) (text : List ℕ) (k : ℕ) (j : JournalView) → IsFirstWrong setup text k → Spells setup text j → ⊥
spells_none setup text k j is spells =
    ⊎_elim (λ w. w.1 (j, spells.0, drop k (lines_of text), sym spells.1 ∙ sym (take-append-drop k (lines_of text)))) (λ w. w.1 j spells) is.wrong

take_less : (m n : ℕ) (lines : List (List ℕ)) → m ≤ n → take m (take n lines) ≡ take m lines
take_less zero n lines le = refl
take_less (suc m) zero lines le = absurd (omega (arith, le))
take_less (suc m) (suc n) [] le = refl
take_less (suc m) (suc n) (x ∷ lines) le = ap (λ xs. x ∷ xs) (take_less m n lines (omega (arith, le)))

-- fewer lines begin it too
begins_before : (setup : SessionView) (m n : ℕ) (lines : List (List ℕ)) → m ≤ n → MayBegin setup (take n lines) → MayBegin setup (take m lines)
begins_before setup m n lines le begins =
    let front : take n lines ≡ take m lines ++ drop m (take n lines) =
    sym (take-append-drop m (take n lines)) ∙ ap (λ xs. xs ++ drop m (take n lines)) (take_less m n lines le) in (
      begins.0,
      begins.1,
      drop m (take n lines) ++ begins.2,
      begins.3 ∙ ap (λ xs. xs ++ begins.2) front ∙ append_assoc (take m lines) (drop m (take n lines)) begins.2,
    )

not_before : (setup : SessionView) (text : List ℕ) (a b : ℕ) → IsFirstWrong setup text a → IsFirstWrong setup text b → a < b → ⊥
not_before setup text a b wrong_a wrong_b lt =
    ⊎_elim
    (λ w. w.1 (begins_before setup a (b - 1) (lines_of text) (omega (arith, lt)) wrong_b.before))
    (λ w. let last = w.0 in ⊎_elim (λ v. let inside = v.0 in absurd (omega (arith, lt, last, inside))) (λ v. let end = v.0 in absurd (omega (arith, lt, last, end))) wrong_b.wrong)
    wrong_a.wrong

pub one_first_wrong : (setup : SessionView) (text : List ℕ) (a b : ℕ) → IsFirstWrong setup text a → IsFirstWrong setup text b → a ≡ b
one_first_wrong setup text a b wrong_a wrong_b =
    ⊎_elim
    (λ lt. absurd (not_before setup text a b wrong_a wrong_b lt))
    (λ le. ⊎_elim (λ lt. absurd (not_before setup text b a wrong_b wrong_a lt)) (λ ge. let same : a ≡ b = omega (arith, le, ge) in same) (cases_lt b a))
    (cases_lt a b)

no_line : (rest : List ℕ) → length rest ≡ 0 → lines_of rest ≡ []
no_line [] none = refl
no_line (b ∷ rest) none = absurd (omega (arith, none))

-- all lines were read
all_read : (setup : SessionView) (text rest : List ℕ) (number : ℕ) (r : ReadingView) (is : HasRead setup text rest number r) → length rest ≡ 0 → lines_of text ≡ is.done
all_read setup text rest number r is none = is.whole ∙ ap (λ xs. is.done ++ xs) (no_line rest none) ∙ append-nil is.done

-- the machine goes on
pub gone_on : (setup : SessionView) (text rest line behind : List ℕ) (number : ℕ) (old new : ReadingView) (taken : Bool) → HasRead setup text rest number old → lines_of rest ≡ line ∷ lines_of behind → length behind < length rest → TakesText setup old line taken new → taken ≡ true → HasRead setup text behind (number + 1) new
gone_on setup text rest line behind number old new taken was is shorter took yes_taken =
    goes_on setup text rest line behind number old new was is shorter (subst (λ t. TakesText setup old line t new) yes_taken took)

-- or it stops
pub stopped : (setup : SessionView) (text rest line behind : List ℕ) (number k : ℕ) (old new : ReadingView) (taken : Bool) → SaysOne setup → HasRead setup text rest number old → lines_of rest ≡ line ∷ lines_of behind → TakesText setup old line taken new → taken ≡ false → Line number ≡ Line k → IsFirstWrong setup text k
stopped setup text rest line behind number k old new taken one was is took not_taken at =
    let here : number ≡ k = cc in
    subst (IsFirstWrong setup text) (sym was.counted ∙ here) (wrong_line setup one text was.done line (lines_of behind) old (was.whole ∙ ap (λ xs. was.done ++ xs) is) was.read none)
  where
    none : (v : LineView) → SaysLine setup line v → Follows (roles_of setup) old v → ⊥
    none v says follows =
        ⊎_elim
        (λ nothing. nothing v says)
        (λ other. other.2 (subst (Follows (roles_of setup) old) (one v other.0 says.0 other.1.0 (sym says.1 ∙ other.1.1)) follows))
        (subst (λ t. TakesText setup old line t new) not_taken took)

pub finished_ok : (setup : SessionView) (text rest : List ℕ) (number : ℕ) (r : ReadingView) (found : Option JournalView) (e : LinesError) (q : Result JournalView LinesError) → q ≡ ok_or found e → HasRead setup text rest number r → length rest ≡ 0 → IfSome found (λ j. (r.over ≡ true) × (j ≡ r.journal)) → IfOk q (λ j. Spells setup text j)
finished_ok setup text rest number r None e q is was none over = subst (λ x. IfOk x (λ j. Spells setup text j)) (sym is) tt
finished_ok setup text rest number r (Some j) e q is was none over =
    let whole : IsRead setup (lines_of text) r = subst (λ lines. IsRead setup lines r) (sym (all_read setup text rest number r was none)) was.read in
    let ended : IsRead setup (lines_of text) (record { journal = r.journal; over = true }) = subst (λ b. IsRead setup (lines_of text) (record { journal = r.journal; over = b })) over.0 whole in
    let says : Spells setup text j = subst (Spells setup text) (sym over.1) (spelled setup text r.journal.entries r.journal.roles r.journal.limited ended) in
    subst (λ x. IfOk x (λ j. Spells setup text j)) (sym is) says

pub finished_line : (setup : SessionView) (text rest : List ℕ) (number : ℕ) (r : ReadingView) (found : Option JournalView) (q : Result JournalView LinesError) → SaysOne setup → q ≡ ok_or found (Line number) → HasRead setup text rest number r → length rest ≡ 0 → IfNone found (r.over ≡ false) → IfErr q (λ e. (k : ℕ) → e ≡ Line k → IsFirstWrong setup text k)
finished_line setup text rest number r None q one is was none over =
    let wrong : (k : ℕ) → Line number ≡ Line k → IsFirstWrong setup text k = λ k at.
    let here : number ≡ k = cc in
    subst (IsFirstWrong setup text) (sym was.counted ∙ here) (wrong_end setup one text was.done r (all_read setup text rest number r was none) was.read over) in
    subst (λ x. IfErr x (λ e. (k : ℕ) → e ≡ Line k → IsFirstWrong setup text k)) (sym is) wrong
finished_line setup text rest number r (Some j) q one is was none over = subst (λ x. IfErr x (λ e. (k : ℕ) → e ≡ Line k → IsFirstWrong setup text k)) (sym is) tt
