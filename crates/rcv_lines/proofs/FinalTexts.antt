-- The text of a session that came to its end is read as its entries, its lines of roles and those at the limit.
use Rattle.std.proofs.Common.{◌≡◌, ◌∙◌, ◌<◌, ◌≤◌, ℕ, zero, suc, Bool, true, false, cond, List, [], ◌∷◌, ◌++◌, All, Some, map, flat_map, slice_get, get_or, refl, sym, ap, ap₂, subst, ⊎_elim, arith, append-nil, codes}
use Rattle.std.specs.List.{list_all}
use Rattle.std.proofs.lemmas.Option.{none-some, same_Some, slice_get-get_or}
use Rattle.std.proofs.lemmas.Grind.{flat_map-append}
use Rattle.std.proofs.lemmas.List.Elements.{All-cons, All-head, All-tail}
use Rattle.rcv_model.specs.Journal.{State, reading}
use Rattle.rcv_model.specs.Final.{AreDone, HasOneAtLimit}
use Rattle.rcv_model.specs.Numbers.{IsBounded}
use Rattle.rcv_model.proofs.Choosing.{chosen_in}
use Rattle.rcv_model.proofs.Finals.{done_or_limited}
use Rattle.rcv_model.proofs.Forms.{proper}
use Rattle.rcv_model.proofs.Numbers.{bounded}
use Rattle.rcv_session.specs.Session.{SessionView, text_of, roles_of, net_for, lines_of, rules_of}
use Rattle.rcv_core.proofs.Ranges.{ranges}
use Rattle.rcv_journal.specs.declared.line.RoleLine.{RoleLine}
use Rattle.rcv_journal.specs.JournalText.{entry_line, role_line, is_done, is_limit, limit_text, last_line, name_of}
use Rattle.rcv_journal.specs.Lines.{AreLinesOf, limited_in}
use Rattle.rcv_journal.proofs.Limited.{all_done, one_left}
use Rattle.rcv_journal.proofs.OneText.{completed_is_written}
use Rattle.rcv_journal.specs.Recorded.{JournalView, bare}
use Rattle.rcv_journal.specs.Form.{IsFormed, Spells, end_line, journal_lines, FitsLine}
use Rattle.rcv_lines.specs.FinalTexts.{FinalTextsAreReadBack}
use Rattle.rcv_lines.proofs.FinalEntries.{formed}
use Rattle.rcv_lines.proofs.OneJournal.{lines_spell}
use Rattle.rcv_lines.proofs.Order.{Ordered, ordered}
use Rattle.rcv_lines.proofs.Accepting.{all_end}

-- ---- the roles at the limit, in order

-- each is at least this, and they ascend
abbrev Ascend : ℕ → List ℕ → Type 0
Ascend n [] = Unit {0}
Ascend n (q ∷ qs) = (n ≤ q) × Ascend (suc q) qs

ascend_weaker : (m n : ℕ) (qs : List ℕ) → m ≤ n → Ascend n qs → Ascend m qs
ascend_weaker m n [] le are = tt
ascend_weaker m n (q ∷ qs) le are = let here = are.0 in (omega (arith, le, here), are.1)

limited_ascend : (n : ℕ) (lines : List RoleLine) → Ordered n lines → Ascend n (limited_in lines)
limited_ascend n [] are = tt
limited_ascend n (line ∷ lines) are = go (is_limit line.word) (limited_ascend (suc n) lines are.1)
  where
    go : (b : Bool) → Ascend (suc n) (limited_in lines) → Ascend n (cond b (line.role ∷ limited_in lines) (limited_in lines))
    go true behind = let same = are.0 in (omega (arith, same), ascend_weaker (suc line.role) (suc n) (limited_in lines) (omega (arith, same)) behind)
    go false behind = ascend_weaker n (suc n) (limited_in lines) (omega arith) behind

steps_up : (n : ℕ) (qs : List ℕ) → Ascend n qs → (k a b : ℕ) → slice_get qs k ≡ Some a → slice_get qs (suc k) ≡ Some b → a < b
steps_up n [] are k a b at next = absurd (none-some a at)
steps_up n (q ∷ []) are zero a b at next = absurd (none-some b next)
steps_up n (q ∷ p ∷ qs) are zero a b at next =
    let first : q ≡ a = same_Some q a at in
    let second : p ≡ b = same_Some p b next in
    let less = are.1.0 in
    omega (arith, first, second, less)
steps_up n (q ∷ qs) are (suc k) a b at next = steps_up (suc q) qs are.1 k a b at next

limited_declared : (m : ℕ) (lines : List RoleLine) → All (λ line. line.role < m) lines → All (λ q. q < m) (limited_in lines)
limited_declared m [] all = λ k d lt. absurd (omega (arith, lt))
limited_declared m (line ∷ lines) all =
    go (is_limit line.word) (limited_declared m lines (All-tail (λ (x : RoleLine). x.role < m) line lines all))
  where
    go : (b : Bool) → All (λ q. q < m) (limited_in lines) → All (λ q. q < m) (cond b (line.role ∷ limited_in lines) (limited_in lines))
    go true behind = All-cons (λ q. q < m) line.role (limited_in lines) (All-head (λ (x : RoleLine). x.role < m) line lines all) behind
    go false behind = behind

-- ---- the last line

limit_texts : (setup : SessionView) (lines : List RoleLine) → flat_map (limit_text setup) lines ≡ flat_map (λ q. codes " " ++ name_of setup q) (limited_in lines)
limit_texts setup [] = refl
limit_texts setup (line ∷ lines) = go (is_limit line.word) (limit_texts setup lines)
  where
    go : (b : Bool) → flat_map (limit_text setup) lines ≡ flat_map (λ q. codes " " ++ name_of setup q) (limited_in lines) → cond b (codes " " ++ name_of setup line.role) [] ++ flat_map (limit_text setup) lines ≡ flat_map (λ q. codes " " ++ name_of setup q) (cond b (line.role ∷ limited_in lines) (limited_in lines))
    go true rest = ap (λ xs. codes " " ++ name_of setup line.role ++ xs) rest
    go false rest = rest

limited_end : (setup : SessionView) (qs : List ℕ) → (qs ≡ [] → ⊥) → end_line setup qs ≡ codes "limited" ++ flat_map (λ q. codes " " ++ name_of setup q) qs ++ codes "\n"
limited_end setup [] some = absurd (some refl)
limited_end setup (q ∷ qs) some = refl

module _ (session : SessionView) (s : State) (lines : List RoleLine) (are : AreLinesOf (rules_of session) s lines) where
  pub done_end : AreDone (rules_of session) s → end_line (bare session.protocol) (limited_in lines) ≡ last_line session lines
  done_end done =
      ap (end_line (bare session.protocol)) (all_done (rules_of session) s lines are done) ∙ sym ((completed_is_written session s lines are).1 done)

  pub limit_end : HasOneAtLimit (rules_of session) s → end_line (bare session.protocol) (limited_in lines) ≡ last_line session lines
  limit_end one = go (list_all (λ line. is_done line.word) lines) refl
    where
      go : (b : Bool) → list_all (λ (line : RoleLine). is_done line.word) lines ≡ b → end_line (bare session.protocol) (limited_in lines) ≡ last_line session lines
      go true all = absurd (one.2 ((completed_is_written session s lines are).0 (ap (λ b. cond b (codes "completed\n") (codes "limited" ++ flat_map (limit_text session) lines ++ codes "\n")) all) one.0 one.1))
      go false all =
          limited_end (bare session.protocol) (limited_in lines) (one_left (rules_of session) s lines are one)
          ∙ ap (λ xs. codes "limited" ++ xs ++ codes "\n") (sym (limit_texts session lines))
          ∙ sym (ap (λ b. cond b (codes "completed\n") (codes "limited" ++ flat_map (limit_text session) lines ++ codes "\n")) all)

-- ---- the law

pub joined : {A : Type 0} (f : A → List ℕ) (xs : List A) → flat_map (λ (line : List ℕ). line) (map f xs) ≡ flat_map f xs
joined f [] = refl
joined f (x ∷ xs) = ap (λ ys. f x ++ ys) (joined f xs)

pub final_texts : FinalTextsAreReadBack
final_texts session entries bytes ended text =
    record { lines = lines; are_lines = text.are_lines; spells = subst (λ xs. Spells plain_session xs journal) (sym same) (lines_spell plain_session journal (all_end session.protocol ended.protocol) is_formed) }
  where
    plain_session : SessionView
    plain_session = bare session.protocol

    lines : List RoleLine
    lines = text.lines

    s : State
    s = reading (rules_of session) entries

    journal : JournalView
    journal = record { entries = entries; roles = lines; limited = limited_in lines }

    order : Ordered 0 lines
    order = ordered 0 lines (λ q line at. (text.are_lines.each q line at).role ∙ omega arith)

    numbers : IsBounded (rules_of session) entries s
    numbers = bounded (rules_of session) entries ended.legal

    last : end_line plain_session (limited_in lines) ≡ last_line session lines
    last = ⊎_elim (λ done. done_end session s lines text.are_lines done) (λ one. limit_end session s lines text.are_lines one)
        (done_or_limited (rules_of session) entries (proper (text_of session) (roles_of session) ended.protocol.form) ended.protocol.accepted (λ r events attempt zs some. chosen_in (net_for session) (lines_of session) r events attempt zs some) (let room = (ranges session ended.planned).room_first in omega (arith, room)) ended.legal ended.final)

    fit : All FitsLine lines
    fit k d lt =
        let line = text.are_lines.each k (get_or lines k d) (slice_get-get_or lines k d lt) in
        let kept_is = line.kept in
        let raw_is = line.raw in
        let kept_few = numbers.kept k in
        let raw_few = numbers.raw k in
        let most = (ranges session ended.planned).limit_last in
        (omega (arith, kept_is, kept_few, raw_few, most), omega (arith, raw_is, raw_few, most))

    declared : All (λ (line : RoleLine). line.role < roles_of session) lines
    declared k d lt =
        let line = text.are_lines.each k (get_or lines k d) (slice_get-get_or lines k d lt) in
        subst (λ r. r < roles_of session) (sym line.role) (subst (λ n. k < n) text.are_lines.all lt)

    is_formed : IsFormed plain_session journal
    is_formed =
        record {
          entries = formed session ended.protocol ended.planned entries ended.legal ended.values;
          all = text.are_lines.all;
          in_order = λ q line at. (text.are_lines.each q line at).role;
          fit = fit;
          limited = record {
            declared = limited_declared (roles_of session) lines declared;
            ascending = λ k a b at next. steps_up 0 (limited_in lines) (limited_ascend 0 lines order) k a b at (subst (λ n. slice_get (limited_in lines) n ≡ Some b) (omega arith) next);
          };
        }

    same : bytes ≡ flat_map (λ (line : List ℕ). line) (journal_lines plain_session journal)
    same = text.is_text ∙ sym (
        flat_map-append (λ (line : List ℕ). line) (map (entry_line plain_session) entries ++ map (role_line plain_session) lines) (end_line plain_session (limited_in lines) ∷ [])
        ∙ ap₂ (λ xs ys. xs ++ ys) (flat_map-append (λ (line : List ℕ). line) (map (entry_line plain_session) entries) (map (role_line plain_session) lines) ∙ ap₂ (λ xs ys. xs ++ ys) (joined (entry_line plain_session) entries) (joined (role_line plain_session) lines)) (append-nil (end_line plain_session (limited_in lines)) ∙ last))
