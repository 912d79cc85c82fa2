-- A journal has one list of role lines, and so one text, which says whether all roles are done.
use Rattle.std.proofs.Common.{◌≡◌, ℕ, zero, suc, ◌+◌, ◌<◌, ◌↔◌, ◌&&◌, Bool, true, false, cond, Some, List, [], ◌∷◌, ◌++◌, length, codes, flat_map, refl, sym, ◌∙◌, ap, subst, arith}
use Rattle.std.specs.Prelude.{slice_get, slice_index}
use Rattle.std.specs.List.{list_all}
use Rattle.rcv_tree.specs.declared.entry.Entry.{Entry}
use Rattle.rcv_model.specs.Journal.{Rules, State, reading}
use Rattle.rcv_model.specs.Act.{IsDone}
use Rattle.rcv_model.specs.Final.{AreDone}
use Rattle.rcv_session.specs.Session.{SessionView, rules_of}
use Rattle.rcv_journal.specs.declared.line.RoleLine.{RoleLine}
use Rattle.rcv_journal.specs.declared.line.RoleWord.{RoleWord}
use Rattle.rcv_journal.specs.declared.line.RoleWord.TheVariants.{Done, Limit, Waits}
use Rattle.rcv_journal.specs.JournalText.{is_done, limit_text, last_line, journal_text}
use Rattle.rcv_journal.specs.Lines.{IsWordOf, IsLineOf, AreLinesOf, IsTextOf}

same_word : (rules : Rules) (s : State) (r : ℕ) (a b : RoleWord) → IsWordOf rules s r a → IsWordOf rules s r b → a ≡ b
same_word rules s r Done Done i j = refl
same_word rules s r Done Limit i j = absurd (j.0 i)
same_word rules s r Done Waits i j = absurd (j.0 i)
same_word rules s r Limit Done i j = absurd (i.0 j)
same_word rules s r Limit Limit i j = refl
same_word rules s r Limit Waits i j = absurd (j.1 i.1)
same_word rules s r Waits Done i j = absurd (i.0 j)
same_word rules s r Waits Limit i j = absurd (i.1 j.1)
same_word rules s r Waits Waits i j = refl

abbrev line : ℕ → ℕ → ℕ → RoleWord → RoleLine
line role kept raw word = record { role = role; kept = kept; raw = raw; word = word }

-- a role has one line
pub same_line : (rules : Rules) (s : State) (r : ℕ) (x y : RoleLine) → IsLineOf rules s r x → IsLineOf rules s r y → x ≡ y
same_line rules s r x y i j =
    ap (λ a. line a x.kept x.raw x.word) (i.role ∙ sym j.role)
    ∙ ap (λ a. line y.role a x.raw x.word) (i.kept ∙ sym j.kept)
    ∙ ap (λ a. line y.role y.kept a x.word) (i.raw ∙ sym j.raw)
    ∙ ap (λ a. line y.role y.kept y.raw a) (same_word rules s r x.word y.word i.word j.word)

-- from role r on
abbrev EachFrom : Rules → State → ℕ → List RoleLine → Type 0
EachFrom rules s r lines = (i : ℕ) (x : RoleLine) → slice_get lines i ≡ Some x → IsLineOf rules s (r + i) x

behind : (rules : Rules) (s : State) (r : ℕ) (x : RoleLine) (xs : List RoleLine) → EachFrom rules s r (x ∷ xs) → EachFrom rules s (r + 1) xs
behind rules s r x xs each i y at = subst (λ n. IsLineOf rules s n y) (omega arith) (each (suc i) y at)

first : (rules : Rules) (s : State) (r : ℕ) (x : RoleLine) (xs : List RoleLine) → EachFrom rules s r (x ∷ xs) → IsLineOf rules s r x
first rules s r x xs each = subst (λ n. IsLineOf rules s n x) (omega arith) (each zero x refl)

same_from : (rules : Rules) (s : State) (r : ℕ) (xs ys : List RoleLine) → length xs ≡ length ys → EachFrom rules s r xs → EachFrom rules s r ys → xs ≡ ys
same_from rules s r [] [] size a b = refl
same_from rules s r [] (y ∷ ys) size a b = absurd (omega (arith, size))
same_from rules s r (x ∷ xs) [] size a b = absurd (omega (arith, size))
same_from rules s r (x ∷ xs) (y ∷ ys) size a b =
    let one : x ≡ y = same_line rules s r x y (first rules s r x xs a) (first rules s r y ys b) in
    let more : xs ≡ ys = same_from rules s (r + 1) xs ys (omega (arith, size)) (behind rules s r x xs a) (behind rules s r y ys b) in
    ap (λ z. z ∷ xs) one ∙ ap (λ zs. y ∷ zs) more

from_start : (rules : Rules) (s : State) (lines : List RoleLine) → AreLinesOf rules s lines → EachFrom rules s 0 lines
from_start rules s lines are i x at = subst (λ n. IsLineOf rules s n x) (omega arith) (are.each i x at)

-- a journal has one list of role lines
pub same_lines : (rules : Rules) (s : State) (xs ys : List RoleLine) → AreLinesOf rules s xs → AreLinesOf rules s ys → xs ≡ ys
same_lines rules s xs ys a b = same_from rules s 0 xs ys (a.all ∙ sym b.all) (from_start rules s xs a) (from_start rules s ys b)

pub one_text : (setup : SessionView) (entries : List Entry) (a b : List ℕ) → IsTextOf setup entries a → IsTextOf setup entries b → a ≡ b
one_text setup entries a b i j =
    let same : i.lines ≡ j.lines = same_lines (rules_of setup) (reading (rules_of setup) entries) i.lines j.lines i.are_lines j.are_lines in
    i.is_text ∙ ap (journal_text setup entries) same ∙ sym j.is_text

-- all of these roles, from r on, are done
abbrev DoneFrom : Rules → State → ℕ → ℕ → Type 0
DoneFrom rules s r n = (i : ℕ) → i < n → IsDone rules.net (r + i) s.kept

has_done : (rules : Rules) (s : State) (r : ℕ) (w : RoleWord) → IsWordOf rules s r w → is_done w ≡ true → IsDone rules.net r s.kept
has_done rules s r Done word e = word
has_done rules s r Limit word e = absurd (cc)
has_done rules s r Waits word e = absurd (cc)

says_done : (rules : Rules) (s : State) (r : ℕ) (w : RoleWord) → IsWordOf rules s r w → IsDone rules.net r s.kept → is_done w ≡ true
says_done rules s r Done word done = refl
says_done rules s r Limit word done = absurd (word.0 done)
says_done rules s r Waits word done = absurd (word.0 done)

all_say : (rules : Rules) (s : State) (r : ℕ) (lines : List RoleLine) → EachFrom rules s r lines → DoneFrom rules s r (length lines) → list_all (λ x. is_done x.word) lines ≡ true
all_say rules s r [] each done = refl
all_say rules s r (x ∷ xs) each done =
    let here : is_done x.word ≡ true = says_done rules s r x.word (first rules s r x xs each).word (subst (λ n. IsDone rules.net n s.kept) (omega arith) (done 0 (omega arith))) in
    let there : list_all (λ x. is_done x.word) xs ≡ true = all_say rules s (r + 1) xs (behind rules s r x xs each) (λ i lt. subst (λ n. IsDone rules.net n s.kept) (omega arith) (done (suc i) (omega arith))) in
    rw (here, there) refl

one_more : (rules : Rules) (s : State) (r n : ℕ) → IsDone rules.net r s.kept → DoneFrom rules s (r + 1) n → DoneFrom rules s r (suc n)
one_more rules s r n done later zero lt = subst (λ n. IsDone rules.net n s.kept) (omega arith) done
one_more rules s r n done later (suc i) lt = subst (λ n. IsDone rules.net n s.kept) (omega arith) (later i (omega arith))

all_are : (rules : Rules) (s : State) (r : ℕ) (lines : List RoleLine) → EachFrom rules s r lines → list_all (λ x. is_done x.word) lines ≡ true → DoneFrom rules s r (length lines)
all_are rules s r [] each say = λ i lt. absurd (omega arith)
all_are rules s r (x ∷ xs) each say = go (is_done x.word) refl say (all_are rules s (r + 1) xs (behind rules s r x xs each))
  where
    go : (b : Bool) → is_done x.word ≡ b → (b && list_all (λ x. is_done x.word) xs) ≡ true → (list_all (λ x. is_done x.word) xs ≡ true → DoneFrom rules s (r + 1) (length xs)) → DoneFrom rules s r (suc (length xs))
    go false e say later = absurd (cc)
    go true e say later = one_more rules s r (length xs) (has_done rules s r x.word (first rules s r x xs each).word e) (later say)

pub completed_is_written : (setup : SessionView) (s : State) (lines : List RoleLine) → AreLinesOf (rules_of setup) s lines → (last_line setup lines ≡ codes "completed\n") ↔ AreDone (rules_of setup) s
completed_is_written setup s lines are = (told, λ done. rw (says done) refl)
  where
    each : EachFrom (rules_of setup) s 0 lines
    each = from_start (rules_of setup) s lines are

    go : (b : Bool) → list_all (λ x. is_done x.word) lines ≡ b → cond b (codes "completed\n") (codes "limited" ++ flat_map (limit_text setup) lines ++ codes "\n") ≡ codes "completed\n" → list_all (λ x. is_done x.word) lines ≡ true
    go true e same = e
    go false e same = let letter : 108 ≡ 99 = ap (λ xs. slice_index xs 0) same in absurd (omega (arith, letter))

    told : last_line setup lines ≡ codes "completed\n" → AreDone (rules_of setup) s
    told same r lt =
        let all = all_are (rules_of setup) s 0 lines each (go (list_all (λ x. is_done x.word) lines) refl same) in
        subst (λ n. IsDone (rules_of setup).net n s.kept) (omega arith) (all r (omega (arith, are.all)))

    says : AreDone (rules_of setup) s → list_all (λ x. is_done x.word) lines ≡ true
    says done = all_say (rules_of setup) s 0 lines each (λ i lt. subst (λ n. IsDone (rules_of setup).net n s.kept) (omega arith) (done i (omega (arith, are.all))))
