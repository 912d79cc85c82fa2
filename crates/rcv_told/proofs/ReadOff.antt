-- Scripts and crash lines, read off what was told; and how the numbers of a told session grow.
use Rattle.std.proofs.Common.{◌≡◌, ℕ, ◌+◌, ◌<◌, ◌≤◌, Bool, true, false, ◌&&◌, cond, Option, Some, None, List, [], ◌∷◌, ◌++◌, length, refl, sym, ◌∙◌, ap, subst, ◌⊎◌, inl, inr, ⊎_elim, length-append, eq-eqb, ne_eqb, arith}
use Rattle.std.specs.Prelude.{◌==◌, nat_le, if◌then◌else◌, slice_index, slice_set}
use Rattle.std.specs.List.{count_by}
use Rattle.std.proofs.lemmas.Bool.{cases_eq}
use Rattle.std.proofs.lemmas.Bool.Decides.{nat_tests}
use Rattle.std.proofs.lemmas.List.Elements.{filter_map-append}
use Rattle.std.proofs.lemmas.List.Sums.{sum_by-cons}
use Rattle.rcv_tree.specs.declared.event.Event.{Event}
use Rattle.rcv_tree.specs.declared.numbers.Numbers.{Numbers}
use Rattle.rcv_tree.specs.declared.entry.Entry.{Entry}
use Rattle.rcv_tree.specs.declared.entry.Entry.TheVariants.{Send, Recv, Crash, Recover}
use Rattle.rcv_model.specs.Run.{act_of, acts}
use Rattle.rcv_model.specs.Journal.{numbers_at, advanced, failed, map_roles, numbers_behind}
use Rattle.rcv_model.proofs.Parts.{acts_own}
use Rattle.rcv_model.proofs.Roles.{set_here, set_else, set_keeps, mapped_at, mapped_keeps}
use Rattle.rcv_told.specs.Told.{Terms, Remembered, state_of, roles_in, group_of, left_at, MayBeTold, IsToldFrom, after_event, told_after, told_from}
use Rattle.rcv_told.specs.Laws.{AreAccepted}
use Rattle.rcv_told.proofs.Telling.{HoldsTold, holds_one, declared}

-- the event is the one that role r tells in its attempt a where it has n events
abbrev pub is_told_at : Remembered → Event → ℕ → ℕ → ℕ → Bool
is_told_at m e r n a = e.role == r && (length (acts r m.held) == n && (numbers_at m.roles r).attempt == a)

-- the Send that role r tells there
abbrev pub sent_at : Terms → Remembered → List Entry → ℕ → ℕ → ℕ → Option Event
sent_at terms m [] r n a = None
sent_at terms m (Send e ∷ es) r n a = if is_told_at m e r n a then Some e else sent_at terms (told_after terms m (Send e)) es r n a
sent_at terms m (Recv e ∷ es) r n a = sent_at terms (told_after terms m (Recv e)) es r n a
sent_at terms m (Crash p ∷ es) r n a = sent_at terms (told_after terms m (Crash p)) es r n a
sent_at terms m (Recover p concerned kept undone ∷ es) r n a = sent_at terms (told_after terms m (Recover p concerned kept undone)) es r n a

-- the raw counts at which role r crashes
abbrev pub crashes_at : Terms → Remembered → List Entry → ℕ → List ℕ
crashes_at terms m [] r = []
crashes_at terms m (Send e ∷ es) r = crashes_at terms (told_after terms m (Send e)) es r
crashes_at terms m (Recv e ∷ es) r = crashes_at terms (told_after terms m (Recv e)) es r
crashes_at terms m (Crash p ∷ es) r =
    if p == r then (numbers_at m.roles r).raw ∷ crashes_at terms (told_after terms m (Crash p)) es r
    else crashes_at terms (told_after terms m (Crash p)) es r
crashes_at terms m (Recover p concerned kept undone ∷ es) r = crashes_at terms (told_after terms m (Recover p concerned kept undone)) es r

-- role r has come to its attempt a and n events, or hasn't yet
abbrev pub IsAhead : Remembered → ℕ → ℕ → ℕ → Type 0
IsAhead m r n a = ((numbers_at m.roles r).attempt < a) ⊎ (((numbers_at m.roles r).attempt ≡ a) × (length (acts r m.held) ≤ n))

-- one event more is no event less
acts_grow : (r : ℕ) (h : List Event) (e : Event) → length (acts r h) ≤ length (acts r (h ++ e ∷ []))
acts_grow r h e = omega (arith, ap length (filter_map-append (act_of r) h (e ∷ [])), length-append (acts r h) (acts r (e ∷ [])))

-- one event more of a role is no event less of any
raw_more : (roles : List Numbers) (p r stamp : ℕ) → p < length roles
    → (numbers_at roles r).raw ≤ (numbers_at (slice_set roles p (advanced (numbers_at roles p) stamp)) r).raw
raw_more roles p r stamp lt = ⊎_elim
    (λ e. subst (λ q. (numbers_at roles q).raw ≤ (numbers_at (slice_set roles p (advanced (numbers_at roles p) stamp)) q).raw) e
    (omega (arith, ap (λ (x : Numbers). x.raw) (set_here roles p (advanced (numbers_at roles p) stamp) lt))))
    (λ n. omega (arith, ap (λ (x : Numbers). x.raw) (set_else roles p r (advanced (numbers_at roles p) stamp) n)))
    (cases_eq p r)

-- what is ahead behind a recovery was ahead before
ahead_before : (old new : List Event) (r n a before after : ℕ)
    → after ≡ cond (length (acts r new) == length (acts r old)) before (before + 1)
    → (after < a) ⊎ ((after ≡ a) × (length (acts r new) ≤ n)) → (before < a) ⊎ ((before ≡ a) × (length (acts r old) ≤ n))
ahead_before old new r n a before after is x = go (cases_eq (length (acts r new)) (length (acts r old))) x
  where
    go : (length (acts r new) ≡ length (acts r old)) ⊎ (length (acts r new) ≡ length (acts r old) → ⊥)
        → (after < a) ⊎ ((after ≡ a) × (length (acts r new) ≤ n)) → (before < a) ⊎ ((before ≡ a) × (length (acts r old) ≤ n))
    go (inl e) x =
        let same : after ≡ before = is ∙ ap (λ b. cond b before (before + 1)) (eq-eqb _ _ e) in
        ⊎_elim (λ lt. inl (omega (arith, lt, same))) (λ y. inr (sym same ∙ y.0, let le = y.1 in omega (arith, le, e))) x
    go (inr f) x =
        let next : after ≡ before + 1 = is ∙ ap (λ b. cond b before (before + 1)) (ne_eqb _ _ f) in
        ⊎_elim (λ lt. inl (omega (arith, lt, next))) (λ y. inl (let e = y.0 in omega (arith, e, next))) x

-- an event changes no attempt; so what is ahead behind it was ahead before
same_attempt : (m : Remembered) (e : Event) (r n a : ℕ) → IsAhead (after_event m e) r n a
    → ((numbers_at m.roles r).attempt < a) ⊎ (((numbers_at m.roles r).attempt ≡ a) × (length (acts r (m.held ++ e ∷ [])) ≤ n))
same_attempt m e r n a x =
    let same = set_keeps (λ (x : Numbers). x.attempt) m.roles e.role r (advanced (numbers_at m.roles e.role) e.stamp) refl in
    ⊎_elim (λ l. inl (omega (arith, l, same))) (λ y. inr (sym same ∙ y.0, y.1)) x

event_ahead : (m : Remembered) (e : Event) (r n a : ℕ) → IsAhead (after_event m e) r n a → IsAhead m r n a
event_ahead m e r n a x =
    ⊎_elim (λ l. inl l) (λ y. inr (y.0, let le = y.1 in omega (arith, le, acts_grow r m.held e))) (same_attempt m e r n a x)

pub was_ahead : (terms : Terms) (m : Remembered) (e : Entry) (r n a : ℕ) → r < length m.roles
    → IsAhead (told_after terms m e) r n a → IsAhead m r n a
was_ahead terms m (Send e) r n a lt x = event_ahead m e r n a x
was_ahead terms m (Recv e) r n a lt x = event_ahead m e r n a x
was_ahead terms m (Crash p) r n a lt x =
    let same = set_keeps (λ (x : Numbers). x.attempt) m.roles p r (failed (numbers_at m.roles p)) refl in
    ⊎_elim (λ l. inl (omega (arith, l, same))) (λ y. inr (sym same ∙ y.0, y.1)) x
was_ahead terms m (Recover p concerned kept undone) r n a lt x =
    let new = left_at terms.net m (roles_in concerned) (slice_index kept) in
    let behind = numbers_behind (state_of m) (group_of terms p) (roles_in concerned) new in
    ahead_before m.held new r n a (numbers_at m.roles r).attempt (numbers_at (map_roles behind 0 m.roles) r).attempt
    (ap (λ (x : Numbers). x.attempt) (mapped_at behind r m.roles lt)) x

first_no : (a b : Bool) → a ≡ false → (a && b) ≡ false
first_no a b e = ap (λ x. x && b) e

second_no : (a b : Bool) → b ≡ false → (a && b) ≡ false
second_no true b e = e
second_no false b e = refl

-- what is ahead behind an event isn't told there
pub not_told_at : (m : Remembered) (e : Event) (r n a : ℕ) → IsAhead (after_event m e) r n a → is_told_at m e r n a ≡ false
not_told_at m e r n a x = go (cases_eq e.role r) (same_attempt m e r n a x)
  where
    go : (e.role ≡ r) ⊎ (e.role ≡ r → ⊥) → ((numbers_at m.roles r).attempt < a) ⊎ (((numbers_at m.roles r).attempt ≡ a) × (length (acts r (m.held ++ e ∷ [])) ≤ n))
        → is_told_at m e r n a ≡ false
    go (inr f) y = first_no (e.role == r) _ (ne_eqb e.role r f)
    go (inl f) (inl lt) =
        second_no (e.role == r) _ (second_no (length (acts r m.held) == n) _ (ne_eqb (numbers_at m.roles r).attempt a (λ g. omega (arith, lt, g))))
    go (inl f) (inr y) = second_no (e.role == r) _ (first_no (length (acts r m.held) == n) _ (ne_eqb (length (acts r m.held)) n fewer))
      where
        own : length (acts r (m.held ++ e ∷ [])) ≡ length (acts r m.held) + 1
        own = subst (λ q. length (acts q (m.held ++ e ∷ [])) ≡ length (acts q m.held) + 1) f
            (ap length (acts_own m.held e) ∙ length-append (acts e.role m.held) (record { dir = e.dir; point = e.point } ∷ []))

        fewer : length (acts r m.held) ≡ n → ⊥
        fewer g = let le = y.1 in omega (arith, own, g, le)

all_three : (a b c : Bool) → a ≡ true → b ≡ true → c ≡ true → (a && (b && c)) ≡ true
all_three a b c e f g = ap (λ x. x && (b && c)) e ∙ ap (λ x. x && c) f ∙ g

-- a Send is the one that is told there
pub told_at : (m : Remembered) (e : Event) → is_told_at m e e.role (length (acts e.role m.held)) (numbers_at m.roles e.role).attempt ≡ true
told_at m e = all_three _ _ _ (eq-eqb e.role e.role refl) (eq-eqb (length (acts e.role m.held)) _ refl) (eq-eqb (numbers_at m.roles e.role).attempt _ refl)

-- one line more
pub line_reached : (x y : ℕ) (xs : List ℕ) → y ≤ x → count_by (λ n. nat_le n x) (y ∷ xs) ≡ 1 + count_by (λ n. nat_le n x) xs
line_reached x y xs le =
    let t : nat_le y x ≡ true = grind (arith, nat_tests) in
    sum_by-cons (λ n. cond (nat_le n x) 1 0) y xs ∙ ap (λ b. cond b 1 0 + count_by (λ n. nat_le n x) xs) t

none_and : (n : ℕ) → 0 + n ≡ n
none_and n = omega arith

line_above : (x y : ℕ) (xs : List ℕ) → x < y → count_by (λ n. nat_le n x) (y ∷ xs) ≡ count_by (λ n. nat_le n x) xs
line_above x y xs lt =
    let f : nat_le y x ≡ false = grind (arith, nat_tests) in
    sum_by-cons (λ n. cond (nat_le n x) 1 0) y xs ∙ ap (λ b. cond b 1 0 + count_by (λ n. nat_le n x) xs) f ∙ none_and (count_by (λ n. nat_le n x) xs)

module _ (terms : Terms) (known : AreAccepted terms) where
  -- a role that tells has numbers
  pub inside : (m : Remembered) (r : ℕ) → HoldsTold terms known m → r < terms.roles → r < length m.roles
  inside m r holds lt = subst (λ n. r < n) (sym holds.nothing.numbers) lt

  -- raw counts never fall
  pub raw_grows : (m : Remembered) (e : Entry) (r : ℕ) → HoldsTold terms known m → MayBeTold terms m e
      → (numbers_at m.roles r).raw ≤ (numbers_at (told_after terms m e).roles r).raw
  raw_grows m (Send e) r holds may = raw_more m.roles e.role r e.stamp (inside m e.role holds (declared terms known m e.role holds.nothing may.up))
  raw_grows m (Recv e) r holds may = raw_more m.roles e.role r e.stamp (inside m e.role holds (declared terms known m e.role holds.nothing may.up))
  raw_grows m (Crash p) r holds may = omega (arith, set_keeps (λ (x : Numbers). x.raw) m.roles p r (failed (numbers_at m.roles p)) refl)
  raw_grows m (Recover p concerned kept undone) r holds may =
      let left = left_at terms.net m (roles_in concerned) (slice_index kept) in
      omega (arith, mapped_keeps (λ (x : Numbers). x.raw) (numbers_behind (state_of m) (group_of terms p) (roles_in concerned) left) (λ i x. refl) 0 r m.roles)

  pub raw_from : (m : Remembered) (es : List Entry) (r : ℕ) → HoldsTold terms known m → IsToldFrom terms m es
      → (numbers_at m.roles r).raw ≤ (numbers_at (told_from terms m es).roles r).raw
  raw_from m [] r holds are = omega arith
  raw_from m (e ∷ es) r holds are =
      let here' = raw_grows m e r holds are.0 in
      let ih = raw_from (told_after terms m e) es r (holds_one terms known m e holds are.0) are.1 in
      omega (arith, here', ih)

  -- crash lines that are still to come are at the raw count or above
  pub lines_above : (m : Remembered) (es : List Entry) (r x : ℕ) → HoldsTold terms known m → IsToldFrom terms m es → x < (numbers_at m.roles r).raw
      → count_by (λ n. nat_le n x) (crashes_at terms m es r) ≡ 0
  lines_above m [] r x holds are lt = refl
  lines_above m (Send e ∷ es) r x holds are lt =
      let up = raw_grows m (Send e) r holds are.0 in
      lines_above (told_after terms m (Send e)) es r x (holds_one terms known m (Send e) holds are.0) are.1 (omega (arith, lt, up))
  lines_above m (Recv e ∷ es) r x holds are lt =
      let up = raw_grows m (Recv e) r holds are.0 in
      lines_above (told_after terms m (Recv e)) es r x (holds_one terms known m (Recv e) holds are.0) are.1 (omega (arith, lt, up))
  lines_above m (Crash p ∷ es) r x holds are lt =
      let up = raw_grows m (Crash p) r holds are.0 in
      let ih = lines_above (told_after terms m (Crash p)) es r x (holds_one terms known m (Crash p) holds are.0) are.1 (omega (arith, lt, up)) in
      go (p == r) (crashes_at terms (told_after terms m (Crash p)) es r) ih
    where
      go : (b : Bool) (rest : List ℕ) → count_by (λ n. nat_le n x) rest ≡ 0
          → count_by (λ n. nat_le n x) (cond b ((numbers_at m.roles r).raw ∷ rest) rest) ≡ 0
      go true rest ih = line_above x (numbers_at m.roles r).raw rest lt ∙ ih
      go false rest ih = ih
  lines_above m (Recover p concerned kept undone ∷ es) r x holds are lt =
      let up = raw_grows m (Recover p concerned kept undone) r holds are.0 in
      lines_above (told_after terms m (Recover p concerned kept undone)) es r x (holds_one terms known m (Recover p concerned kept undone) holds are.0) are.1
      (omega (arith, lt, up))
