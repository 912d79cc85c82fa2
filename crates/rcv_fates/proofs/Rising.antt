-- The stamps of one role grow along the kept events, so an event is found by its stamp.
use Rattle.std.proofs.Common.{◌≡◌, ℕ, zero, suc, ◌+◌, ◌<◌, ◌≤◌, Bool, true, false, cond, Some, List, [], ◌∷◌, ◌++◌, length, refl, sym, ◌∙◌, ap, subst, inl, inr, ⊎_elim, arith, eq-eqb, eqb-true}
use Rattle.std.specs.Prelude.{◌==◌, slice_get}
use Rattle.std.proofs.lemmas.Bool.{cases_lt}
use Rattle.std.proofs.lemmas.List.{length-replicate}
use Rattle.std.proofs.lemmas.Option.{slice_get_within, slice_get-get_or}
use Rattle.rcv_tree.specs.declared.event.Event.{Event}
use Rattle.rcv_tree.specs.declared.entry.Entry.{Entry}
use Rattle.rcv_tree.specs.declared.entry.Entry.TheVariants.{Send, Recv, Crash, Recover}
use Rattle.rcv_model.specs.Undo.{bound_of}
use Rattle.rcv_model.specs.Journal.{Rules, State, numbers_at, start, durable, group_of, events_of, after, reading_from, reading, May, IsLegalFrom, IsLegal}
use Rattle.rcv_model.proofs.Lists.{some_same}
use Rattle.rcv_fates.specs.Fates.{IsAmong}
use Rattle.rcv_fates.specs.Sends.{IsNumberOf}
use Rattle.rcv_fates.proofs.Clocks.{ticks, stamps}
use Rattle.rcv_fates.proofs.Keeping.{among_either, among_less, kept_keeps, AllAre, all_after}

-- stamps of one role grow along these events
abbrev pub IsBelow : Event → List Event → Type 0
IsBelow d xs = (e : Event) → IsAmong e xs → d.role ≡ e.role → d.stamp < e.stamp

abbrev pub Rising : List Event → Type 0
Rising [] = Unit {0}
Rising (d ∷ xs) = IsBelow d xs × Rising xs

rising_less : (xs ys : List Event) (e : Event) → Rising (xs ++ e ∷ ys) → Rising (xs ++ ys)
rising_less [] ys e r = r.1
rising_less (x ∷ xs) ys e r = (λ d i same. r.0 d (among_less xs ys e d i) same, rising_less xs ys e r.1)

rising_more : (xs : List Event) (e : Event) → Rising xs → ((d : Event) → IsAmong d xs → d.role ≡ e.role → d.stamp < e.stamp) → Rising (xs ++ e ∷ [])
rising_more [] e r new = (λ d i same. absurd i, tt)
rising_more (x ∷ xs) e r new = (λ d i same. ⊎_elim (λ a. r.0 d a same) (λ b. last d b same) (among_either xs (e ∷ []) d i), rising_more xs e r.1 (λ d i. new d (inr i)))
  where
    last : (d : Event) → IsAmong d (e ∷ []) → x.role ≡ d.role → x.stamp < d.stamp
    last d (inl f) same = subst (λ (z : Event). x.stamp < z.stamp) (sym f) (new x (inl refl) (same ∙ ap (λ (z : Event). z.role) f))
    last d (inr n) same = absurd n

-- the kept events rise, up to the clocks
pub record Sorted (s : State) : Type 0 where
  pub rising : Rising s.kept
  pub low : AllAre (λ d. d.stamp ≤ (numbers_at s.roles d.role).clock) s.kept

module _ (rules : Rules) where
  new_event : (s : State) (e : Event) → Sorted s → (numbers_at s.roles e.role).clock < e.stamp → Rising (s.kept ++ e ∷ [])
  new_event s e sorted above = rising_more s.kept e sorted.rising (λ d i same. let a = sorted.low d i in let b = subst (λ r. (numbers_at s.roles r).clock < e.stamp) (sym same) above in omega (arith, a, b))

  rising_after : (s : State) (x : Entry) → length s.roles ≡ rules.roles → May rules s x → Sorted s → Rising (after rules s x).kept
  rising_after s (Send e) size may sorted = new_event s e sorted (stamps rules s (Send e) e size may (inl refl)).above
  rising_after s (Recv e) size may sorted = new_event s e sorted (stamps rules s (Recv e) e size may (inr refl)).above
  rising_after s (Crash p) size may sorted = sorted.rising
  rising_after s (Recover p concerned kept undone) size may sorted =
      kept_keeps Rising rising_less rules.net (bound_of (group_of rules p) (durable rules s) s.kept) (record { events = []; stopped = [] }) s.kept sorted.rising

  sorted_after : (s : State) (x : Entry) → length s.roles ≡ rules.roles → May rules s x → Sorted s → Sorted (after rules s x)
  sorted_after s x size may sorted = record {
    rising = rising_after s x size may sorted;
    low = all_after rules (λ d. d.stamp ≤ (numbers_at (after rules s x).roles d.role).clock) s x
        (λ e f. let a = (stamps rules s x e size may f).now in omega (arith, a))
        (λ d i. let a = sorted.low d i in let b = (ticks rules s x size may).low d.role in omega (arith, a, b));
  }

  sorted_from : (s : State) (journal : List Entry) → length s.roles ≡ rules.roles → IsLegalFrom rules s journal → Sorted s → Sorted (reading_from rules s journal)
  sorted_from s [] size legal sorted = sorted
  sorted_from s (x ∷ journal) size legal sorted = sorted_from (after rules s x) journal (ticks rules s x size legal.0).size legal.1 (sorted_after s x size legal.0 sorted)

  pub rising_kept : (journal : List Entry) → IsLegal rules journal → Rising (reading rules journal).kept
  rising_kept journal legal = (sorted_from (start rules.roles) journal (length-replicate _ _) legal (record { rising = tt; low = λ d i. absurd i })).rising

-- elements and places
pub place_of_among : (xs : List Event) (e : Event) → IsAmong e xs → (i : ℕ) × (slice_get xs i ≡ Some e)
place_of_among [] e i = absurd i
place_of_among (x ∷ xs) e (inl f) = (0, ap Some (sym f))
place_of_among (x ∷ xs) e (inr i) = let r = place_of_among xs e i in (suc r.0, r.1)

pub among_of_place : (xs : List Event) (i : ℕ) (e : Event) → slice_get xs i ≡ Some e → IsAmong e xs
among_of_place [] i e at = absurd (cc)
among_of_place (x ∷ xs) zero e at = inl (sym (some_same at))
among_of_place (x ∷ xs) (suc i) e at = inr (among_of_place xs i e at)

rising_at : (xs : List Event) (i j : ℕ) (d e : Event) → Rising xs → i < j → slice_get xs i ≡ Some d → slice_get xs j ≡ Some e → d.role ≡ e.role → d.stamp < e.stamp
rising_at [] i j d e r lt first second same = absurd (cc)
rising_at (x ∷ xs) i zero d e r lt first second same = absurd (omega (arith, lt))
rising_at (x ∷ xs) zero (suc j) d e r lt first second same =
    let f : x ≡ d = some_same first in
    subst (λ (z : Event). z.stamp < e.stamp) f (r.0 e (among_of_place xs j e second) (ap (λ (z : Event). z.role) f ∙ same))
rising_at (x ∷ xs) (suc i) (suc j) d e r lt first second same = rising_at xs i j d e r.1 (omega (arith, lt)) first second same

-- the events of one role
of_whole : (r : ℕ) (h : List Event) (e : Event) → IsAmong e (events_of r h) → IsAmong e h × (e.role ≡ r)
of_whole r [] e i = absurd i
of_whole r (x ∷ h) e i = go (x.role == r) refl i (of_whole r h e)
  where
    go : (b : Bool) → (x.role == r) ≡ b → IsAmong e (cond b (x ∷ events_of r h) (events_of r h)) → (IsAmong e (events_of r h) → IsAmong e h × (e.role ≡ r)) → IsAmong e (x ∷ h) × (e.role ≡ r)
    go true t (inl f) ih = (inl f, ap (λ (z : Event). z.role) f ∙ eqb-true x.role r t)
    go true t (inr j) ih = let a = ih j in (inr a.0, a.1)
    go false t j ih = let a = ih j in (inr a.0, a.1)

of_own : (h : List Event) (e : Event) → IsAmong e h → IsAmong e (events_of e.role h)
of_own [] e i = absurd i
of_own (x ∷ h) e (inl f) = subst (λ b. IsAmong e (cond b (x ∷ events_of e.role h) (events_of e.role h))) (sym (eq-eqb x.role e.role (sym (ap (λ (z : Event). z.role) f)))) (inl f)
of_own (x ∷ h) e (inr i) = go (x.role == e.role) (of_own h e i)
  where
    go : (b : Bool) → IsAmong e (events_of e.role h) → IsAmong e (cond b (x ∷ events_of e.role h) (events_of e.role h))
    go true j = inr j
    go false j = j

rising_own : (r : ℕ) (h : List Event) → Rising h → Rising (events_of r h)
rising_own r [] rising = tt
rising_own r (x ∷ h) rising = go (x.role == r) (rising_own r h rising.1)
  where
    go : (b : Bool) → Rising (events_of r h) → Rising (cond b (x ∷ events_of r h) (events_of r h))
    go true ih = (λ e i same. rising.0 e (of_whole r h e i).0 same, ih)
    go false ih = ih

-- along one role's events stamps grow
pub own_grow : (r : ℕ) (h : List Event) (i j : ℕ) (d e : Event) → Rising h → i < j → slice_get (events_of r h) i ≡ Some d → slice_get (events_of r h) j ≡ Some e → d.stamp < e.stamp
own_grow r h i j d e rising lt first second =
    rising_at (events_of r h) i j d e (rising_own r h rising) lt first second ((of_whole r h d (among_of_place (events_of r h) i d first)).1 ∙ sym (of_whole r h e (among_of_place (events_of r h) j e second)).1)

pub kept_own : (r : ℕ) (h : List Event) (i : ℕ) (e : Event) → slice_get (events_of r h) i ≡ Some e → IsAmong e h
kept_own r h i e at = (of_whole r h e (among_of_place (events_of r h) i e at)).0

-- what a binary search knows
pub record Narrowed (events : List Event) (stamp low high : ℕ) : Type 0 where
  pub order : low ≤ high
  pub within : high ≤ length events
  pub below : (i : ℕ) (e : Event) → i < low → slice_get events i ≡ Some e → e.stamp < stamp
  pub above : (i : ℕ) (e : Event) → high ≤ i → slice_get events i ≡ Some e → stamp ≤ e.stamp

pub wide : (events : List Event) (stamp high : ℕ) → high ≡ length events → Narrowed events stamp 0 high
wide events stamp high all = record { order = omega arith; within = omega (arith, all); below = λ i e lt at. absurd (omega (arith, lt)); above = λ i e le at. absurd (let a = slice_get_within events i e at in omega (arith, a, all, le)) }

pub raised : (r : ℕ) (h : List Event) (stamp low high middle : ℕ) (d : Event) → Rising h → Narrowed (events_of r h) stamp low high → middle < high → slice_get (events_of r h) middle ≡ Some d → d.stamp < stamp → Narrowed (events_of r h) stamp (middle + 1) high
raised r h stamp low high middle d rising n lt at less = record {
  order = omega (arith, lt);
  within = n.within;
  below = λ i e low at_i. ⊎_elim
      (λ before. let a = own_grow r h i middle e d rising before at_i at in omega (arith, a, less))
      (λ le. let same : middle ≡ i = omega (arith, le, low) in let f : d ≡ e = some_same (sym at ∙ ap (slice_get (events_of r h)) same ∙ at_i) in subst (λ (z : Event). z.stamp < stamp) f less)
      (cases_lt i middle);
  above = n.above;
}

pub lowered : (r : ℕ) (h : List Event) (stamp low high middle : ℕ) (d : Event) → Rising h → Narrowed (events_of r h) stamp low high → low ≤ middle → middle < high → slice_get (events_of r h) middle ≡ Some d → stamp ≤ d.stamp → Narrowed (events_of r h) stamp low middle
lowered r h stamp low high middle d rising n least lt at most = record {
  order = least;
  within = let a = n.within in omega (arith, a, lt);
  below = n.below;
  above = λ i e le at_i. ⊎_elim
      (λ before. let a = own_grow r h middle i d e rising before at at_i in omega (arith, a, most))
      (λ ge. let same : middle ≡ i = omega (arith, le, ge) in let f : d ≡ e = some_same (sym at ∙ ap (slice_get (events_of r h)) same ∙ at_i) in subst (λ (z : Event). stamp ≤ z.stamp) f most)
      (cases_lt middle i);
}

pub narrow : (r : ℕ) (h : List Event) (stamp low high : ℕ) → Rising h → Narrowed (events_of r h) stamp low high → high ≤ low → IsNumberOf (events_of r h) stamp low
narrow r h stamp low high rising n over i e at same = ⊎_elim
    (λ lt. absurd (let a = n.below i e lt at in omega (arith, a, same)))
    (λ le. ⊎_elim (λ lt. absurd (later lt)) (λ ge. omega (arith, le, ge)) (cases_lt low i))
    (cases_lt i low)
  where
    later : low < i → ⊥
    later lt =
        let inside = slice_get_within (events_of r h) i e at in
        let here = slice_get-get_or (events_of r h) low e (omega (arith, lt, inside)) in
        let a = n.above low _ over here in
        let b = own_grow r h low i _ e rising lt here at in
        omega (arith, a, b, same)

-- an event is kept where it is its role's kept event with that number
pub kept_by_number : (h : List Event) (e : Event) (n : ℕ) → IsNumberOf (events_of e.role h) e.stamp n → IsAmong e h → slice_get (events_of e.role h) n ≡ Some e
kept_by_number h e n number i =
    let at = place_of_among (events_of e.role h) e (of_own h e i) in
    subst (λ k. slice_get (events_of e.role h) k ≡ Some e) (number at.0 e at.1 refl) at.1
