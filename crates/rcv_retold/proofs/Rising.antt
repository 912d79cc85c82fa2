-- The stamps of one role grow along the events that are held; so an event is one of them where its stamp is.
use Rattle.std.proofs.Common.{◌≡◌, ℕ, zero, suc, ◌<◌, ◌≤◌, Bool, true, false, cond, Some, List, [], ◌∷◌, ◌++◌, refl, sym, ◌∙◌, ap, subst, inl, inr, ⊎_elim, arith, eq-eqb, eqb-true}
use Rattle.std.specs.Prelude.{◌↔◌, ◌==◌, slice_get, slice_index, slice_index_or}
use Rattle.std.specs.List.Sorted.{IsNonDecreasing}
use Rattle.std.proofs.lemmas.Bool.{cases_lt}
use Rattle.std.proofs.lemmas.Option.{slice_get-get_or}
use Rattle.rcv_tree.specs.declared.event.Event.{Event}
use Rattle.rcv_tree.specs.declared.entry.Entry.{Entry}
use Rattle.rcv_tree.specs.declared.entry.Entry.TheVariants.{Send, Recv, Crash, Recover}
use Rattle.rcv_model.specs.Journal.{numbers_at, events_of}
use Rattle.rcv_model.proofs.Lists.{some_same}
use Rattle.rcv_session.specs.Session.{SessionView, roles_of}
use Rattle.rcv_told.specs.Told.{Terms, Remembered, nothing_told, bound_at, roles_in, MayBeTold, told_after, told_from, told, IsToldFrom, IsTold}
use Rattle.rcv_fates.specs.Fates.{IsAmong, IsEventAt, IsUndone}
use Rattle.rcv_fates.proofs.Keeping.{among_either, among_less, kept_keeps, AllAre}
use Rattle.rcv_fates.proofs.Rising.{Rising, own_grow, kept_own, place_of_among}
use Rattle.rcv_retold.specs.Retold.{terms_for, HasStamps}
use Rattle.rcv_retold.specs.Stamps.{stamps_at, stamps_of, IsStamp, LacksStamp}
use Rattle.rcv_retold.proofs.Growing.{IsSized, sized_first, sized_after, ticks, stamps, told_grow}
use Rattle.rcv_retold.proofs.Sending.{all_after, told_stands}

rising_less : (xs ys : List Event) (e : Event) → Rising (xs ++ e ∷ ys) → Rising (xs ++ ys)
rising_less [] ys e r = r.1
rising_less (x ∷ xs) ys e r = (λ d i same. r.0 d (among_less xs ys e d i) same, rising_less xs ys e r.1)

rising_more : (xs : List Event) (e : Event) → Rising xs → ((d : Event) → IsAmong d xs → d.role ≡ e.role → d.stamp < e.stamp) → Rising (xs ++ e ∷ [])
rising_more [] e r new = (λ d i same. absurd i, tt)
rising_more (x ∷ xs) e r new = (λ d i same. ⊎_elim (λ a. r.0 d a same) (λ b. last d b same) (among_either xs (e ∷ []) d i), rising_more xs e r.1 (λ d i. new d (inr i)))
  where
    last : (d : Event) → IsAmong d (e ∷ []) → x.role ≡ d.role → x.stamp < d.stamp
    last d (inl f) same = subst (λ (z : Event). x.stamp < z.stamp) (sym f) (new x (inl refl) (same ∙ ap (λ (z : Event). z.role) f))
    last d (inr n) same = absurd n

-- the held events rise, up to the clocks
record IsSorted (m : Remembered) : Type 0 where
  rising : Rising m.held
  low : AllAre (λ d. d.stamp ≤ (numbers_at m.roles d.role).clock) m.held

module _ (terms : Terms) where
  new_event : (m : Remembered) (e : Event) → IsSorted m → (numbers_at m.roles e.role).clock < e.stamp → Rising (m.held ++ e ∷ [])
  new_event m e sorted above = rising_more m.held e sorted.rising (λ d i same. let a = sorted.low d i in let b = subst (λ r. (numbers_at m.roles r).clock < e.stamp) (sym same) above in omega (arith, a, b))

  rising_after : (m : Remembered) (x : Entry) → IsSized terms m → MayBeTold terms m x → IsSorted m → Rising (told_after terms m x).held
  rising_after m (Send e) size may sorted = new_event m e sorted (stamps terms m (Send e) e size may (inl refl)).above
  rising_after m (Recv e) size may sorted = new_event m e sorted (stamps terms m (Recv e) e size may (inr refl)).above
  rising_after m (Crash p) size may sorted = sorted.rising
  rising_after m (Recover p concerned kept undone) size may sorted =
      kept_keeps Rising rising_less terms.net (bound_at m (roles_in concerned) (slice_index kept)) (record { events = []; stopped = [] }) m.held sorted.rising

  sorted_after : (m : Remembered) (x : Entry) → IsSized terms m → MayBeTold terms m x → IsSorted m → IsSorted (told_after terms m x)
  sorted_after m x size may sorted = record {
    rising = rising_after m x size may sorted;
    low = all_after terms (λ d. d.stamp ≤ (numbers_at (told_after terms m x).roles d.role).clock) m x
        (λ e f. let a = (stamps terms m x e size may f).now in omega (arith, a))
        (λ d i. let a = sorted.low d i in let b = (ticks terms m x size may).low d.role in omega (arith, a, b));
  }

  sorted_from : (m : Remembered) (journal : List Entry) → IsSized terms m → IsToldFrom terms m journal → IsSorted m → Rising (told_from terms m journal).held
  sorted_from m [] size is sorted = sorted.rising
  sorted_from m (x ∷ journal) size is sorted = sorted_from (told_after terms m x) journal (sized_after terms m x size) is.1 (sorted_after m x size is.0 sorted)

  pub told_rising : (journal : List Entry) → IsTold terms journal → Rising (told terms journal).held
  told_rising journal is = sorted_from (nothing_told terms.roles) journal (sized_first terms) is (record { rising = tt; low = λ d i. absurd i })

-- stamps of events
stamp_here : (xs : List Event) (i : ℕ) (e : Event) → slice_get xs i ≡ Some e → slice_get (stamps_of xs) i ≡ Some e.stamp
stamp_here [] i e at = absurd cc
stamp_here (x ∷ xs) zero e at = ap (λ (z : Event). Some z.stamp) (some_same at)
stamp_here (x ∷ xs) (suc i) e at = stamp_here xs i e at

event_here : (xs : List Event) (i stamp : ℕ) → slice_get (stamps_of xs) i ≡ Some stamp → (e : Event) × (slice_get xs i ≡ Some e) × (e.stamp ≡ stamp)
event_here [] i stamp at = absurd cc
event_here (x ∷ xs) zero stamp at = (x, refl, some_same at)
event_here (x ∷ xs) (suc i) stamp at = event_here xs i stamp at

-- numbers that grow don't fall
nondecreasing : (xs : List ℕ) → ((i j a b : ℕ) → i < j → slice_get xs i ≡ Some a → slice_get xs j ≡ Some b → a < b) → IsNonDecreasing xs
nondecreasing xs grows i j d le low = ⊎_elim
    (λ lt. let a = grows i j (slice_index_or xs i d) (slice_index_or xs j d) lt (slice_get-get_or xs i d (omega (arith, lt, low))) (slice_get-get_or xs j d low) in omega (arith, a))
    (λ ge. let same : slice_index_or xs i d ≡ slice_index_or xs j d = ap (λ k. slice_index_or xs k d) (omega (arith, le, ge)) in omega (arith, same))
    (cases_lt i j)

-- the events of one role
own_role : (r : ℕ) (h : List Event) (i : ℕ) (e : Event) → slice_get (events_of r h) i ≡ Some e → e.role ≡ r
own_role r [] i e at = absurd cc
own_role r (x ∷ h) i e at = go (x.role == r) refl i at (λ k f. own_role r h k e f)
  where
    go : (b : Bool) → (x.role == r) ≡ b → (k : ℕ) → slice_get (cond b (x ∷ events_of r h) (events_of r h)) k ≡ Some e → ((j : ℕ) → slice_get (events_of r h) j ≡ Some e → e.role ≡ r) → e.role ≡ r
    go true t zero f rest = ap (λ (z : Event). z.role) (sym (some_same f)) ∙ eqb-true x.role r t
    go true t (suc k) f rest = rest k f
    go false t k f rest = rest k f

of_own : (h : List Event) (e : Event) → IsAmong e h → IsAmong e (events_of e.role h)
of_own [] e i = absurd i
of_own (x ∷ h) e (inl f) = subst (λ b. IsAmong e (cond b (x ∷ events_of e.role h) (events_of e.role h))) (sym (eq-eqb x.role e.role (sym (ap (λ (z : Event). z.role) f)))) (inl f)
of_own (x ∷ h) e (inr i) = go (x.role == e.role) (of_own h e i)
  where
    go : (b : Bool) → IsAmong e (events_of e.role h) → IsAmong e (cond b (x ∷ events_of e.role h) (events_of e.role h))
    go true j = inr j
    go false j = j

place_in_own : (h : List Event) (e : Event) → IsAmong e h → (i : ℕ) × (slice_get (events_of e.role h) i ≡ Some e)
place_in_own h e among = place_of_among (events_of e.role h) e (of_own h e among)

-- one place has one event, and one stamp of a role too
one_event : (journal : List Entry) (i : ℕ) (d e : Event) → IsEventAt journal i d → IsEventAt journal i e → d ≡ e
one_event journal i d e (inl f) (inl g) = let h : Send d ≡ Send e = some_same (sym f ∙ g) in cc
one_event journal i d e (inl f) (inr g) = let h : Send d ≡ Recv e = some_same (sym f ∙ g) in absurd cc
one_event journal i d e (inr f) (inl g) = let h : Recv d ≡ Send e = some_same (sym f ∙ g) in absurd cc
one_event journal i d e (inr f) (inr g) = let h : Recv d ≡ Recv e = some_same (sym f ∙ g) in cc

by_stamp : (terms : Terms) (journal : List Entry) (i j : ℕ) (d e : Event) → IsTold terms journal → IsEventAt journal i d → IsEventAt journal j e → d.role ≡ e.role → d.stamp ≡ e.stamp → d ≡ e
by_stamp terms journal i j d e is first second role stamp = ⊎_elim
    (λ lt. absurd (let a = told_grow terms journal i j d e is lt first second role in omega (arith, a, stamp)))
    (λ le. ⊎_elim
    (λ lt. absurd (let a = told_grow terms journal j i e d is lt second first (sym role) in omega (arith, a, stamp)))
    (λ ge. one_event journal i d e first (subst (λ k. IsEventAt journal k e) (omega (arith, le, ge)) second))
    (cases_lt j i))
    (cases_lt i j)

module _ (session : SessionView) (journal : List Entry) (lists : List (List ℕ)) (is : IsTold (terms_for session) journal) (has : HasStamps session journal lists) where
  abbrev held : List Event
  held = (told (terms_for session) journal).held

  -- the stamps of each role grow
  pub lists_rise : (r : ℕ) → r < roles_of session → IsNonDecreasing (stamps_at lists r)
  lists_rise r low = subst IsNonDecreasing (sym (has.each r low)) rise
    where
      rise : IsNonDecreasing (stamps_of (events_of r held))
      rise = nondecreasing (stamps_of (events_of r held)) (λ i j a b lt f g.
          let d = event_here (events_of r held) i a f in
          let e = event_here (events_of r held) j b g in
          let grows = own_grow r held i j d.0 e.0 (told_rising (terms_for session) journal is) lt d.1 e.1 in
          let x = d.2 in
          let y = e.2 in
          omega (arith, grows, x, y))

  -- an event of the journal is held where its stamp is among its role's
  stamped : (place : ℕ) (e : Event) → e.role < roles_of session → IsEventAt journal place e → IsStamp (stamps_at lists e.role) e.stamp ↔ IsAmong e held
  stamped place e low at = (
    (λ s.
        let found = event_here (events_of e.role held) s.0 e.stamp (subst (λ (l : List ℕ). slice_get l s.0 ≡ Some e.stamp) (has.each e.role low) s.1) in
        let among = kept_own e.role held s.0 found.0 found.1 in
        let stands = told_stands (terms_for session) journal found.0 among in
        let same : found.0 ≡ e = by_stamp (terms_for session) journal stands.0 place found.0 e is stands.1 at (own_role e.role held s.0 found.0 found.1) found.2 in
        subst (λ (z : Event). IsAmong z held) same among),
    (λ among.
        let there = place_in_own held e among in
        (there.0, subst (λ (l : List ℕ). slice_get l there.0 ≡ Some e.stamp) (sym (has.each e.role low)) (stamp_here (events_of e.role held) there.0 e there.1))),
  )

  pub lacks : (place : ℕ) (e : Entry) → ((d : Event) → IsEventAt journal place d → d.role < roles_of session) → slice_get journal place ≡ Some e → LacksStamp lists e ↔ IsUndone held e
  lacks place (Send d) low at = let s = stamped place d (low d (inl at)) (inl at) in ((λ no among. no (s.1 among)), (λ no stamp. no (s.0 stamp)))
  lacks place (Recv d) low at = let s = stamped place d (low d (inr at)) (inr at) in ((λ no among. no (s.1 among)), (λ no stamp. no (s.0 stamp)))
  lacks place (Crash p) low at = ((λ no. no), (λ no. no))
  lacks place (Recover p concerned kept undone) low at = ((λ no. no), (λ no. no))
