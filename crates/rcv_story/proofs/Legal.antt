-- In a legal journal what a role keeps by its places is what the session keeps of it.
use Rattle.std.proofs.Common.{◌≡◌, ℕ, zero, suc, ◌+◌, ◌<◌, Bool, true, false, cond, Option, Some, None, List, [], ◌∷◌, ◌++◌, length, take, drop, append-nil, refl, sym, ◌∙◌, ap, subst, inl, inr, ⊎_elim, arith, eq-eqb}
use Rattle.std.specs.Prelude.{◌==◌, ◌↔◌, slice_get, slice_index}
use Rattle.std.proofs.lemmas.Bool.{false≢true}
use Rattle.std.proofs.lemmas.List.Elements.{filter-append}
use Rattle.std.proofs.lemmas.Option.{slice_get_within}
use Rattle.rcv_tree.specs.Bits.{has_bit}
use Rattle.rcv_tree.specs.declared.event.Event.{Event}
use Rattle.rcv_tree.specs.declared.role.RoleSet.{RoleSet}
use Rattle.rcv_tree.specs.declared.entry.Entry.{Entry}
use Rattle.rcv_tree.specs.declared.entry.Entry.TheVariants.{Send, Recv, Crash, Recover}
use Rattle.rcv_model.specs.Net.{IsIn, IsPrefix}
use Rattle.rcv_model.specs.Run.{acts, IsRun}
use Rattle.rcv_model.specs.Undo.{bound_of}
use Rattle.rcv_model.specs.Journal.{Rules, State, start, events_of, after, reading, durable, group_of, kept_by, MayRecover}
use Rattle.rcv_model.proofs.Bystanders.{as_many}
use Rattle.rcv_model.proofs.Groups.{group_keeps}
use Rattle.rcv_model.proofs.Keeping.{scan_of}
use Rattle.rcv_model.proofs.Legal.{accepted_runs}
use Rattle.rcv_model.proofs.StableLines.{reading_join}
use Rattle.rcv_ledger.proofs.Lists.{take_prefix, take_whole}
use Rattle.rcv_fates.specs.Fates.{IsAmong, IsEventAt, IsUndone, IsUndoneAt}
use Rattle.rcv_fates.proofs.Clocks.{once}
use Rattle.rcv_fates.proofs.Messages.{may_at}
use Rattle.rcv_fates.proofs.Undoing.{declared}
use Rattle.rcv_story.specs.Kept.{kept_after, kept_places, left_after, IsUndoneBy}
use Rattle.rcv_story.specs.Recoveries.{IsRecoverAt}
use Rattle.rcv_story.specs.Laws.{AreEventsAt, IsJournal}
use Rattle.rcv_story.proofs.Places.{take_more, take_over}
use Rattle.rcv_story.proofs.Keeping.{step, stands, undone_stands, end_either, kept_or_undone, one_event, IsEventOf}

events_more : (entries : List Entry) (ps : List ℕ) (es : List Event) (k : ℕ) (e : Event) → AreEventsAt entries ps es → IsEventAt entries k e → AreEventsAt entries (ps ++ k ∷ []) (es ++ e ∷ [])
events_more entries [] [] k e are at = (at, tt)
events_more entries [] (d ∷ es) k e are at = absurd are
events_more entries (p ∷ ps) [] k e are at = absurd are
events_more entries (p ∷ ps) (d ∷ es) k e are at = (are.0, events_more entries ps es k e are.1 at)

events_take : (entries : List Entry) (n : ℕ) (ps : List ℕ) (es : List Event) → AreEventsAt entries ps es → AreEventsAt entries (take n ps) (take n es)
events_take entries zero ps es are = tt
events_take entries (suc n) [] [] are = tt
events_take entries (suc n) [] (e ∷ es) are = absurd are
events_take entries (suc n) (p ∷ ps) [] are = absurd are
events_take entries (suc n) (p ∷ ps) (e ∷ es) are = (are.0, events_take entries n ps es are.1)

events_size : (entries : List Entry) (ps : List ℕ) (es : List Event) → AreEventsAt entries ps es → length ps ≡ length es
events_size entries [] [] are = refl
events_size entries [] (e ∷ es) are = absurd are
events_size entries (p ∷ ps) [] are = absurd are
events_size entries (p ∷ ps) (e ∷ es) are = ap suc (events_size entries ps es are.1)

-- the event at a place, and the place of an event
event_of : (entries : List Entry) (ps : List ℕ) (es : List Event) (p : ℕ) → AreEventsAt entries ps es → IsIn p ps → (e : Event) × IsEventAt entries p e × IsAmong e es
event_of entries [] es p are i = absurd i
event_of entries (q ∷ ps) [] p are i = absurd are
event_of entries (q ∷ ps) (e ∷ es) p are (inl f) = (e, subst (λ (m : ℕ). IsEventAt entries m e) (sym f) are.0, inl refl)
event_of entries (q ∷ ps) (e ∷ es) p are (inr i) = let r = event_of entries ps es p are.1 i in (r.0, r.1, inr r.2)

place_of : (entries : List Entry) (ps : List ℕ) (es : List Event) (e : Event) → AreEventsAt entries ps es → IsAmong e es → (p : ℕ) × IsIn p ps × IsEventAt entries p e
place_of entries ps [] e are i = absurd i
place_of entries [] (d ∷ es) e are i = absurd are
place_of entries (p ∷ ps) (d ∷ es) e are (inl f) = (p, inl refl, subst (IsEventAt entries p) (sym f) are.0)
place_of entries (p ∷ ps) (d ∷ es) e are (inr i) = let r = place_of entries ps es e are.1 i in (r.0, inr r.1, r.2)

front_back : {A : Type 0} (k : ℕ) (xs : List A) → take k xs ++ drop k xs ≡ xs
front_back zero xs = refl
front_back (suc k) [] = refl
front_back (suc k) (x ∷ xs) = ap (λ l. x ∷ l) (front_back k xs)

module _ (rules : Rules) (entries : List Entry) (r : ℕ) (journal : IsJournal rules entries) (low : r < 8) where
  with_event : (k : ℕ) (e : Event) (had : List ℕ) (h : List Event) → IsEventAt entries k e → AreEventsAt entries had (events_of r h) → AreEventsAt entries (cond (e.role == r) (had ++ k ∷ []) had) (events_of r (h ++ e ∷ []))
  with_event k e had h at are = subst (AreEventsAt entries (cond (e.role == r) (had ++ k ∷ []) had)) (sym (filter-append (λ (d : Event). d.role == r) h (e ∷ []))) (go (e.role == r))
    where
      go : (b : Bool) → AreEventsAt entries (cond b (had ++ k ∷ []) had) (events_of r h ++ cond b (e ∷ []) [])
      go true = events_more entries had (events_of r h) k e are at
      go false = subst (AreEventsAt entries had) (sym (append-nil (events_of r h))) are

  -- what a Recover leaves
  module _ (k p : ℕ) (concerned : RoleSet) (keeps : List ℕ) (n : ℕ) (at : slice_get entries k ≡ Some (Recover p concerned keeps n)) where
    kept_now : List Event
    kept_now = (reading rules (take k entries)).kept

    left_now : List Event
    left_now = kept_by rules (reading rules (take k entries)) p

    may : MayRecover rules (reading rules (take k entries)) p concerned.0 keeps n
    may = may_at rules entries k (Recover p concerned keeps n) journal.legal at

    run : IsRun rules.net (reading rules (take k entries)).kept
    run = accepted_runs rules entries journal.session.proper journal.session.accepted journal.legal (take k entries) (drop k entries) (front_back k entries)

    begins : IsPrefix (events_of r left_now) (events_of r kept_now)
    unfolding left_now kept_now
    begins = (scan_of rules.net (bound_of (group_of rules p) (durable rules (reading rules (take k entries))) (reading rules (take k entries)).kept) (reading rules (take k entries)).kept run.1.queued).front r

    many : has_bit concerned.0 r ≡ true → slice_index keeps r ≡ length (events_of r left_now)
    unfolding left_now
    many bit = may.counts r low ∙ ap (λ b. cond b (length (acts r (kept_by rules (reading rules (take k entries)) p))) 0) bit ∙ as_many r (kept_by rules (reading rules (take k entries)) p)

    all : has_bit concerned.0 r ≡ false → events_of r left_now ≡ events_of r kept_now
    unfolding left_now kept_now
    all bit = group_keeps rules.net (group_of rules p) (durable rules (reading rules (take k entries))) (reading rules (take k entries)).kept (rules.roles, journal.session.proper) run r (λ c. false≢true (sym bit ∙ (may.concerned r low).1 c))

    cut : (had : List ℕ) → AreEventsAt entries had (events_of r kept_now) → AreEventsAt entries (cond (has_bit concerned.0 r) (take (slice_index keeps r) had) had) (events_of r left_now)
    cut had are = go (has_bit concerned.0 r) refl
      where
        go : (b : Bool) → has_bit concerned.0 r ≡ b → AreEventsAt entries (cond b (take (slice_index keeps r) had) had) (events_of r left_now)
        go true bit = subst (AreEventsAt entries (take (slice_index keeps r) had)) (ap (λ (m : ℕ). take m (events_of r kept_now)) (many bit) ∙ take_prefix (events_of r left_now) (events_of r kept_now) begins) (events_take entries (slice_index keeps r) had (events_of r kept_now) are)
        go false bit = subst (AreEventsAt entries had) (sym (all bit)) are

  one_more : (k : ℕ) (x : Entry) (had : List ℕ) → slice_get entries k ≡ Some x → AreEventsAt entries had (events_of r (reading rules (take k entries)).kept) → AreEventsAt entries (kept_after r k had x) (events_of r (after rules (reading rules (take k entries)) x).kept)
  unfolding kept_now left_now
  one_more k (Send e) had at are = with_event k e had (reading rules (take k entries)).kept (inl at) are
  one_more k (Recv e) had at are = with_event k e had (reading rules (take k entries)).kept (inr at) are
  one_more k (Crash p) had at are = are
  one_more k (Recover p concerned keeps n) had at are = cut k p concerned keeps n at had are

  pub so_far : (k : ℕ) → AreEventsAt entries (kept_places r (take k entries)) (events_of r (reading rules (take k entries)).kept)
  so_far zero = tt
  so_far (suc k) = let one : k + 1 ≡ suc k = omega arith in subst (λ (m : ℕ). AreEventsAt entries (kept_places r (take m entries)) (events_of r (reading rules (take m entries)).kept)) one (go (so_far k) (slice_get entries k) refl)
    where
      go : AreEventsAt entries (kept_places r (take k entries)) (events_of r (reading rules (take k entries)).kept) → (o : Option Entry) → slice_get entries k ≡ o → AreEventsAt entries (kept_places r (take (k + 1) entries)) (events_of r (reading rules (take (k + 1) entries)).kept)
      go are None at = subst (λ (l : List Entry). AreEventsAt entries (kept_places r l) (events_of r (reading rules l).kept)) (sym (take_over entries k at)) are
      go are (Some x) at =
          let now : reading rules (take (k + 1) entries) ≡ after rules (reading rules (take k entries)) x = ap (reading rules) (take_more entries k x at) ∙ reading_join rules (start rules.roles) (take k entries) (x ∷ []) in
          subst (λ (s : State). AreEventsAt entries (kept_places r (take (k + 1) entries)) (events_of r s.kept)) (sym now)
          (subst (λ (l : List ℕ). AreEventsAt entries l (events_of r (after rules (reading rules (take k entries)) x).kept)) (sym (step r entries k x at)) (one_more k x (kept_places r (take k entries)) at are))

pub kept_are_kept : (rules : Rules) (entries : List Entry) (r : ℕ) → IsJournal rules entries → r < 8 → AreEventsAt entries (kept_places r entries) (events_of r (reading rules entries).kept)
kept_are_kept rules entries r journal low = subst (λ (l : List Entry). AreEventsAt entries (kept_places r l) (events_of r (reading rules l).kept)) (take_whole entries) (so_far rules entries r journal low (length entries))

pub keep_as_said : (rules : Rules) (entries : List Entry) (q p r : ℕ) (x : IsRecoverAt entries q p) → IsJournal rules entries → r < 8 → has_bit x.concerned.0 r ≡ true → length (left_after r entries q) ≡ slice_index x.keeps r
keep_as_said rules entries q p r x journal low bit =
    let now : reading rules (take (q + 1) entries) ≡ after rules (reading rules (take q entries)) (Recover p x.concerned x.keeps x.undone) = ap (reading rules) (take_more entries q (Recover p x.concerned x.keeps x.undone) x.there) ∙ reading_join rules (start rules.roles) (take q entries) (Recover p x.concerned x.keeps x.undone ∷ []) in
    events_size entries (kept_places r (take (q + 1) entries)) (events_of r (reading rules (take (q + 1) entries)).kept) (so_far rules entries r journal low (q + 1))
    ∙ ap (λ (s : State). length (events_of r s.kept)) now
    ∙ sym (many_said rules entries r journal low q p x bit)
  where
    many_said : (rules : Rules) (entries : List Entry) (r : ℕ) (journal : IsJournal rules entries) (low : r < 8) (q p : ℕ) (x : IsRecoverAt entries q p) → has_bit x.concerned.0 r ≡ true → slice_index x.keeps r ≡ length (events_of r (kept_by rules (reading rules (take q entries)) p))
    many_said rules entries r journal low q p x bit = (may_at rules entries q (Recover p x.concerned x.keeps x.undone) journal.legal x.there).counts r low ∙ ap (λ b. cond b (length (acts r (kept_by rules (reading rules (take q entries)) p))) 0) bit ∙ as_many r (kept_by rules (reading rules (take q entries)) p)

-- the events of a role are among all
among_all : (r : ℕ) (h : List Event) (e : Event) → IsAmong e (events_of r h) → IsAmong e h
among_all r [] e i = absurd i
among_all r (x ∷ h) e i = go (x.role == r) i (among_all r h e)
  where
    go : (b : Bool) → IsAmong e (cond b (x ∷ events_of r h) (events_of r h)) → (IsAmong e (events_of r h) → IsAmong e h) → IsAmong e (x ∷ h)
    go true (inl f) ih = inl f
    go true (inr j) ih = inr (ih j)
    go false j ih = inr (ih j)

among_own : (h : List Event) (e : Event) → IsAmong e h → IsAmong e (events_of e.role h)
among_own [] e i = absurd i
among_own (x ∷ h) e (inl f) = subst (λ b. IsAmong e (cond b (x ∷ events_of e.role h) (events_of e.role h))) (sym (eq-eqb x.role e.role (sym (ap (λ (z : Event). z.role) f)))) (inl f)
among_own (x ∷ h) e (inr i) = go (x.role == e.role) (among_own h e i)
  where
    go : (b : Bool) → IsAmong e (events_of e.role h) → IsAmong e (cond b (x ∷ events_of e.role h) (events_of e.role h))
    go true j = inr j
    go false j = j

module _ (rules : Rules) (entries : List Entry) (p : ℕ) (journal : IsJournal rules entries) where
  low_role : (d : Event) → IsEventAt entries p d → d.role < 8
  low_role d at = let a = declared rules entries p d journal.legal at in let b = journal.few in omega (arith, a, b)

  -- an event that isn't kept is undone, and one that is undone isn't kept
  lost_is_undone : (e : Event) → IsEventAt entries p e → p < length entries → (IsAmong e (reading rules entries).kept → ⊥) → (q : ℕ) × IsUndoneBy entries p q
  lost_is_undone e at lt out = ⊎_elim
      (λ kept. absurd (out (back kept.0 kept.1)))
      (λ u. u)
      (end_either entries p e at lt)
    where
      back : (r : ℕ) → IsIn p (kept_places r entries) → IsAmong e (reading rules entries).kept
      back r i =
          let own = (stands r entries (length entries) p (subst (λ (l : List Entry). IsIn p (kept_places r l)) (sym (take_whole entries)) i)).1 in
          let low = subst (λ (m : ℕ). m < 8) own.role (low_role own.event own.there) in
          let found = event_of entries (kept_places r entries) (events_of r (reading rules entries).kept) p (kept_are_kept rules entries r journal low) i in
          among_all r (reading rules entries).kept e (subst (λ (d : Event). IsAmong d (events_of r (reading rules entries).kept)) (one_event entries p found.0 e found.1 at) found.2)

  undone_is_lost : (e : Event) → IsEventAt entries p e → (q : ℕ) → IsUndoneBy entries p q → IsAmong e (reading rules entries).kept → ⊥
  undone_is_lost e at q u i =
      let place = place_of entries (kept_places e.role entries) (events_of e.role (reading rules entries).kept) e (kept_are_kept rules entries e.role journal (low_role e at)) (among_own (reading rules entries).kept e i) in
      let same : place.0 ≡ p = once rules entries place.0 p e journal.legal place.2 at in
      kept_or_undone entries p q (e.role, subst (λ (m : ℕ). IsIn m (kept_places e.role entries)) same place.1) u

  both_ways : (x : Entry) → slice_get entries p ≡ Some x → IsUndone (reading rules entries).kept x → (q : ℕ) × IsUndoneBy entries p q
  both_ways (Send e) at out = lost_is_undone e (inl at) (slice_get_within entries p (Send e) at) out
  both_ways (Recv e) at out = lost_is_undone e (inr at) (slice_get_within entries p (Recv e) at) out
  both_ways (Crash c) at out = absurd out
  both_ways (Recover c s k n) at out = absurd out

  undone_entry : (q : ℕ) (u : IsUndoneBy entries p q) → (own : IsEventOf entries u.role p) → IsUndoneAt (reading rules entries).kept entries p
  undone_entry q u own = ⊎_elim
      (λ at. record { entry = Send own.event; there = at; undone = λ i. undone_is_lost own.event (inl at) q u i })
      (λ at. record { entry = Recv own.event; there = at; undone = λ i. undone_is_lost own.event (inr at) q u i })
      own.there

pub undone_by_one : (rules : Rules) (entries : List Entry) (p : ℕ) → IsJournal rules entries → IsUndoneAt (reading rules entries).kept entries p ↔ ((q : ℕ) × IsUndoneBy entries p q)
undone_by_one rules entries p journal = (
  (λ u. both_ways rules entries p journal u.entry u.there u.undone),
  (λ u. undone_entry rules entries p journal u.0 u.1 (undone_stands entries p u.0 u.1).1),
)
