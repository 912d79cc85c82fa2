-- What a role keeps, entry by entry: an undone event never comes back, so one Recover undoes it at most.
use Rattle.std.proofs.Common.{◌≡◌, ℕ, zero, suc, ◌+◌, ◌-◌, ◌<◌, ◌≤◌, Bool, true, false, cond, Option, Some, None, List, [], ◌∷◌, ◌++◌, length, take, refl, sym, ◌∙◌, ap, subst, ◌⊎◌, inl, inr, ⊎_elim, arith, eqb-true, eq-eqb, ne_eqb}
use Rattle.std.specs.Prelude.{◌==◌, min, slice_get, slice_index}
use Rattle.std.proofs.lemmas.Bool.{cases_eq, cases_order}
use Rattle.std.proofs.lemmas.Option.{slice_get_within}
use Rattle.rcv_tree.specs.Bits.{has_bit}
use Rattle.rcv_tree.specs.declared.event.Event.{Event}
use Rattle.rcv_tree.specs.declared.role.RoleSet.{RoleSet}
use Rattle.rcv_tree.specs.declared.entry.Entry.{Entry}
use Rattle.rcv_tree.specs.declared.entry.Entry.TheVariants.{Send, Recv, Crash, Recover}
use Rattle.rcv_model.specs.Net.{IsIn}
use Rattle.rcv_model.proofs.Lists.{some_same}
use Rattle.rcv_ledger.proofs.Lists.{take_whole}
use Rattle.rcv_fates.specs.Fates.{IsEventAt}
use Rattle.rcv_story.specs.Kept.{kept_after, kept_from, kept_places, kept_before, left_after, IsUndoneBy, IsKeptPlace}
use Rattle.rcv_story.specs.Stacks.{left_count}
use Rattle.rcv_story.proofs.Places.{take_min, take_more, take_over, take_length, in_left, in_last, in_more, in_take, is_in, Ascends, ascends_more, ascends_take}

kept_from_more : (r k : ℕ) (kept : List ℕ) (front : List Entry) (x : Entry) → kept_from r k kept (front ++ x ∷ []) ≡ kept_after r (k + length front) (kept_from r k kept front) x
kept_from_more r k kept [] x = let n : k ≡ k + 0 = omega arith in ap (λ m. kept_after r m kept x) n
kept_from_more r k kept (y ∷ front) x =
    let n : k + 1 + length front ≡ k + suc (length front) = omega arith in
    kept_from_more r (k + 1) (kept_after r k kept y) front x ∙ ap (λ m. kept_after r m (kept_from r (k + 1) (kept_after r k kept y) front) x) n

-- one entry more
pub step : (r : ℕ) (entries : List Entry) (q : ℕ) (x : Entry) → slice_get entries q ≡ Some x → left_after r entries q ≡ kept_after r q (kept_before r entries q) x
step r entries q x at =
    let low = slice_get_within entries q x at in
    let size : 0 + length (take q entries) ≡ q = (let n = take_length entries q (omega (arith, low)) in omega (arith, n)) in
    ap (kept_places r) (take_more entries q x at)
    ∙ kept_from_more r 0 [] (take q entries) x
    ∙ ap (λ (m : ℕ). kept_after r m (kept_before r entries q) x) size

-- the entry is an event of role r
abbrev IsOf : ℕ → Entry → Type 0
IsOf r x = (e : Event) × ((x ≡ Send e) ⊎ (x ≡ Recv e)) × (e.role ≡ r)

after_in : (r k : ℕ) (kept : List ℕ) (x : Entry) (p : ℕ) → IsIn p (kept_after r k kept x) → IsIn p kept ⊎ ((p ≡ k) × IsOf r x)
after_in r k kept (Send e) p i = go (e.role == r) refl i
  where
    go : (b : Bool) → (e.role == r) ≡ b → IsIn p (cond b (kept ++ k ∷ []) kept) → IsIn p kept ⊎ ((p ≡ k) × IsOf r (Send e))
    go true t j = ⊎_elim inl (λ s. inr (s, (e, inl refl, eqb-true e.role r t))) (in_more p k kept j)
    go false t j = inl j
after_in r k kept (Recv e) p i = go (e.role == r) refl i
  where
    go : (b : Bool) → (e.role == r) ≡ b → IsIn p (cond b (kept ++ k ∷ []) kept) → IsIn p kept ⊎ ((p ≡ k) × IsOf r (Recv e))
    go true t j = ⊎_elim inl (λ s. inr (s, (e, inr refl, eqb-true e.role r t))) (in_more p k kept j)
    go false t j = inl j
after_in r k kept (Crash c) p i = inl i
after_in r k kept (Recover c concerned keeps undone) p i = go (has_bit concerned.0 r) i
  where
    go : (b : Bool) → IsIn p (cond b (take (slice_index keeps r) kept) kept) → IsIn p kept ⊎ ((p ≡ k) × IsOf r (Recover c concerned keeps undone))
    go true j = inl (in_take (slice_index keeps r) p kept j)
    go false j = inl j

-- the event at place k is one of role r
pub record IsEventOf (entries : List Entry) (r k : ℕ) : Type 0 where
  pub event : Event
  pub there : IsEventAt entries k event
  pub role : event.role ≡ r

pub next : (r : ℕ) (entries : List Entry) (k p : ℕ) → IsIn p (kept_places r (take (k + 1) entries)) → IsIn p (kept_places r (take k entries)) ⊎ ((p ≡ k) × IsEventOf entries r k)
next r entries k p i = go (slice_get entries k) refl
  where
    there : (x : Entry) → slice_get entries k ≡ Some x → IsOf r x → IsEventOf entries r k
    there x at of = record {
      event = of.0;
      there = ⊎_elim (λ f. inl (at ∙ ap Some f)) (λ f. inr (at ∙ ap Some f)) of.1;
      role = of.2;
    }

    go : (o : Option Entry) → slice_get entries k ≡ o → IsIn p (kept_places r (take k entries)) ⊎ ((p ≡ k) × IsEventOf entries r k)
    go None at = inl (subst (λ (l : List Entry). IsIn p (kept_places r l)) (take_over entries k at) i)
    go (Some x) at = ⊎_elim inl (λ f. inr (f.0, there x at f.1)) (after_in r k (kept_places r (take k entries)) x p (subst (IsIn p) (step r entries k x at) i))

suc_more : (r : ℕ) (entries : List Entry) (k p : ℕ) → IsIn p (kept_places r (take (suc k) entries)) → IsIn p (kept_places r (take (k + 1) entries))
suc_more r entries k p i = let one : suc k ≡ k + 1 = omega arith in subst (λ (m : ℕ). IsIn p (kept_places r (take m entries))) one i

more_suc : (r : ℕ) (entries : List Entry) (k p : ℕ) → IsIn p (kept_places r (take (k + 1) entries)) → IsIn p (kept_places r (take (suc k) entries))
more_suc r entries k p i = let one : k + 1 ≡ suc k = omega arith in subst (λ (m : ℕ). IsIn p (kept_places r (take m entries))) one i

-- what a role keeps are earlier events of it
pub stands : (r : ℕ) (entries : List Entry) (k p : ℕ) → IsIn p (kept_places r (take k entries)) → (p < k) × IsEventOf entries r p
stands r entries zero p i = absurd i
stands r entries (suc k) p i = ⊎_elim
    (λ old. let s = stands r entries k p old in (let a = s.0 in omega (arith, a), s.1))
    (λ new. (let a = new.0 in omega (arith, a), subst (IsEventOf entries r) (sym new.0) new.1))
    (next r entries k p (suc_more r entries k p i))

-- it ascends
pub ascends : (r : ℕ) (entries : List Entry) (k : ℕ) → Ascends (kept_places r (take k entries))
ascends r entries zero = tt
ascends r entries (suc k) = let one : k + 1 ≡ suc k = omega arith in subst (λ (m : ℕ). Ascends (kept_places r (take m entries))) one (go (slice_get entries k) refl (ascends r entries k))
  where
    low : (p : ℕ) → IsIn p (kept_places r (take k entries)) → p < k
    low p i = (stands r entries k p i).0

    grown : (b : Bool) → Ascends (kept_places r (take k entries)) → Ascends (cond b (kept_places r (take k entries) ++ k ∷ []) (kept_places r (take k entries)))
    grown true a = ascends_more (kept_places r (take k entries)) k a low
    grown false a = a

    shorter : (b : Bool) (n : ℕ) → Ascends (kept_places r (take k entries)) → Ascends (cond b (take n (kept_places r (take k entries))) (kept_places r (take k entries)))
    shorter true n a = ascends_take n (kept_places r (take k entries)) a
    shorter false n a = a

    after : (x : Entry) → Ascends (kept_places r (take k entries)) → Ascends (kept_after r k (kept_places r (take k entries)) x)
    after (Send e) a = grown (e.role == r) a
    after (Recv e) a = grown (e.role == r) a
    after (Crash p) a = a
    after (Recover p concerned keeps undone) a = shorter (has_bit concerned.0 r) (slice_index keeps r) a

    go : (o : Option Entry) → slice_get entries k ≡ o → Ascends (kept_places r (take k entries)) → Ascends (kept_places r (take (k + 1) entries))
    go None at a = subst (λ (l : List Entry). Ascends (kept_places r l)) (sym (take_over entries k at)) a
    go (Some x) at a = subst Ascends (sym (step r entries k x at)) (after x a)

-- what is undone never comes back
never : (r : ℕ) (entries : List Entry) (q n p : ℕ) → p < q → (IsIn p (kept_places r (take q entries)) → ⊥) → IsIn p (kept_places r (take (n + q) entries)) → ⊥
never r entries q zero p lt out i = let none : 0 + q ≡ q = omega arith in out (subst (λ (m : ℕ). IsIn p (kept_places r (take m entries))) none i)
never r entries q (suc n) p lt out i = ⊎_elim
    (λ old. never r entries q n p lt out old)
    (λ new. let a = new.0 in omega (arith, a, lt))
    (next r entries (n + q) p (let one : suc n + q ≡ n + q + 1 = omega arith in subst (λ (m : ℕ). IsIn p (kept_places r (take m entries))) one i))

pub never_later : (r : ℕ) (entries : List Entry) (q k p : ℕ) → q ≤ k → p < q → (IsIn p (kept_places r (take q entries)) → ⊥) → IsIn p (kept_places r (take k entries)) → ⊥
never_later r entries q k p le lt out i =
    let same : k ≡ k - q + q = omega (arith, le) in
    never r entries q (k - q) p lt out (subst (λ (m : ℕ). IsIn p (kept_places r (take m entries))) same i)

-- the event at one place is of one role
pub one_event : (entries : List Entry) (p : ℕ) (d e : Event) → IsEventAt entries p d → IsEventAt entries p e → d ≡ e
one_event entries p d e (inl f) (inl g) = let h : Send d ≡ Send e = some_same (sym f ∙ g) in cc
one_event entries p d e (inl f) (inr g) = let h : Send d ≡ Recv e = some_same (sym f ∙ g) in absurd (cc)
one_event entries p d e (inr f) (inl g) = let h : Recv d ≡ Send e = some_same (sym f ∙ g) in absurd (cc)
one_event entries p d e (inr f) (inr g) = let h : Recv d ≡ Recv e = some_same (sym f ∙ g) in cc

pub one_role : (entries : List Entry) (p r s : ℕ) → IsEventOf entries r p → IsEventOf entries s p → r ≡ s
one_role entries p r s a b = sym a.role ∙ ap (λ (e : Event). e.role) (one_event entries p a.event b.event a.there b.there) ∙ b.role

-- the place of an undone event
pub undone_stands : (entries : List Entry) (p q : ℕ) (u : IsUndoneBy entries p q) → (p < q) × IsEventOf entries u.role p
undone_stands entries p q u = stands u.role entries q p u.had

-- after it is undone nobody keeps it
pub gone : (entries : List Entry) (p q k r : ℕ) → IsUndoneBy entries p q → q < k → IsIn p (kept_places r (take k entries)) → ⊥
gone entries p q k r u lt i =
    let s = undone_stands entries p q u in
    let same = one_role entries p r u.role (stands r entries k p i).1 s.1 in
    never_later u.role entries (q + 1) k p (omega (arith, lt)) (let a = s.0 in omega (arith, a)) u.lost (subst (λ (m : ℕ). IsIn p (kept_places m (take k entries))) same i)

pub undone_once : (entries : List Entry) (p q o : ℕ) → IsUndoneBy entries p q → IsUndoneBy entries p o → q ≡ o
undone_once entries p q o u v = ⊎_elim (λ e. e) (λ s. ⊎_elim
    (λ lt. absurd (gone entries p q o v.role u lt v.had))
    (λ lt. absurd (gone entries p o q u.role v lt u.had)) s) (cases_order q o)

-- the event of an entry is kept by its role just after it
pub fresh : (entries : List Entry) (k : ℕ) (e : Event) → IsEventAt entries k e → IsIn k (kept_places e.role (take (k + 1) entries))
fresh entries k e (inl f) = subst (IsIn k) (sym (step e.role entries k (Send e) f)) (subst (λ b. IsIn k (cond b (kept_before e.role entries k ++ k ∷ []) (kept_before e.role entries k))) (sym (eq-eqb e.role e.role refl)) (in_last (kept_before e.role entries k) k))
fresh entries k e (inr f) = subst (IsIn k) (sym (step e.role entries k (Recv e) f)) (subst (λ b. IsIn k (cond b (kept_before e.role entries k ++ k ∷ []) (kept_before e.role entries k))) (sym (eq-eqb e.role e.role refl)) (in_last (kept_before e.role entries k) k))

-- each event is kept or undone
pub either : (entries : List Entry) (k p : ℕ) (e : Event) → IsEventAt entries p e → p < k → IsIn p (kept_places e.role (take k entries)) ⊎ ((q : ℕ) × (q < k) × IsUndoneBy entries p q)
either entries zero p e there lt = absurd (omega (arith, lt))
either entries (suc k) p e there lt = ⊎_elim
    (λ same. inl (more_suc e.role entries k p (subst (λ (m : ℕ). IsIn m (kept_places e.role (take (k + 1) entries))) (sym same) (fresh entries k e (subst (λ (m : ℕ). IsEventAt entries m e) same there)))))
    (λ other. ⊎_elim
    (λ old. ⊎_elim
    (λ now. inl (more_suc e.role entries k p now))
    (λ out. inr (k, omega arith, record { role = e.role; had = old; lost = out }))
    (is_in p (kept_places e.role (take (k + 1) entries))))
    (λ undone. inr (undone.0, (let a = undone.1 in omega (arith, a)), undone.2))
    (either entries k p e there (omega (arith, lt, other))))
    (cases_eq p k)

at_end : (r : ℕ) (entries : List Entry) → kept_places r entries ≡ kept_places r (take (length entries) entries)
at_end r entries = ap (kept_places r) (sym (take_whole entries))

pub end_either : (entries : List Entry) (p : ℕ) (e : Event) → IsEventAt entries p e → p < length entries → IsKeptPlace entries p ⊎ ((q : ℕ) × IsUndoneBy entries p q)
end_either entries p e there lt = ⊎_elim
    (λ i. inl (e.role, subst (IsIn p) (sym (at_end e.role entries)) i))
    (λ u. inr (u.0, u.2))
    (either entries (length entries) p e there lt)

-- nothing is undone behind the end
pub undone_within : (entries : List Entry) (p q : ℕ) → IsUndoneBy entries p q → q < length entries
undone_within entries p q u = go (slice_get entries q) refl
  where
    go : (o : Option Entry) → slice_get entries q ≡ o → q < length entries
    go None at = absurd (u.lost (subst (λ (l : List Entry). IsIn p (kept_places u.role l)) (sym (take_over entries q at)) u.had))
    go (Some x) at = slice_get_within entries q x at

pub kept_or_undone : (entries : List Entry) (p q : ℕ) → IsKeptPlace entries p → IsUndoneBy entries p q → ⊥
kept_or_undone entries p q k u = gone entries p q (length entries) k.0 u (undone_within entries p q u) (subst (IsIn p) (at_end k.0 entries) k.1)

-- what each kind of entry leaves
pub own_more : (entries : List Entry) (k : ℕ) (e : Event) → IsEventAt entries k e → left_after e.role entries k ≡ kept_before e.role entries k ++ k ∷ []
own_more entries k e (inl f) = step e.role entries k (Send e) f ∙ ap (λ b. cond b (kept_before e.role entries k ++ k ∷ []) (kept_before e.role entries k)) (eq-eqb e.role e.role refl)
own_more entries k e (inr f) = step e.role entries k (Recv e) f ∙ ap (λ b. cond b (kept_before e.role entries k ++ k ∷ []) (kept_before e.role entries k)) (eq-eqb e.role e.role refl)

pub other_same : (entries : List Entry) (k r : ℕ) (e : Event) → IsEventAt entries k e → (r ≡ e.role → ⊥) → left_after r entries k ≡ kept_before r entries k
other_same entries k r e (inl f) ne = step r entries k (Send e) f ∙ ap (λ b. cond b (kept_before r entries k ++ k ∷ []) (kept_before r entries k)) (ne_eqb e.role r (λ s. ne (sym s)))
other_same entries k r e (inr f) ne = step r entries k (Recv e) f ∙ ap (λ b. cond b (kept_before r entries k ++ k ∷ []) (kept_before r entries k)) (ne_eqb e.role r (λ s. ne (sym s)))

pub event_keeps : (entries : List Entry) (k r p : ℕ) (e : Event) → IsEventAt entries k e → IsIn p (kept_before r entries k) → IsIn p (left_after r entries k)
event_keeps entries k r p e there i = ⊎_elim
    (λ same. subst (λ (m : ℕ). IsIn p (left_after m entries k)) (sym same) (subst (IsIn p) (sym (own_more entries k e there)) (in_left p (kept_before e.role entries k) (k ∷ []) (subst (λ (m : ℕ). IsIn p (kept_before m entries k)) same i))))
    (λ ne. subst (IsIn p) (sym (other_same entries k r e there ne)) i)
    (cases_eq r e.role)

pub crash_same : (entries : List Entry) (k r p : ℕ) → slice_get entries k ≡ Some (Crash p) → left_after r entries k ≡ kept_before r entries k
crash_same entries k r p at = step r entries k (Crash p) at

counted : (b : Bool) (n : ℕ) (xs : List ℕ) → cond b (take n xs) xs ≡ take (cond b (min (length xs) n) (length xs)) xs
counted true n xs = sym (take_min n xs)
counted false n xs = sym (take_whole xs)

pub recover_takes : (entries : List Entry) (k r p : ℕ) (concerned : RoleSet) (keeps : List ℕ) (undone : ℕ) → slice_get entries k ≡ Some (Recover p concerned keeps undone) → left_after r entries k ≡ take (left_count concerned keeps r (length (kept_before r entries k))) (kept_before r entries k)
recover_takes entries k r p concerned keeps undone at = step r entries k (Recover p concerned keeps undone) at ∙ counted (has_bit concerned.0 r) (slice_index keeps r) (kept_before r entries k)
