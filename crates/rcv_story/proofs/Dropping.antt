-- Going over the entries: the messages that Recovers drop, and those that wait.
use Rattle.std.proofs.Common.{◌≡◌, ℕ, zero, suc, ◌+◌, ◌<◌, ◌≤◌, Bool, true, false, cond, Option, Some, None, List, [], ◌∷◌, ◌++◌, length, refl, sym, ◌∙◌, ap, subst, inl, inr, ⊎_elim, arith, length-append}
use Rattle.std.specs.Prelude.{◌↔◌, slice_get, slice_index_or, MatchOption}
use Rattle.std.proofs.lemmas.Bool.{cases_lt, cases_Bool, false≢true}
use Rattle.std.proofs.lemmas.Option.{slice_get_within, slice_get-get_or}
use Rattle.rcv_tree.specs.declared.event.Event.{Event}
use Rattle.rcv_tree.specs.declared.entry.Entry.{Entry}
use Rattle.rcv_tree.specs.declared.entry.Entry.TheVariants.{Send}
use Rattle.rcv_model.specs.Net.{Net}
use Rattle.rcv_model.proofs.Lists.{some_same}
use Rattle.rcv_ledger.proofs.Lists.{get_left, get_end, get_more}
use Rattle.rcv_story.specs.declared.story.Dropped.{Dropped}
use Rattle.rcv_story.specs.Kept.{IsKeptPlace}
use Rattle.rcv_story.specs.Messages.{IsDropped, IsWaiting, AreDropped, AreWaiting, dropped_of}
use Rattle.rcv_story.specs.Stacks.{IsSend, AreMet, AreUndone}
use Rattle.rcv_story.proofs.Keeping.{end_either, kept_or_undone}
use Rattle.rcv_story.proofs.Receiving.{recv_within}

pub record HasDropped (net : Net) (entries : List Entry) (k : ℕ) (xs : List Dropped) : Type 0 where
  pub sound : (i : ℕ) (x : Dropped) → slice_get xs i ≡ Some x → (x.send < k) × IsDropped net entries x.send x.recover
  pub complete : (s q : ℕ) → s < k → IsDropped net entries s q → (i : ℕ) × (slice_get xs i ≡ Some (dropped_of s q))
  pub ascending : (i j : ℕ) (x y : Dropped) → i < j → slice_get xs i ≡ Some x → slice_get xs j ≡ Some y → x.send < y.send

pub record HasWaiting (net : Net) (entries : List Entry) (k : ℕ) (xs : List ℕ) : Type 0 where
  pub sound : (i s : ℕ) → slice_get xs i ≡ Some s → (s < k) × IsWaiting net entries s
  pub complete : (s : ℕ) → s < k → IsWaiting net entries s → (i : ℕ) × (slice_get xs i ≡ Some s)
  pub ascending : (i j s t : ℕ) → i < j → slice_get xs i ≡ Some s → slice_get xs j ≡ Some t → s < t

length_more : {A : Type 0} (xs : List A) (x : A) → length (xs ++ x ∷ []) ≡ length xs + 1
length_more xs x = let a = length-append xs (x ∷ []) in omega (arith, a)

-- an earlier item is one of the old ones
old_item : {A : Type 0} (xs : List A) (x y z : A) (i j : ℕ) → i < j → slice_get (xs ++ x ∷ []) i ≡ Some y → slice_get (xs ++ x ∷ []) j ≡ Some z → slice_get xs i ≡ Some y
old_item xs x y z i j lt f g =
    let size = slice_get_within (xs ++ x ∷ []) j z g in
    let all = length_more xs x in
    sym (get_left xs (x ∷ []) i (omega (arith, size, all, lt))) ∙ f

pub dropped_start : (net : Net) (entries : List Entry) (xs : List Dropped) → xs ≡ [] → HasDropped net entries 0 xs
dropped_start net entries xs bare = subst (HasDropped net entries 0) (sym bare) (record { sound = λ i x at. absurd (cc); complete = λ s q lt d. absurd (omega (arith, lt)); ascending = λ i j x y lt f g. absurd (cc) })

pub waiting_start : (net : Net) (entries : List Entry) (xs : List ℕ) → xs ≡ [] → HasWaiting net entries 0 xs
waiting_start net entries xs bare = subst (HasWaiting net entries 0) (sym bare) (record { sound = λ i x at. absurd (cc); complete = λ s lt d. absurd (omega (arith, lt)); ascending = λ i j x y lt f g. absurd (cc) })

module _ (net : Net) (entries : List Entry) (k : ℕ) where
  pub dropped_other : (xs : List Dropped) → HasDropped net entries k xs → ((q : ℕ) → IsDropped net entries k q → ⊥) → HasDropped net entries (k + 1) xs
  dropped_other xs has none = record {
    sound = λ i x at. (let a = (has.sound i x at).0 in omega (arith, a), (has.sound i x at).1);
    complete = λ s q lt d. ⊎_elim
        (λ low. has.complete s q low d)
        (λ le. let same : s ≡ k = omega (arith, le, lt) in absurd (none q (subst (λ (m : ℕ). IsDropped net entries m q) same d)))
        (cases_lt s k);
    ascending = has.ascending;
  }

  pub dropped_more : (xs : List Dropped) (q : ℕ) → HasDropped net entries k xs → IsDropped net entries k q → ((o : ℕ) → IsDropped net entries k o → o ≡ q) → HasDropped net entries (k + 1) (xs ++ dropped_of k q ∷ [])
  dropped_more xs q has right only = record {
    sound = λ i x at. ⊎_elim
        (λ old. (let a = (has.sound i x old).0 in omega (arith, a), (has.sound i x old).1))
        (λ new. subst (λ (y : Dropped). (y.send < k + 1) × IsDropped net entries y.send y.recover) new (omega arith, right))
        (get_more xs (dropped_of k q) x i at);
    complete = λ s o lt d. ⊎_elim
        (λ low. let old = has.complete s o low d in (old.0, get_left xs (dropped_of k q ∷ []) old.0 (slice_get_within xs old.0 (dropped_of s o) old.1) ∙ old.1))
        (λ le. let same : s ≡ k = omega (arith, le, lt) in
        let one : o ≡ q = only o (subst (λ (m : ℕ). IsDropped net entries m o) same d) in
        (length xs, get_end xs (dropped_of k q) ∙ ap (λ m. Some (dropped_of m q)) (sym same) ∙ ap (λ m. Some (dropped_of s m)) (sym one)))
        (cases_lt s k);
    ascending = λ i j x y lt f g. ⊎_elim
        (λ old. has.ascending i j x y lt (old_item xs (dropped_of k q) x y i j lt f g) old)
        (λ new. subst (λ (z : Dropped). x.send < z.send) new (has.sound i x (old_item xs (dropped_of k q) x y i j lt f g)).0)
        (get_more xs (dropped_of k q) y j g);
  }

  pub waiting_other : (xs : List ℕ) → HasWaiting net entries k xs → (IsWaiting net entries k → ⊥) → HasWaiting net entries (k + 1) xs
  waiting_other xs has none = record {
    sound = λ i s at. (let a = (has.sound i s at).0 in omega (arith, a), (has.sound i s at).1);
    complete = λ s lt d. ⊎_elim
        (λ low. has.complete s low d)
        (λ le. let same : s ≡ k = omega (arith, le, lt) in absurd (none (subst (IsWaiting net entries) same d)))
        (cases_lt s k);
    ascending = has.ascending;
  }

  pub waiting_more : (xs : List ℕ) → HasWaiting net entries k xs → IsWaiting net entries k → HasWaiting net entries (k + 1) (xs ++ k ∷ [])
  waiting_more xs has right = record {
    sound = λ i s at. ⊎_elim
        (λ old. (let a = (has.sound i s old).0 in omega (arith, a), (has.sound i s old).1))
        (λ new. subst (λ (m : ℕ). (m < k + 1) × IsWaiting net entries m) new (omega arith, right))
        (get_more xs k s i at);
    complete = λ s lt d. ⊎_elim
        (λ low. let old = has.complete s low d in (old.0, get_left xs (k ∷ []) old.0 (slice_get_within xs old.0 s old.1) ∙ old.1))
        (λ le. let same : s ≡ k = omega (arith, le, lt) in (length xs, get_end xs k ∙ ap Some (sym same)))
        (cases_lt s k);
    ascending = λ i j s t lt f g. ⊎_elim
        (λ old. has.ascending i j s t lt (old_item xs k s t i j lt f g) old)
        (λ new. subst (λ (m : ℕ). s < m) new (has.sound i s (old_item xs k s t i j lt f g)).0)
        (get_more xs k t j g);
  }

  module _ (undone : List (Option ℕ)) (met : List Bool) (who : AreUndone entries undone) (meets : AreMet net entries undone met) where
    -- who undoes the next entry, and whether it is met
    pub dropped_is : (e : Event) (q : ℕ) → slice_get entries k ≡ Some (Send e) → (slice_get met k ≡ Some true → ⊥) → slice_get undone k ≡ Some (Some q) → IsDropped net entries k q
    dropped_is e q at lone by = record {
      event = e;
      send_at = at;
      undone = (who.each k q).0 by;
      unmet = λ t m u. lone ((meets.each k).1 (record { t = t; message = m; same = (who.each t q).1 u ∙ sym by }));
    }

    pub dropped_by : (q : ℕ) → IsDropped net entries k q → slice_get undone k ≡ Some (Some q)
    dropped_by q d = (who.each k q).1 d.undone

    pub dropped_lone : (q : ℕ) → IsDropped net entries k q → slice_get met k ≡ Some true → ⊥
    dropped_lone q d at = let m = (meets.each k).0 at in d.unmet m.t m.message ((who.each m.t q).0 (m.same ∙ dropped_by q d))

    -- an event that nobody undoes is kept
    kept_if : (p : ℕ) → IsKeptPlace entries p → p < length entries → slice_get undone p ≡ Some None
    kept_if p kept lt = go (slice_get undone p) refl
      where
        go : (o : Option (Option ℕ)) → slice_get undone p ≡ o → slice_get undone p ≡ Some None
        go None at = absurd (let s = who.size in outside undone p at (omega (arith, s, lt)))
          where
            outside : (xs : List (Option ℕ)) (p : ℕ) → slice_get xs p ≡ None → p < length xs → ⊥
            outside [] p at lt = omega (arith, lt)
            outside (x ∷ xs) zero at lt = cc
            outside (x ∷ xs) (suc p) at lt = outside xs p at (omega (arith, lt))
        go (Some None) at = at
        go (Some (Some q)) at = absurd (kept_or_undone entries p q kept ((who.each p q).0 at))

    pub waiting_is : (e : Event) → slice_get entries k ≡ Some (Send e) → (slice_get met k ≡ Some true → ⊥) → slice_get undone k ≡ Some None → IsWaiting net entries k
    waiting_is e at lone none = record {
      event = e;
      send_at = at;
      kept = ⊎_elim (λ kept. kept) (λ u. absurd (let f : (let o : Option ℕ = None in o) ≡ Some u.0 = some_same (sym none ∙ (who.each k u.0).1 u.1) in cc)) (end_either entries k e (inl at) (slice_get_within entries k (Send e) at));
      unmet = λ t m kept. lone ((meets.each k).1 (record { t = t; message = m; same = kept_if t kept (recv_within net entries k t m) ∙ sym none }));
    }

    pub waiting_none : IsWaiting net entries k → slice_get undone k ≡ Some None
    waiting_none w = kept_if k w.kept (slice_get_within entries k (Send w.event) w.send_at)

    pub waiting_lone : IsWaiting net entries k → slice_get met k ≡ Some true → ⊥
    waiting_lone w at =
        let m = (meets.each k).0 at in
        let none : slice_get undone m.t ≡ Some None = m.same ∙ waiting_none w in
        w.unmet m.t m.message (⊎_elim (λ kept. kept) (λ u. absurd (let f : (let o : Option ℕ = None in o) ≡ Some u.0 = some_same (sym none ∙ (who.each m.t u.0).1 u.1) in cc)) (end_either entries m.t m.message.got (inr m.message.recv_at) (recv_within net entries k m.t m.message)))

    -- the entry's own mark, and who undoes it
    met_at : k < length entries → slice_get met k ≡ Some (slice_index_or met k false)
    met_at lt = slice_get-get_or met k false (let s = meets.size in omega (arith, s, lt))

    undone_at : k < length entries → slice_get undone k ≡ Some (slice_index_or undone k None)
    undone_at lt = slice_get-get_or undone k None (let s = who.size in omega (arith, s, lt))

    lone_at : k < length entries → slice_index_or met k false ≡ false → slice_get met k ≡ Some true → ⊥
    lone_at lt lone at = false≢true (sym lone ∙ some_same (sym (met_at lt) ∙ at))

    not_met : k < length entries → (slice_get met k ≡ Some true → ⊥) → slice_index_or met k false ≡ false
    not_met lt lone = ⊎_elim (λ t. absurd (lone (met_at lt ∙ ap Some t))) (λ f. f) (cases_Bool (slice_index_or met k false))

    pub dropped_step : (x : Entry) (o : Option ℕ) (xs : List Dropped) → slice_get entries k ≡ Some x
        → ((q : ℕ) → (o ≡ Some q) ↔ (IsSend x × (slice_index_or met k false ≡ false) × (slice_index_or undone k None ≡ Some q)))
        → HasDropped net entries k xs → MatchOption o (HasDropped net entries (k + 1) xs) (λ q. HasDropped net entries (k + 1) (xs ++ dropped_of k q ∷ []))
    dropped_step x None xs at says has = dropped_other xs has (λ q d.
        let lt = slice_get_within entries k x at in
        let f : (let o : Option ℕ = None in o) ≡ Some q = (says q).1 ((d.event, some_same (sym at ∙ d.send_at)), not_met lt (dropped_lone q d), some_same (sym (undone_at lt) ∙ dropped_by q d)) in
        cc)
    dropped_step x (Some q) xs at says has =
        let lt = slice_get_within entries k x at in
        let said = (says q).0 refl in
        dropped_more xs q has (dropped_is said.0.0 q (at ∙ ap Some said.0.1) (lone_at lt said.1) (undone_at lt ∙ ap Some said.2))
        (λ o d. let f : Some o ≡ Some q = sym (some_same (sym (undone_at lt) ∙ dropped_by o d)) ∙ said.2 in some_same f)

    pub waiting_step : (x : Entry) (b : Bool) (xs : List ℕ) → slice_get entries k ≡ Some x
        → (b ≡ true) ↔ (IsSend x × (slice_index_or met k false ≡ false) × (slice_index_or undone k None ≡ None))
        → HasWaiting net entries k xs → HasWaiting net entries (k + 1) (cond b (xs ++ k ∷ []) xs)
    waiting_step x false xs at says has = waiting_other xs has (λ w.
        let lt = slice_get_within entries k x at in
        false≢true (says.1 ((w.event, some_same (sym at ∙ w.send_at)), not_met lt (waiting_lone w), some_same (sym (undone_at lt) ∙ waiting_none w))))
    waiting_step x true xs at says has =
        let lt = slice_get_within entries k x at in
        let said = says.0 refl in
        waiting_more xs has (waiting_is said.0.0 (at ∙ ap Some said.0.1) (lone_at lt said.1) (undone_at lt ∙ ap Some said.2))

pub all_dropped : (net : Net) (entries : List Entry) (k : ℕ) (xs : List Dropped) → length entries ≤ k → HasDropped net entries k xs → AreDropped net entries xs
all_dropped net entries k xs over has = record {
  sound = λ i x at. (has.sound i x at).1;
  complete = λ s q d. has.complete s q (let a = slice_get_within entries s (Send d.event) d.send_at in omega (arith, a, over)) d;
  ascending = has.ascending;
}

pub all_waiting : (net : Net) (entries : List Entry) (k : ℕ) (xs : List ℕ) → length entries ≤ k → HasWaiting net entries k xs → AreWaiting net entries xs
all_waiting net entries k xs over has = record {
  sound = λ i s at. (has.sound i s at).1;
  complete = λ s w. has.complete s (let a = slice_get_within entries s (Send w.event) w.send_at in omega (arith, a, over)) w;
  ascending = has.ascending;
}
