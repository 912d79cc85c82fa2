-- Going over the entries: each role's stack, its latest Crash, who undoes each entry, and the recoveries so far.
use Rattle.std.proofs.Common.{◌≡◌, ℕ, zero, suc, ◌+◌, ◌<◌, Option, Some, None, List, [], ◌∷◌, ◌++◌, length, take, replicate, refl, sym, ◌∙◌, ap, subst, inl, inr, ⊎_elim, arith, length-append}
use Rattle.std.specs.Prelude.{◌↔◌, slice_get, slice_index_or, slice_set, MatchOption}
use Rattle.std.proofs.lemmas.Bool.{cases_eq, cases_lt}
use Rattle.std.proofs.lemmas.List.{length-set, get_or-set_same, get_or-set_other}
use Rattle.std.proofs.lemmas.Option.{slice_get_within}
use Rattle.rcv_tree.specs.declared.event.Event.{Event}
use Rattle.rcv_tree.specs.declared.role.RoleSet.{RoleSet}
use Rattle.rcv_tree.specs.declared.entry.Entry.{Entry}
use Rattle.rcv_tree.specs.declared.entry.Entry.TheVariants.{Send, Recv, Crash, Recover}
use Rattle.rcv_model.specs.Net.{IsIn}
use Rattle.rcv_model.proofs.Lists.{some_same}
use Rattle.rcv_ledger.proofs.Lists.{get_left, get_end, get_more}
use Rattle.rcv_fates.specs.Fates.{IsEventAt}
use Rattle.rcv_story.specs.declared.story.Recovery.{Recovery}
use Rattle.rcv_story.specs.Kept.{kept_places, kept_before, left_after, IsUndoneBy}
use Rattle.rcv_story.specs.Recoveries.{IsRecoverAt, HasNoCrash, IsLatestCrash, Stays, IsFirstLost, IsLastKept, IsRecovery, AreRecoveries}
use Rattle.rcv_story.specs.Stacks.{stack_at, with_place, left_count, last_in, AreMarked, IsTaken, AreUndone}
use Rattle.rcv_story.proofs.Places.{Ascends, in_parts, in_drop, apart, IsHead, first_of_rest, IsEnd, last_of_all}
use Rattle.rcv_story.proofs.Keeping.{IsEventOf, ascends, undone_stands, gone, undone_within, own_more, other_same, event_keeps, crash_same, recover_takes}

match_map : {A : Type 0} (P Q : Type 0) (F G : A → Type 0) (o : Option A) → (P → Q) → ((x : A) → F x → G x) → MatchOption o P F → MatchOption o Q G
match_map P Q F G None f g m = f m
match_map P Q F G (Some x) f g m = g x m

length_more : {A : Type 0} (xs : List A) (x : A) → length (xs ++ x ∷ []) ≡ length xs + 1
length_more xs x = let a = length-append xs (x ∷ []) in omega (arith, a)

-- the stacks are what the roles keep
pub record HasStacks (entries : List Entry) (k : ℕ) (lists : List (List ℕ)) : Type 0 where
  pub eight : length lists ≡ 8
  pub each : (r : ℕ) → r < 8 → stack_at lists r ≡ kept_places r (take k entries)

bare_at : (n r : ℕ) → stack_at (replicate n []) r ≡ []
bare_at zero r = refl
bare_at (suc n) zero = refl
bare_at (suc n) (suc r) = bare_at n r

stacks_start : (entries : List Entry) (lists : List (List ℕ)) → lists ≡ replicate 8 [] → HasStacks entries 0 lists
stacks_start entries lists bare = record { eight = ap length bare; each = λ r lt. ap (λ l. stack_at l r) bare ∙ bare_at 8 r }

stacks_event : (entries : List Entry) (k : ℕ) (lists : List (List ℕ)) (e : Event) → HasStacks entries k lists → IsEventAt entries k e → e.role < 8 → HasStacks entries (k + 1) (with_place lists e.role k)
stacks_event entries k lists e has there low = record {
  eight = length-set lists e.role new ∙ has.eight;
  each = λ r lt. ⊎_elim
      (λ (same : r ≡ e.role). subst (λ (m : ℕ). stack_at (with_place lists e.role k) m ≡ kept_places m (take (k + 1) entries)) (sym same) own)
      (λ (ne : r ≡ e.role → ⊥). get_or-set_other lists e.role r new [] ne ∙ has.each r lt ∙ sym (other_same entries k r e there ne))
      (cases_eq r e.role);
}
  where
    new : List ℕ
    new = stack_at lists e.role ++ k ∷ []

    own : stack_at (with_place lists e.role k) e.role ≡ kept_places e.role (take (k + 1) entries)
    own = get_or-set_same lists e.role new [] (let a = has.eight in omega (arith, a, low)) ∙ ap (λ (l : List ℕ). l ++ k ∷ []) (has.each e.role low) ∙ sym (own_more entries k e there)

stacks_crash : (entries : List Entry) (k p : ℕ) (lists : List (List ℕ)) → HasStacks entries k lists → slice_get entries k ≡ Some (Crash p) → HasStacks entries (k + 1) lists
stacks_crash entries k p lists has at = record { eight = has.eight; each = λ r lt. has.each r lt ∙ sym (crash_same entries k r p at) }

-- each role's latest Crash
abbrev pub HasCrashes : List Entry → ℕ → List (Option ℕ) → Type 0
HasCrashes entries k crashes = (r : ℕ) → r < 8 → MatchOption (slice_index_or crashes r None) (HasNoCrash entries r k) (λ c. IsLatestCrash entries r k c)

none_at : (n r : ℕ) → slice_index_or (replicate n (let o : Option ℕ = None in o)) r None ≡ None
none_at zero r = refl
none_at (suc n) zero = refl
none_at (suc n) (suc r) = none_at n r

crashes_start : (entries : List Entry) (crashes : List (Option ℕ)) → crashes ≡ replicate 8 None → HasCrashes entries 0 crashes
crashes_start entries crashes bare r lt = subst (λ o. MatchOption o (HasNoCrash entries r 0) (λ c. IsLatestCrash entries r 0 c)) (sym (ap (λ (l : List (Option ℕ)). slice_index_or l r None) bare ∙ none_at 8 r)) (λ d low at. omega (arith, low))

-- where another entry comes next, the latest Crash stays
still_none : (entries : List Entry) (r k : ℕ) → (slice_get entries k ≡ Some (Crash r) → ⊥) → HasNoCrash entries r k → HasNoCrash entries r (k + 1)
still_none entries r k other none d lt at = ⊎_elim
    (λ low. none d low at)
    (λ le. let same : d ≡ k = omega (arith, le, lt) in other (subst (λ (m : ℕ). slice_get entries m ≡ Some (Crash r)) same at))
    (cases_lt d k)

still_latest : (entries : List Entry) (r k c : ℕ) → (slice_get entries k ≡ Some (Crash r) → ⊥) → IsLatestCrash entries r k c → IsLatestCrash entries r (k + 1) c
still_latest entries r k c other last = record {
  before = let a = last.before in omega (arith, a);
  there = last.there;
  latest = λ d lt at. ⊎_elim
      (λ low. last.latest d low at)
      (λ le. let same : d ≡ k = omega (arith, le, lt) in absurd (other (subst (λ (m : ℕ). slice_get entries m ≡ Some (Crash r)) same at)))
      (cases_lt d k);
}

crash_stays : (entries : List Entry) (r k : ℕ) (o : Option ℕ) → (slice_get entries k ≡ Some (Crash r) → ⊥) → MatchOption o (HasNoCrash entries r k) (λ c. IsLatestCrash entries r k c) → MatchOption o (HasNoCrash entries r (k + 1)) (λ c. IsLatestCrash entries r (k + 1) c)
crash_stays entries r k None other m = still_none entries r k other m
crash_stays entries r k (Some c) other m = still_latest entries r k c other m

crashes_other : (entries : List Entry) (k : ℕ) (crashes : List (Option ℕ)) → HasCrashes entries k crashes → ((r : ℕ) → slice_get entries k ≡ Some (Crash r) → ⊥) → HasCrashes entries (k + 1) crashes
crashes_other entries k crashes has other r lt = crash_stays entries r k (slice_index_or crashes r None) (other r) (has r lt)

crashes_own : (entries : List Entry) (k p : ℕ) (crashes : List (Option ℕ)) → length crashes ≡ 8 → p < 8 → HasCrashes entries k crashes → slice_get entries k ≡ Some (Crash p) → HasCrashes entries (k + 1) (slice_set crashes p (Some k))
crashes_own entries k p crashes eight low has at r lt = ⊎_elim
    (λ (same : r ≡ p). subst (λ (m : ℕ). MatchOption (slice_index_or (slice_set crashes p (Some k)) m None) (HasNoCrash entries m (k + 1)) (λ c. IsLatestCrash entries m (k + 1) c)) (sym same)
    (subst (λ o. MatchOption o (HasNoCrash entries p (k + 1)) (λ c. IsLatestCrash entries p (k + 1) c)) (sym (get_or-set_same crashes p (Some k) None (omega (arith, eight, low))))
    (record { before = omega arith; there = at; latest = λ d below there. omega (arith, below) })))
    (λ (ne : r ≡ p → ⊥). subst (λ o. MatchOption o (HasNoCrash entries r (k + 1)) (λ c. IsLatestCrash entries r (k + 1) c)) (sym (get_or-set_other crashes p r (Some k) None ne))
    (crash_stays entries r k (slice_index_or crashes r None) (λ there. let f : Crash p ≡ Crash r = some_same (sym at ∙ there) in ne (cc)) (has r lt)))
    (cases_eq r p)

-- who undoes each entry so far
pub record HasUndone (entries : List Entry) (k : ℕ) (undone : List (Option ℕ)) : Type 0 where
  pub size : length undone ≡ k
  pub each : (p q : ℕ) → (slice_get undone p ≡ Some (Some q)) ↔ ((q < k) × IsUndoneBy entries p q)

undone_start : (entries : List Entry) (undone : List (Option ℕ)) → undone ≡ [] → HasUndone entries 0 undone
undone_start entries undone bare = subst (HasUndone entries 0) (sym bare) (record { size = refl; each = λ p q. ((λ at. absurd (cc)), λ u. absurd (let a = u.0 in omega (arith, a))) })

-- the mark of the next entry is none
old_mark : (undone : List (Option ℕ)) (p q : ℕ) → slice_get (undone ++ None ∷ []) p ≡ Some (Some q) → slice_get undone p ≡ Some (Some q)
old_mark undone p q at = ⊎_elim (λ old. old) (λ new. absurd (cc)) (get_more undone None (Some q) p at)

new_mark : (undone : List (Option ℕ)) (p q : ℕ) → slice_get undone p ≡ Some (Some q) → slice_get (undone ++ None ∷ []) p ≡ Some (Some q)
new_mark undone p q at = get_left undone (None ∷ []) p (slice_get_within undone p (Some q) at) ∙ at

undone_other : (entries : List Entry) (k : ℕ) (undone : List (Option ℕ)) → HasUndone entries k undone → ((r p : ℕ) → IsIn p (kept_before r entries k) → IsIn p (left_after r entries k)) → HasUndone entries (k + 1) (undone ++ None ∷ [])
undone_other entries k undone has keeps = record {
  size = length_more undone None ∙ ap (λ n. n + 1) has.size;
  each = λ p q. (
    (λ at. let h = (has.each p q).0 (old_mark undone p q at) in (let a = h.0 in omega (arith, a), h.1)),
    (λ u. ⊎_elim
        (λ low. new_mark undone p q ((has.each p q).1 (low, u.1)))
        (λ le. let same : q ≡ k = (let a = u.0 in omega (arith, a, le)) in let v = subst (IsUndoneBy entries p) same u.1 in absurd (v.lost (keeps v.role p v.had)))
        (cases_lt q k)),
  );
}

-- the roles of events are declared, so there are at most eight
abbrev pub AreFew : List Entry → Type 0
AreFew entries = (r p : ℕ) → IsEventOf entries r p → r < 8

module _ (entries : List Entry) (k p : ℕ) (concerned : RoleSet) (keeps : List ℕ) (undone_count : ℕ) (at : slice_get entries k ≡ Some (Recover p concerned keeps undone_count)) (lists : List (List ℕ)) (has : HasStacks entries k lists) where
  count : ℕ → ℕ
  count r = left_count concerned keeps r (length (stack_at lists r))

  pub cut_is : (r : ℕ) → r < 8 → left_after r entries k ≡ take (left_count concerned keeps r (length (stack_at lists r))) (stack_at lists r)
  cut_is r lt = recover_takes entries k r p concerned keeps undone_count at ∙ ap (λ (l : List ℕ). take (left_count concerned keeps r (length l)) l) (sym (has.each r lt))

  -- what is taken is undone here, and nothing else is
  taken_undone : (o : ℕ) → IsTaken concerned keeps lists 8 o → IsUndoneBy entries o k
  taken_undone o t = record {
    role = t.0;
    had = subst (IsIn o) (has.each t.0 t.1) (in_drop (left_count concerned keeps t.0 (length (stack_at lists t.0))) o (stack_at lists t.0) t.2);
    lost = λ i. apart (left_count concerned keeps t.0 (length (stack_at lists t.0))) o (stack_at lists t.0) (subst Ascends (sym (has.each t.0 t.1)) (ascends t.0 entries k)) (subst (IsIn o) (cut_is t.0 t.1) i) t.2;
  }

  undone_taken : (o : ℕ) → AreFew entries → IsUndoneBy entries o k → IsTaken concerned keeps lists 8 o
  undone_taken o few u =
      let low = few u.role o (undone_stands entries o k u).1 in (
        u.role,
        low,
        ⊎_elim
            (λ i. absurd (u.lost (subst (IsIn o) (sym (cut_is u.role low)) i)))
            (λ i. i)
            (in_parts (left_count concerned keeps u.role (length (stack_at lists u.role))) o (stack_at lists u.role) (subst (IsIn o) (sym (has.each u.role low)) u.had)),
      )

  undone_recover : (undone more : List (Option ℕ)) → AreFew entries → HasUndone entries k undone → AreMarked (IsTaken concerned keeps lists 8) k (undone ++ None ∷ []) more → HasUndone entries (k + 1) more
  undone_recover undone more few old marked = record {
    size = marked.size ∙ length_more undone None ∙ ap (λ n. n + 1) old.size;
    each = λ o q. (
      (λ there. ⊎_elim
          (λ t. let same : Some k ≡ Some q = some_same (sym (marked.hit o t) ∙ there) in let one : k ≡ q = some_same same in (omega (arith, one), subst (IsUndoneBy entries o) one (taken_undone o t)))
          (λ same. let h = (old.each o q).0 (old_mark undone o q (sym same ∙ there)) in (let a = h.0 in omega (arith, a), h.1))
          (marked.either o)),
      (λ u. ⊎_elim
          (λ low. ⊎_elim
          (λ t. absurd (let v = taken_undone o t in gone entries o q k v.role u.1 low v.had))
          (λ same. same ∙ new_mark undone o q ((old.each o q).1 (low, u.1)))
          (marked.either o))
          (λ le. let same : q ≡ k = (let a = u.0 in omega (arith, a, le)) in
          subst (λ (m : ℕ). slice_get more o ≡ Some (Some m)) (sym same) (marked.hit o (undone_taken o few (subst (IsUndoneBy entries o) same u.1))))
          (cases_lt q k)),
    );
  }

  stacks_recover : (more : List (List ℕ)) → length more ≡ 8 → ((r : ℕ) → r < 8 → stack_at more r ≡ take (left_count concerned keeps r (length (stack_at lists r))) (stack_at lists r)) → HasStacks entries (k + 1) more
  stacks_recover more eight left = record { eight = eight; each = λ r lt. left r lt ∙ sym (cut_is r lt) }

  -- the first event that a role loses, and the last that it keeps
  first_is : (r : ℕ) → r < 8 → MatchOption (slice_get (stack_at lists r) (left_count concerned keeps r (length (stack_at lists r)))) (Stays entries k r) (λ o. IsFirstLost entries k r o)
  unfolding count
  first_is r lt = match_map (take (count r) (stack_at lists r) ≡ stack_at lists r) (Stays entries k r) (λ o. IsHead (stack_at lists r) (count r) o) (λ o. IsFirstLost entries k r o) (slice_get (stack_at lists r) (count r))
      (λ whole. cut_is r lt ∙ whole ∙ has.each r lt)
      (λ o h. record {
        had = subst (IsIn o) (has.each r lt) h.had;
        lost = λ i. h.out (subst (IsIn o) (cut_is r lt) i);
        first = λ n i out. h.first n (subst (IsIn n) (sym (has.each r lt)) i) (λ j. out (subst (IsIn n) (sym (cut_is r lt)) j));
      })
      (first_of_rest (stack_at lists r) (count r) (subst Ascends (sym (has.each r lt)) (ascends r entries k)))

  last_is : (more : List (List ℕ)) → HasStacks entries (k + 1) more → (r : ℕ) → r < 8 → MatchOption (last_in (stack_at more r)) (left_after r entries k ≡ []) (λ o. IsLastKept entries k r o)
  last_is more left r lt = match_map (stack_at more r ≡ []) (left_after r entries k ≡ []) (λ o. IsEnd (stack_at more r) o) (λ o. IsLastKept entries k r o) (last_in (stack_at more r))
      (λ none. sym (left.each r lt) ∙ none)
      (λ o e. record { kept = subst (IsIn o) (left.each r lt) e.inside; last = λ n i. e.last n (subst (IsIn n) (sym (left.each r lt)) i) })
      (last_of_all (stack_at more r) (subst Ascends (sym (left.each r lt)) (ascends r entries (k + 1))))

-- what is told of the recoveries so far
pub record HasTold (entries : List Entry) (k : ℕ) (xs : List Recovery) : Type 0 where
  pub sound : (i : ℕ) (x : Recovery) → slice_get xs i ≡ Some x → (x.place < k) × IsRecovery entries x
  pub complete : (q p : ℕ) → q < k → IsRecoverAt entries q p → (i : ℕ) × (x : Recovery) × (slice_get xs i ≡ Some x) × (x.place ≡ q)
  pub ascending : (i j : ℕ) (x y : Recovery) → i < j → slice_get xs i ≡ Some x → slice_get xs j ≡ Some y → x.place < y.place

told_start : (entries : List Entry) (xs : List Recovery) → xs ≡ [] → HasTold entries 0 xs
told_start entries xs bare = subst (HasTold entries 0) (sym bare) (record { sound = λ i x at. absurd (cc); complete = λ q p lt r. absurd (omega (arith, lt)); ascending = λ i j x y lt f g. absurd (cc) })

told_other : (entries : List Entry) (k : ℕ) (xs : List Recovery) → HasTold entries k xs → ((p : ℕ) → IsRecoverAt entries k p → ⊥) → HasTold entries (k + 1) xs
told_other entries k xs has other = record {
  sound = λ i x at. (let a = (has.sound i x at).0 in omega (arith, a), (has.sound i x at).1);
  complete = λ q p lt r. ⊎_elim
      (λ low. has.complete q p low r)
      (λ le. let same : q ≡ k = omega (arith, le, lt) in absurd (other p (subst (λ (m : ℕ). IsRecoverAt entries m p) same r)))
      (cases_lt q k);
  ascending = has.ascending;
}

told_more : (entries : List Entry) (k : ℕ) (xs : List Recovery) (x : Recovery) → HasTold entries k xs → x.place ≡ k → IsRecovery entries x → HasTold entries (k + 1) (xs ++ x ∷ [])
told_more entries k xs x has here right = record {
  sound = λ i y at. ⊎_elim
      (λ old. (let a = (has.sound i y old).0 in omega (arith, a), (has.sound i y old).1))
      (λ new. subst (λ (z : Recovery). (z.place < k + 1) × IsRecovery entries z) new (omega (arith, here), right))
      (get_more xs x y i at);
  complete = λ q p lt r. ⊎_elim
      (λ low. let old = has.complete q p low r in (old.0, old.1, get_left xs (x ∷ []) old.0 (slice_get_within xs old.0 old.1 old.2) ∙ old.2, old.3))
      (λ le. (length xs, x, get_end xs x, omega (arith, here, le, lt)))
      (cases_lt q k);
  ascending = λ i j y z lt f g. ⊎_elim
      (λ old. has.ascending i j y z lt (sym (get_left xs (x ∷ []) i (let a = slice_get_within xs j z old in omega (arith, a, lt))) ∙ f) old)
      (λ new.
      let size = slice_get_within (xs ++ x ∷ []) j z g in
      let all = length_more xs x in
      let low = (has.sound i y (sym (get_left xs (x ∷ []) i (omega (arith, size, all, lt))) ∙ f)).0 in
      subst (λ (w : Recovery). y.place < w.place) new (omega (arith, low, here)))
      (get_more xs x z j g);
}

-- all of it
pub record IsPass (entries : List Entry) (k : ℕ) (lists : List (List ℕ)) (lasts marks : List (Option ℕ)) (xs : List Recovery) : Type 0 where
  pub stacks : HasStacks entries k lists
  pub crashes : HasCrashes entries k lasts
  pub undone : HasUndone entries k marks
  pub told : HasTold entries k xs

pub pass_start : (entries : List Entry) (lists : List (List ℕ)) (crashes undone : List (Option ℕ)) (xs : List Recovery) → lists ≡ replicate 8 [] → crashes ≡ replicate 8 None → undone ≡ [] → xs ≡ [] → IsPass entries 0 lists crashes undone xs
pass_start entries lists crashes undone xs a b c d = record { stacks = stacks_start entries lists a; crashes = crashes_start entries crashes b; undone = undone_start entries undone c; told = told_start entries xs d }

no_event_is_crash : (entries : List Entry) (k r : ℕ) (e : Event) → IsEventAt entries k e → slice_get entries k ≡ Some (Crash r) → ⊥
no_event_is_crash entries k r e (inl f) at = let g : Send e ≡ Crash r = some_same (sym f ∙ at) in cc
no_event_is_crash entries k r e (inr f) at = let g : Recv e ≡ Crash r = some_same (sym f ∙ at) in cc

no_event_is_recover : (entries : List Entry) (k r : ℕ) (e : Event) → IsEventAt entries k e → IsRecoverAt entries k r → ⊥
no_event_is_recover entries k r e (inl f) x = let g : Send e ≡ Recover r x.concerned x.keeps x.undone = some_same (sym f ∙ x.there) in cc
no_event_is_recover entries k r e (inr f) x = let g : Recv e ≡ Recover r x.concerned x.keeps x.undone = some_same (sym f ∙ x.there) in cc

no_crash_is_recover : (entries : List Entry) (k c r : ℕ) → slice_get entries k ≡ Some (Crash c) → IsRecoverAt entries k r → ⊥
no_crash_is_recover entries k c r at x = let g : Crash c ≡ Recover r x.concerned x.keeps x.undone = some_same (sym at ∙ x.there) in cc

no_recover_is_crash : (entries : List Entry) (k p r : ℕ) (concerned : RoleSet) (keeps : List ℕ) (n : ℕ) → slice_get entries k ≡ Some (Recover p concerned keeps n) → slice_get entries k ≡ Some (Crash r) → ⊥
no_recover_is_crash entries k p r concerned keeps n at there = let g : Recover p concerned keeps n ≡ Crash r = some_same (sym at ∙ there) in cc

module _ (entries : List Entry) (k : ℕ) (lists : List (List ℕ)) (crashes undone : List (Option ℕ)) (xs : List Recovery) (pass : IsPass entries k lists crashes undone xs) where
  pub pass_event : (e : Event) → IsEventAt entries k e → e.role < 8 → IsPass entries (k + 1) (with_place lists e.role k) crashes (undone ++ None ∷ []) xs
  pass_event e there low = record {
    stacks = stacks_event entries k lists e pass.stacks there low;
    crashes = crashes_other entries k crashes pass.crashes (λ r at. no_event_is_crash entries k r e there at);
    undone = undone_other entries k undone pass.undone (λ r p i. event_keeps entries k r p e there i);
    told = told_other entries k xs pass.told (λ r x. no_event_is_recover entries k r e there x);
  }

  pub pass_crash : (p : ℕ) → length crashes ≡ 8 → p < 8 → slice_get entries k ≡ Some (Crash p) → IsPass entries (k + 1) lists (slice_set crashes p (Some k)) (undone ++ None ∷ []) xs
  pass_crash p eight low at = record {
    stacks = stacks_crash entries k p lists pass.stacks at;
    crashes = crashes_own entries k p crashes eight low pass.crashes at;
    undone = undone_other entries k undone pass.undone (λ r o i. subst (IsIn o) (sym (crash_same entries k r p at)) i);
    told = told_other entries k xs pass.told (λ r x. no_crash_is_recover entries k p r at x);
  }

  pub pass_recover : (p : ℕ) (concerned : RoleSet) (keeps : List ℕ) (n : ℕ) → slice_get entries k ≡ Some (Recover p concerned keeps n) → p < 8 → AreFew entries
      → (more : List (List ℕ)) (marks : List (Option ℕ)) (x : Recovery) → AreMarked (IsTaken concerned keeps lists 8) k (undone ++ None ∷ []) marks → length more ≡ 8
      → ((r : ℕ) → r < 8 → stack_at more r ≡ take (left_count concerned keeps r (length (stack_at lists r))) (stack_at lists r))
      → x.place ≡ k → x.crash ≡ slice_index_or crashes p None
      → ((r : ℕ) → r < 8 → slice_index_or x.firsts r None ≡ slice_get (stack_at lists r) (left_count concerned keeps r (length (stack_at lists r))))
      → ((r : ℕ) → r < 8 → slice_index_or x.lasts r None ≡ last_in (stack_at more r))
      → IsPass entries (k + 1) more crashes marks (xs ++ x ∷ [])
  pass_recover p concerned keeps n at low few more marks x marked eight left here crash firsts lasts = record {
    stacks = after;
    crashes = crashes_other entries k crashes pass.crashes (λ r there. no_recover_is_crash entries k p r concerned keeps n at there);
    undone = undone_recover entries k p concerned keeps n at lists pass.stacks undone marks few pass.undone marked;
    told = told_more entries k xs x pass.told here (record {
      role = p;
      recover = subst (λ (q : ℕ). IsRecoverAt entries q p) (sym here) (record { concerned = concerned; keeps = keeps; undone = n; there = at });
      crash = subst (λ (q : ℕ). MatchOption x.crash (HasNoCrash entries p q) (λ c. IsLatestCrash entries p q c)) (sym here) (subst (λ o. MatchOption o (HasNoCrash entries p k) (λ c. IsLatestCrash entries p k c)) (sym crash) (pass.crashes p low));
      firsts = λ r lt. subst (λ (q : ℕ). MatchOption (slice_index_or x.firsts r None) (Stays entries q r) (λ o. IsFirstLost entries q r o)) (sym here) (subst (λ o. MatchOption o (Stays entries k r) (λ o. IsFirstLost entries k r o)) (sym (firsts r lt)) (first_is entries k p concerned keeps n at lists pass.stacks r lt));
      lasts = λ r lt. subst (λ (q : ℕ). MatchOption (slice_index_or x.lasts r None) (left_after r entries q ≡ []) (λ o. IsLastKept entries q r o)) (sym here) (subst (λ o. MatchOption o (left_after r entries k ≡ []) (λ o. IsLastKept entries k r o)) (sym (lasts r lt)) (last_is entries k p concerned keeps n at lists pass.stacks more after r lt));
    });
  }
    where
      after : HasStacks entries (k + 1) more
      after = stacks_recover entries k p concerned keeps n at lists pass.stacks more eight left

-- after the last entry
pub all_undone : (entries : List Entry) (k : ℕ) (undone : List (Option ℕ)) → k ≡ length entries → HasUndone entries k undone → AreUndone entries undone
all_undone entries k undone over has = record {
  size = has.size ∙ over;
  each = λ p q. ((λ at. ((has.each p q).0 at).1), (λ u. (has.each p q).1 (let a = undone_within entries p q u in omega (arith, a, over), u)));
}

pub all_told : (entries : List Entry) (k : ℕ) (xs : List Recovery) → k ≡ length entries → HasTold entries k xs → AreRecoveries entries xs
all_told entries k xs over has = record {
  sound = λ i x at. (has.sound i x at).1;
  complete = λ q p r. has.complete q p (let a = slice_get_within entries q (Recover p r.concerned r.keeps r.undone) r.there in omega (arith, a, over)) r;
  ascending = has.ascending;
}
