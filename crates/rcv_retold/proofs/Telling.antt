-- A guide that was told the first entries, and one more of them.
use Rattle.std.proofs.Common.{◌≡◌, ℕ, zero, suc, ◌+◌, ◌<◌, ◌≤◌, ◌^◌, true, false, Some, List, [], ◌∷◌, ◌++◌, length, replicate, take, refl, sym, ◌∙◌, ap, ap₂, subst, ⊎_elim, arith, add-one, Bool, cond, eq-eqb}
use Rattle.std.specs.Prelude.{◌==◌, slice_get, slice_index, slice_index_or}
use Rattle.std.proofs.lemmas.Bool.{cases_eq}
use Rattle.std.proofs.lemmas.List.{length-set, length-replicate, get_or-set_same, get_or-set_other, take_all}
use Rattle.std.proofs.lemmas.Option.{slice_get_within}
use Rattle.rcv_tree.specs.declared.event.Event.{Event}
use Rattle.rcv_tree.specs.declared.entry.Entry.{Entry}
use Rattle.rcv_tree.specs.declared.entry.Entry.TheVariants.{Send, Recv, Crash, Recover}
use Rattle.rcv_tree.specs.declared.protocol.Protocol.{Protocol}
use Rattle.rcv_model.specs.Plan.{PlanLine, host_in}
use Rattle.rcv_model.specs.Text.{body_of}
use Rattle.rcv_model.specs.Places.{net_of}
use Rattle.rcv_model.specs.Journal.{events_of}
use Rattle.rcv_model.proofs.Lists.{some_same}
use Rattle.rcv_session.specs.Session.{SessionView, roles_of}
use Rattle.rcv_ledger.specs.Logs.{log_at, with_event_of}
use Rattle.rcv_told.specs.Told.{Terms, Remembered, nothing_told, told, told_from, told_after, made}
use Rattle.rcv_guide.specs.Guide.{GuideView, roles_of as guide_roles, terms_of, opened, HasRoom, IsMemory}
use Rattle.rcv_guide.proofs.Memories.{many_held}
use Rattle.rcv_guide.proofs.Starting.{memory_first}
use Rattle.rcv_retold.specs.Retold.{terms_for, MayBeRetold, IsRetoldFrom, IsRetold, IsFirstUntold, GoesOn, Follows, IsTellable, IsUntold, HasWhole, HasStamps}
use Rattle.rcv_retold.specs.Stamps.{stamps_at, stamps_of, with_stamp, IsEventOf, AreStamps, IsBehind}
use Rattle.rcv_retold.proofs.Refusing.{known}

-- a guide of a session that was told the first so many entries
pub record IsAt (session : SessionView) (entries : List Entry) (k : ℕ) (g : GuideView) : Type 0 where
  pub before : IsRetold (terms_for session) (take k entries)
  pub memory : IsMemory g (told (terms_for session) (take k entries))
  pub protocol : g.protocol ≡ session.protocol
  pub plan : g.plan ≡ session.plan
  pub room : g.room ≡ length entries
  pub used : g.used ≤ k
  pub told : g.told ≤ k

abbrev terms_from : Protocol → List PlanLine → Terms
terms_from protocol plan = record { net = net_of (body_of protocol.body); roles = length protocol.roles; host = host_in plan }

pub at_first : (session : SessionView) (entries : List Entry) (g : GuideView) → g ≡ opened session.protocol session.plan (length entries) → IsAt session entries 0 g
at_first session entries g fresh = subst (IsAt session entries 0) (sym fresh) (record {
  before = tt;
  memory = memory_first session.protocol session.plan (length entries);
  protocol = refl;
  plan = refl;
  room = refl;
  used = omega arith;
  told = omega arith;
})

-- one event more of a role
own_more : (h : List Event) (e : Event) → events_of e.role (h ++ e ∷ []) ≡ events_of e.role h ++ e ∷ []
own_more [] e = ap (λ b. cond b (e ∷ []) []) (eq-eqb e.role e.role refl)
own_more (x ∷ h) e = go (x.role == e.role) (own_more h e)
  where
    go : (b : Bool) → events_of e.role (h ++ e ∷ []) ≡ events_of e.role h ++ e ∷ [] → cond b (x ∷ events_of e.role (h ++ e ∷ [])) (events_of e.role (h ++ e ∷ [])) ≡ cond b (x ∷ events_of e.role h) (events_of e.role h) ++ e ∷ []
    go true rest = ap (λ l. x ∷ l) rest
    go false rest = rest

-- one entry more
next_taken : {A : Type 0} (xs : List A) (k : ℕ) (x : A) → slice_get xs k ≡ Some x → take (suc k) xs ≡ take k xs ++ x ∷ []
next_taken [] k x at = absurd cc
next_taken (y ∷ xs) zero x at = ap (λ z. z ∷ []) (some_same at)
next_taken (y ∷ xs) (suc k) x at = ap (λ l. y ∷ l) (next_taken xs k x at)

taken_next : {A : Type 0} (xs : List A) (k : ℕ) (x : A) → slice_get xs k ≡ Some x → take (k + 1) xs ≡ take k xs ++ x ∷ []
taken_next xs k x at = ap (λ n. take n xs) (add-one k) ∙ next_taken xs k x at

retold_more : (terms : Terms) (m : Remembered) (entries : List Entry) (e : Entry) → IsRetoldFrom terms m entries → MayBeRetold terms (told_from terms m entries) e → IsRetoldFrom terms m (entries ++ e ∷ [])
retold_more terms m [] e all may = (may, tt)
retold_more terms m (x ∷ entries) e all may = (all.0, retold_more terms (told_after terms m x) entries e all.1 may)

after_more : (terms : Terms) (m : Remembered) (entries : List Entry) (e : Entry) → told_from terms m (entries ++ e ∷ []) ≡ told_after terms (told_from terms m entries) e
after_more terms m [] e = refl
after_more terms m (x ∷ entries) e = after_more terms (told_after terms m x) entries e

-- nothing is forgotten
no_number : (n r : ℕ) → slice_index (replicate n 0) r ≡ 0
no_number zero r = refl
no_number (suc n) zero = refl
no_number (suc n) (suc r) = no_number n r

still_forgotten : (terms : Terms) (m : Remembered) (entries : List Entry) → (told_from terms m entries).forgotten ≡ m.forgotten
still_forgotten terms m [] = refl
still_forgotten terms m (Send e ∷ entries) = still_forgotten terms (told_after terms m (Send e)) entries
still_forgotten terms m (Recv e ∷ entries) = still_forgotten terms (told_after terms m (Recv e)) entries
still_forgotten terms m (Crash p ∷ entries) = still_forgotten terms (told_after terms m (Crash p)) entries
still_forgotten terms m (Recover p c n u ∷ entries) = still_forgotten terms (told_after terms m (Recover p c n u)) entries

still_seeds : (terms : Terms) (m : Remembered) (entries : List Entry) → (told_from terms m entries).seeds ≡ m.seeds
still_seeds terms m [] = refl
still_seeds terms m (Send e ∷ entries) = still_seeds terms (told_after terms m (Send e)) entries
still_seeds terms m (Recv e ∷ entries) = still_seeds terms (told_after terms m (Recv e)) entries
still_seeds terms m (Crash p ∷ entries) = still_seeds terms (told_after terms m (Crash p)) entries
still_seeds terms m (Recover p c n u ∷ entries) = still_seeds terms (told_after terms m (Recover p c n u)) entries

forgotten_none : (terms : Terms) (entries : List Entry) (r : ℕ) → slice_index (told terms entries).forgotten r ≡ 0
forgotten_none terms entries r = ap (λ l. slice_index l r) (still_forgotten terms (nothing_told terms.roles) entries) ∙ no_number terms.roles r

seeds_none : (terms : Terms) (entries : List Entry) (r : ℕ) → slice_index (told terms entries).seeds r ≡ 0
seeds_none terms entries r = ap (λ l. slice_index l r) (still_seeds terms (nothing_told terms.roles) entries) ∙ no_number terms.roles r

module _ (session : SessionView) (entries : List Entry) (k : ℕ) (old : GuideView) (at : IsAt session entries k old) where
  terms_are : terms_of old ≡ terms_for session
  terms_are = ap₂ terms_from at.protocol at.plan

  abbrev so_far : Remembered
  so_far = told (terms_for session) (take k entries)

  pub has_room : k < length entries → length entries < 2 ^ 31 → HasRoom old
  has_room low few = (let r = at.room in let u = at.used in omega (arith, r, u, low), let t = at.told in omega (arith, t, low, few))

  pub whole_at : HasWhole old
  whole_at = record { memory = so_far; is = at.memory; forgotten = forgotten_none (terms_for session) (take k entries); seeds = seeds_none (terms_for session) (take k entries) }

  module _ (e : Entry) (there : slice_get entries k ≡ Some e) where
    -- who makes an event is declared
    pub declared_here : IsTellable old e → (d : Event) → IsEventOf e d → d.role < guide_roles old
    declared_here may d of = by_kind e of (may so_far at.memory)
      where
        by_kind : (x : Entry) → IsEventOf x d → MayBeRetold (terms_of old) so_far x → d.role < guide_roles old
        by_kind (Send x) same m = subst (λ (z : Event). z.role < guide_roles old) same (known old so_far at.memory x.role false m.up)
        by_kind (Recv x) same m = subst (λ (z : Event). z.role < guide_roles old) same (known old so_far at.memory x.role false m.up)
        by_kind (Crash p) same m = absurd same
        by_kind (Recover p c n u) same m = absurd same

    pub at_next : (new : GuideView) → IsTellable old e → GoesOn old new e → IsAt session entries (k + 1) new
    at_next new may goes = record {
      before = subst (IsRetold (terms_for session)) (sym (taken_next entries k e there))
          (retold_more (terms_for session) (nothing_told (terms_for session).roles) (take k entries) e at.before
          (subst (λ t. MayBeRetold t so_far e) terms_are (may so_far at.memory)));
      memory = subst (λ l. IsMemory new (told (terms_for session) l)) (sym (taken_next entries k e there))
          (subst (IsMemory new) (sym (after_more (terms_for session) (nothing_told (terms_for session).roles) (take k entries) e))
          (subst (λ t. IsMemory new (told_after t so_far e)) terms_are (goes.after.memory so_far at.memory)));
      protocol = goes.protocol ∙ at.protocol;
      plan = goes.plan ∙ at.plan;
      room = goes.room ∙ at.room;
      used = let a = goes.used in let b = at.used in omega (arith, a, b);
      told = let a = goes.told in let b = at.told in omega (arith, a, b);
    }

    -- what it does to the events of each role
    pub behind : (new : GuideView) → IsTellable old e → GoesOn old new e → IsBehind (log_at old.logs) (log_at new.logs) e
    behind new may goes = by_kind e (goes.after.memory so_far at.memory) goes.logs
      where
        event_behind : (d : Event) → new.logs ≡ with_event_of old.logs d.role d → IsMemory new (told_after (terms_of old) so_far (Send d)) → (log_at new.logs d.role ≡ log_at old.logs d.role ++ d ∷ []) × ((r : ℕ) → (r ≡ d.role → ⊥) → log_at new.logs r ≡ log_at old.logs r)
        event_behind d grown after = (
          sym (after.events d.role) ∙ own_more so_far.held d ∙ ap (λ l. l ++ d ∷ []) (at.memory.events d.role),
          λ r other. ap (λ l. log_at l r) grown ∙ get_or-set_other old.logs d.role r (log_at old.logs d.role ++ d ∷ []) [] other,
        )

        by_kind : (x : Entry) → IsMemory new (told_after (terms_of old) so_far x) → Follows old.logs new.logs x → IsBehind (log_at old.logs) (log_at new.logs) x
        by_kind (Send d) after grown = event_behind d grown after
        by_kind (Recv d) after grown = event_behind d grown after
        by_kind (Crash p) after same = λ r. ap (λ l. log_at l r) same
        by_kind (Recover p c n u) after cut = cut

    pub untold_here : IsUntold old e → IsFirstUntold (terms_for session) entries k
    untold_here wrong = record {
      inside = slice_get_within entries k e there;
      before = at.before;
      wrong = λ d is may. wrong so_far at.memory (subst (λ t. MayBeRetold t so_far e) (sym terms_are) (subst (MayBeRetold (terms_for session) so_far) (some_same (sym is ∙ there)) may));
    }

  -- all entries are told
  pub all_stamps : (lists : List (List ℕ)) → length entries ≤ k → AreStamps (roles_of session) (log_at old.logs) lists → HasStamps session entries lists
  all_stamps lists over are = record {
    count = are.count;
    each = λ r low. are.each r low ∙ ap stamps_of (sym (subst (λ l. events_of r (told (terms_for session) l).held ≡ log_at old.logs r) (take_all k entries over) (at.memory.events r)));
  }

  pub all_memory : length entries ≤ k → IsMemory old (told (terms_for session) entries)
  all_memory over = subst (λ l. IsMemory old (told (terms_for session) l)) (take_all k entries over) at.memory

  pub all_retold : length entries ≤ k → IsRetold (terms_for session) entries
  all_retold over = subst (IsRetold (terms_for session)) (take_all k entries over) at.before

-- the stamps of the logs
bare_at : {A : Type 0} (n r : ℕ) → slice_index_or (replicate n (let l : List A = [] in l)) r [] ≡ []
bare_at zero r = refl
bare_at (suc n) zero = refl
bare_at (suc n) (suc r) = bare_at n r

pub stamps_first : (session : SessionView) (g : GuideView) (room : ℕ) (lists : List (List ℕ)) → g ≡ opened session.protocol session.plan room → lists ≡ replicate (roles_of session) [] → AreStamps (roles_of session) (log_at g.logs) lists
stamps_first session g room lists fresh bare = record {
  count = ap length bare ∙ length-replicate (roles_of session) [];
  each = λ r low. ap (λ l. stamps_at l r) bare ∙ bare_at (roles_of session) r ∙ ap stamps_of (sym (ap (λ (h : GuideView). log_at h.logs r) fresh ∙ bare_at (roles_of session) r));
}

stamps_more : (events : List Event) (e : Event) → stamps_of (events ++ e ∷ []) ≡ stamps_of events ++ e.stamp ∷ []
stamps_more [] e = refl
stamps_more (d ∷ events) e = ap (λ l. d.stamp ∷ l) (stamps_more events e)

pub one_stamp : (roles : ℕ) (old new : ℕ → List Event) (lists more : List (List ℕ)) (e : Event) → e.role < roles → AreStamps roles old lists → new e.role ≡ old e.role ++ e ∷ [] → ((r : ℕ) → (r ≡ e.role → ⊥) → new r ≡ old r) → more ≡ with_stamp lists e.role e.stamp → AreStamps roles new more
one_stamp roles old new lists more e low are own others added = subst (AreStamps roles new) (sym added) (record {
  count = length-set lists e.role (stamps_at lists e.role ++ e.stamp ∷ []) ∙ are.count;
  each = λ r lt. ⊎_elim
      (λ same. subst (λ q. stamps_at (with_stamp lists e.role e.stamp) q ≡ stamps_of (new q)) (sym same) here)
      (λ n. get_or-set_other lists e.role r (stamps_at lists e.role ++ e.stamp ∷ []) [] n ∙ are.each r lt ∙ ap stamps_of (sym (others r n)))
      (cases_eq r e.role);
})
  where
    here : stamps_at (with_stamp lists e.role e.stamp) e.role ≡ stamps_of (new e.role)
    here =
        get_or-set_same lists e.role (stamps_at lists e.role ++ e.stamp ∷ []) [] (let c = are.count in omega (arith, c, low))
        ∙ ap (λ l. l ++ e.stamp ∷ []) (are.each e.role low)
        ∙ sym (stamps_more (old e.role) e)
        ∙ ap stamps_of (sym own)

pub same_stamps : (roles : ℕ) (old new : ℕ → List Event) (lists : List (List ℕ)) → AreStamps roles old lists → ((r : ℕ) → new r ≡ old r) → AreStamps roles new lists
same_stamps roles old new lists are same = record { count = are.count; each = λ r low. are.each r low ∙ ap stamps_of (sym (same r)) }

-- the first stamps are those of the first events
first_stamps : (events : List Event) (n : ℕ) → take (length (take n events)) (stamps_of events) ≡ stamps_of (take n events)
first_stamps [] zero = refl
first_stamps [] (suc n) = refl
first_stamps (e ∷ events) zero = refl
first_stamps (e ∷ events) (suc n) = ap (λ l. e.stamp ∷ l) (first_stamps events n)

pub cut_stamps : (g : GuideView) (whole : HasWhole g) (old : ℕ → List Event) (lists more : List (List ℕ)) → AreStamps (guide_roles g) old lists → ((r : ℕ) → (n : ℕ) × (log_at g.logs r ≡ take n (old r))) → length more ≡ length lists
    → ((m : Remembered) → IsMemory g m → (r : ℕ) → r < guide_roles g → stamps_at more r ≡ take (made m r) (stamps_at lists r)) → AreStamps (guide_roles g) (log_at g.logs) more
cut_stamps g whole old lists more are cut size each = record { count = size ∙ are.count; each = λ r low. one r low }
  where
    one : (r : ℕ) → r < guide_roles g → stamps_at more r ≡ stamps_of (log_at g.logs r)
    one r low =
        let n = cut r in
        let many : made whole.memory r ≡ length (log_at g.logs r) = (let a = many_held g whole.memory whole.is r in let f = whole.forgotten r in let s = whole.seeds r in omega (arith, a, f, s)) in
        each whole.memory whole.is r low
        ∙ ap₂ take (many ∙ ap length n.1) (are.each r low)
        ∙ first_stamps (old r) n.0
        ∙ ap stamps_of (sym n.1)
