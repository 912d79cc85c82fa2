-- A role's clock never falls in a told session, and an event's stamp is above it: so the stamps of one role grow.
use Rattle.std.proofs.Common.{◌≡◌, ℕ, zero, suc, ◌<◌, Bool, false, Some, List, [], ◌∷◌, length, sym, ◌∙◌, subst, inl, inr, ⊎_elim, arith}
use Rattle.std.specs.Prelude.{slice_index}
use Rattle.std.proofs.lemmas.List.{length-set, length-replicate}
use Rattle.rcv_tree.specs.declared.event.Event.{Event}
use Rattle.rcv_tree.specs.declared.entry.Entry.{Entry}
use Rattle.rcv_tree.specs.declared.entry.Entry.TheVariants.{Send, Recv, Crash, Recover}
use Rattle.rcv_model.specs.Journal.{numbers_at, numbers_behind}
use Rattle.rcv_model.proofs.Lists.{some_same}
use Rattle.rcv_model.proofs.Roles.{length_mapped}
use Rattle.rcv_told.specs.Told.{Terms, Remembered, nothing_told, state_of, down_at, group_of, left_at, roles_in, MayBeTold, told_after, IsToldFrom, IsTold}
use Rattle.rcv_told.proofs.Telling.{down_there}
use Rattle.rcv_fates.specs.Fates.{IsEventAt}
use Rattle.rcv_fates.proofs.Clocks.{Ticks, Stamps, with_event, event_ticks, crash_ticks, recovery_ticks, IsOf}

-- a memory has numbers of each role
abbrev pub IsSized : Terms → Remembered → Type 0
IsSized terms m = length m.roles ≡ terms.roles

pub sized_first : (terms : Terms) → IsSized terms (nothing_told terms.roles)
sized_first terms = length-replicate _ _

module _ (terms : Terms) where
  pub sized_after : (m : Remembered) (x : Entry) → IsSized terms m → IsSized terms (told_after terms m x)
  sized_after m (Send e) size = length-set m.roles e.role _ ∙ size
  sized_after m (Recv e) size = length-set m.roles e.role _ ∙ size
  sized_after m (Crash p) size = length-set m.roles p _ ∙ size
  sized_after m (Recover p concerned kept undone) size =
      length_mapped (numbers_behind (state_of m) (group_of terms p) (roles_in concerned) (left_at terms.net m (roles_in concerned) (slice_index kept))) 0 m.roles ∙ size

  pub declared : (m : Remembered) (r : ℕ) (b : Bool) → IsSized terms m → down_at m r ≡ Some b → r < terms.roles
  declared m r b size at = let w = (down_there m.roles r b at).0 in omega (arith, w, size)

  send_ticks : (m : Remembered) (e : Event) → IsSized terms m → MayBeTold terms m (Send e) → Ticks terms.roles m.roles (with_event m.roles e) × Stamps e m.roles (with_event m.roles e)
  send_ticks m e size may = event_ticks terms.roles m.roles e size (declared m e.role false size may.up) (let s = may.stamp in omega (arith, s))

  recv_ticks : (m : Remembered) (e : Event) → IsSized terms m → MayBeTold terms m (Recv e) → Ticks terms.roles m.roles (with_event m.roles e) × Stamps e m.roles (with_event m.roles e)
  recv_ticks m e size may = event_ticks terms.roles m.roles e size (declared m e.role false size may.up) (let s = may.stamp in omega (arith, s))

  pub ticks : (m : Remembered) (x : Entry) → IsSized terms m → MayBeTold terms m x → Ticks terms.roles m.roles (told_after terms m x).roles
  ticks m (Send e) size may = (send_ticks m e size may).0
  ticks m (Recv e) size may = (recv_ticks m e size may).0
  ticks m (Crash p) size may = crash_ticks terms.roles m.roles p size
  ticks m (Recover p concerned kept undone) size may =
      recovery_ticks terms.roles (state_of m) (group_of terms p) (roles_in concerned) (left_at terms.net m (roles_in concerned) (slice_index kept)) size

  pub stamps : (m : Remembered) (x : Entry) (e : Event) → IsSized terms m → MayBeTold terms m x → IsOf x e → Stamps e m.roles (told_after terms m x).roles
  stamps m x e size may (inl f) = subst (λ y. Stamps e m.roles (told_after terms m y).roles) (sym f) (send_ticks m e size (subst (MayBeTold terms m) f may)).1
  stamps m x e size may (inr f) = subst (λ y. Stamps e m.roles (told_after terms m y).roles) (sym f) (recv_ticks m e size (subst (MayBeTold terms m) f may)).1

  of_first : (x : Entry) (journal : List Entry) (e : Event) → IsEventAt (x ∷ journal) 0 e → IsOf x e
  of_first x journal e (inl f) = inl (some_same f)
  of_first x journal e (inr f) = inr (some_same f)

  -- an event's stamp is above its role's clock at any moment before
  above_clock : (m : Remembered) (journal : List Entry) (i : ℕ) (e : Event) → IsSized terms m → IsToldFrom terms m journal → IsEventAt journal i e → (numbers_at m.roles e.role).clock < e.stamp
  above_clock m [] i e size told at = absurd (⊎_elim (λ f. cc) (λ f. cc) at)
  above_clock m (x ∷ journal) zero e size told at = (stamps m x e size told.0 (of_first x journal e at)).above
  above_clock m (x ∷ journal) (suc i) e size told at =
      let low = (ticks m x size told.0).low e.role in
      let more = above_clock (told_after terms m x) journal i e (sized_after m x size) told.1 at in
      omega (arith, low, more)

  grow_from : (m : Remembered) (journal : List Entry) (i j : ℕ) (d e : Event) → IsSized terms m → IsToldFrom terms m journal → i < j → IsEventAt journal i d → IsEventAt journal j e → d.role ≡ e.role → d.stamp < e.stamp
  grow_from m [] i j d e size told lt first second same = absurd (⊎_elim (λ f. cc) (λ f. cc) first)
  grow_from m (x ∷ journal) i zero d e size told lt first second same = absurd (omega (arith, lt))
  grow_from m (x ∷ journal) zero (suc j) d e size told lt first second same =
      let now = (stamps m x d size told.0 (of_first x journal d first)).now in
      let more = above_clock (told_after terms m x) journal j e (sized_after m x size) told.1 second in
      omega (arith, subst (λ r. (numbers_at (told_after terms m x).roles r).clock ≡ d.stamp) same now, more)
  grow_from m (x ∷ journal) (suc i) (suc j) d e size told lt first second same =
      grow_from (told_after terms m x) journal i j d e (sized_after m x size) told.1 (omega (arith, lt)) first second same

  pub told_grow : (journal : List Entry) (i j : ℕ) (d e : Event) → IsTold terms journal → i < j → IsEventAt journal i d → IsEventAt journal j e → d.role ≡ e.role → d.stamp < e.stamp
  told_grow journal i j d e told = grow_from (nothing_told terms.roles) journal i j d e (sized_first terms) told
