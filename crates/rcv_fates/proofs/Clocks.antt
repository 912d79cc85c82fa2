-- No step lowers a role's clock, and an event's stamp is above its role's clock before it and is its clock behind it. So the
-- stamps of one role grow.
use Rattle.std.proofs.Common.{◌≡◌, ℕ, zero, suc, ◌+◌, ◌<◌, ◌≤◌, max, Bool, true, false, cond, List, [], ◌∷◌, length, refl, sym, ◌∙◌, ap, subst, ◌⊎◌, inl, inr, ⊎_elim, arith}
use Rattle.std.specs.Prelude.{slice_set}
use Rattle.std.proofs.lemmas.Bool.{cases_eq, cases_lt}
use Rattle.std.proofs.lemmas.List.{length-set, length-replicate}
use Rattle.rcv_tree.specs.Bits.{is_listed}
use Rattle.rcv_tree.specs.declared.event.Event.{Event}
use Rattle.rcv_tree.specs.declared.numbers.Numbers.{Numbers}
use Rattle.rcv_tree.specs.declared.entry.Entry.{Entry}
use Rattle.rcv_tree.specs.declared.entry.Entry.TheVariants.{Send, Recv, Crash, Recover}
use Rattle.rcv_model.specs.Journal.{Rules, State, numbers_at, start, group_of, kept_by, concerned_in, advanced, failed, greatest, map_roles, numbers_behind, after_recovery, after, May, IsLegalFrom, IsLegal}
use Rattle.rcv_model.proofs.Lists.{some_same}
use Rattle.rcv_model.proofs.Roles.{set_here, set_else, set_keeps, length_mapped}
use Rattle.rcv_fates.specs.Fates.{IsEventAt}

-- a recovery's clock is at least each that it takes the place of
pub raised : (clock : ℕ) (is : ℕ → Bool) (f : ℕ → Numbers → Numbers) → ((i : ℕ) (n : Numbers) → (f i n).clock ≡ cond (is i) clock n.clock) → (r i : ℕ) (ns : List Numbers) → greatest is r ns ≤ clock → (numbers_at ns i).clock ≤ (numbers_at (map_roles f r ns) i).clock
raised clock is f sets r i [] le = omega arith
raised clock is f sets r zero (n ∷ ns) le = subst (λ c. n.clock ≤ c) (sym (sets r n)) (go (is r) le)
  where
    go : (b : Bool) → max (cond b n.clock 0) (greatest is (r + 1) ns) ≤ clock → n.clock ≤ cond b clock n.clock
    go true le = omega (arith, le)
    go false le = omega arith
raised clock is f sets r (suc i) (n ∷ ns) le = raised clock is f sets (r + 1) i ns (go (is r) le)
  where
    go : (b : Bool) → max (cond b n.clock 0) (greatest is (r + 1) ns) ≤ clock → greatest is (r + 1) ns ≤ clock
    go b le = omega (arith, le)

-- a clock that is set no lower
set_low : (ns : List Numbers) (p r : ℕ) (n : Numbers) → p < length ns → (numbers_at ns p).clock ≤ n.clock → (numbers_at ns r).clock ≤ (numbers_at (slice_set ns p n) r).clock
set_low ns p r n lt le = ⊎_elim
    (λ e. subst (λ q. (numbers_at ns q).clock ≤ (numbers_at (slice_set ns p n) q).clock) e (omega (arith, ap (λ (x : Numbers). x.clock) (set_here ns p n lt), le)))
    (λ f. omega (arith, ap (λ (x : Numbers). x.clock) (set_else ns p r n f)))
    (cases_eq p r)

-- what a step does to the clocks
pub record Ticks (roles : ℕ) (before after : List Numbers) : Type 0 where
  pub size : length after ≡ roles
  pub low : (r : ℕ) → (numbers_at before r).clock ≤ (numbers_at after r).clock

-- and an event to its role's
pub record Stamps (e : Event) (before after : List Numbers) : Type 0 where
  pub above : (numbers_at before e.role).clock < e.stamp
  pub now : (numbers_at after e.role).clock ≡ e.stamp

-- the numbers with an event more, and with a crash more
abbrev pub with_event : List Numbers → Event → List Numbers
with_event ns e = slice_set ns e.role (advanced (numbers_at ns e.role) e.stamp)

abbrev pub with_crash : List Numbers → ℕ → List Numbers
with_crash ns p = slice_set ns p (failed (numbers_at ns p))

pub event_ticks : (roles : ℕ) (ns : List Numbers) (e : Event) → length ns ≡ roles → e.role < roles → (numbers_at ns e.role).clock < e.stamp → Ticks roles ns (with_event ns e) × Stamps e ns (with_event ns e)
event_ticks roles ns e size lt above = (
  record {
    size = length-set ns e.role _ ∙ size;
    low = λ r. set_low ns e.role r (advanced (numbers_at ns e.role) e.stamp) (omega (arith, size, lt)) (omega (arith, above));
  },
  record { above = above; now = ap (λ (x : Numbers). x.clock) (set_here ns e.role (advanced (numbers_at ns e.role) e.stamp) (omega (arith, size, lt))) },
)

pub crash_ticks : (roles : ℕ) (ns : List Numbers) (p : ℕ) → length ns ≡ roles → Ticks roles ns (with_crash ns p)
crash_ticks roles ns p size = record {
  size = length-set ns p _ ∙ size;
  low = λ r. omega (arith, set_keeps (λ (x : Numbers). x.clock) ns p r (failed (numbers_at ns p)) refl);
}

pub recovery_ticks : (roles : ℕ) (s : State) (group concerned : List ℕ) (kept : List Event) → length s.roles ≡ roles → Ticks roles s.roles (after_recovery s group concerned kept).roles
recovery_ticks roles s group concerned kept size = record {
  size = length_mapped (numbers_behind s group concerned kept) 0 s.roles ∙ size;
  low = λ r.
      raised (greatest (is_listed concerned) 0 s.roles + 1) (is_listed concerned) (numbers_behind s group concerned kept) (λ i n. refl) 0 r s.roles (omega arith);
}

-- the entry is this event's
abbrev pub IsOf : Entry → Event → Type 0
IsOf x e = (x ≡ Send e) ⊎ (x ≡ Recv e)

module _ (rules : Rules) where
  send_ticks : (s : State) (e : Event) → length s.roles ≡ rules.roles → May rules s (Send e) → Ticks rules.roles s.roles (with_event s.roles e) × Stamps e s.roles (with_event s.roles e)
  send_ticks s e size may = event_ticks rules.roles s.roles e size may.free.declared (omega (arith, may.stamp))

  recv_ticks : (s : State) (e : Event) → length s.roles ≡ rules.roles → May rules s (Recv e) → Ticks rules.roles s.roles (with_event s.roles e) × Stamps e s.roles (with_event s.roles e)
  recv_ticks s e size may = event_ticks rules.roles s.roles e size may.own.free.declared (omega (arith, may.own.stamp))

  pub ticks : (s : State) (x : Entry) → length s.roles ≡ rules.roles → May rules s x → Ticks rules.roles s.roles (after rules s x).roles
  ticks s (Send e) size may = (send_ticks s e size may).0
  ticks s (Recv e) size may = (recv_ticks s e size may).0
  ticks s (Crash p) size may = crash_ticks rules.roles s.roles p size
  ticks s (Recover p concerned kept undone) size may = recovery_ticks rules.roles s (group_of rules p) (concerned_in rules s p) (kept_by rules s p) size

  pub stamps : (s : State) (x : Entry) (e : Event) → length s.roles ≡ rules.roles → May rules s x → IsOf x e → Stamps e s.roles (after rules s x).roles
  stamps s x e size may (inl f) = subst (λ y. Stamps e s.roles (after rules s y).roles) (sym f) (send_ticks s e size (subst (May rules s) f may)).1
  stamps s x e size may (inr f) = subst (λ y. Stamps e s.roles (after rules s y).roles) (sym f) (recv_ticks s e size (subst (May rules s) f may)).1

  pub of_first : (x : Entry) (journal : List Entry) (e : Event) → IsEventAt (x ∷ journal) 0 e → IsOf x e
  of_first x journal e (inl f) = inl (some_same f)
  of_first x journal e (inr f) = inr (some_same f)

  -- an event's stamp is above its role's clock at any moment before
  above_clock : (s : State) (journal : List Entry) (i : ℕ) (e : Event) → length s.roles ≡ rules.roles → IsLegalFrom rules s journal → IsEventAt journal i e → (numbers_at s.roles e.role).clock < e.stamp
  above_clock s [] i e size legal at = absurd (⊎_elim (λ f. cc) (λ f. cc) at)
  above_clock s (x ∷ journal) zero e size legal at = (stamps s x e size legal.0 (of_first x journal e at)).above
  above_clock s (x ∷ journal) (suc i) e size legal at =
      let t = ticks s x size legal.0 in
      let low = t.low e.role in
      let more = above_clock (after rules s x) journal i e t.size legal.1 at in
      omega (arith, low, more)

  pub grow_from : (s : State) (journal : List Entry) (i j : ℕ) (d e : Event) → length s.roles ≡ rules.roles → IsLegalFrom rules s journal → i < j → IsEventAt journal i d → IsEventAt journal j e → d.role ≡ e.role → d.stamp < e.stamp
  grow_from s [] i j d e size legal lt first second same = absurd (⊎_elim (λ f. cc) (λ f. cc) first)
  grow_from s (x ∷ journal) i zero d e size legal lt first second same = absurd (omega (arith, lt))
  grow_from s (x ∷ journal) zero (suc j) d e size legal lt first second same =
      let t = ticks s x size legal.0 in
      let now = (stamps s x d size legal.0 (of_first x journal d first)).now in
      let more = above_clock (after rules s x) journal j e t.size legal.1 second in
      omega (arith, subst (λ r. (numbers_at (after rules s x).roles r).clock ≡ d.stamp) same now, more)
  grow_from s (x ∷ journal) (suc i) (suc j) d e size legal lt first second same =
      grow_from (after rules s x) journal i j d e (ticks s x size legal.0).size legal.1 (omega (arith, lt)) first second same

pub grow : (rules : Rules) (journal : List Entry) (i j : ℕ) (d e : Event) → IsLegal rules journal → i < j → IsEventAt journal i d → IsEventAt journal j e → d.role ≡ e.role → d.stamp < e.stamp
grow rules journal i j d e legal lt first second same = grow_from rules (start rules.roles) journal i j d e (length-replicate _ _) legal lt first second same

-- so an event stands at one place
pub once : (rules : Rules) (journal : List Entry) (i j : ℕ) (e : Event) → IsLegal rules journal → IsEventAt journal i e → IsEventAt journal j e → i ≡ j
once rules journal i j e legal first second = ⊎_elim
    (λ lt. absurd (let a = grow rules journal i j e e legal lt first second refl in omega (arith, a)))
    (λ le. ⊎_elim
    (λ lt. absurd (let a = grow rules journal j i e e legal lt second first refl in omega (arith, a)))
    (λ same. omega (arith, same, le))
    (cases_lt j i))
    (cases_lt i j)
