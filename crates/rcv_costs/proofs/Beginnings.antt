-- Beginnings of one thread's journal: how they grow, that each journal begins with them, and what is in front of a recovery.
use Rattle.std.proofs.Common.{◌≡◌, ℕ, ◌+◌, ◌<◌, List, [], ◌∷◌, ◌++◌, length, length-append, length-set, refl, sym, ◌∙◌, ap, subst, ◌⊎◌, inl, inr, arith}
use Rattle.std.specs.List.{All}
use Rattle.std.proofs.lemmas.List.{length-replicate, get_or-replicate}
use Rattle.std.proofs.lemmas.List.Elements.{All-nil, All-cons, All-head, All-tail}
use Rattle.rcv_tree.specs.Numbers.{fresh}
use Rattle.rcv_tree.specs.declared.numbers.Numbers.{Numbers}
use Rattle.rcv_tree.specs.declared.event.Event.{Event}
use Rattle.rcv_tree.specs.declared.entry.Entry.{Entry}
use Rattle.rcv_tree.specs.declared.entry.Entry.TheVariants.{Send, Recv, Crash, Recover}
use Rattle.rcv_model.specs.Net.{HasTwoEnds}
use Rattle.rcv_model.specs.Plain.{IsSendOrRecv}
use Rattle.rcv_model.specs.Journal.{Rules, State, nobody, numbers_at, start, advanced, failed, after_event, after, reading_from, IsDue}
use Rattle.rcv_model.specs.Final.{IsCrashed, IsFinal, IsStep, IsOneThreadFrom}
use Rattle.rcv_model.proofs.OneThread.{one_step}
use Rattle.rcv_model.proofs.Roles.{set_here, set_keeps, within, not_crashed}
use Rattle.rcv_costs.specs.Rehearsal.{IsNoRecover, IsBeginningFrom}

-- one step more
pub steps_more : (rules : Rules) (s : State) (front : List Entry) (e : Entry) → IsBeginningFrom rules s front → IsStep rules (reading_from rules s front) e → IsBeginningFrom rules s (front ++ e ∷ [])
steps_more rules s [] e b x = (x, tt)
steps_more rules s (d ∷ front) e b x = (b.0, steps_more rules (after rules s d) front e b.1 x)

pub all_more : (P : Entry → Type 0) (front : List Entry) (e : Entry) → All P front → P e → All P (front ++ e ∷ [])
all_more P [] e all x = All-cons P e [] x (All-nil P)
all_more P (d ∷ front) e all x = All-cons P d (front ++ e ∷ []) (All-head P d front all) (all_more P front e (All-tail P d front all) x)

-- each journal of one thread begins so
pub begins : (rules : Rules) (s : State) (k j : List Entry) → HasTwoEnds rules.net → IsBeginningFrom rules s k → IsOneThreadFrom rules s j → (rest : List Entry) × (j ≡ k ++ rest) × IsOneThreadFrom rules (reading_from rules s k) rest
begins rules s [] j two b x = (j, refl, x)
begins rules s (e ∷ k) [] two b x = absurd ((one_step rules s e e).none x b.0)
begins rules s (e ∷ k) (d ∷ j) two b x =
    let same : d ≡ e = (one_step rules s d e).same two x.0 b.0 in
    let more = begins rules (after rules s e) k j two b.1 (subst (λ z. IsOneThreadFrom rules (after rules s z) j) same x.1) in
    (more.0, ap (λ z. z ∷ j) same ∙ ap (λ l. e ∷ l) more.1, more.2)

-- it is at its end where the state is final
pub at_end : (rules : Rules) (s : State) (j : List Entry) → IsFinal rules s → IsOneThreadFrom rules s j → j ≡ []
at_end rules s [] final x = refl
at_end rules s (e ∷ j) final x = absurd ((one_step rules s e e).none final x.0)

-- nobody is crashed at the start
pub none_at_start : (roles r : ℕ) → IsCrashed (start roles) r → ⊥
none_at_start roles r =
    not_crashed (start roles) r (λ lt. ap (λ (x : Numbers). x.crashed) (get_or-replicate roles r fresh nobody (subst (λ n. r < n) (length-replicate roles fresh) lt)))

-- and by an event nobody crashes
pub none_behind : (s : State) (e : Event) → ((r : ℕ) → IsCrashed s r → ⊥) → (r : ℕ) → IsCrashed (after_event s e) r → ⊥
none_behind s e none r c = none r (
  subst (λ n. r < n) (length-set s.roles e.role _) c.0,
  sym (set_keeps (λ (x : Numbers). x.crashed) s.roles e.role r (advanced (numbers_at s.roles e.role) e.stamp) refl) ∙ c.1,
)

-- a crash marks its role
pub crashed_now : (rules : Rules) (s : State) (p : ℕ) → IsDue rules s p → IsCrashed (after rules s (Crash p)) p
crashed_now rules s p due =
    let lt = within s.roles p due.0 in
    (subst (λ n. p < n) (sym (length-set s.roles p _)) lt, ap (λ (x : Numbers). x.crashed) (set_here s.roles p (failed (numbers_at s.roles p)) lt))

-- so the next step is a Recover
recovers_next : (rules : Rules) (s : State) (p : ℕ) (e : Entry) → IsDue rules s p → IsStep rules (after rules s (Crash p)) e → IsNoRecover e → ⊥
recovers_next rules s p (Send e) due x calm = x.0 p (crashed_now rules s p due)
recovers_next rules s p (Recv e) due x calm = x.0 p (crashed_now rules s p due)
recovers_next rules s p (Crash q) due x calm = x.0 p (crashed_now rules s p due)
recovers_next rules s p (Recover q c k u) due x calm = calm tt

-- steps without a Recover: events, and then a crash or nothing
pub record Parted (rules : Rules) (s : State) (k : List Entry) : Type 0 where
  pub events : List Entry
  pub only : All IsSendOrRecv events
  pub steps : IsBeginningFrom rules s events
  pub rest : (k ≡ events) ⊎ ((p : ℕ) × (k ≡ events ++ Crash p ∷ []) × IsStep rules (reading_from rules s events) (Crash p))

one_before : (rules : Rules) (s : State) (e : Entry) (k : List Entry) → IsSendOrRecv e → IsStep rules s e → Parted rules (after rules s e) k → Parted rules s (e ∷ k)
one_before rules s e k is x part = record {
  events = e ∷ part.events;
  only = All-cons IsSendOrRecv e part.events is part.only;
  steps = (x, part.steps);
  rest = go part.rest;
}
  where
    go : (k ≡ part.events) ⊎ ((p : ℕ) × (k ≡ part.events ++ Crash p ∷ []) × IsStep rules (reading_from rules (after rules s e) part.events) (Crash p)) → (e ∷ k ≡ e ∷ part.events) ⊎ ((p : ℕ) × (e ∷ k ≡ e ∷ part.events ++ Crash p ∷ []) × IsStep rules (reading_from rules (after rules s e) part.events) (Crash p))
    go (inl f) = inl (ap (λ l. e ∷ l) f)
    go (inr a) = inr (a.0, ap (λ l. e ∷ l) a.1, a.2)

pub parted : (rules : Rules) (s : State) (k : List Entry) → ((r : ℕ) → IsCrashed s r → ⊥) → IsBeginningFrom rules s k → All IsNoRecover k → Parted rules s k
parted rules s [] none b all = record { events = []; only = All-nil IsSendOrRecv; steps = tt; rest = inl refl }
parted rules s (Send e ∷ k) none b all = one_before rules s (Send e) k tt b.0 (parted rules (after_event s e) k (none_behind s e none) b.1 (All-tail IsNoRecover (Send e) k all))
parted rules s (Recv e ∷ k) none b all = one_before rules s (Recv e) k tt b.0 (parted rules (after_event s e) k (none_behind s e none) b.1 (All-tail IsNoRecover (Recv e) k all))
parted rules s (Recover p c d u ∷ k) none b all = absurd (All-head IsNoRecover (Recover p c d u) k all tt)
parted rules s (Crash p ∷ []) none b all = record { events = []; only = All-nil IsSendOrRecv; steps = tt; rest = inr (p, refl, b.0) }
parted rules s (Crash p ∷ (x ∷ k)) none b all = absurd (recovers_next rules s p x b.0.1.0 b.1.0 (All-head IsNoRecover x k (All-tail IsNoRecover (Crash p) (x ∷ k) all)))

-- events crash nobody, and all are kept
pub sizes_stay : (rules : Rules) (s : State) (k : List Entry) → All IsSendOrRecv k → length (reading_from rules s k).roles ≡ length s.roles
sizes_stay rules s [] all = refl
sizes_stay rules s (Send e ∷ k) all = sizes_stay rules (after_event s e) k (All-tail IsSendOrRecv (Send e) k all) ∙ length-set s.roles e.role _
sizes_stay rules s (Recv e ∷ k) all = sizes_stay rules (after_event s e) k (All-tail IsSendOrRecv (Recv e) k all) ∙ length-set s.roles e.role _
sizes_stay rules s (Crash p ∷ k) all = absurd (All-head IsSendOrRecv (Crash p) k all)
sizes_stay rules s (Recover p c d u ∷ k) all = absurd (All-head IsSendOrRecv (Recover p c d u) k all)

-- what an event leaves of a role's numbers
pub numbers_stay : {A : Type 0} (g : Numbers → A) → ((x : Numbers) (stamp : ℕ) → g (advanced x stamp) ≡ g x) → (rules : Rules) (s : State) (k : List Entry) → All IsSendOrRecv k → (r : ℕ) → g (numbers_at (reading_from rules s k).roles r) ≡ g (numbers_at s.roles r)
numbers_stay g same rules s [] all r = refl
numbers_stay g same rules s (Send e ∷ k) all r =
    numbers_stay g same rules (after_event s e) k (All-tail IsSendOrRecv (Send e) k all) r
    ∙ set_keeps g s.roles e.role r (advanced (numbers_at s.roles e.role) e.stamp) (same (numbers_at s.roles e.role) e.stamp)
numbers_stay g same rules s (Recv e ∷ k) all r =
    numbers_stay g same rules (after_event s e) k (All-tail IsSendOrRecv (Recv e) k all) r
    ∙ set_keeps g s.roles e.role r (advanced (numbers_at s.roles e.role) e.stamp) (same (numbers_at s.roles e.role) e.stamp)
numbers_stay g same rules s (Crash p ∷ k) all r = absurd (All-head IsSendOrRecv (Crash p) k all)
numbers_stay g same rules s (Recover p c d u ∷ k) all r = absurd (All-head IsSendOrRecv (Recover p c d u) k all)

pub all_kept : (rules : Rules) (s : State) (k : List Entry) → All IsSendOrRecv k → length (reading_from rules s k).kept ≡ length s.kept + length k
all_kept rules s [] all = omega arith
all_kept rules s (Send e ∷ k) all = let ih = all_kept rules (after_event s e) k (All-tail IsSendOrRecv (Send e) k all) in omega (arith, ih, length-append s.kept (e ∷ []))
all_kept rules s (Recv e ∷ k) all = let ih = all_kept rules (after_event s e) k (All-tail IsSendOrRecv (Recv e) k all) in omega (arith, ih, length-append s.kept (e ∷ []))
all_kept rules s (Crash p ∷ k) all = absurd (All-head IsSendOrRecv (Crash p) k all)
all_kept rules s (Recover p c d u ∷ k) all = absurd (All-head IsSendOrRecv (Recover p c d u) k all)
