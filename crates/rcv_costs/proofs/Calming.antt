-- What comes of other crash lines: a step that is no crash is a step under them too, if they make no role due.
use Rattle.std.proofs.Common.{◌≡◌, ℕ, ◌<◌, ◌≤◌, List, [], ◌∷◌, refl, sym, ◌∙◌, ap, subst, arith}
use Rattle.std.specs.List.{All}
use Rattle.std.proofs.lemmas.List.Elements.{All-head, All-tail}
use Rattle.rcv_tree.specs.declared.event.Event.{Event}
use Rattle.rcv_tree.specs.declared.numbers.Numbers.{Numbers}
use Rattle.rcv_tree.specs.declared.entry.Entry.{Entry}
use Rattle.rcv_tree.specs.declared.entry.Entry.TheVariants.{Send, Recv, Crash, Recover}
use Rattle.rcv_model.specs.Plain.{IsSendOrRecv}
use Rattle.rcv_model.specs.Journal.{Rules, State, numbers_at, events_of, advanced, after_event, reading_from, IsDue, IsFree, MaySend, MayRecv}
use Rattle.rcv_model.specs.Final.{IsCrashed, IsActOf, CanAct, IsFinal, IsStep, IsOneThreadFrom}
use Rattle.rcv_model.specs.Transparent.{without_crashes}
use Rattle.rcv_model.proofs.Keeping.{by_role_other}
use Rattle.rcv_model.proofs.Roles.{set_else}
use Rattle.rcv_costs.specs.Rehearsal.{IsBeginningFrom}
use Rattle.rcv_costs.proofs.Beginnings.{none_behind}

-- the same rules with these crash lines
abbrev pub with_lines : Rules → (ℕ → List ℕ) → Rules
with_lines rules f = record rules { crash_lines = f }

-- no role is due under them
abbrev pub NoneDue : Rules → (ℕ → List ℕ) → State → Type 0
NoneDue rules f s = (r : ℕ) → r < rules.roles → IsDue (with_lines rules f) s r → ⊥

module _ (rules : Rules) (f : ℕ → List ℕ) (s : State) (idle : NoneDue rules f s) where
  free_moves : (r : ℕ) → IsFree rules s r → IsFree (with_lines rules f) s r
  free_moves r free = record { declared = free.declared; running = free.running; not_due = idle r free.declared; below_limit = free.below_limit }

  send_moves : (e : Event) → MaySend rules s e → MaySend (with_lines rules f) s e
  send_moves e m = record {
    free = free_moves e.role m.free;
    offered = m.offered;
    next = m.next;
    sends = m.sends;
    is_send = m.is_send;
    among = m.among;
    point = m.point;
    value = m.value;
    stamp = m.stamp;
    sent = m.sent;
  }

  recv_moves : (e : Event) → MayRecv rules s e → MayRecv (with_lines rules f) s e
  recv_moves e m = record {
    own = record {
      free = free_moves e.role m.own.free;
      offered = m.own.offered;
      some = m.own.some;
      from = m.own.from;
      next = m.own.next;
      receives = m.own.receives;
      is_recv = m.own.is_recv;
      sender = m.own.sender;
      stamp = m.own.stamp;
    };
    among = m.among;
    front = m.front;
  }

  act_moves : (r : ℕ) (e : Entry) → IsActOf rules s r e → IsActOf (with_lines rules f) s r e
  act_moves r (Send e) x = (x.0, send_moves e x.1, x.2)
  act_moves r (Recv e) x = (x.0, recv_moves e x.1)
  act_moves r (Crash p) x = absurd x
  act_moves r (Recover p c k u) x = absurd x

  able_moves : (r : ℕ) → CanAct rules s r → CanAct (with_lines rules f) s r
  able_moves r able = (able.0, act_moves r able.0 able.1)

-- a step that is no crash, and the end
module _ (rules : Rules) (f : ℕ → List ℕ) (s : State) (idle : NoneDue rules f s) where
  able_back : ((r : ℕ) → r < rules.roles → IsDue rules s r → ⊥) → (r : ℕ) → CanAct (with_lines rules f) s r → CanAct rules s r
  able_back none r able = able_moves (with_lines rules f) rules.crash_lines s none r able

  pub step_moves : (e : Entry) → IsSendOrRecv e → IsStep rules s e → IsStep (with_lines rules f) s e
  step_moves (Send e) is x = (x.0, idle, (able_moves rules f s idle e.role x.2.0, λ q lt able. x.2.1 q lt (able_back x.1 q able)), act_moves rules f s idle e.role (Send e) x.3)
  step_moves (Recv e) is x = (x.0, idle, (able_moves rules f s idle e.role x.2.0, λ q lt able. x.2.1 q lt (able_back x.1 q able)), act_moves rules f s idle e.role (Recv e) x.3)
  step_moves (Crash p) is x = absurd is
  step_moves (Recover p c k u) is x = absurd is

  pub final_moves : IsFinal rules s → IsFinal (with_lines rules f) s
  final_moves final = record { none_crashed = final.none_crashed; none_due = idle; none_acts = λ r lt able. final.none_acts r lt (able_back final.none_due r able) }

-- without crash lines none is due
pub never_due : (rules : Rules) (s : State) (r : ℕ) → IsDue (without_crashes rules) s r → ⊥
never_due rules s r due = let lt = due.1 in omega (arith, lt)

module _ (rules : Rules) where
  -- events leave the same state
  pub same_reading : (s : State) (k : List Entry) → All IsSendOrRecv k → reading_from (without_crashes rules) s k ≡ reading_from rules s k
  same_reading s [] all = refl
  same_reading s (Send e ∷ k) all = same_reading (after_event s e) k (All-tail IsSendOrRecv (Send e) k all)
  same_reading s (Recv e ∷ k) all = same_reading (after_event s e) k (All-tail IsSendOrRecv (Recv e) k all)
  same_reading s (Crash p ∷ k) all = absurd (All-head IsSendOrRecv (Crash p) k all)
  same_reading s (Recover p c d u ∷ k) all = absurd (All-head IsSendOrRecv (Recover p c d u) k all)

  -- and are steps without crash lines too
  pub steps_move : (s : State) (k : List Entry) → All IsSendOrRecv k → IsBeginningFrom rules s k → IsBeginningFrom (without_crashes rules) s k
  steps_move s [] all b = tt
  steps_move s (Send e ∷ k) all b = (step_moves rules (λ r. []) s (λ r lt. never_due rules s r) (Send e) tt b.0, steps_move (after_event s e) k (All-tail IsSendOrRecv (Send e) k all) b.1)
  steps_move s (Recv e ∷ k) all b = (step_moves rules (λ r. []) s (λ r lt. never_due rules s r) (Recv e) tt b.0, steps_move (after_event s e) k (All-tail IsSendOrRecv (Recv e) k all) b.1)
  steps_move s (Crash p ∷ k) all b = absurd (All-head IsSendOrRecv (Crash p) k all)
  steps_move s (Recover p c d u ∷ k) all b = absurd (All-head IsSendOrRecv (Recover p c d u) k all)

  pub final_without : (s : State) → IsFinal rules s → IsFinal (without_crashes rules) s
  final_without s final = final_moves rules (λ r. []) s (λ r lt. never_due rules s r) final

  -- a role that has come to the limit makes no event more
  pub stuck : (p : ℕ) (s : State) (j : List Entry) → ((r : ℕ) → IsCrashed s r → ⊥) → rules.limit ≤ (numbers_at s.roles p).raw → IsOneThreadFrom (without_crashes rules) s j → events_of p (reading_from (without_crashes rules) s j).kept ≡ events_of p s.kept
  stuck p s [] none most x = refl
  stuck p s (Send e ∷ j) none most x =
      let low : (numbers_at s.roles e.role).raw < rules.limit = x.0.3.1.free.below_limit in
      let other : e.role ≡ p → ⊥ = λ f. absurd (let same = ap (λ r. (numbers_at s.roles r).raw) f in omega (arith, low, most, same)) in
      let stays = ap (λ (n : Numbers). n.raw) (set_else s.roles e.role p (advanced (numbers_at s.roles e.role) e.stamp) other) in
      stuck p (after_event s e) j (none_behind s e none) (subst (λ n. rules.limit ≤ n) (sym stays) most) x.1
      ∙ by_role_other p s.kept e other
  stuck p s (Recv e ∷ j) none most x =
      let low : (numbers_at s.roles e.role).raw < rules.limit = x.0.3.1.own.free.below_limit in
      let other : e.role ≡ p → ⊥ = λ f. absurd (let same = ap (λ r. (numbers_at s.roles r).raw) f in omega (arith, low, most, same)) in
      let stays = ap (λ (n : Numbers). n.raw) (set_else s.roles e.role p (advanced (numbers_at s.roles e.role) e.stamp) other) in
      stuck p (after_event s e) j (none_behind s e none) (subst (λ n. rules.limit ≤ n) (sym stays) most) x.1
      ∙ by_role_other p s.kept e other
  stuck p s (Crash q ∷ j) none most x = absurd (never_due rules s q x.0.1.0)
  stuck p s (Recover q c d u ∷ j) none most x = absurd (none q x.0.0.0)
