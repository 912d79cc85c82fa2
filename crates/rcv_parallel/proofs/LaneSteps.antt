-- Sends and Recvs that may come where lanes go side by side, and a state that is final, found by computing.
use Rattle.std.proofs.Common.{◌≡◌, ℕ, ◌+◌, ◌<◌, max, Bool, true, false, ◌&&◌, not, List, [], ◌∷◌, refl, sym, ◌∙◌, ap, subst, arith}
use Rattle.std.specs.Prelude.{◌==◌, nat_lt, nat_le}
use Rattle.std.specs.List.{count_by, range_with_len}
use Rattle.std.proofs.lemmas.Bool.Decides.{nat_tests}
use Rattle.rcv_tree.specs.Bits.{is_listed}
use Rattle.rcv_tree.specs.declared.event.Event.{Event}
use Rattle.rcv_tree.specs.declared.event.Message.{Message}
use Rattle.rcv_tree.specs.declared.event.Dir.TheVariants.{Sent, Got}
use Rattle.rcv_tree.specs.declared.entry.Entry.{Entry}
use Rattle.rcv_tree.specs.declared.entry.Entry.TheVariants.{Send, Recv, Crash, Recover}
use Rattle.rcv_model.specs.Run.{joint_of, channel}
use Rattle.rcv_model.specs.Next.{IsNext, IsProper}
use Rattle.rcv_model.specs.Journal.{Rules, State, numbers_at, place, events_of, IsFree, MaySend, MayRecv}
use Rattle.rcv_model.specs.Final.{IsActOf, CanAct, IsFinal}
use Rattle.rcv_model.proofs.Checked.{all_of, both_true, of_all, is_free, the_one}
use Rattle.rcv_model.proofs.NextLists.{from_in, in_range}
use Rattle.rcv_model.proofs.Scanning.{is_member}
use Rattle.rcv_model.proofs.Stepping.{is_calm, calm_by, not_due, due_not, is_empty}
use Rattle.rcv_parallel.proofs.LaneNexts.{nexts_at, are_closed, next_in}
use Rattle.rcv_model.proofs.Lists.{not_empty}

-- role r's next points in a state
abbrev pub nexts_in : Rules → State → ℕ → List ℕ
nexts_in rules s r = nexts_at rules.net r (place s r)

abbrev pub may_be_sent : Rules → State → Event → Bool
may_be_sent rules s e =
    is_free rules s e.role
    && (are_closed rules.net e.role (place s e.role)
    && (all_of (λ z. rules.net.sender z == e.role) (nexts_in rules s e.role)
    && is_listed (nexts_in rules s e.role) e.point))

-- all these points are received by r from one role
abbrev pub comes_from : Rules → ℕ → ℕ → ℕ → Bool
comes_from rules from r z = rules.net.receiver z == r && rules.net.sender z == from

abbrev pub may_be_heard : Rules → State → Event → Bool
may_be_heard rules s e =
    is_free rules s e.role
    && (are_closed rules.net e.role (place s e.role)
    && (all_of (comes_from rules (rules.net.sender e.point) e.role) (nexts_in rules s e.role)
    && is_listed (nexts_in rules s e.role) e.point))

-- a role that waits at an empty channel, or is done
abbrev pub awaited : Rules → State → ℕ → ℕ
awaited rules s r = rules.net.sender (the_one (nexts_in rules s r))

abbrev pub is_idle : Rules → State → ℕ → Bool
is_idle rules s r =
    are_closed rules.net r (place s r)
    && (all_of (comes_from rules (awaited rules s r) r) (nexts_in rules s r)
    && is_empty (channel rules.net (awaited rules s r) r s.kept))

-- nobody is crashed, due or able to act
abbrev pub is_final : Rules → State → Bool
is_final rules s = is_calm s.roles && (all_of (not_due rules s) (range_with_len 0 rules.roles) && all_of (is_idle rules s) (range_with_len 0 rules.roles))

no_messages : (ms : List Message) → is_empty ms ≡ true → ms ≡ []
no_messages [] t = refl
no_messages (m ∷ ms) t = absurd (cc)

nothing : (m : Message) (rest : List Message) → [] ≡ m ∷ rest → ⊥
nothing m rest e = cc

below : (f : ℕ → Bool) (n r : ℕ) → all_of f (range_with_len 0 n) ≡ true → r < n → f r ≡ true
below f n r ok lt = of_all f r (range_with_len 0 n) ok (from_in r (range_with_len 0 n) (in_range 0 n r (omega arith) (omega arith)))

module _ (rules : Rules) (proper : IsProper rules.net rules.roles) (s : State) where
  free_by : (r : ℕ) → is_free rules s r ≡ true → (numbers_at s.roles r).crashed ≡ false → IsFree rules s r
  free_by r ok running =
      let a = both_true (nat_lt r rules.roles) (nat_lt (numbers_at s.roles r).raw rules.limit && not (nat_lt (numbers_at s.roles r).crashes (count_by (λ n. nat_le n (numbers_at s.roles r).raw) (rules.crash_lines r)))) ok in
      let b = both_true (nat_lt (numbers_at s.roles r).raw rules.limit) (not (nat_lt (numbers_at s.roles r).crashes (count_by (λ n. nat_le n (numbers_at s.roles r).raw) (rules.crash_lines r)))) a.1 in
      record { declared = (let x = a.0 in grind (arith, nat_tests)); running = running; not_due = λ d. (let x = b.1 in let y = d.1 in grind (arith, nat_tests)); below_limit = (let x = b.0 in grind (arith, nat_tests)) }

  ends : (from r z : ℕ) → comes_from rules from r z ≡ true → (rules.net.receiver z ≡ r) × (rules.net.sender z ≡ from)
  ends from r z t = let b = both_true (rules.net.receiver z == r) (rules.net.sender z == from) t in ((let x = b.0 in grind (arith, nat_tests)), (let x = b.1 in grind (arith, nat_tests)))

  pub send_in : (e : Event) → may_be_sent rules s e ≡ true → (numbers_at s.roles e.role).crashed ≡ false → e.dir ≡ Sent → e.point ≡ rules.chosen e.role (events_of e.role s.kept) (numbers_at s.roles e.role).attempt (nexts_in rules s e.role) → e.value ≡ rules.value e.role (events_of e.role s.kept) (numbers_at s.roles e.role).attempt e.point → e.stamp ≡ (numbers_at s.roles e.role).clock + 1 → e.sent ≡ e.stamp → MaySend rules s e
  send_in e ok running dir point value stamp sent =
      let a = both_true (is_free rules s e.role) (are_closed rules.net e.role (place s e.role) && (all_of (λ z. rules.net.sender z == e.role) (nexts_in rules s e.role) && is_listed (nexts_in rules s e.role) e.point)) ok in
      let b = both_true (are_closed rules.net e.role (place s e.role)) (all_of (λ z. rules.net.sender z == e.role) (nexts_in rules s e.role) && is_listed (nexts_in rules s e.role) e.point) a.1 in
      let c = both_true (all_of (λ z. rules.net.sender z == e.role) (nexts_in rules s e.role)) (is_listed (nexts_in rules s e.role) e.point) b.1 in
      record {
        free = free_by e.role a.0 running;
        offered = nexts_in rules s e.role;
        next = next_in rules.net rules.roles proper e.role (place s e.role) b.0;
        sends = λ z i. (let t = of_all (λ z. rules.net.sender z == e.role) z (nexts_in rules s e.role) c.0 i in grind (arith, nat_tests));
        is_send = dir;
        among = is_member e.point (nexts_in rules s e.role) c.1;
        point = point;
        value = value;
        stamp = stamp;
        sent = sent;
      }

  pub recv_in : (e : Event) (rest : List Message) → may_be_heard rules s e ≡ true → (numbers_at s.roles e.role).crashed ≡ false → e.dir ≡ Got → (joint_of rules.net s.kept).lies (rules.net.sender e.point) e.role ≡ record { point = e.point; value = e.value; stamp = e.sent } ∷ rest → e.stamp ≡ max (numbers_at s.roles e.role).clock e.sent + 1 → MayRecv rules s e
  recv_in e rest ok running dir front stamp =
      let a = both_true (is_free rules s e.role) (are_closed rules.net e.role (place s e.role) && (all_of (comes_from rules (rules.net.sender e.point) e.role) (nexts_in rules s e.role) && is_listed (nexts_in rules s e.role) e.point)) ok in
      let b = both_true (are_closed rules.net e.role (place s e.role)) (all_of (comes_from rules (rules.net.sender e.point) e.role) (nexts_in rules s e.role) && is_listed (nexts_in rules s e.role) e.point) a.1 in
      let c = both_true (all_of (comes_from rules (rules.net.sender e.point) e.role) (nexts_in rules s e.role)) (is_listed (nexts_in rules s e.role) e.point) b.1 in
      record {
        own = record {
          free = free_by e.role a.0 running;
          offered = nexts_in rules s e.role;
          some = not_empty e.point (nexts_in rules s e.role) (is_member e.point (nexts_in rules s e.role) c.1);
          from = rules.net.sender e.point;
          next = next_in rules.net rules.roles proper e.role (place s e.role) b.0;
          receives = λ z i. ends (rules.net.sender e.point) e.role z (of_all (comes_from rules (rules.net.sender e.point) e.role) z (nexts_in rules s e.role) c.0 i);
          is_recv = dir;
          sender = refl;
          stamp = stamp;
        };
        among = is_member e.point (nexts_in rules s e.role) c.1;
        front = (rest, front);
      }

  idle : (r : ℕ) → is_idle rules s r ≡ true → CanAct rules s r → ⊥
  idle r ok a = go a.0 a.1
    where
      b : (are_closed rules.net r (place s r) ≡ true) × ((all_of (comes_from rules (awaited rules s r) r) (nexts_in rules s r) && is_empty (channel rules.net (awaited rules s r) r s.kept)) ≡ true)
      b = both_true (are_closed rules.net r (place s r)) (all_of (comes_from rules (awaited rules s r) r) (nexts_in rules s r) && is_empty (channel rules.net (awaited rules s r) r s.kept)) ok

      c : (all_of (comes_from rules (awaited rules s r) r) (nexts_in rules s r) ≡ true) × (is_empty (channel rules.net (awaited rules s r) r s.kept) ≡ true)
      c = both_true (all_of (comes_from rules (awaited rules s r) r) (nexts_in rules s r)) (is_empty (channel rules.net (awaited rules s r) r s.kept)) b.1

      empty : channel rules.net (awaited rules s r) r s.kept ≡ []
      empty = no_messages (channel rules.net (awaited rules s r) r s.kept) c.1

      its : (z : ℕ) → IsNext rules.net r (place s r) z → (rules.net.receiver z ≡ r) × (rules.net.sender z ≡ awaited rules s r)
      its z n = ends (awaited rules s r) r z (of_all (comes_from rules (awaited rules s r) r) z (nexts_in rules s r) c.0 ((next_in rules.net rules.roles proper r (place s r) b.0).complete z n))

      at_role : (e : Event) → e.role ≡ r → IsNext rules.net e.role (place s e.role) e.point → IsNext rules.net r (place s r) e.point
      at_role e f n = subst (λ x. IsNext rules.net x (place s x) e.point) f n

      go : (e : Entry) → IsActOf rules s r e → ⊥
      go (Send e) x = proper.two_ends e.point (x.1.sends e.point x.1.among ∙ x.0 ∙ sym (its e.point (at_role e x.0 (x.1.next.sound e.point x.1.among))).0)
      go (Recv e) x =
          let from' : awaited rules s r ≡ x.1.own.from = sym (its e.point (at_role e x.0 (x.1.own.next.sound e.point x.1.among))).1 ∙ (x.1.own.receives e.point x.1.among).1 in
          nothing _ x.1.front.0 (sym empty ∙ ap (λ z. channel rules.net z r s.kept) from' ∙ ap (λ z. channel rules.net x.1.own.from z s.kept) (sym x.0) ∙ x.1.front.1)
      go (Crash p) x = absurd x
      go (Recover p c l u) x = absurd x

  pub final_in : is_final rules s ≡ true → IsFinal rules s
  final_in ok =
      let a = both_true (is_calm s.roles) (all_of (not_due rules s) (range_with_len 0 rules.roles) && all_of (is_idle rules s) (range_with_len 0 rules.roles)) ok in
      let b = both_true (all_of (not_due rules s) (range_with_len 0 rules.roles)) (all_of (is_idle rules s) (range_with_len 0 rules.roles)) a.1 in
      record {
        none_crashed = calm_by s a.0;
        none_due = λ r lt d. due_not rules s r (below (not_due rules s) rules.roles r b.0 lt) d;
        none_acts = λ r lt c. idle r (below (is_idle rules s) rules.roles r b.1 lt) c;
      }
