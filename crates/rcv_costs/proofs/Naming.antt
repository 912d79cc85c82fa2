-- The costs of a session name roles and points of its protocol.
use Rattle.std.proofs.Common.{◌≡◌, ℕ, zero, suc, ◌+◌, ◌*◌, ◌<◌, ◌≤◌, Bool, true, false, cond, List, [], ◌∷◌, ◌++◌, map, sym, ap, subst, arith}
use Rattle.std.specs.Prelude.{◌==◌, flat_map, slice_get}
use Rattle.std.specs.List.{All, range_with_len}
use Rattle.std.proofs.lemmas.List.Elements.{All-nil, All-cons, All-head, All-tail}
use Rattle.rcv_tree.specs.declared.event.Event.{Event}
use Rattle.rcv_tree.specs.declared.entry.Entry.{Entry}
use Rattle.rcv_tree.specs.declared.entry.Entry.TheVariants.{Send, Recv, Crash, Recover}
use Rattle.rcv_model.specs.Plain.{IsSendOrRecv}
use Rattle.rcv_model.specs.Journal.{State, place, start, after_event, reading_from, reading}
use Rattle.rcv_model.specs.Final.{IsOneThreadFrom}
use Rattle.rcv_model.specs.Journal.{Rules}
use Rattle.rcv_model.proofs.Keeping.{by_role}
use Rattle.rcv_model.proofs.OneThread.{one_journal}
use Rattle.rcv_model.proofs.Quiet.{quiet_end}
use Rattle.rcv_session.specs.Session.{SessionView, roles_of, net_for, rules_of}
use Rattle.rcv_accept.specs.Accepted.{IsAcceptedProtocol}
use Rattle.rcv_transparent.specs.Calm.{calm}
use Rattle.rcv_transparent.proofs.CalmRules.{calm_rules}
use Rattle.rcv_core.proofs.Books.{of_next}
use Rattle.rcv_costs.specs.declared.numbers.Cost.{Cost}
use Rattle.rcv_costs.specs.Sampling.{At, counts_of}
use Rattle.rcv_costs.specs.Costs.{points_of, own_points, made_in, point_before, at, IsCostOf}
use Rattle.rcv_costs.specs.Named.{IsNamedPoint, IsNamedCost, AreNamedCosts, CostsAreNamed}
use Rattle.rcv_costs.proofs.Adding.{all_and}

module _ (session : SessionView) (accepted : IsAcceptedProtocol session.protocol) where
  abbrev IsIn : Event → Type 0
  IsIn e = (1 ≤ e.point) × (e.point ≤ (net_for session).count)

  events_named : (s : State) (j : List Entry) → All IsSendOrRecv j → IsOneThreadFrom (rules_of (calm session)) s j → All IsIn s.kept → All IsIn (reading_from (rules_of (calm session)) s j).kept
  events_named s [] all x in_text = in_text
  events_named s (Send e ∷ j) all x in_text =
      let here = of_next session e.role (place s e.role) e.point accepted (x.0.3.1.next.sound e.point x.0.3.1.among) in
      events_named (after_event s e) j (All-tail IsSendOrRecv (Send e) j all) x.1 (all_and IsIn s.kept e in_text (here.first, here.last))
  events_named s (Recv e ∷ j) all x in_text =
      let here = of_next session e.role (place s e.role) e.point accepted (x.0.3.1.own.next.sound e.point x.0.3.1.among) in
      events_named (after_event s e) j (All-tail IsSendOrRecv (Recv e) j all) x.1 (all_and IsIn s.kept e in_text (here.first, here.last))
  events_named s (Crash p ∷ j) all x in_text = absurd (All-head IsSendOrRecv (Crash p) j all)
  events_named s (Recover p c d u ∷ j) all x in_text = absurd (All-head IsSendOrRecv (Recover p c d u) j all)

  -- a point of some events is one of the text
  point_in : (r : ℕ) (h : List Event) (n : ℕ) → All IsIn h → IsNamedPoint session (slice_get (points_of r h) n)
  point_in r [] n all = tt
  point_in r (e ∷ h) n all = go (e.role == r) n (λ m. point_in r h m (All-tail IsIn e h all))
    where
      go : (b : Bool) (m : ℕ) → ((k : ℕ) → IsNamedPoint session (slice_get (points_of r h) k)) → IsNamedPoint session (slice_get (map (λ (x : Event). x.point) (cond b (e ∷ by_role r h) (by_role r h))) m)
      go true zero rest = All-head IsIn e h all
      go true (suc m) rest = rest m
      go false m rest = rest m

  module _ (run : List Entry) (alone : IsOneThreadFrom (rules_of (calm session)) (start (roles_of session)) run) where
    none : (r : ℕ) → (rules_of (calm session)).crash_lines r ≡ []
    none r = ap (λ (x : Rules). x.crash_lines r) (calm_rules session)

    own_in : (r n : ℕ) → IsNamedPoint session (slice_get (own_points session run r) n)
    own_in r n = point_in r (reading (rules_of (calm session)) run).kept n
        (events_named (start (roles_of session)) run (quiet_end (rules_of (calm session)) none run ((one_journal (rules_of (calm session)) run run).legal alone)).0 alone (All-nil IsIn))

-- the roles of the counts are declared
below : (roles : ℕ) (made : ℕ → ℕ) (step a n : ℕ) → a + n ≤ roles → All (λ (x : At). x.role < roles) (flat_map (λ r. counts_of (made r) step r) (range_with_len a n))
below roles made step a zero le = All-nil (λ (x : At). x.role < roles)
below roles made step a (suc n) le = both (counts_of (made a) step a) _ (each (range_with_len 0 _)) (below roles made step (a + 1) n (omega (arith, le)))
  where
    both : (xs ys : List At) → All (λ (x : At). x.role < roles) xs → All (λ (x : At). x.role < roles) ys → All (λ (x : At). x.role < roles) (xs ++ ys)
    both [] ys f g = g
    both (x ∷ xs) ys f g = All-cons (λ (z : At). z.role < roles) x (xs ++ ys) (All-head (λ (z : At). z.role < roles) x xs f) (both xs ys (All-tail (λ (z : At). z.role < roles) x xs f) g)

    each : (ks : List ℕ) → All (λ (x : At). x.role < roles) (map (λ k. record { role = a; count = k * step }) ks)
    each [] = All-nil (λ (x : At). x.role < roles)
    each (k ∷ ks) = All-cons (λ (x : At). x.role < roles) (record { role = a; count = k * step }) _ (omega (arith, le)) (each ks)

all_named : (session : SessionView) (costs : List Cost) (run : List Entry) → ((r n : ℕ) → IsNamedPoint session (slice_get (own_points session run r) n)) → All (λ (x : At). x.role < roles_of session) (map at costs) → All (IsCostOf session run) costs → AreNamedCosts session costs
all_named session [] run own declared each = All-nil (IsNamedCost session)
all_named session (cost ∷ costs) run own declared each =
    let here = All-head (IsCostOf session run) cost costs each in
    All-cons (IsNamedCost session) cost costs
    (record {
      role = All-head (λ (x : At). x.role < roles_of session) (at cost) (map at costs) declared;
      before = subst (IsNamedPoint session) (sym here.before_is) (before_of (own_points session run cost.role) cost.count (own cost.role));
      after = subst (IsNamedPoint session) (sym here.after_is) (own cost.role cost.count);
    })
    (all_named session costs run own (All-tail (λ (x : At). x.role < roles_of session) (at cost) (map at costs) declared) (All-tail (IsCostOf session run) cost costs each))
  where
    before_of : (points : List ℕ) (n : ℕ) → ((m : ℕ) → IsNamedPoint session (slice_get points m)) → IsNamedPoint session (point_before points n)
    before_of points zero f = tt
    before_of points (suc n) f = f n

pub named : CostsAreNamed
named session costs accepted are =
    all_named session costs.list.items are.run (own_in session accepted are.run are.alone)
    (subst (All (λ (x : At). x.role < roles_of session)) (sym are.counts) (below (roles_of session) (made_in session are.run) costs.step 0 (roles_of session) (omega arith)))
    are.each
