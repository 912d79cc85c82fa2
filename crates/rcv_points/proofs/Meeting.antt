-- What a role meets, found along the points of the text.
use Rattle.std.proofs.Common.{◌≡◌, ℕ, ◌+◌, ◌<◌, ◌≤◌, cond, [], sym, ◌∙◌, ap, subst, ⊎_elim, arith, eq-eqb, ne_eqb}
use Rattle.std.proofs.lemmas.Bool.{cases_eq, cases_lt}
use Rattle.rcv_model.specs.Net.{Net, IsIn}
use Rattle.rcv_model.specs.Next.{IsOf, next_begins, met_by, points_in, IsProper}
use Rattle.rcv_model.proofs.Views.{IsOwnLane, IsWanted, NextLane, no_lane, the_lane, next_lane, Met, met_first, met_here, met_next, met_else, met}
use Rattle.rcv_points.specs.Met.{HasOwn, IsNextLane, next_stage}

-- the stages behind a place
all_stages : (net : Net) (k : ℕ) → k ≡ 0 → next_stage net k ≡ 0
all_stages net k e = ap (λ b. cond b 0 (net.stage (net.lane k) + 1)) (eq-eqb k 0 e)

later_stages : (net : Net) (k : ℕ) → (k ≡ 0 → ⊥) → next_stage net k ≡ net.stage (net.lane k) + 1
later_stages net k n = ap (λ b. cond b 0 (net.stage (net.lane k) + 1)) (ne_eqb k 0 n)

-- points up to the place stand in no later stage
not_before : (net : Net) (roles r k q : ℕ) → IsProper net roles → k ≤ net.count → 1 ≤ q → q ≤ k → IsWanted net r (next_stage net k) q → ⊥
not_before net roles r k q proper last low le w =
    let s = later_stages net k (λ e. omega (arith, e, low, le)) in
    let up = proper.lanes.in_order q k low le last in
    let from = w.from in
    omega (arith, s, up, from)

-- None of the points behind the place up to this one stands in a lane that may be the next one.
pub NoneSoFar : Net → ℕ → ℕ → ℕ → Type 0
NoneSoFar net r k i = (q : ℕ) → k < q → q ≤ i → IsNextLane net r k q → ⊥

to_wanted : (net : Net) (r k q : ℕ) → IsNextLane net r k q → IsWanted net r (next_stage net k) q
to_wanted net r k q w = record { own = w.0; from = w.1; some = w.2 }

of_wanted : (net : Net) (r k q : ℕ) → IsWanted net r (next_stage net k) q → IsNextLane net r k q
of_wanted net r k q w = (w.own, w.from, w.some)

pub none_yet : (net : Net) (r k : ℕ) → NoneSoFar net r k k
unfolding NoneSoFar
none_yet net r k q low le w = omega (arith, low, le)

pub none_more : (net : Net) (r k i x : ℕ) → x ≡ i + 1 → (IsNextLane net r k x → ⊥) → NoneSoFar net r k i → NoneSoFar net r k (i + 1)
unfolding NoneSoFar
none_more net r k i x e n all q low le w = ⊎_elim (λ f. n (subst (IsNextLane net r k) (f ∙ sym e) w)) (λ m. all q low (omega (arith, le, m)) w) (cases_eq q (i + 1))

pub first_next : (net : Net) (roles r k i x : ℕ) → IsProper net roles → k ≤ net.count → x ≡ i + 1 → k ≤ i → x ≤ net.count → IsNextLane net r k x → NoneSoFar net r k i → net.begins (net.lane x) ≡ next_begins net r (next_stage net k) (points_in net)
unfolding NoneSoFar
first_next net roles r k i x proper last e low high w none = go (next_lane net r (next_stage net k) 1 net.count)
  where
    go : NextLane net r (next_stage net k) 1 net.count → net.begins (net.lane x) ≡ next_begins net r (next_stage net k) (points_in net)
    go (no_lane f n) = absurd (n x (omega (arith, e)) (omega (arith, high)) (to_wanted net r k x w))
    go (the_lane q l h v least f) = ⊎_elim
        (λ lt. absurd (⊎_elim (λ below. none q below (omega (arith, lt, e)) (of_wanted net r k q v)) (λ ge. not_before net roles r k q proper last l ge v) (cases_lt k q)))
        (λ ge. ⊎_elim
        (λ lt. absurd (least x (omega (arith, e)) lt (to_wanted net r k x w)))
        (λ le. let same : x ≡ q = omega (arith, ge, le) in ap (λ p. net.begins (net.lane p)) same ∙ sym f)
        (cases_lt x q))
        (cases_lt q x)

pub no_next : (net : Net) (roles r k i : ℕ) → IsProper net roles → k ≤ net.count → net.count ≤ i → NoneSoFar net r k i → [] ≡ next_begins net r (next_stage net k) (points_in net)
unfolding NoneSoFar
no_next net roles r k i proper last past none = go (next_lane net r (next_stage net k) 1 net.count)
  where
    go : NextLane net r (next_stage net k) 1 net.count → [] ≡ next_begins net r (next_stage net k) (points_in net)
    go (no_lane f n) = sym f
    go (the_lane q l h v least f) = absurd (⊎_elim (λ below. none q below (omega (arith, h, past)) (of_wanted net r k q v)) (λ ge. not_before net roles r k q proper last l ge v) (cases_lt k q))

-- lanes of the role
to_own : (net : Net) (r l : ℕ) → HasOwn net r l → IsOwnLane net r l
to_own net r l a = record { point = a.0; least = a.1; most = a.2; own = a.3; lane = a.4 }

of_own : (net : Net) (r l : ℕ) → IsOwnLane net r l → HasOwn net r l
of_own net r l a = (a.point, a.least, a.most, a.own, a.lane)

-- in a lane of the role it meets what is offered
pub meets_here : (net : Net) (r k : ℕ) → 1 ≤ k → HasOwn net r (net.lane k) → (net.offers k ≡ [] → ⊥) → net.offers k ≡ met_by net r k
meets_here net r k low own some = go (met net r k)
  where
    go : Met net r k → net.offers k ≡ met_by net r k
    go (met_first e f) = absurd (omega (arith, e, low))
    go (met_here l o n f) = sym f
    go (met_next l o n f) = absurd (some n)
    go (met_else l n f) = absurd (n (to_own net r (net.lane k) own))

-- elsewhere what its next lane begins with
pub meets_next : (net : Net) (r k : ℕ) → (1 ≤ k → HasOwn net r (net.lane k) → net.offers k ≡ []) → next_begins net r (next_stage net k) (points_in net) ≡ met_by net r k
meets_next net r k none = go (met net r k)
  where
    behind : 1 ≤ k → next_begins net r (next_stage net k) (points_in net) ≡ next_begins net r (net.stage (net.lane k) + 1) (points_in net)
    behind low = ap (λ s. next_begins net r s (points_in net)) (later_stages net k (λ e. omega (arith, e, low)))

    go : Met net r k → next_begins net r (next_stage net k) (points_in net) ≡ met_by net r k
    go (met_first e f) = ap (λ s. next_begins net r s (points_in net)) (all_stages net k e) ∙ sym f
    go (met_here l o n f) = absurd (n (none l (of_own net r (net.lane k) o)))
    go (met_next l o n f) = behind l ∙ sym f
    go (met_else l n f) = behind l ∙ sym f

-- Where a role meets points, they are of the text, and stand in one of its lanes.
module _ (net : Net) (roles r j p : ℕ) (proper : IsProper net roles) where
  begun : (s : ℕ) → IsIn p (next_begins net r s (points_in net)) → ((1 ≤ p) × (p ≤ net.count)) × HasOwn net r (net.lane p)
  begun s i = go (next_lane net r s 1 net.count)
    where
      go : NextLane net r s 1 net.count → ((1 ≤ p) × (p ≤ net.count)) × HasOwn net r (net.lane p)
      go (no_lane e n) = absurd (subst (IsIn p) e i)
      go (the_lane q l h v least e) =
          let m = subst (IsIn p) e i in
          let t = proper.begun_in_text (net.lane q) p m in
          (t, (q, l, omega (arith, h), v.own, sym (proper.lanes.begun (net.lane q) p m)))

  all_met : IsIn p (met_by net r j) → ((1 ≤ p) × (p ≤ net.count)) × HasOwn net r (net.lane p)
  all_met i = go (met net r j)
    where
      go : Met net r j → ((1 ≤ p) × (p ≤ net.count)) × HasOwn net r (net.lane p)
      go (met_first e f) = begun 0 (subst (IsIn p) f i)
      go (met_here l o n f) =
          let m = subst (IsIn p) f i in
          let t = proper.in_text j p m in
          (t, subst (HasOwn net r) (sym (proper.lanes.kept j p m)) (of_own net r (net.lane j) o))
      go (met_next l o n f) = begun (net.stage (net.lane j) + 1) (subst (IsIn p) f i)
      go (met_else l n f) = begun (net.stage (net.lane j) + 1) (subst (IsIn p) f i)

  pub met_in_text : IsIn p (met_by net r j) → (1 ≤ p) × (p ≤ net.count)
  met_in_text i = (all_met i).0

  pub met_own : IsIn p (met_by net r j) → HasOwn net r (net.lane p)
  met_own i = (all_met i).1

-- None of the first points is one of the role in the lane.
pub NoneOwn : Net → ℕ → ℕ → ℕ → Type 0
NoneOwn net r l i = (q : ℕ) → 1 ≤ q → q ≤ i → IsOf net r q × (net.lane q ≡ l) → ⊥

pub own_none : (net : Net) (r l : ℕ) → NoneOwn net r l 0
unfolding NoneOwn
own_none net r l q low le a = omega (arith, low, le)

pub own_more : (net : Net) (r l i x : ℕ) → x ≡ i + 1 → (IsOf net r x × (net.lane x ≡ l) → ⊥) → NoneOwn net r l i → NoneOwn net r l (i + 1)
unfolding NoneOwn
own_more net r l i x e n all q low le a = ⊎_elim (λ f. n (subst (λ y. IsOf net r y × (net.lane y ≡ l)) (f ∙ sym e) a)) (λ m. all q low (omega (arith, le, m)) a) (cases_eq q (i + 1))

pub own_all : (net : Net) (r l i : ℕ) → net.count ≤ i → NoneOwn net r l i → HasOwn net r l → ⊥
unfolding NoneOwn
own_all net r l i past all a = all a.0 a.1 (let le = a.2 in omega (arith, le, past)) (a.3, a.4)
