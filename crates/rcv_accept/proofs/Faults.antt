-- The faults of a text, part by part.
use Rattle.std.proofs.Common.{◌≡◌, ℕ, ◌+◌, ◌<◌, ◌≤◌, refl, sym, ◌∙◌, ap, subst, ◌⊎◌, inl, inr, ⊎_elim, arith}
use Rattle.std.specs.Prelude.{Option, Some, None}
use Rattle.std.proofs.lemmas.Bool.{cases_lt}
use Rattle.rcv_model.specs.Text.{Body}
use Rattle.rcv_model.specs.Next.{IsPlaceOf, HasLater, CanEnd, IsAccepted}
use Rattle.rcv_model.specs.Places.{net_of}
use Rattle.rcv_model.specs.Form.{HasForm}
use Rattle.rcv_model.specs.Accept.{HasSubjects, IsReached, Fails, unreachable, lane_end, IsNotAfter}
use Rattle.rcv_model.proofs.Decided.{faultless}
use Rattle.rcv_model.proofs.Refusals.{Case, IsUnreached, IsUnending, SubjectIsSilent}
use Rattle.rcv_model.proofs.LeastRefusal.{told}
use Rattle.rcv_accept.specs.declared.rule.Rule.{Rule}
use Rattle.rcv_accept.specs.declared.rule.Rule.TheVariants.{Unreachable, LaneEnd}
use Rattle.rcv_accept.specs.Rules.{code_of}
use Rattle.rcv_accept.specs.declared.fault.Fault.{Fault}
use Rattle.rcv_accept.specs.Faults.{IsFirst, IsEarlier, FailsWithin, FailsAtRole, FailsAtPlace, FailsAtPoint, FailsAtEnd}
use Rattle.rcv_accept.specs.Lists.{IsLeastRule}
use Rattle.rcv_accept.proofs.Firsts.{first_same, first_both}

-- the faults at a role's first places, at the first roles, and at the first points
abbrev pub BeforePlace : Body → ℕ → ℕ → ℕ → ℕ → ℕ → ℕ → Type 0
BeforePlace body roles role i c r n = FailsAtRole body roles role c r n × (n < i)

abbrev pub BeforeRole : Body → ℕ → ℕ → ℕ → ℕ → ℕ → Type 0
BeforeRole body roles i c r n = FailsWithin body roles 21 25 c r n × (r < i)

abbrev pub BeforePoint : Body → ℕ → ℕ → ℕ → ℕ → ℕ → Type 0
BeforePoint body roles i c r n = FailsWithin body roles 26 26 c r n × (n ≤ i)

abbrev pub BeforeEnd : Body → ℕ → ℕ → ℕ → ℕ → ℕ → Type 0
BeforeEnd body roles i c r n = FailsWithin body roles 28 28 c r n × (n ≤ i)

module _ (body : Body) (roles : ℕ) (form : HasForm body roles) where
  -- codes go from 20 to 26, and there is 28
  pub codes : {c r n : ℕ} → Fails body roles c r n → ((20 ≤ c) × (c ≤ 26)) ⊎ (c ≡ 28)
  codes {c = c} {r = r} {n = n} f = go (told body roles form f)
    where
      go : Case body roles form c r n → ((20 ≤ c) × (c ≤ 26)) ⊎ (c ≡ 28)
      go (inl a) = let e = a.0 in inl (omega arith, omega arith)
      go (inr (inl a)) = let e = a.0 in inl (omega arith, omega arith)
      go (inr (inr (inl a))) = let e = a.0 in inl (omega arith, omega arith)
      go (inr (inr (inr (inl a)))) = let e = a.0 in inl (omega arith, omega arith)
      go (inr (inr (inr (inr (inl a))))) = let e = a.0 in inl (omega arith, omega arith)
      go (inr (inr (inr (inr (inr (inl a)))))) = let e = a.0 in inl (omega arith, omega arith)
      go (inr (inr (inr (inr (inr (inr (inl a))))))) = let e = a.0 in inl (omega arith, omega arith)
      go (inr (inr (inr (inr (inr (inr (inr a))))))) = inr a.0

  -- the rules on what a role does next fail at places of a role
  pub placed : {c r n : ℕ} → FailsWithin body roles 21 25 c r n → (r < roles) × IsPlaceOf (net_of body) r n
  placed {c = c} {r = r} {n = n} f = go (told body roles form f.2)
    where
      go : Case body roles form c r n → (r < roles) × IsPlaceOf (net_of body) r n
      go (inl a) = let e = a.0 in let low = f.0 in absurd (omega arith)
      go (inr (inl a)) = (a.1.0, a.1.1)
      go (inr (inr (inl a))) = (a.1.0, a.1.1)
      go (inr (inr (inr (inl a)))) = (a.1.0, a.1.1)
      go (inr (inr (inr (inr (inl a))))) = (a.1.0, a.1.1)
      go (inr (inr (inr (inr (inr (inl a)))))) = (a.1.0, a.1.1)
      go (inr (inr (inr (inr (inr (inr (inl a))))))) = let e = a.0 in let high = f.1 in absurd (omega arith)
      go (inr (inr (inr (inr (inr (inr (inr a))))))) = let e = a.0 in let high = f.1 in absurd (omega arith)

  pub silent : {c r n : ℕ} → FailsWithin body roles 20 20 c r n → (c ≡ 20) × SubjectIsSilent body roles form r n
  silent {c = c} {r = r} {n = n} f = go (told body roles form f.2)
    where
      go : Case body roles form c r n → (c ≡ 20) × SubjectIsSilent body roles form r n
      go (inl a) = (a.0, a.1)
      go (inr (inl a)) = let e = a.0 in let high = f.1 in absurd (omega arith)
      go (inr (inr (inl a))) = let e = a.0 in let high = f.1 in absurd (omega arith)
      go (inr (inr (inr (inl a)))) = let e = a.0 in let high = f.1 in absurd (omega arith)
      go (inr (inr (inr (inr (inl a))))) = let e = a.0 in let high = f.1 in absurd (omega arith)
      go (inr (inr (inr (inr (inr (inl a)))))) = let e = a.0 in let high = f.1 in absurd (omega arith)
      go (inr (inr (inr (inr (inr (inr (inl a))))))) = let e = a.0 in let high = f.1 in absurd (omega arith)
      go (inr (inr (inr (inr (inr (inr (inr a))))))) = let e = a.0 in let high = f.1 in absurd (omega arith)

  pub unreached : {c r n : ℕ} → FailsWithin body roles 26 26 c r n → (c ≡ 26) × IsUnreached body roles form r n
  unreached {c = c} {r = r} {n = n} f = go (told body roles form f.2)
    where
      go : Case body roles form c r n → (c ≡ 26) × IsUnreached body roles form r n
      go (inl a) = let e = a.0 in let low = f.0 in absurd (omega arith)
      go (inr (inl a)) = let e = a.0 in let low = f.0 in absurd (omega arith)
      go (inr (inr (inl a))) = let e = a.0 in let low = f.0 in absurd (omega arith)
      go (inr (inr (inr (inl a)))) = let e = a.0 in let low = f.0 in absurd (omega arith)
      go (inr (inr (inr (inr (inl a))))) = let e = a.0 in let low = f.0 in absurd (omega arith)
      go (inr (inr (inr (inr (inr (inl a)))))) = let e = a.0 in let low = f.0 in absurd (omega arith)
      go (inr (inr (inr (inr (inr (inr (inl a))))))) = (a.0, a.1)
      go (inr (inr (inr (inr (inr (inr (inr a))))))) = let e = a.0 in let high = f.1 in absurd (omega arith)

  pub unending : {c r n : ℕ} → FailsWithin body roles 28 28 c r n → (c ≡ 28) × IsUnending body roles form r n
  unending {c = c} {r = r} {n = n} f = go (told body roles form f.2)
    where
      go : Case body roles form c r n → (c ≡ 28) × IsUnending body roles form r n
      go (inl a) = let e = a.0 in let low = f.0 in absurd (omega arith)
      go (inr (inl a)) = let e = a.0 in let low = f.0 in absurd (omega arith)
      go (inr (inr (inl a))) = let e = a.0 in let low = f.0 in absurd (omega arith)
      go (inr (inr (inr (inl a)))) = let e = a.0 in let low = f.0 in absurd (omega arith)
      go (inr (inr (inr (inr (inl a))))) = let e = a.0 in let low = f.0 in absurd (omega arith)
      go (inr (inr (inr (inr (inr (inl a)))))) = let e = a.0 in let low = f.0 in absurd (omega arith)
      go (inr (inr (inr (inr (inr (inr (inl a))))))) = let e = a.0 in let low = f.0 in absurd (omega arith)
      go (inr (inr (inr (inr (inr (inr (inr a))))))) = (a.0, a.1)

  -- the first fault of a text
  pub first_of_all : (a b ab d abd e first : Option Fault) → IsFirst (FailsWithin body roles 20 20) a → IsFirst (FailsWithin body roles 21 25) b → IsEarlier a b ab → IsFirst (FailsWithin body roles 26 26) d → IsEarlier ab d abd → IsFirst (FailsWithin body roles 28 28) e → IsEarlier abd e first → IsFirst (Fails body roles) first
  first_of_all a b ab d abd e first x y ab_is z abd_is t first_is =
      first_both (FailsWithin body roles 20 26) (FailsWithin body roles 28 28) (Fails body roles) abd e first
      (first_both (FailsWithin body roles 20 25) (FailsWithin body roles 26 26) (FailsWithin body roles 20 26) ab d abd
      (first_both (FailsWithin body roles 20 20) (FailsWithin body roles 21 25) (FailsWithin body roles 20 25) a b ab x y ab_is
      (λ c r n w. (w.0, let high = w.1 in omega arith, w.2))
      (λ c r n w. (let low = w.0 in omega arith, w.1, w.2))
      (λ c r n w. ⊎_elim (λ lt. inl (w.0, omega arith, w.2)) (λ ge. inr (ge, w.1, w.2)) (cases_lt c 21)))
      z abd_is
      (λ c r n w. (w.0, let high = w.1 in omega arith, w.2))
      (λ c r n w. (let low = w.0 in omega arith, w.1, w.2))
      (λ c r n w. ⊎_elim (λ lt. inl (w.0, omega arith, w.2)) (λ ge. inr (ge, w.1, w.2)) (cases_lt c 26)))
      t first_is
      (λ c r n w. w.2)
      (λ c r n w. w.2)
      (λ c r n w. ⊎_elim (λ k. inl (k.0, k.1, w)) (λ k. inr (omega (arith, k), omega (arith, k), w)) (codes w))

  pub accepted : IsFirst (Fails body roles) None → IsAccepted (net_of body) roles × HasSubjects body
  accepted none = (faultless body roles form).0 none

  -- at a place
  pub elsewhere : (r k : ℕ) → (IsPlaceOf (net_of body) r k → ⊥) → IsFirst (FailsAtPlace body roles r k) None
  elsewhere r k n c q m x = n (subst (λ i. IsPlaceOf (net_of body) i k) x.0.1 (subst (IsPlaceOf (net_of body) q) x.1 (placed x.0.0).1))

  moved : {c q m r k : ℕ} → Fails body roles c q m → q ≡ r → m ≡ k → Fails body roles c r k
  moved {c = c} {q = q} {k = k} f e g = subst (λ i. Fails body roles c i k) e (subst (Fails body roles c q) g f)

  pub place_none : (r k : ℕ) → IsLeastRule body roles r k None → IsFirst (FailsAtPlace body roles r k) None
  place_none r k a c q m x = a c x.0.0.0 x.0.0.1 (moved x.0.0.2 x.0.1 x.1)

  pub place_some : (r k : ℕ) (rule : Rule) → IsLeastRule body roles r k (Some rule) → IsFirst (FailsAtPlace body roles r k) (Some (record { rule = rule; role = r; number = k }))
  place_some r k rule a = ((((a.0, a.1, a.2), refl), refl), λ d q m x. after d q m x (a.3 d x.0.0.0 x.0.0.1 (moved x.0.0.2 x.0.1 x.1)))
    where
      code : ℕ
      code = code_of rule

      after : (d q m : ℕ) → FailsAtPlace body roles r k d q m → code ≤ d → IsNotAfter code r k d q m
      after d q m x le = ⊎_elim (λ lt. inl lt) (λ ge. inr (omega (arith, le, ge), inr (sym x.0.1, let e = x.1 in omega arith))) (cases_lt code d)

  -- at the first places of a role
  pub row_none : (r : ℕ) → IsFirst (BeforePlace body roles r 0) None
  row_none r c q m x = let b = x.1 in omega arith

  pub row_next : (r i : ℕ) (old one new : Option Fault) → IsFirst (BeforePlace body roles r i) old → IsFirst (FailsAtPlace body roles r i) one → IsEarlier old one new → IsFirst (BeforePlace body roles r (i + 1)) new
  row_next r i old one new a b e =
      first_both (BeforePlace body roles r i) (FailsAtPlace body roles r i) (BeforePlace body roles r (i + 1)) old one new a b e
      (λ c q m x. (x.0, let lt = x.1 in omega arith))
      (λ c q m x. (x.0, let g = x.1 in omega arith))
      (λ c q m x. ⊎_elim (λ lt. inl (x.0, lt)) (λ ge. inr (x.0, let lt = x.1 in omega arith)) (cases_lt m i))

  low_place : (r k : ℕ) → IsPlaceOf (net_of body) r k → k ≤ (net_of body).count
  low_place r k (inl e) = omega (arith, e)
  low_place r k (inr a) = a.1

  pub row_all : (r i : ℕ) (o : Option Fault) → (net_of body).count < i → IsFirst (BeforePlace body roles r i) o → IsFirst (FailsAtRole body roles r) o
  row_all r i o high a =
      first_same (BeforePlace body roles r i) (FailsAtRole body roles r) o a
      (λ c q m x. x.0)
      (λ c q m x. (x, let k = low_place q m (placed x.0).1 in omega arith))

  -- at the first roles
  pub rows_none : IsFirst (BeforeRole body roles 0) None
  rows_none c q m x = let b = x.1 in omega arith

  pub rows_next : (i : ℕ) (old one new : Option Fault) → IsFirst (BeforeRole body roles i) old → IsFirst (FailsAtRole body roles i) one → IsEarlier old one new → IsFirst (BeforeRole body roles (i + 1)) new
  rows_next i old one new a b e =
      first_both (BeforeRole body roles i) (FailsAtRole body roles i) (BeforeRole body roles (i + 1)) old one new a b e
      (λ c q m x. (x.0, let lt = x.1 in omega arith))
      (λ c q m x. (x.0, let g = x.1 in omega arith))
      (λ c q m x. ⊎_elim (λ lt. inl (x.0, lt)) (λ ge. inr (x.0, let lt = x.1 in omega arith)) (cases_lt q i))

  pub rows_all : (i : ℕ) (o : Option Fault) → roles ≤ i → IsFirst (BeforeRole body roles i) o → IsFirst (FailsWithin body roles 21 25) o
  rows_all i o high a =
      first_same (BeforeRole body roles i) (FailsWithin body roles 21 25) o a
      (λ c q m x. x.0)
      (λ c q m x. (x, let lt = (placed x).0 in omega arith))

  -- at a point, and at the first points
  pub point_none : (p : ℕ) → IsReached (net_of body) p → IsFirst (FailsAtPoint body roles p) None
  point_none p way c q m x = (unreached x.0).1.3 (subst (IsReached (net_of body)) (sym x.1) way)

  pub point_some : (p s : ℕ) → (IsReached (net_of body) p → ⊥) → 1 ≤ p → p ≤ (net_of body).count → (net_of body).sender p ≡ s → IsFirst (FailsAtPoint body roles p) (Some (record { rule = Unreachable; role = s; number = p }))
  point_some p s none low high e = (((omega arith, omega arith, unreachable e low high none), refl), λ d q m x. inr (sym (unreached x.0).0, inr (sym e ∙ ap (net_of body).sender (sym x.1) ∙ (unreached x.0).1.0, let g = x.1 in omega arith)))

  pub points_none : IsFirst (BeforePoint body roles 0) None
  points_none c q m x = let b = x.1 in let low = (unreached x.0).1.1 in omega arith

  pub points_next : (i : ℕ) (old one new : Option Fault) → IsFirst (BeforePoint body roles i) old → IsFirst (FailsAtPoint body roles (i + 1)) one → IsEarlier old one new → IsFirst (BeforePoint body roles (i + 1)) new
  points_next i old one new a b e =
      first_both (BeforePoint body roles i) (FailsAtPoint body roles (i + 1)) (BeforePoint body roles (i + 1)) old one new a b e
      (λ c q m x. (x.0, let lt = x.1 in omega arith))
      (λ c q m x. (x.0, let g = x.1 in omega arith))
      (λ c q m x. ⊎_elim (λ lt. inr (x.0, let le = x.1 in omega arith)) (λ ge. inl (x.0, ge)) (cases_lt i m))

  pub points_all : (i : ℕ) (o : Option Fault) → (net_of body).count ≤ i → IsFirst (BeforePoint body roles i) o → IsFirst (FailsWithin body roles 26 26) o
  points_all i o high a =
      first_same (BeforePoint body roles i) (FailsWithin body roles 26 26) o a
      (λ c q m x. x.0)
      (λ c q m x. (x, let k = (unreached x).1.2 in omega arith))

  -- at a lane's point, and at the first of them
  pub end_none : (p : ℕ) → CanEnd (net_of body) p ⊎ (HasLater (net_of body) p → ⊥) → IsFirst (FailsAtEnd body roles p) None
  end_none p (inl way) c q m x = (unending x.0).1.3.1 (subst (CanEnd (net_of body)) (sym x.1) way)
  end_none p (inr none) c q m x = none (subst (HasLater (net_of body)) x.1 (unending x.0).1.3.0)

  pub end_some : (p s : ℕ) → (CanEnd (net_of body) p → ⊥) → HasLater (net_of body) p → 1 ≤ p → p ≤ (net_of body).count → (net_of body).sender p ≡ s → IsFirst (FailsAtEnd body roles p) (Some (record { rule = LaneEnd; role = s; number = p }))
  end_some p s none later low high e = (((omega arith, omega arith, lane_end e low high later none), refl), λ d q m x. inr (sym (unending x.0).0, inr (sym e ∙ ap (net_of body).sender (sym x.1) ∙ (unending x.0).1.0, let g = x.1 in omega arith)))

  pub ends_none : IsFirst (BeforeEnd body roles 0) None
  ends_none c q m x = let b = x.1 in let low = (unending x.0).1.1 in omega arith

  pub ends_next : (i : ℕ) (old one new : Option Fault) → IsFirst (BeforeEnd body roles i) old → IsFirst (FailsAtEnd body roles (i + 1)) one → IsEarlier old one new → IsFirst (BeforeEnd body roles (i + 1)) new
  ends_next i old one new a b e =
      first_both (BeforeEnd body roles i) (FailsAtEnd body roles (i + 1)) (BeforeEnd body roles (i + 1)) old one new a b e
      (λ c q m x. (x.0, let lt = x.1 in omega arith))
      (λ c q m x. (x.0, let g = x.1 in omega arith))
      (λ c q m x. ⊎_elim (λ lt. inr (x.0, let le = x.1 in omega arith)) (λ ge. inl (x.0, ge)) (cases_lt i m))

  pub ends_all : (i : ℕ) (o : Option Fault) → (net_of body).count ≤ i → IsFirst (BeforeEnd body roles i) o → IsFirst (FailsWithin body roles 28 28) o
  ends_all i o high a =
      first_same (BeforeEnd body roles i) (FailsWithin body roles 28 28) o a
      (λ c q m x. x.0)
      (λ c q m x. (x, let k = (unending x).1.2 in omega arith))

  -- where there is one lane, no stage is left behind
  pub one_lane_ends : ((p : ℕ) → (net_of body).lane p < 1) → IsFirst (FailsWithin body roles 28 28) None
  one_lane_ends one c q m x =
      let later = (unending x).1.3.0 in
      let a : (net_of body).lane m ≡ 0 = (let lt = one m in omega (arith, lt)) in
      let b : (net_of body).lane later.0 ≡ 0 = (let lt = one later.0 in omega (arith, lt)) in
      omega (arith, later.3, ap (net_of body).stage a, ap (net_of body).stage b)
