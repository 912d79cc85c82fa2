-- The rules on a role's next points as a list, and the faults of the text.
use Rattle.std.proofs.Common.{◌≡◌, ℕ, ◌<◌, ◌≤◌, Bool, List, [], ◌∷◌, refl, sym, ◌∙◌, subst, inl, inr, ⊎_elim, arith}
use Rattle.std.specs.Prelude.{Some, None}
use Rattle.rcv_model.specs.Text.{Body}
use Rattle.rcv_model.specs.Net.{Net, IsIn}
use Rattle.rcv_model.specs.Next.{IsOf, AreNext, IsPlaceOf, IsEnabledBy, IsProper}
use Rattle.rcv_model.specs.Places.{net_of}
use Rattle.rcv_model.specs.Form.{HasForm}
use Rattle.rcv_model.specs.Accept.{Fails, mixed, senders, labels, not_enabled, maybe_done, AreAlike}
use Rattle.rcv_model.proofs.Same.{met_text_rises, enabled_both}
use Rattle.rcv_model.proofs.Ways.{next_in_text as in_text}
use Rattle.rcv_model.proofs.Refusals.{Case, AtPlace}
use Rattle.rcv_model.proofs.Refusals as rules
use Rattle.rcv_model.proofs.LeastRefusal.{told}
use Rattle.rcv_points.specs.Ahead.{IsAhead}
use Rattle.rcv_points.specs.Follow.{PointsView, net_in}
use Rattle.rcv_points.proofs.Whole.{same_net}
use Rattle.rcv_accept.specs.declared.rule.Rule.TheVariants.{Mixed, Senders, Labels, NotEnabled, MaybeDone}
use Rattle.rcv_accept.specs.Faults.{AreOf}
use Rattle.rcv_accept.specs.Lists.{AreInText, HasSend, HasReceive, HasTwins, IsMixed, ReceivesFromTwo, IsNotEnabled, MayBeDone, IsLeastRule}

-- a list that isn't empty has an item
some_in : (zs : List ℕ) → (zs ≡ [] → ⊥) → (z : ℕ) × IsIn z zs
some_in [] some = absurd (some refl)
some_in (z ∷ zs) some = (z, inl refl)

is_some : (z : ℕ) (zs : List ℕ) → IsIn z zs → zs ≡ [] → ⊥
is_some z zs i e = subst (IsIn z) e i

module _ (body : Body) (roles : ℕ) (form : HasForm body roles) (r k : ℕ) (lt : r < roles) (place : IsPlaceOf (net_of body) r k) (zs : List ℕ) (may_end : Bool) (ahead : IsAhead (net_of body) r k zs may_end) where
  mixed_of : AtPlace body roles form (rules.IsMixed body roles form r) r k → IsMixed (net_of body) r zs
  mixed_of a = let b = a.2 in ((b.0, ahead.next.complete b.0 b.1, b.2.2.0), (b.2.0, ahead.next.complete b.2.0 b.2.1, b.2.2.1))

  senders_of : AtPlace body roles form (rules.HasTwoSenders body roles form r) r k → ReceivesFromTwo (net_of body) r zs
  senders_of a =
      let b = a.2 in
      let i = ahead.next.complete b.0 b.1 in
      ((b.0, i, b.2.2.0), (b.0, i, (b.2.0, ahead.next.complete b.2.0 b.2.1, b.2.2.2)))

  twins_of : AtPlace body roles form (rules.IsAmbiguous body roles form r) r k → HasTwins (net_of body) zs
  twins_of a =
      let b = a.2 in
      let alike = b.2.2.0 in
      (b.0, ahead.next.complete b.0 b.1, (b.2.0, ahead.next.complete b.2.0 b.2.1, record { apart = b.2.2.1; label = alike.0; receiver = ⊎_elim (λ x. x.0 ∙ sym x.1) (λ x. x.2) alike.1 }))

  not_left : (IsNotEnabled (net_of body) r k zs → ⊥) → rules.IsLeftBehind body roles form r k → ⊥
  not_left n a =
      let refused : IsEnabledBy (net_of body) r k zs → ⊥ = λ by. a.2 ((enabled_both (net_of body) r k zs (met_text_rises body r) ahead.next).1 by) in
      refused (λ some own. let z = some_in zs some in absurd (n ((z.0, z.1, own z.0 z.1), λ met. refused (λ some own. met))))

  forgotten_of : rules.IsForgotten body roles form r k → MayBeDone zs may_end
  forgotten_of a = (is_some a.2.0 zs (ahead.next.complete a.2.0 a.2.1), ahead.ends.1 a.3)

  fails_mixed : IsMixed (net_of body) r zs → Fails body roles 21 r k
  fails_mixed a = mixed a.0.0 a.1.0 lt place (ahead.next.sound a.0.0 a.0.1) (ahead.next.sound a.1.0 a.1.1) a.0.2 a.1.2

  received : (IsMixed (net_of body) r zs → ⊥) → HasReceive (net_of body) r zs → (x : ℕ) → IsIn x zs → (net_of body).receiver x ≡ r
  received unmixed some x i = ⊎_elim (λ s. absurd (unmixed ((x, i, s), some))) (λ e. e) (ahead.next.sound x i).own

  sent : (IsMixed (net_of body) r zs → ⊥) → HasSend (net_of body) r zs → (x : ℕ) → IsIn x zs → (net_of body).sender x ≡ r
  sent unmixed some x i = ⊎_elim (λ e. e) (λ s. absurd (unmixed (some, (x, i, s)))) (ahead.next.sound x i).own

  fails_senders : (IsMixed (net_of body) r zs → ⊥) → ReceivesFromTwo (net_of body) r zs → Fails body roles 22 r k
  fails_senders unmixed a =
      let b = a.1 in
      senders b.0 b.2.0 lt place (ahead.next.sound b.0 b.1) (ahead.next.sound b.2.0 b.2.1) (received unmixed a.0 b.0 b.1) (received unmixed a.0 b.2.0 b.2.1) b.2.2

  alike : (x y : ℕ) → IsOf (net_of body) r x → IsOf (net_of body) r y → (net_of body).label x ≡ (net_of body).label y → (net_of body).receiver x ≡ (net_of body).receiver y → AreAlike (net_of body) r x y
  alike x y (inr e) own l to = (l, inl (e, sym to ∙ e))
  alike x y (inl e) (inr f) l to = (l, inl (to ∙ f, f))
  alike x y (inl e) (inl f) l to = (l, inr (e, f, to))

  fails_labels : HasTwins (net_of body) zs → Fails body roles 23 r k
  fails_labels a =
      let b = a.2 in
      let nx = ahead.next.sound a.0 a.1 in
      let ny = ahead.next.sound b.0 b.1 in
      labels a.0 b.0 lt place nx ny (alike a.0 b.0 nx.own ny.own b.2.label b.2.receiver) b.2.apart

  fails_enabled : (IsMixed (net_of body) r zs → ⊥) → IsNotEnabled (net_of body) r k zs → Fails body roles 24 r k
  fails_enabled unmixed a = not_enabled lt place (λ rule. a.1 ((enabled_both (net_of body) r k zs (met_text_rises body r) ahead.next).0 rule (is_some a.0.0 zs a.0.1) (sent unmixed a.0)))

  fails_done : MayBeDone zs may_end → Fails body roles 25 r k
  fails_done a =
      let z = some_in zs a.0 in
      let w = ahead.ends.0 a.1 in
      maybe_done z.0 w.0 lt place (ahead.next.sound z.0 z.1) w.1 w.2 w.3

  -- a fault at the place, code by code
  by_code : (T : ℕ → Type 0) (d : ℕ) → 21 ≤ d → d ≤ 25 → Fails body roles d r k → (IsMixed (net_of body) r zs → T 21) → (ReceivesFromTwo (net_of body) r zs → T 22) → (HasTwins (net_of body) zs → T 23) → (rules.IsLeftBehind body roles form r k → T 24) → (MayBeDone zs may_end → T 25) → T d
  by_code T d low high f m s l e b = go (told body roles form f)
    where
      go : Case body roles form d r k → T d
      go (inl a) = let g = a.0 in absurd (omega arith)
      go (inr (inl a)) = subst T (sym a.0) (m (mixed_of a.1))
      go (inr (inr (inl a))) = subst T (sym a.0) (s (senders_of a.1))
      go (inr (inr (inr (inl a)))) = subst T (sym a.0) (l (twins_of a.1))
      go (inr (inr (inr (inr (inl a))))) = subst T (sym a.0) (e a.1)
      go (inr (inr (inr (inr (inr (inl a)))))) = subst T (sym a.0) (b (forgotten_of a.1))
      go (inr (inr (inr (inr (inr (inr (inl a))))))) = let g = a.0 in absurd (omega arith)
      go (inr (inr (inr (inr (inr (inr (inr a))))))) = let g = a.0 in absurd (omega arith)

  least_mixed : IsMixed (net_of body) r zs → IsLeastRule body roles r k (Some Mixed)
  least_mixed a = (omega arith, omega arith, fails_mixed a, λ d low high f. low)

  least_senders : (IsMixed (net_of body) r zs → ⊥) → ReceivesFromTwo (net_of body) r zs → IsLeastRule body roles r k (Some Senders)
  least_senders m a = (omega arith, omega arith, fails_senders m a, λ d low high f. by_code (λ n. 22 ≤ n) d low high f (λ x. absurd (m x)) (λ x. omega arith) (λ x. omega arith) (λ x. omega arith) (λ x. omega arith))

  least_labels : (IsMixed (net_of body) r zs → ⊥) → (ReceivesFromTwo (net_of body) r zs → ⊥) → HasTwins (net_of body) zs → IsLeastRule body roles r k (Some Labels)
  least_labels m s a = (omega arith, omega arith, fails_labels a, λ d low high f. by_code (λ n. 23 ≤ n) d low high f (λ x. absurd (m x)) (λ x. absurd (s x)) (λ x. omega arith) (λ x. omega arith) (λ x. omega arith))

  least_enabled : (IsMixed (net_of body) r zs → ⊥) → (ReceivesFromTwo (net_of body) r zs → ⊥) → (HasTwins (net_of body) zs → ⊥) → IsNotEnabled (net_of body) r k zs → IsLeastRule body roles r k (Some NotEnabled)
  least_enabled m s l a = (omega arith, omega arith, fails_enabled m a, λ d low high f. by_code (λ n. 24 ≤ n) d low high f (λ x. absurd (m x)) (λ x. absurd (s x)) (λ x. absurd (l x)) (λ x. omega arith) (λ x. omega arith))

  least_done : (IsMixed (net_of body) r zs → ⊥) → (ReceivesFromTwo (net_of body) r zs → ⊥) → (HasTwins (net_of body) zs → ⊥) → (IsNotEnabled (net_of body) r k zs → ⊥) → MayBeDone zs may_end → IsLeastRule body roles r k (Some MaybeDone)
  least_done m s l e a = (omega arith, omega arith, fails_done a, λ d low high f. by_code (λ n. 25 ≤ n) d low high f (λ x. absurd (m x)) (λ x. absurd (s x)) (λ x. absurd (l x)) (λ x. absurd (not_left e x)) (λ x. omega arith))

  least_none : (IsMixed (net_of body) r zs → ⊥) → (ReceivesFromTwo (net_of body) r zs → ⊥) → (HasTwins (net_of body) zs → ⊥) → (IsNotEnabled (net_of body) r k zs → ⊥) → (MayBeDone zs may_end → ⊥) → IsLeastRule body roles r k None
  least_none m s l e b = λ d low high f. by_code (λ n. ⊥) d low high f m s l (not_left e) b

-- each next point stands in the text
pub next_in_text : (net : Net) (roles r k : ℕ) (zs items : List ℕ) → zs ≡ items → IsProper net roles → AreNext net r k items → AreInText net zs
next_in_text net roles r k zs items which proper next z i =
    let n = next.sound z (subst (IsIn z) which i) in
    in_text net roles r k z proper n

-- The same where the list was found in the points of the text.
module _ (body : Body) (roles : ℕ) (points : PointsView) (are : AreOf body roles points) (r k : ℕ) (lt : r < roles) (zs items : List ℕ) (which : zs ≡ items) (may_end : Bool) (place : IsPlaceOf (net_in points) r k) (ahead : IsAhead (net_in points) r k items may_end) where
  same : net_in points ≡ net_of body
  same = same_net body roles points are.form are.all

  at_here : IsPlaceOf (net_of body) r k
  at_here = subst (λ net. IsPlaceOf net r k) same place

  found : IsAhead (net_of body) r k zs may_end
  found = subst (λ net. IsAhead net r k zs may_end) same (subst (λ l. IsAhead (net_in points) r k l may_end) (sym which) ahead)

  pub rule_mixed : IsMixed (net_in points) r zs → IsLeastRule body roles r k (Some Mixed)
  rule_mixed a = least_mixed body roles are.form r k lt at_here zs may_end found (subst (λ net. IsMixed net r zs) same a)

  pub rule_senders : (IsMixed (net_in points) r zs → ⊥) → ReceivesFromTwo (net_in points) r zs → IsLeastRule body roles r k (Some Senders)
  rule_senders m a = least_senders body roles are.form r k lt at_here zs may_end found (subst (λ net. IsMixed net r zs → ⊥) same m) (subst (λ net. ReceivesFromTwo net r zs) same a)

  pub rule_labels : (IsMixed (net_in points) r zs → ⊥) → (ReceivesFromTwo (net_in points) r zs → ⊥) → HasTwins (net_in points) zs → IsLeastRule body roles r k (Some Labels)
  rule_labels m s a = least_labels body roles are.form r k lt at_here zs may_end found (subst (λ net. IsMixed net r zs → ⊥) same m) (subst (λ net. ReceivesFromTwo net r zs → ⊥) same s) (subst (λ net. HasTwins net zs) same a)

  pub rule_enabled : (IsMixed (net_in points) r zs → ⊥) → (ReceivesFromTwo (net_in points) r zs → ⊥) → (HasTwins (net_in points) zs → ⊥) → IsNotEnabled (net_in points) r k zs → IsLeastRule body roles r k (Some NotEnabled)
  rule_enabled m s l a = least_enabled body roles are.form r k lt at_here zs may_end found (subst (λ net. IsMixed net r zs → ⊥) same m) (subst (λ net. ReceivesFromTwo net r zs → ⊥) same s) (subst (λ net. HasTwins net zs → ⊥) same l) (subst (λ net. IsNotEnabled net r k zs) same a)

  pub rule_done : (IsMixed (net_in points) r zs → ⊥) → (ReceivesFromTwo (net_in points) r zs → ⊥) → (HasTwins (net_in points) zs → ⊥) → (IsNotEnabled (net_in points) r k zs → ⊥) → MayBeDone items may_end → IsLeastRule body roles r k (Some MaybeDone)
  rule_done m s l e a = least_done body roles are.form r k lt at_here zs may_end found (subst (λ net. IsMixed net r zs → ⊥) same m) (subst (λ net. ReceivesFromTwo net r zs → ⊥) same s) (subst (λ net. HasTwins net zs → ⊥) same l) (subst (λ net. IsNotEnabled net r k zs → ⊥) same e) (subst (λ l. MayBeDone l may_end) (sym which) a)

  pub rule_none : (IsMixed (net_in points) r zs → ⊥) → (ReceivesFromTwo (net_in points) r zs → ⊥) → (HasTwins (net_in points) zs → ⊥) → (IsNotEnabled (net_in points) r k zs → ⊥) → (MayBeDone items may_end → ⊥) → IsLeastRule body roles r k None
  rule_none m s l e b = least_none body roles are.form r k lt at_here zs may_end found (subst (λ net. IsMixed net r zs → ⊥) same m) (subst (λ net. ReceivesFromTwo net r zs → ⊥) same s) (subst (λ net. HasTwins net zs → ⊥) same l) (subst (λ net. IsNotEnabled net r k zs → ⊥) same e) (λ a. b (subst (λ l. MayBeDone l may_end) which a))
