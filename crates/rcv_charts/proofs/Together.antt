-- Two places stand in one state exactly if the role does the same at both.
use Rattle.std.proofs.Common.{◌≡◌, ◌≢◌, ℕ, zero, suc, ◌+◌, ◌<◌, ◌≤◌, Bool, true, false, cond, length, List, [], ◌∷◌, refl, sym, ◌∙◌, ap, subst, inl, inr, ⊎_elim, arith}
use Rattle.std.specs.Prelude.{◌⊎◌, ◌==◌, ◌||◌, if◌then◌else◌, slice_index_or}
use Rattle.std.specs.List.{All, AllByRecursion}
use Rattle.std.proofs.lemmas.Bool.{cases_order}
use Rattle.std.proofs.lemmas.List.Elements.{All-nil}
use Rattle.std.proofs.lemmas.Bool.Decides.{nat_tests, Decides-eqb}
use Rattle.rcv_model.specs.Net.{Net, IsIn, HasTwoEnds}
use Rattle.rcv_model.specs.Next.{AreNext, IsOf, IsPlaceOf, IsProper}
use Rattle.rcv_project.specs.Act.{ActView, Sending, Receiving, Ended, AreInText, IsActAt}
use Rattle.rcv_project.specs.LocalText.{is_own, places_to}
use Rattle.rcv_project.proofs.Acting.{one_act, next_in_text}
use Rattle.rcv_project.proofs.Machine.{are_in_text}
use Rattle.rcv_charts.specs.States.{StateView, times, times_in, AreStatesTo, IsState, DoesTheSame, StandTogether, AreStatesOf, HasAct, AreDifferent, AreMadeTo, next_in}
use Rattle.rcv_charts.specs.Wires.{HavePlace}
use Rattle.rcv_charts.proofs.Counted.{places_more, times-append}

-- a place is counted where it is
counted : (k : ℕ) (xs : List ℕ) → 1 ≤ times k xs → IsIn k xs
counted k [] some = absurd (omega arith)
counted k (x ∷ xs) some = go (x == k) refl some (counted k xs)
  where
    go : (b : Bool) → (x == k) ≡ b → 1 ≤ (if b then 1 else 0) + times k xs → (1 ≤ times k xs → IsIn k xs) → IsIn k (x ∷ xs)
    go true e some rest = inl (sym ((Decides-eqb x k).0 e))
    go false e some rest = inr (rest (omega (arith, some)))

held : (k : ℕ) (states : List StateView) → 1 ≤ times_in k states → StandTogether states k k
held k [] some = absurd (omega arith)
held k (s ∷ ss) some = ⊎_elim (λ here. inl (counted k s.places here, counted k s.places here)) (λ there. inr (held k ss there)) (either (times k s.places) (times_in k ss) some)
  where
    either : (a b : ℕ) → 1 ≤ a + b → (1 ≤ a) ⊎ (1 ≤ b)
    either zero b le = inr (omega (arith, le))
    either (suc a) b le = inl (omega arith)

module _ (net : Net) (r : ℕ) where
  -- each place of the role is among its places
  own_is : (p : ℕ) → IsOf net r p → is_own net r p ≡ true
  own_is p (inl e) = ap (λ b. b || (net.receiver p == r)) ((Decides-eqb (net.sender p) r).1 e)
  own_is p (inr e) = let got = (Decides-eqb (net.receiver p) r).1 e in grind (arith, nat_tests)

  among : (n k : ℕ) → 1 ≤ k → k ≤ n → IsOf net r k → 1 ≤ times k (places_to net r n)
  among zero k low high of = absurd (omega arith)
  among (suc n) k low high of = ⊎_elim here (λ apart. ⊎_elim (λ less. below (among n k low (omega (arith, less)) of)) (λ more. absurd (omega (arith, more, high))) apart) (cases_order k (n + 1))
    where
      grown : times k (places_to net r (n + 1)) ≡ times k (places_to net r n) + times k (cond (is_own net r (n + 1)) ((n + 1) ∷ []) [])
      grown = ap (times k) (places_more net r n) ∙ times-append k (places_to net r n) (cond (is_own net r (n + 1)) ((n + 1) ∷ []) [])

      same : suc n ≡ n + 1
      same = omega arith

      below : 1 ≤ times k (places_to net r n) → 1 ≤ times k (places_to net r (suc n))
      below some = subst (λ m. 1 ≤ times k (places_to net r m)) (sym same) (let g = grown in omega (arith, g, some))

      once : 1 ≤ times (n + 1) ((n + 1) ∷ [])
      once = let e = (Decides-eqb (n + 1) (n + 1)).1 refl in grind (arith, nat_tests)

      here : k ≡ n + 1 → 1 ≤ times k (places_to net r (suc n))
      here e =
          let own = subst (λ m. is_own net r m ≡ true) e (own_is k of) in
          let one = ap (λ b. times k (cond b ((n + 1) ∷ []) [])) own in
          let there = subst (λ m. 1 ≤ times m ((n + 1) ∷ [])) (sym e) once in
          subst (λ m. 1 ≤ times k (places_to net r m)) (sym same) (let g = grown in omega (arith, g, one, there))

  placed : (k : ℕ) → IsPlaceOf net r k → 1 ≤ times k (places_to net r net.count)
  placed k (inl e) = subst (λ m. 1 ≤ times m (places_to net r net.count)) (sym e) (omega arith)
  placed k (inr h) = among net.count k h.0 h.1 h.2

  -- what the role does at both
  pub same_there : (states : List StateView) (k l : ℕ) → AllByRecursion (IsState net r) states → StandTogether states k l → DoesTheSame net r k l
  same_there [] k l each none = absurd none
  same_there (s ∷ ss) k l each (inl both) = (s.act, each.0.acts k both.0, each.0.acts l both.1)
  same_there (s ∷ ss) k l each (inr rest) = same_there ss k l each.1 rest

  module _ (ends : HasTwoEnds net) where
    has_act : (states : List StateView) (act : ActView) (k : ℕ) → AllByRecursion (IsState net r) states → IsActAt net r k act → StandTogether states k k → HasAct act states
    has_act [] act k each is none = absurd none
    has_act (s ∷ ss) act k each is (inl here) = inl (one_act net r k ends s.act act (each.0.acts k here.0) is)
    has_act (s ∷ ss) act k each is (inr there) = inr (has_act ss act k each.1 is there)

    one_state : (states : List StateView) (act : ActView) (k l : ℕ) → AllByRecursion (IsState net r) states → AreDifferent states → IsActAt net r k act → IsActAt net r l act → StandTogether states k k → StandTogether states l l → StandTogether states k l
    one_state [] act k l each differ at_k at_l none also = absurd none
    one_state (s ∷ ss) act k l each differ at_k at_l (inl a) (inl b) = inl (a.0, b.0)
    one_state (s ∷ ss) act k l each differ at_k at_l (inr a) (inr b) = inr (one_state ss act k l each.1 differ.1 at_k at_l a b)
    one_state (s ∷ ss) act k l each differ at_k at_l (inl a) (inr b) =
        absurd (differ.0 (subst (λ (x : ActView). HasAct x ss) (one_act net r k ends act s.act at_k (each.0.acts k a.0)) (has_act ss act l each.1 at_l b)))
    one_state (s ∷ ss) act k l each differ at_k at_l (inr a) (inl b) =
        absurd (differ.0 (subst (λ (x : ActView). HasAct x ss) (one_act net r l ends act s.act at_l (each.0.acts l b.0)) (has_act ss act k each.1 at_k a)))

    pub are_states : (states : List StateView) → AreMadeTo net r net.count states → AreStatesOf net r states
    are_states states made = record {
      each_once = made.each_once;
      each = made.each;
      together = λ k l at_k at_l. (
        same_there states k l made.each,
        λ same. one_state states same.0 k l made.each made.different same.1 same.2
            (held k states (subst (λ n. 1 ≤ n) (sym (made.each_once k)) (placed k at_k)))
            (held l states (subst (λ n. 1 ≤ n) (sym (made.each_once l)) (placed l at_l))),
      );
    }

-- the role has an end of a point that is its own
pub own_of : (net : Net) (r p : ℕ) → is_own net r p ≡ true → IsOf net r p
own_of net r p e = go (net.sender p == r) refl e
  where
    go : (b : Bool) → (net.sender p == r) ≡ b → (b || (net.receiver p == r)) ≡ true → IsOf net r p
    go true same e = inl ((Decides-eqb (net.sender p) r).0 same)
    go false same e = inr ((Decides-eqb (net.receiver p) r).0 e)

-- next points stand in the text
pub act_in_text : (net : Net) (roles r k : ℕ) (act : ActView) → IsProper net roles → IsActAt net r k act → AreInText net (next_in act)
act_in_text net roles r k (Sending zs) form is = are_in_text net roles r k zs form is.0
act_in_text net roles r k (Receiving from zs) form is = are_in_text net roles r k zs form is.0
act_in_text net roles r k Ended form is = All-nil (λ z. (1 ≤ z) × (z ≤ net.count))

-- and the place behind each is in a state
act_next : (net : Net) (r k : ℕ) (act : ActView) → IsActAt net r k act → AreNext net r k (next_in act)
act_next net r k (Sending zs) is = is.0
act_next net r k (Receiving from zs) is = is.0
act_next net r k Ended is = is

-- an element of a list is in it
in_list : (zs : List ℕ) (k d : ℕ) → k < length zs → IsIn (slice_index_or zs k d) zs
in_list [] k d lt = absurd (omega arith)
in_list (z ∷ zs) zero d lt = inl refl
in_list (z ∷ zs) (suc k) d lt = inr (in_list zs k d (omega arith))

module _ (net : Net) (roles r : ℕ) (form : IsProper net roles) where
  next_held : (all : List StateView) → AreStatesTo net r net.count all → (state : StateView) → IsState net r state → All (HavePlace all) (next_in state.act)
  next_held all each state is i d lt = go state.places is.some is.acts
    where
      z : ℕ
      z = slice_index_or (next_in state.act) i d

      go : (places : List ℕ) → places ≢ [] → ((k : ℕ) → IsIn k places → IsActAt net r k state.act) → HavePlace all z
      go [] some acts = absurd (some refl)
      go (k ∷ ks) some acts =
          let next = (act_next net r k state.act (acts k (inl refl))).sound z (in_list (next_in state.act) i d lt) in
          let there = next_in_text net roles r k z form next in
          held z all (subst (λ n. 1 ≤ n) (sym (each z)) (placed net r z (inr (there.0, there.1, next.own))))

  pub closed : (all states : List StateView) → AreStatesTo net r net.count all → AllByRecursion (IsState net r) states → AllByRecursion (λ (s : StateView). All (HavePlace all) (next_in s.act)) states
  closed all [] each are = tt
  closed all (s ∷ ss) each are = (next_held all each s are.0, closed all ss each are.1)
