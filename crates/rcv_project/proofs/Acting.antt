-- What a role does at a place follows from its next points there.
use Rattle.std.proofs.Common.{◌≡◌, ◌≢◌, ℕ, ◌<◌, ◌≤◌, List, [], ◌∷◌, refl, sym, ◌∙◌, ap, subst, inl, ⊎_elim}
use Rattle.std.proofs.lemmas.Bool.{cases_eq}
use Rattle.rcv_model.specs.Net.{Net, IsIn, HasTwoEnds}
use Rattle.rcv_model.specs.Text.{Body}
use Rattle.rcv_model.specs.Places.{net_of}
use Rattle.rcv_model.specs.Form.{HasForm}
use Rattle.rcv_model.specs.Next.{IsNext, AreNext, IsPlaceOf, IsProper, IsAccepted}
use Rattle.rcv_model.proofs.Forms.{proper}
use Rattle.rcv_model.proofs.Ways.{next_in_text as in_text}
use Rattle.rcv_model.proofs.NextLists.{lists_exist}
use Rattle.rcv_model.proofs.Same.{one_next}
use Rattle.rcv_project.specs.Act.{ActView, Sending, Receiving, Ended, AreSentBy, AreReceivedBy, IsActAt}

-- a next point stands in the text
pub next_in_text : (net : Net) (roles r k z : ℕ) → IsProper net roles → IsNext net r k z → (1 ≤ z) × (z ≤ net.count)
next_in_text = in_text

-- each point of an accepted text is received by a role of the protocol
pub receiver_declared : (body : Body) (roles p : ℕ) → HasForm body roles → IsAccepted (net_of body) roles → 1 ≤ p → p ≤ (net_of body).count → (net_of body).receiver p < roles
receiver_declared body roles p form accepted low high = (proper body roles form).receivers p low high

-- the next points of a role that sends one of them, and of one that doesn't
module _ (net : Net) (roles r k : ℕ) (accepted : IsAccepted net roles) (declared : r < roles) (at : IsPlaceOf net r k) where
  pub all_sent : (z : ℕ) (zs : List ℕ) → AreNext net r k zs → IsIn z zs → net.sender z ≡ r → AreSentBy net r zs
  all_sent z zs next among sent x i =
      ⊎_elim (λ s. s) (λ t. absurd (accepted.unmixed r k z x declared at (next.sound z among) (next.sound x i) sent t)) (next.sound x i).own

  pub all_received : (z : ℕ) (zs : List ℕ) → AreNext net r k zs → IsIn z zs → (net.sender z ≡ r → ⊥) → AreReceivedBy net r (net.sender z) zs
  all_received z zs next among other x i =
      let got : net.receiver z ≡ r = ⊎_elim (λ s. absurd (other s)) (λ t. t) (next.sound z among).own in
      let here : net.receiver x ≡ r = ⊎_elim (λ s. absurd (accepted.unmixed r k x z declared at (next.sound x i) (next.sound z among) s got)) (λ t. t) (next.sound x i).own in
      (here, accepted.one_sender r k x z declared at (next.sound x i) (next.sound z among) here got)

  pub act_exists : (zs : List ℕ) → AreNext net r k zs → (act : ActView) × IsActAt net r k act
  act_exists [] next = (Ended, next)
  act_exists (z ∷ zs) next = ⊎_elim
      (λ s. (Sending (z ∷ zs), (next, λ e. absurd (cc), all_sent z (z ∷ zs) next (inl refl) s)))
      (λ n. (Receiving (net.sender z) (z ∷ zs), (next, λ e. absurd (cc), all_received z (z ∷ zs) next (inl refl) n)))
      (cases_eq (net.sender z) r)

-- a role does one thing at a place
module _ (net : Net) (r k : ℕ) (ends : HasTwoEnds net) where
  -- points that are sent aren't received
  not_both : (xs ys : List ℕ) (from : ℕ) → xs ≡ ys → xs ≢ [] → AreSentBy net r xs → AreReceivedBy net r from ys → ⊥
  not_both [] ys from same some sent got = some refl
  not_both (x ∷ xs) ys from same some sent got = ends x (sent x (inl refl) ∙ sym (got x (subst (IsIn x) same (inl refl))).0)

  one_sender : (xs ys : List ℕ) (from to : ℕ) → xs ≡ ys → xs ≢ [] → AreReceivedBy net r from xs → AreReceivedBy net r to ys → from ≡ to
  one_sender [] ys from to same some a b = absurd (some refl)
  one_sender (x ∷ xs) ys from to same some a b = sym (a x (inl refl)).1 ∙ (b x (subst (IsIn x) same (inl refl))).1

  pub one_act : (a b : ActView) → IsActAt net r k a → IsActAt net r k b → a ≡ b
  one_act (Sending xs) (Sending ys) a b = ap Sending (one_next net r k xs ys a.0 b.0)
  one_act (Sending xs) (Receiving from ys) a b = absurd (not_both xs ys from (one_next net r k xs ys a.0 b.0) a.1 a.2 b.2)
  one_act (Sending xs) Ended a b = absurd (a.1 (one_next net r k xs [] a.0 b))
  one_act (Receiving from xs) (Sending ys) a b = absurd (not_both ys xs from (one_next net r k ys xs b.0 a.0) b.1 b.2 a.2)
  one_act (Receiving from xs) (Receiving to ys) a b =
      let same = one_next net r k xs ys a.0 b.0 in
      ap (λ n. Receiving n xs) (one_sender xs ys from to same a.1 a.2 b.2) ∙ ap (Receiving to) same
  one_act (Receiving from xs) Ended a b = absurd (a.1 (one_next net r k xs [] a.0 b))
  one_act Ended (Sending ys) a b = absurd (b.1 (one_next net r k ys [] b.0 a))
  one_act Ended (Receiving to ys) a b = absurd (b.1 (one_next net r k ys [] b.0 a))
  one_act Ended Ended a b = refl

pub there_is_one_act : (body : Body) (roles r k : ℕ) → HasForm body roles → IsAccepted (net_of body) roles → r < roles → IsPlaceOf (net_of body) r k → (act : ActView) × IsActAt (net_of body) r k act × ((other : ActView) → IsActAt (net_of body) r k other → other ≡ act)
there_is_one_act body roles r k form accepted declared at =
    let list = lists_exist (net_of body) roles r k (proper body roles form) in
    let act = act_exists (net_of body) roles r k accepted declared at list.0 list.1 in
    (act.0, act.1, λ other is. one_act (net_of body) r k (proper body roles form).two_ends other act.0 is act.1)
