-- Where there is one lane, walks in text order are walks within it.
use Rattle.std.proofs.Common.{◌≡◌, ℕ, zero, suc, ◌<◌, ◌≤◌, List, [], ◌++◌, length, refl, sym, ◌∙◌, ap, subst, append-nil, arith}
use Rattle.std.specs.Prelude.{◌↔◌}
use Rattle.rcv_model.specs.Net.{Net, IsLaneWalk, IsLaneEnded, HasOneLane}
use Rattle.rcv_model.specs.Text.{Body}
use Rattle.rcv_model.specs.Places.{lanes_of, HasNoPar, net_of}
use Rattle.rcv_model.proofs.OneLane.{one_lane}
use Rattle.rcv_parallel.specs.TextOrder.{joined, IsInTextOrder, AreEnded}

-- a list in lane 0, and nothing in others
alone : List ℕ → ℕ → List ℕ
alone w zero = w
alone w (suc l) = []

-- where all others are empty, the lists joined are the first
first_alone : (n : ℕ) (walks : ℕ → List ℕ) → ((l : ℕ) → suc l < suc n → walks (suc l) ≡ []) → joined (suc n) walks ≡ walks 0
first_alone zero walks none = refl
first_alone (suc n) walks none =
    ap (λ u. joined (suc n) walks ++ u) (none n (omega arith))
    ∙ append-nil (joined (suc n) walks)
    ∙ first_alone n walks (λ l lt. none l (omega (arith, lt)))

module _ (net : Net) (k : ℕ) (w : List ℕ) (one : HasOneLane net) where
  first_is : (n : ℕ) (t : IsInTextOrder net (suc n) k w) → t.walks 0 ≡ w
  first_is n t = sym (first_alone n t.walks (λ l lt. t.are.shut (suc l) lt (λ e. omega (arith, e, one.lanes k)) (omega (arith, one.stages (suc l), one.stages (net.lane k))))) ∙ t.whole

  to_lane : (n : ℕ) → IsInTextOrder net (suc n) k w → IsLaneWalk net k w
  to_lane n t = subst (IsLaneWalk net k) (ap t.walks (one.lanes k) ∙ first_is n t) t.are.own

  of_lane : (n : ℕ) → IsLaneWalk net k w → IsInTextOrder net (suc n) k w
  unfolding alone
  of_lane n walk = record {
    walks = alone w;
    are = record {
      own = subst (λ l. IsLaneWalk net k (alone w l)) (sym (one.lanes k)) walk;
      later = λ l lt less. absurd (omega (arith, less, one.stages l, one.stages (net.lane k)));
      shut = shut;
      in_turn = λ l m lt_l lt_m less some. absurd (omega (arith, less, one.stages l, one.stages m));
    };
    whole = first_alone n (alone w) (λ l lt. refl);
  }
    where
      shut : (l : ℕ) → l < suc n → (l ≡ net.lane k → ⊥) → net.stage l ≤ net.stage (net.lane k) → alone w l ≡ []
      shut zero lt m le = absurd (m (sym (one.lanes k)))
      shut (suc l) lt m le = refl

  to_end : (n : ℕ) (t : IsInTextOrder net (suc n) k w) → AreEnded net (suc n) k t.walks → IsLaneEnded net k w
  to_end n t ends = subst (IsLaneEnded net k) (first_is n t) ((ends 0 (omega arith)).own (sym (one.lanes k)))

  of_end : (n : ℕ) (t : IsInTextOrder net (suc n) k w) → IsLaneEnded net k w → AreEnded net (suc n) k t.walks
  of_end n t end l lt = record {
    own = λ e. subst (IsLaneEnded net k) (sym (ap t.walks (e ∙ one.lanes k) ∙ first_is n t)) end;
    later = λ less. absurd (omega (arith, less, one.stages l, one.stages (net.lane k)));
  }

  pub lane_order : (lanes : ℕ) → 1 ≤ lanes → (IsInTextOrder net lanes k w ↔ IsLaneWalk net k w) × ((t : IsInTextOrder net lanes k w) → AreEnded net lanes k t.walks ↔ IsLaneEnded net k w)
  lane_order zero le = absurd (omega arith)
  lane_order (suc n) le = ((to_lane n, of_lane n), λ t. (to_end n t, of_end n t))

pub no_par_order : (body : Body) (k : ℕ) (w : List ℕ) → HasNoPar body → (IsInTextOrder (net_of body) (length (lanes_of body)) k w ↔ IsLaneWalk (net_of body) k w) × ((t : IsInTextOrder (net_of body) (length (lanes_of body)) k w) → AreEnded (net_of body) (length (lanes_of body)) k t.walks ↔ IsLaneEnded (net_of body) k w)
no_par_order body k w none = lane_order (net_of body) k w (one_lane body none) (length (lanes_of body)) (omega arith)
