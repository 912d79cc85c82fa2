-- A list of points is sorted: those of a lane, and the others.
use Rattle.std.proofs.Common.{◌≡◌, ℕ, cond, List, [], ◌∷◌, ◌++◌, refl, sym, ◌∙◌, ap, subst, ◌⊎◌, inl, inr, ⊎_elim, eq-eqb, ne_eqb}
use Rattle.std.specs.Prelude.{◌==◌}
use Rattle.std.proofs.lemmas.Bool.{cases_eq}
use Rattle.rcv_model.specs.Net.{Net, IsIn, moved, ComeFrom, left_by, IsLaneWalk, last_of}
use Rattle.rcv_model.specs.Table.{mark, marks}
use Rattle.rcv_model.proofs.Walks.{Ahead, moved_here, moved_else}
use Rattle.rcv_model.proofs.Parted.{IsFrom, left_from}
use Rattle.rcv_tables.proofs.Agreeing.{Within, Agree, Each, ShareNone, to_front, from_front}

-- of a list, the points of lane l and the others, each in order
pub data Sorted (net : Net) (l : ℕ) : List ℕ → List ℕ → List ℕ → Type 0 where
  no_points : Sorted net l [] [] []
  into_lane : {x : ℕ} {b u v : List ℕ} → net.lane x ≡ l → Sorted net l b u v → Sorted net l (x ∷ b) (x ∷ u) v
  past_lane : {x : ℕ} {b u v : List ℕ} → (net.lane x ≡ l → ⊥) → Sorted net l b u v → Sorted net l (x ∷ b) u (x ∷ v)

pub sort : (net : Net) (l : ℕ) (b : List ℕ) → (u : List ℕ) × (v : List ℕ) × Sorted net l b u v
sort net l [] = ([], [], no_points)
sort net l (x ∷ b) = go (sort net l b) (cases_eq (net.lane x) l)
  where
    go : (u : List ℕ) × (v : List ℕ) × Sorted net l b u v → (net.lane x ≡ l) ⊎ (net.lane x ≡ l → ⊥) → (u : List ℕ) × (v : List ℕ) × Sorted net l (x ∷ b) u v
    go s (inl e) = (x ∷ s.0, s.1, into_lane e s.2)
    go s (inr n) = (s.0, x ∷ s.1, past_lane n s.2)

-- a way within a lane from a place, as one from what is offered there
pub from_place : (net : Net) (k : ℕ) (u : List ℕ) → IsFrom net (net.offers k) u → IsLaneWalk net k u
from_place net k [] f = tt
from_place net k (y ∷ u) f = f

pub left_place : (net : Net) (k : ℕ) (u : List ℕ) → left_from net (net.offers k) u ≡ net.offers (last_of k u)
left_place net k [] = refl
left_place net k (y ∷ u) = refl

module _ (net : Net) (l : ℕ) where
  pub of_lane : {b u v : List ℕ} → Sorted net l b u v → (x : ℕ) → IsIn x u → IsIn x b × (net.lane x ≡ l)
  of_lane no_points x i = absurd i
  of_lane (into_lane {x = y} e s) x (inl f) = (inl f, ap net.lane f ∙ e)
  of_lane (into_lane {x = y} e s) x (inr i) = let r = of_lane s x i in (inr r.0, r.1)
  of_lane (past_lane {x = y} n s) x i = let r = of_lane s x i in (inr r.0, r.1)

  pub of_others : {b u v : List ℕ} → Sorted net l b u v → (x : ℕ) → IsIn x v → IsIn x b × (net.lane x ≡ l → ⊥)
  of_others no_points x i = absurd i
  of_others (into_lane {x = y} e s) x i = let r = of_others s x i in (inr r.0, r.1)
  of_others (past_lane {x = y} n s) x (inl f) = (inl f, λ e. n (ap net.lane (sym f) ∙ e))
  of_others (past_lane {x = y} n s) x (inr i) = let r = of_others s x i in (inr r.0, r.1)

  -- one point more
  pub more_of_lane : {b u v : List ℕ} → Sorted net l b u v → (z : ℕ) → net.lane z ≡ l → Sorted net l (b ++ z ∷ []) (u ++ z ∷ []) v
  more_of_lane no_points z e = into_lane e no_points
  more_of_lane (into_lane f s) z e = into_lane f (more_of_lane s z e)
  more_of_lane (past_lane n s) z e = past_lane n (more_of_lane s z e)

  pub more_of_others : {b u v : List ℕ} → Sorted net l b u v → (z : ℕ) → (net.lane z ≡ l → ⊥) → Sorted net l (b ++ z ∷ []) u (v ++ z ∷ [])
  more_of_others no_points z m = past_lane m no_points
  more_of_others (into_lane f s) z m = into_lane f (more_of_others s z m)
  more_of_others (past_lane n s) z m = past_lane n (more_of_others s z m)

  -- points of the lane share no role with points of others that stand before them
  abbrev pub Yields : List ℕ → Type 0
  Yields [] = Unit {0}
  Yields (y ∷ b) = ((net.lane y ≡ l → ⊥) → (x : ℕ) → IsIn x b → net.lane x ≡ l → ShareNone net x y) × Yields b

  -- then the lane may come first
  lane_first : {b u v : List ℕ} → Sorted net l b u v → (m : List ℕ) → Yields b → Within Each (marks net m b) (marks net m (u ++ v))
  lane_first no_points m h r c i = i
  lane_first (into_lane {x = x} e s) m h r c i = lane_first s (mark net m x) h.1 r tt i
  lane_first (past_lane {x = y} {u = u} {v = v} n s) m h r c i = from_front net m u y v (λ x j. let t = of_lane s x j in h.0 n x t.0 t.1) r tt (lane_first s (mark net m y) h.1 r tt i)

  lane_back' : {b u v : List ℕ} → Sorted net l b u v → (m : List ℕ) → Yields b → Within Each (marks net m (u ++ v)) (marks net m b)
  lane_back' no_points m h r c i = i
  lane_back' (into_lane {x = x} e s) m h r c i = lane_back' s (mark net m x) h.1 r tt i
  lane_back' (past_lane {x = y} {u = u} {v = v} n s) m h r c i = lane_back' s (mark net m y) h.1 r tt (to_front net m u y v (λ x j. let t = of_lane s x j in h.0 n x t.0 t.1) r tt i)

  pub sorted_marks : {b u v : List ℕ} → Sorted net l b u v → (m : List ℕ) → Yields b → Agree Each (marks net m b) (marks net m (u ++ v))
  sorted_marks s m h = (lane_first s m h, lane_back' s m h)

  -- a walk, as the lane has it
  pub goes_in : {b u v : List ℕ} → Sorted net l b u v → (ahead : Ahead) → ComeFrom net ahead b → IsFrom net (ahead l) u
  goes_in no_points ahead c = tt
  goes_in (into_lane {x = x} {u = u} e s) ahead c = (subst (λ k. IsIn x (ahead k)) e c.0.offered, from_place net x u (subst (λ ps. IsFrom net ps u) (moved_here net ahead x l (sym e)) (goes_in s (moved net ahead x) c.1)))
  goes_in (past_lane {x = x} {u = u} n s) ahead c = subst (λ ps. IsFrom net ps u) (moved_else net ahead x l (λ e. n (sym e))) (goes_in s (moved net ahead x) c.1)

  pub leaves_in : {b u v : List ℕ} → Sorted net l b u v → (ahead : Ahead) → left_by net ahead b l ≡ left_from net (ahead l) u
  leaves_in no_points ahead = refl
  leaves_in (into_lane {x = x} {u = u} e s) ahead = leaves_in s (moved net ahead x) ∙ ap (λ ps. left_from net ps u) (moved_here net ahead x l (sym e)) ∙ left_place net x u
  leaves_in (past_lane {x = x} {u = u} n s) ahead = leaves_in s (moved net ahead x) ∙ ap (λ ps. left_from net ps u) (moved_else net ahead x l (λ e. n (sym e)))

  -- and without the lane
  pub goes_past : {b u v : List ℕ} → Sorted net l b u v → (all own : Ahead) → ((k : ℕ) → (k ≡ l → ⊥) → own k ≡ all k) → own l ≡ [] → ComeFrom net all b → ComeFrom net own v
  goes_past no_points all own same none c = tt
  goes_past (into_lane {x = x} e s) all own same none c = goes_past s (moved net all x) own (λ k m. same k m ∙ sym (moved_else net all x k (λ f. m (f ∙ e)))) none c.1
  goes_past (past_lane {x = x} n s) all own same none c = (
    record { offered = subst (IsIn x) (sym (same (net.lane x) n)) c.0.offered; ended = λ k lt. ⊎_elim (λ e. ap own e ∙ none) (λ m. same k m ∙ c.0.ended k lt) (cases_eq k l) },
    goes_past s (moved net all x) (moved net own x) still (moved_else net own x l (λ e. n (sym e)) ∙ none) c.1,
  )
    where
      still : (k : ℕ) → (k ≡ l → ⊥) → moved net own x k ≡ moved net all x k
      still k m = ⊎_elim (λ e. moved_here net own x k e ∙ sym (moved_here net all x k e)) (λ d. moved_else net own x k d ∙ same k m ∙ sym (moved_else net all x k d)) (cases_eq k (net.lane x))

-- a lane is shut
pub shut : Ahead → ℕ → Ahead
shut ahead l k = cond (k == l) [] (ahead k)

pub shut_here : (ahead : Ahead) (l k : ℕ) → k ≡ l → shut ahead l k ≡ []
unfolding shut
shut_here ahead l k e = ap (λ b. cond b [] (ahead k)) (eq-eqb k l e)

pub shut_else : (ahead : Ahead) (l k : ℕ) → (k ≡ l → ⊥) → shut ahead l k ≡ ahead k
unfolding shut
shut_else ahead l k n = ap (λ b. cond b [] (ahead k)) (ne_eqb k l n)
