-- Lanes of a full text: each is full, they are few, and their stages rise.
use Rattle.std.proofs.Common.{◌≡◌, ℕ, zero, suc, ◌+◌, ◌<◌, ◌≤◌, Bool, true, false, cond, List, [], ◌∷◌, ◌++◌, length, length-append, refl, sym, ◌∙◌, ap, subst, inl, inr, ⊎_elim, arith, ne_eqb}
use Rattle.std.specs.Prelude.{slice_get}
use Rattle.std.proofs.lemmas.Bool.Decides.{nat_tests}
use Rattle.rcv_model.specs.Text.{Body, End, Single, Choose, Loop, Again, Parallel, Call, Bodies, NoMore, Or}
use Rattle.rcv_model.specs.Form.{HasForm, IsNumberedFrom}
use Rattle.rcv_model.specs.Places.{SingleMessage, singles, singles_of, Lane, run_of, beside, lanes_behind, lanes_of, has_point, lane_among, lane_in, lane_or_none, IsNothing, IsNamed, IsFull, AreFull, OthersFull, IsFullText}
use Rattle.rcv_model.proofs.LanesOfText.{Has, has_left, has_right, in_range, singles_all, flat}
use Rattle.rcv_points.proofs.Firsts.{branches_full}

-- a full block without par is a full text
pub text_full : (b : Body) → IsFull [] [] b → IsFullText b
text_full End full = tt
text_full (Single label sorts s r p rest) full = text_full rest full
text_full (Choose s bs rest) full = (full.0, text_full rest full.1)
text_full (Loop name body rest) full = (full.0, full.1, text_full rest full.2)
text_full (Again name rest) full = absurd full.0
text_full (Parallel bs rest) full = absurd full
text_full (Call name roles rest) full = absurd full

-- each lane is full
abbrev pub AllFull : List Lane → Type 0
AllFull [] = Unit {0}
AllFull (l ∷ ls) = IsFull [] [] l.body × AllFull ls

run_full : (b : Body) → IsFullText b → IsFull [] [] (run_of b)
run_full End full = tt
run_full (Single label sorts s r p rest) full = run_full rest full
run_full (Choose s bs rest) full = (full.0, run_full rest full.1)
run_full (Loop name body rest) full = (full.0, full.1, run_full rest full.2)
run_full (Again name rest) full = absurd full
run_full (Parallel bs rest) full = tt
run_full (Call name roles rest) full = absurd full

full_beside : (s : ℕ) (bs : Bodies) (ls : List Lane) → OthersFull [] [] bs → AllFull ls → AllFull (beside s bs ++ ls)
full_beside s NoMore ls full all = all
full_beside s (Or b bs) ls full all = (full.1, full_beside s bs ls full.2 all)

full_behind : (s : ℕ) (b : Body) → IsFullText b → AllFull (lanes_behind s b)
full_behind s End full = tt
full_behind s (Single label sorts a r p rest) full = full_behind s rest full
full_behind s (Choose a bs rest) full = full_behind s rest full.1
full_behind s (Loop name body rest) full = full_behind s rest full.2
full_behind s (Again name rest) full = absurd full
full_behind s (Parallel bs rest) full = full_beside (s + 1) bs (record { stage = s + 2; body = run_of rest } ∷ lanes_behind (s + 2) rest) (branches_full [] [] bs full.0) (run_full rest full.1, full_behind (s + 2) rest full.1)
full_behind s (Call name roles rest) full = absurd full

pub lanes_full : (body : Body) → IsFullText body → AllFull (lanes_of body)
lanes_full body full = (run_full body full, full_behind 0 body full)

-- a full block that isn't empty has a point, where each enclosing rec has had none yet: it doesn't begin with a continue
mutual
  some_point : (recs bare : List (List ℕ)) (b : Body) → ((name : List ℕ) → IsNamed name recs → IsNamed name bare) → IsFull recs bare b → (IsNothing b → ⊥) → 1 ≤ length (singles b)
  some_point recs bare End sub full some = absurd (some tt)
  some_point recs bare (Single label sorts s r p rest) sub full some = omega arith
  some_point recs bare (Choose s bs rest) sub full some = let a = some_point_of recs bare bs sub full.0 in omega (arith, length-append (singles_of bs) (singles rest), a)
  some_point recs bare (Loop name body rest) sub full some =
      let a = some_point (name ∷ recs) (name ∷ bare) body (λ n i. ⊎_elim (λ e. inl e) (λ j. inr (sub n j)) i) full.1 full.0 in
      omega (arith, length-append (singles body) (singles rest), a)
  some_point recs bare (Again name rest) sub full some = absurd (full.1 (sub name full.0))
  some_point recs bare (Parallel bs rest) sub full some = absurd full
  some_point recs bare (Call name roles rest) sub full some = absurd full

  some_point_of : (recs bare : List (List ℕ)) (bs : Bodies) → ((name : List ℕ) → IsNamed name recs → IsNamed name bare) → AreFull recs bare bs → 1 ≤ length (singles_of bs)
  some_point_of recs bare NoMore sub full = absurd full
  some_point_of recs bare (Or b bs) sub full = let a = some_point recs bare b sub full.1 full.0 in omega (arith, length-append (singles b) (singles_of bs), a)

few_beside : (s : ℕ) (bs : Bodies) (ls : List Lane) → OthersFull [] [] bs → length (beside s bs ++ ls) ≤ length (singles_of bs) + length ls
few_beside s NoMore ls full = omega arith
few_beside s (Or b bs) ls full =
    let a = some_point [] [] b (λ n i. i) full.1 full.0 in
    let ih = few_beside s bs ls full.2 in
    omega (arith, length-append (singles b) (singles_of bs), a, ih)

few_behind : (s : ℕ) (b : Body) → IsFullText b → length (lanes_behind s b) ≤ length (singles b) + length (singles b)
few_behind s End full = omega arith
few_behind s (Single label sorts a r p rest) full = let ih = few_behind s rest full in omega (arith, ih)
few_behind s (Choose a bs rest) full = let ih = few_behind s rest full.1 in omega (arith, length-append (singles_of bs) (singles rest), ih)
few_behind s (Loop name body rest) full = let ih = few_behind s rest full.2 in omega (arith, length-append (singles body) (singles rest), ih)
few_behind s (Again name rest) full = absurd full
few_behind s (Parallel bs rest) full =
    let a = some_point_of [] [] bs (λ n i. i) full.0 in
    let ih = few_behind (s + 2) rest full.1 in
    let b = few_beside (s + 1) bs (record { stage = s + 2; body = run_of rest } ∷ lanes_behind (s + 2) rest) (branches_full [] [] bs full.0) in
    omega (arith, length-append (singles_of bs) (singles rest), a, ih, b)
few_behind s (Call name roles rest) full = absurd full

pub lanes_few : (body : Body) (roles : ℕ) → HasForm body roles → IsFullText body → length (lanes_of body) ≤ 513
lanes_few body roles form full = let a = few_behind 0 body full in let few = form.few_points in omega (arith, a, few)

-- stages rise
abbrev StagesFrom : ℕ → List Lane → Type 0
StagesFrom s [] = Unit {0}
StagesFrom s (l ∷ ls) = (s ≤ l.stage) × StagesFrom l.stage ls

from_lower : (s t : ℕ) (ls : List Lane) → t ≤ s → StagesFrom s ls → StagesFrom t ls
from_lower s t [] le r = tt
from_lower s t (l ∷ ls) le r = (let a = r.0 in omega (arith, a, le), r.1)

rise_beside : (s : ℕ) (bs : Bodies) (ls : List Lane) → StagesFrom s ls → StagesFrom s (beside s bs ++ ls)
rise_beside s NoMore ls r = r
rise_beside s (Or b bs) ls r = (omega arith, rise_beside s bs ls r)

rise_behind : (s : ℕ) (b : Body) → StagesFrom s (lanes_behind s b)
rise_behind s End = tt
rise_behind s (Single label sorts a r p rest) = rise_behind s rest
rise_behind s (Choose a bs rest) = rise_behind s rest
rise_behind s (Loop name body rest) = rise_behind s rest
rise_behind s (Again name rest) = rise_behind s rest
rise_behind s (Parallel bs rest) = from_lower (s + 1) s (beside (s + 1) bs ++ record { stage = s + 2; body = run_of rest } ∷ lanes_behind (s + 2) rest) (omega arith) (rise_beside (s + 1) bs (record { stage = s + 2; body = run_of rest } ∷ lanes_behind (s + 2) rest) (omega arith, rise_behind (s + 2) rest))
rise_behind s (Call name roles rest) = rise_behind s rest

rise_at : (s d : ℕ) (ls : List Lane) → StagesFrom s ls → d < length ls → s ≤ (lane_or_none (slice_get ls d)).stage
rise_at s d [] r lt = absurd (omega (arith, lt))
rise_at s zero (l ∷ ls) r lt = r.0
rise_at s (suc d) (l ∷ ls) r lt = let a = rise_at l.stage d ls r.1 (omega (arith, lt)) in let b = r.0 in omega (arith, a, b)

rise_both : (s d e : ℕ) (ls : List Lane) → StagesFrom s ls → d ≤ e → e < length ls → (lane_or_none (slice_get ls d)).stage ≤ (lane_or_none (slice_get ls e)).stage
rise_both s d e [] r le lt = absurd (omega (arith, lt))
rise_both s zero zero (l ∷ ls) r le lt = omega arith
rise_both s zero (suc e) (l ∷ ls) r le lt = rise_at l.stage e ls r.1 (omega (arith, lt))
rise_both s (suc d) zero (l ∷ ls) r le lt = absurd (omega (arith, le))
rise_both s (suc d) (suc e) (l ∷ ls) r le lt = rise_both l.stage d e ls r.1 (omega (arith, le)) (omega (arith, lt))

pub stages_in_order : (body : Body) (d e : ℕ) → d ≤ e → e < length (lanes_of body) → (lane_or_none (slice_get (lanes_of body) d)).stage ≤ (lane_or_none (slice_get (lanes_of body) e)).stage
stages_in_order body d e le lt = rise_both 0 d e (lanes_of body) (omega arith, rise_behind 0 body) le lt

-- what stands in no lane is said to be in the first one
not_among : (p : ℕ) (es : List (ℕ × SingleMessage)) → (Has p es → ⊥) → has_point p es ≡ false
not_among p [] n = refl
not_among p (e ∷ es) n = let a = ne_eqb e.0 p (λ f. n (inl f)) in let ih = not_among p es (λ h. n (inr h)) in grind (arith, nat_tests)

nowhere : (i p : ℕ) (ls : List Lane) → (Has p (singles_all ls) → ⊥) → lane_among i p ls ≡ 0
nowhere i p [] n = refl
nowhere i p (l ∷ ls) n =
    ap (λ b. cond b i (lane_among (i + 1) p ls)) (not_among p (singles l.body) (λ h. n (has_left p (singles l.body) (singles_all ls) h)))
    ∙ nowhere (i + 1) p ls (λ h. n (has_right p (singles l.body) (singles_all ls) h))

outside : (body : Body) (p : ℕ) → IsNumberedFrom 1 (singles body) → (1 ≤ p → p ≤ length (singles body) → ⊥) → lane_in body p ≡ 0
outside body p num n = nowhere 0 p (lanes_of body) (λ h. let a = in_range 1 p (singles body) num (subst (Has p) (sym (flat body)) h) in n a.0 (let b = a.1 in omega (arith, b)))

pub start_lane : (body : Body) → IsNumberedFrom 1 (singles body) → lane_in body 0 ≡ 0
start_lane body num = outside body 0 num (λ low high. omega (arith, low))

pub no_point_lane : (body : Body) (p : ℕ) → IsNumberedFrom 1 (singles body) → length (singles body) < p → lane_in body p ≡ 0
no_point_lane body p num lt = outside body p num (λ low high. omega (arith, lt, high))

-- each place's lane is one of the text's
among_below : (i p : ℕ) (ls : List Lane) → 1 ≤ length ls → lane_among i p ls < i + length ls
among_below i p [] some = absurd (omega (arith, some))
among_below i p (l ∷ []) some = go (has_point p (singles l.body))
  where
    go : (b : Bool) → cond b i 0 < i + 1
    go true = omega arith
    go false = omega arith
among_below i p (l ∷ (m ∷ ls)) some = go (has_point p (singles l.body)) (among_below (i + 1) p (m ∷ ls) (omega arith))
  where
    go : (b : Bool) → lane_among (i + 1) p (m ∷ ls) < i + 1 + length (m ∷ ls) → cond b i (lane_among (i + 1) p (m ∷ ls)) < i + suc (length (m ∷ ls))
    go true ih = omega arith
    go false ih = omega (arith, ih)

pub lane_there : (body : Body) (p : ℕ) → lane_in body p < length (lanes_of body)
lane_there body p = let a = among_below 0 p (lanes_of body) (omega arith) in omega (arith, a)
