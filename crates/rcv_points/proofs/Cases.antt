-- What is ahead in texts with a par, computed: what may come and what may not, and what roles meet along their lanes.
use Rattle.std.proofs.Common.{◌≡◌, ℕ, ◌<◌, List, [], ◌∷◌, ◌++◌, refl, sym, ◌∙◌, ap, subst, inl, inr, ⊎_elim, arith}
use Rattle.rcv_model.specs.Text.{End, Single, Loop, Again, Parallel, NoMore, Or}
use Rattle.rcv_model.specs.Net.{Net, IsIn, opened, IsLaneWalk, IsLaneEnded}
use Rattle.rcv_model.specs.Next.{met_by, seen_by, Chain, here, on}
use Rattle.rcv_model.specs.Places.{net_of}
use Rattle.rcv_model.proofs.Forms.{proper}
use Rattle.rcv_points.proofs.TwoLanes.{two_lanes, two_form}
use Rattle.rcv_model.proofs.Lanes.{opens, Opens, at_own, at_later, at_shut}
use Rattle.rcv_model.proofs.Completing.{at_end, by_way}
use Rattle.rcv_model.proofs.Parted.{IsFrom, CanEndBy, by_lanes}
use Rattle.rcv_points.specs.Ahead.{MayComeTo, IsMetBy}
use Rattle.rcv_points.specs.Met.{HasOwn}

some : (x : ℕ) (xs : List ℕ) → x ∷ xs ≡ [] → ⊥
some x xs e = cc

-- par { a from A to B; } and { c from C to D; } e from B to C; e may come behind a, with no point of B before it
abbrev net : Net
net = net_of two_lanes

e_may_come : MayComeTo net 1 1 3
e_may_come = ([], (record { offered = inl refl; ended = ended }, tt), tt)
  where
    ended : (l : ℕ) → net.stage l < 2 → opened net 1 l ≡ []
    ended l lt = go (opens net 1 l)
      where
        go : Opens net 1 l → opened net 1 l ≡ []
        go (at_own e f) = f
        go (at_later n less f) = absurd (omega (arith, lt, less))
        go (at_shut n m f) = f

-- c stands in the lane beside, and may not
c_may_not : MayComeTo net 1 1 2 → ⊥
c_may_not a =
    let by = by_lanes net 4 (proper two_lanes 4 two_form) 1 (opened net 1) 2 (record { way = a.0; walk = a.1; none = a.2 }) in
    go by.lane.way by.lane.walk
  where
    go : (way : List ℕ) → IsFrom net [] (way ++ 2 ∷ []) → ⊥
    go [] walk = walk.0
    go (x ∷ v) walk = walk.0

-- so B meets e behind a, in the lane of another stage
b_meets : IsMetBy net 1 1 (3 ∷ [])
b_meets = (1, here, refl)

-- A meets nothing there, on the whole chain
a_chain : {j : ℕ} → Chain (seen_by net 0) 0 1 j → j ≡ 1
a_chain here = refl
a_chain (on {j = j} {p = p} c e n) = absurd (some p [] (sym e ∙ ap (met_by net 0) (a_chain c)))

a_meets_none : IsMetBy net 0 1 (3 ∷ []) → ⊥
a_meets_none a = some 3 [] (sym a.2 ∙ ap (met_by net 0) (a_chain a.1))

-- a from A to B; par { c from C to D; } and { d from E to F; } e from A to B;
abbrev between : Net
between =
    net_of (Single (97 ∷ []) [] 0 1 1 (Parallel (Or (Single (99 ∷ []) [] 2 3 2 End) (Or (Single (100 ∷ []) [] 4 5 3 End) NoMore)) (Single (101 ∷ []) [] 0 1 4 End)))

-- A has no lane in the stage between, and meets e behind a; C meets c alone
a_meets : met_by between 0 0 ++ met_by between 0 1 ++ met_by between 0 4 ≡ 1 ∷ 4 ∷ []
a_meets = refl

c_meets : met_by between 2 0 ++ met_by between 2 2 ≡ 2 ∷ []
c_meets = refl

-- in another role's lane A meets what its own next one begins with
a_meets_elsewhere : met_by between 0 3 ≡ 4 ∷ []
a_meets_elsewhere = refl

-- the lane of a is one of A, and that of c isn't
a_is_own : HasOwn between 0 (between.lane 1)
a_is_own = (1, omega arith, omega arith, inl refl, refl)

-- rec X { t from A to B; continue X; } par { u from A to B; } and { v from C to D; }: the first stage never ends
abbrev never_left : Net
never_left =
    net_of (Loop (88 ∷ []) (Single (116 ∷ []) [] 0 1 1 (Again (88 ∷ []) End)) (Parallel (Or (Single (117 ∷ []) [] 0 1 2 End) (Or (Single (118 ∷ []) [] 2 3 3 End) NoMore)) End))

round : (k : ℕ) (w : List ℕ) → never_left.offers k ≡ 1 ∷ [] → IsLaneWalk never_left k w → IsLaneEnded never_left k w → ⊥
round k [] e walk end = some 1 [] (sym e ∙ end)
round k (p ∷ w) e walk end = round p w (ap never_left.offers (only (subst (IsIn p) e walk.0))) walk.1 end
  where
    only : IsIn p (1 ∷ []) → p ≡ 1
    only (inl f) = f
    only (inr i) = absurd i

stays : CanEndBy never_left 2 (1 ∷ []) → ⊥
stays (at_end e) = some 1 [] e
stays (by_way x v i walk end fits) = ⊎_elim (λ f. round x v (ap never_left.offers f) walk end) (λ j. j) i
