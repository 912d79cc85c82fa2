-- What a role meets is what a place offers or what a lane begins with, so a fork is found there.
use Rattle.std.proofs.Common.{◌≡◌, ◌≤◌, ◌<◌, ℕ, ◌+◌, Bool, true, false, ◌==◌, ◌&&◌, not, nat_le, List, [], ◌∷◌, ◌++◌, append-nil, length, get_or, refl, sym, ◌∙◌, ap, subst, inl, inr, ⊎_elim, arith}
use Rattle.std.specs.Prelude.{◌⊎◌, if◌then◌else◌, Option, Some, None, MatchOption}
use Rattle.std.proofs.lemmas.Bool.{cases_lt}
use Rattle.std.proofs.lemmas.List.{get_or_past}
use Rattle.rcv_model.specs.Net.{Net, IsIn}
use Rattle.rcv_model.specs.Next.{has_end, is_nil, next_begins, owns, met_behind, met_by, points_in}
use Rattle.rcv_points.specs.Follow.{PointsView, no_lane, net_in}
use Rattle.rcv_points.specs.Ahead.{IsMetBy}
use Rattle.rcv_accept.specs.Lists.{IsInText, AreInText}
use Rattle.rcv_listing.specs.declared.written.PointLines.{PointLines}
use Rattle.rcv_listing.specs.Lines.{choice_text, IsWay, choice, nothing}
use Rattle.rcv_listing.specs.Way.{IsForkOf, IsInTheWay}

-- These are none, or what some place offers, or what some lane begins with.
abbrev IsGiven : Net → List ℕ → Type 0
IsGiven net ps = (ps ≡ []) ⊎ (((k : ℕ) × (ps ≡ net.offers k)) ⊎ ((l : ℕ) × (ps ≡ net.begins l)))

begins_given : (net : Net) (r s : ℕ) (ps : List ℕ) → IsGiven net (next_begins net r s ps)
begins_given net r s [] = inl refl
begins_given net r s (p ∷ ps) = go (has_end net r p && (nat_le s (net.stage (net.lane p)) && not (is_nil (net.begins (net.lane p))))) (begins_given net r s ps)
  where
    go : (here : Bool) → IsGiven net (next_begins net r s ps) → IsGiven net (if here then net.begins (net.lane p) else next_begins net r s ps)
    go true rest = inr (inr (net.lane p, refl))
    go false rest = rest

behind_given : (net : Net) (r k : ℕ) (ps : List ℕ) → (ps ≡ []) ⊎ (ps ≡ net.offers k) → IsGiven net (met_behind net r k ps)
behind_given net r k [] h = begins_given net r (net.stage (net.lane k) + 1) (points_in net)
behind_given net r k (p ∷ ps) (inl e) = absurd cc
behind_given net r k (p ∷ ps) (inr e) = inr (inl (k, e))

met_given : (net : Net) (r k : ℕ) → IsGiven net (met_by net r k)
met_given net r k = go (k == 0) (owns net r (net.lane k))
  where
    go : (start owned : Bool)
        → IsGiven net (if start then next_begins net r 0 (points_in net) else (if owned then met_behind net r k (net.offers k) else met_behind net r k []))
    go true owned = begins_given net r 0 (points_in net)
    go false true = behind_given net r k (net.offers k) (inr refl)
    go false false = behind_given net r k [] (inl refl)

abbrev NoneAtPlaces : PointsView → ℕ → ℕ → Type 0
NoneAtPlaces points r k = (j p : ℕ) → j ≤ length points.messages → IsForkOf (net_in points) r k ((net_in points).offers j) p → ⊥

abbrev NoneAtLanes : PointsView → ℕ → ℕ → Type 0
NoneAtLanes points r k = (l p : ℕ) → l < length points.lanes → IsForkOf (net_in points) r k ((net_in points).begins l) p → ⊥

at_place : (points : PointsView) (r k j p : ℕ) → length points.places ≡ length points.messages + 1 → NoneAtPlaces points r k
    → IsForkOf (net_in points) r k ((net_in points).offers j) p → ⊥
at_place points r k j p all none fork = ⊎_elim
    (λ less. none j p (omega (arith, less)) fork)
    (λ past. let gone : (net_in points).offers j ≡ [] = get_or_past points.places j [] (omega (arith, past, all)) in
    let some = fork.2 in absurd cc)
    (cases_lt j (length points.messages + 1))

at_lane : (points : PointsView) (r k l p : ℕ) → NoneAtLanes points r k → IsForkOf (net_in points) r k ((net_in points).begins l) p → ⊥
at_lane points r k l p none fork = ⊎_elim
    (λ less. none l p less fork)
    (λ past. let gone : (net_in points).begins l ≡ [] = ap (λ lane. lane.begins) (get_or_past points.lanes l no_lane past) in
    let some = fork.2 in absurd cc)
    (cases_lt l (length points.lanes))

pub no_fork : (points : PointsView) (r k : ℕ) → length points.places ≡ length points.messages + 1 → NoneAtPlaces points r k → NoneAtLanes points r k
    → (p : ℕ) → IsInTheWay (net_in points) r k p → ⊥
no_fork points r k all places lanes p (ps, fork) = go (met_given (net_in points) r fork.3.0)
  where
    go : IsGiven (net_in points) (met_by (net_in points) r fork.3.0) → ⊥
    go (inl e) = let is = fork.2 in let met = fork.3.2 in absurd cc
    go (inr (inl (i, e))) = let same : ps ≡ (net_in points).offers i = sym fork.3.2 ∙ e in
        at_place points r k i p all places (subst (λ (xs : List ℕ). IsForkOf (net_in points) r k xs p) same fork)
    go (inr (inr (l, e))) = let same : ps ≡ (net_in points).begins l = sym fork.3.2 ∙ e in
        at_lane points r k l p lanes (subst (λ (xs : List ℕ). IsForkOf (net_in points) r k xs p) same fork)

pub fork_or_none : (points : PointsView) (r k : ℕ) (o : Option ℕ) → length points.places ≡ length points.messages + 1 → NoneAtPlaces points r k
    → MatchOption o (NoneAtLanes points r k) (IsInTheWay (net_in points) r k)
    → MatchOption o ((p : ℕ) → IsInTheWay (net_in points) r k p → ⊥) (IsInTheWay (net_in points) r k)
fork_or_none points r k (Some p) all places h = h
fork_or_none points r k None all places h = no_fork points r k all places h

-- ---- one list of points

pub too_few : (net : Net) (r k : ℕ) (ps : List ℕ) (p : ℕ) → length ps < 2 → IsForkOf net r k ps p → ⊥
too_few net r k ps p few (q, more, is, met) = let long = ap length is in omega (arith, few, long)

pub fork_here : (net : Net) (r k : ℕ) (ps : List ℕ) (p : ℕ) → 2 ≤ length ps → p ≡ get_or ps 0 p → IsMetBy net r k ps → IsForkOf net r k ps p
fork_here net r k [] p l e met = absurd (omega (arith, l))
fork_here net r k (x ∷ []) p l e met = absurd (omega (arith, l))
fork_here net r k (x ∷ q ∷ more) p l e met = (q, more, ap (λ (y : ℕ). y ∷ q ∷ more) (sym e), met)

pub fork_in_text : (net : Net) (r k : ℕ) (ps : List ℕ) (p : ℕ) → AreInText net ps → IsForkOf net r k ps p → IsInText net p
fork_in_text net r k ps p all (q, more, is, met) = all p (subst (IsIn p) (sym is) (inl refl))

-- ---- what is said of the choice

pub way_told : (roles : List (List ℕ)) (net : Net) (lines : List PointLines) (code role number p : ℕ) (before after : List ℕ) → code ≡ 24
    → IsInTheWay net role number p → after ≡ before ++ choice_text roles net lines p
    → (way : List ℕ) × IsWay roles net lines code role number way × (after ≡ before ++ way)
way_told roles net lines code role number p before after is there told = rw is (choice_text roles net lines p, choice p there, told)

pub no_way_told : (roles : List (List ℕ)) (net : Net) (lines : List PointLines) (code role number : ℕ) (before : List ℕ)
    → (code ≡ 24 → (p : ℕ) → IsInTheWay net role number p → ⊥)
    → (way : List ℕ) × IsWay roles net lines code role number way × (before ≡ before ++ way)
no_way_told roles net lines code role number before none = ([], nothing none, sym (append-nil before))
