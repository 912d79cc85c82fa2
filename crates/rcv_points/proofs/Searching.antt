-- A search that visits places in turn has found all that can come.
use Rattle.std.proofs.Common.{◌≡◌, ℕ, ◌+◌, ◌<◌, ◌≤◌, List, [], ◌∷◌, ◌++◌, length, length-append, get_or, refl, sym, ◌∙◌, ap, subst, ◌⊎◌, inl, inr, ⊎_elim, arith}
use Rattle.std.proofs.lemmas.Bool.{cases_eq}
use Rattle.rcv_model.specs.Net.{Net, IsIn, IsLaneWalk, IsPrefix, last_of}
use Rattle.rcv_model.specs.Next.{HasNone, IsProper}
use Rattle.rcv_model.proofs.Walks.{lane_join}
use Rattle.rcv_model.proofs.Parts.{last_more, none_join}
use Rattle.rcv_points.specs.Found.{Adds, AreInText, IsOther, IsWay, IsWayFrom, ArePlacesFrom}
use Rattle.rcv_points.proofs.Adding.{in_at, place_in, in_kept, at_kept}

-- what was found fits, with all that it begins with; and all that the first places lead to was found
pub record SoFar (First Fits : ℕ → Type 0) (Leads : ℕ → ℕ → Type 0) (places : List ℕ) (done : ℕ) : Type 0 where
  pub start : (s : ℕ) → First s → IsIn s places
  pub sound : (j : ℕ) → IsIn j places → Fits j
  pub closed : (i p : ℕ) → i < done → Leads (get_or places i 0) p → IsIn p places
  pub within : done ≤ length places

module _ (First Fits : ℕ → Type 0) (Leads : ℕ → ℕ → Type 0) where
  pub at_start : (places : List ℕ) → ((s : ℕ) → First s → Fits s) → Adds First [] places → SoFar First Fits Leads places 0
  at_start places fits a = record {
    start = λ s f. a.all s f;
    sound = λ j i. ⊎_elim (λ none. absurd none) (λ f. fits j f) (a.only j i);
    closed = λ i p lt o. absurd (omega (arith, lt));
    within = omega arith;
  }

  length_kept : (old now : List ℕ) → IsPrefix old now → length old ≤ length now
  length_kept old now p = let e = ap length p.1 in omega (arith, length-append old p.0, e)

  pub visited : (places new : List ℕ) (done : ℕ) → ((p : ℕ) → Fits (get_or places done 0) → Leads (get_or places done 0) p → Fits p) → SoFar First Fits Leads places done → done < length places → Adds (Leads (get_or places done 0)) places new → SoFar First Fits Leads new (done + 1)
  visited places new done fits s lt a = record {
    start = λ x f. in_kept x places new a.kept (s.start x f);
    sound = λ j i. ⊎_elim (λ m. s.sound j m) (λ o. fits j (s.sound (get_or places done 0) (in_at places done lt)) o) (a.only j i);
    closed = λ i p below o. go i p (cases_eq i done) below o;
    within = let le = length_kept places new a.kept in omega (arith, le, lt);
  }
    where
      go : (i p : ℕ) → (i ≡ done) ⊎ (i ≡ done → ⊥) → i < done + 1 → Leads (get_or new i 0) p → IsIn p new
      go i p (inl e) below o = a.all p (subst (λ x. Leads x p) (ap (λ x. get_or new x 0) e ∙ at_kept places new done a.kept lt) o)
      go i p (inr n) below o =
          let less : i < done = omega (arith, below, n) in
          let old = at_kept places new i a.kept (omega (arith, less, lt)) in
          in_kept p places new a.kept (s.closed i p less (subst (λ x. Leads x p) old o))

  -- at its end each place that was found leads to such alone
  pub all_visited : (places : List ℕ) (done : ℕ) → SoFar First Fits Leads places done → length places ≤ done → (j p : ℕ) → IsIn j places → Leads j p → IsIn p places
  all_visited places done s le j p i o = let a = place_in j places i in s.closed a.0 p (let lt = a.1 in omega (arith, lt, le)) (subst (λ x. Leads x p) (sym a.2) o)

-- The search through a lane.
module _ (net : Net) (r : ℕ) where
  abbrev pub LeadsOn : ℕ → ℕ → Type 0
  LeadsOn k p = IsOther net r (net.offers k) p

  pub way_on : (ps : List ℕ) (j p : ℕ) → IsWayFrom net r ps j → LeadsOn j p → IsWayFrom net r ps p
  way_on ps j p a o = (a.0, a.1, on a.2)
    where
      on : IsWay net r a.0 j → IsWay net r a.0 p
      on w = (w.0 ++ p ∷ [], lane_join net a.0 w.0 (p ∷ []) w.1 (subst (λ x. IsIn p (net.offers x)) (sym w.3) o.0, tt), none_join net r w.0 (p ∷ []) w.2 (o.1, tt), last_more a.0 p w.0)

  pub way_first : (ps : List ℕ) (s : ℕ) → IsOther net r ps s → IsWayFrom net r ps s
  way_first ps s o = (s, o, ([], tt, tt, refl))

  -- a way keeps within the text
  walk_within : (roles k : ℕ) (w : List ℕ) → IsProper net roles → k ≤ net.count → IsLaneWalk net k w → last_of k w ≤ net.count
  walk_within roles k [] proper le walk = le
  walk_within roles k (p ∷ w) proper le walk = walk_within roles p w proper (proper.in_text k p walk.0).1 walk.1

  pub way_within : (roles : ℕ) (ps : List ℕ) (j : ℕ) → IsProper net roles → AreInText net ps → IsWayFrom net r ps j → j ≤ net.count
  way_within roles ps j proper text a = subst (λ x. x ≤ net.count) a.2.3 (walk_within roles a.0 a.2.0 proper (text a.0 a.1.0).1 a.2.1)

  all_found : (places : List ℕ) → ((j p : ℕ) → IsIn j places → LeadsOn j p → IsIn p places) → (w : List ℕ) (j : ℕ) → IsIn j places → IsLaneWalk net j w → HasNone net r w → IsIn (last_of j w) places
  all_found places closed [] j i walk none = i
  all_found places closed (p ∷ w) j i walk none = all_found places closed w p (closed j p i (walk.0, none.0)) walk.1 none.1

  pub at_end : (ps places : List ℕ) (done : ℕ) → SoFar (IsOther net r ps) (IsWayFrom net r ps) LeadsOn places done → length places ≤ done → ArePlacesFrom net r ps places
  at_end ps places done s le j = (s.sound j, λ a. subst (λ x. IsIn x places) a.2.3 (all_found places (all_visited (IsOther net r ps) (IsWayFrom net r ps) LeadsOn places done s le) a.2.0 a.0 (s.start a.0 a.1) a.2.1 a.2.2))
