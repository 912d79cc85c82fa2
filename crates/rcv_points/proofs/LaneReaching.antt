-- What the search through a lane found is what can come along it.
use Rattle.std.proofs.Common.{◌≡◌, ℕ, Bool, true, ◌||◌, List, [], ◌∷◌, ◌++◌, refl, sym, ◌∙◌, ap, subst, ◌⊎◌, inl, inr, ⊎_elim}
use Rattle.std.specs.Prelude.{◌↔◌, IsTrue}
use Rattle.rcv_tree.specs.Bits.{has_point, members, IsPoint}
use Rattle.rcv_model.specs.Net.{Net, IsIn, last_of}
use Rattle.rcv_model.specs.Next.{IsOf, HasNone}
use Rattle.rcv_model.proofs.Walks.{lane_join, lane_front, lane_back}
use Rattle.rcv_model.proofs.Completing.{at_end, by_way}
use Rattle.rcv_model.proofs.Parted.{IsFrom, LaneTo, CanEndBy}
use Rattle.rcv_points.specs.Ahead.{IsLaneReach}
use Rattle.rcv_points.specs.Found.{ArePlacesFrom, IsOfferedBy, HasEnd}
use Rattle.rcv_points.specs.LaneSearch.{CanCome, CanEndPast}
use Rattle.rcv_points.proofs.Gathering.{in_both}

-- the places that were found, and the points that they offer
come_all : (net : Net) (r : ℕ) (ps js first offered come : List ℕ) → ps ≡ members first → ArePlacesFrom net r ps js → ((z : ℕ) → IsIn z (members offered) ↔ IsOfferedBy net js z) → ((p : ℕ) → IsPoint p → has_point come p ≡ (has_point first p || has_point offered p)) → (z : ℕ) → IsIn z (members come) ↔ CanCome net r ps z
come_all net r ps js first offered come same all off both z = (to, of)
  where
    joined : (IsIn z (members come) → IsIn z (members first) ⊎ IsIn z (members offered)) × (IsIn z (members first) ⊎ IsIn z (members offered) → IsIn z (members come))
    joined = in_both first offered come both z

    to : IsIn z (members come) → CanCome net r ps z
    to i = ⊎_elim (λ m. inl (subst (IsIn z) (sym same) m)) (λ m. let a = (off z).0 m in inr (a.0, (all a.0).0 a.1, a.2)) (joined.0 i)

    of : CanCome net r ps z → IsIn z (members come)
    of (inl i) = joined.1 (inl (subst (IsIn z) same i))
    of (inr a) = joined.1 (inr ((off z).1 (a.0, (all a.0).1 a.1, a.2)))

pub none_reached : (net : Net) (r : ℕ) (ps js first offered come : List ℕ) → ps ≡ members first → ArePlacesFrom net r ps js → ((z : ℕ) → IsIn z (members offered) ↔ IsOfferedBy net js z) → ((p : ℕ) → IsPoint p → has_point come p ≡ (has_point first p || has_point offered p)) → ps ≡ [] → IsLaneReach net r ps (members come) true
none_reached net r ps js first offered come same all off both e = record { all = come_all net r ps js first offered come same all off both; end = (λ t. inl e, λ a. refl) }

pub some_reached : (net : Net) (r : ℕ) (ps js first offered come : List ℕ) (ends : Bool) → ps ≡ members first → ArePlacesFrom net r ps js → ((z : ℕ) → IsIn z (members offered) ↔ IsOfferedBy net js z) → ((p : ℕ) → IsPoint p → has_point come p ≡ (has_point first p || has_point offered p)) → (ps ≡ [] → ⊥) → IsTrue ends ↔ HasEnd net js → IsLaneReach net r ps (members come) ends
some_reached net r ps js first offered come ends same all off both n is = record {
  all = come_all net r ps js first offered come same all off both;
  end = (λ t. let a = is.0 t in inr (a.0, (all a.0).0 a.1, a.2), of);
}
  where
    of : CanEndPast net r ps → IsTrue ends
    of (inl e) = absurd (n e)
    of (inr a) = is.1 (a.0, (all a.0).1 a.1, a.2)

-- the same in the words of walks
module _ (net : Net) (r : ℕ) (ps : List ℕ) where
  pub to_lane : (z : ℕ) → CanCome net r ps z → LaneTo net r ps z
  to_lane z (inl i) = record { way = []; walk = (i, tt); none = tt }
  to_lane z (inr a) =
      let s = a.1.0 in
      let w = a.1.2 in
      record { way = s ∷ w.0; walk = (a.1.1.0, lane_join net s w.0 (z ∷ []) w.1 (subst (λ x. IsIn z (net.offers x)) (sym w.3) a.2, tt)); none = (a.1.1.1, w.2) }

  pub of_lane : (z : ℕ) → LaneTo net r ps z → CanCome net r ps z
  of_lane z l = go l.way l.walk l.none
    where
      go : (way : List ℕ) → IsFrom net ps (way ++ z ∷ []) → HasNone net r way → CanCome net r ps z
      go [] walk none = inl walk.0
      go (x ∷ v) walk none = inr (last_of x v, (x, (walk.0, none.0), (v, lane_front net x v (z ∷ []) walk.1, none.1, refl)), (lane_back net x v (z ∷ []) walk.1).0)

  all_none : (w : List ℕ) → ((y : ℕ) → IsIn y w → IsOf net r y → ⊥) → HasNone net r w
  all_none [] n = tt
  all_none (x ∷ w) n = (n x (inl refl), all_none w (λ y i. n y (inr i)))

  none_all : (w : List ℕ) → HasNone net r w → (y : ℕ) → IsIn y w → IsOf net r y → ⊥
  none_all [] h y i o = absurd i
  none_all (x ∷ w) h y (inl e) o = h.0 (subst (IsOf net r) e o)
  none_all (x ∷ w) h y (inr i) o = none_all w h.1 y i o

  pub to_end : CanEndPast net r ps → CanEndBy net r ps
  to_end (inl e) = at_end e
  to_end (inr a) =
      let s = a.1.0 in
      let w = a.1.2 in
      by_way s w.0 a.1.1.0 w.1 (ap net.offers w.3 ∙ a.2) (none_all (s ∷ w.0) (a.1.1.1, w.2))

  pub of_end : CanEndBy net r ps → CanEndPast net r ps
  of_end (at_end e) = inl e
  of_end (by_way x v i walk end fits) = let none = all_none (x ∷ v) fits in inr (last_of x v, (x, (i, none.0), (v, walk, none.1, refl)), end)
