-- What places offer, gathered in a set; and the role's own points of those that can come.
use Rattle.std.proofs.Common.{◌≡◌, ℕ, ◌+◌, ◌<◌, Bool, true, false, List, [], ◌∷◌, length, take, get_or, ◌||◌, ◌&&◌, refl, sym, ◌∙◌, ap, subst, ◌⊎◌, inl, inr, ⊎_elim, arith}
use Rattle.std.specs.Prelude.{◌↔◌, ◌==◌}
use Rattle.std.proofs.lemmas.Bool.Decides.{nat_tests}
use Rattle.std.specs.List.Sorted.{IsStrictlyIncreasing}
use Rattle.rcv_tree.specs.Bits.{has_point, members, IsPoint}
use Rattle.rcv_model.specs.Places.{union}
use Rattle.rcv_model.proofs.PlacesLemmas.{union_left, union_right, union_only}
use Rattle.rcv_model.proofs.Ways.{next_in_text}
use Rattle.rcv_points.specs.Follow.{IsSetOfRole}
use Rattle.rcv_points.proofs.Members.{in_members, of_members, members_rise, union_members}
use Rattle.rcv_model.specs.Net.{Net, IsIn}
use Rattle.rcv_model.specs.Next.{AreNext, IsProper}
use Rattle.rcv_points.specs.Ahead.{MayComeTo}
use Rattle.rcv_points.specs.Found.{IsOfferedBy, HasEnd}
use Rattle.rcv_points.proofs.Adding.{in_more, last_in}

-- what one more place offers
pub offered_more : (net : Net) (js : List ℕ) (i j : ℕ) (old one new : List ℕ) → i < length js → j ≡ get_or js i 0 → net.offers j ≡ members one → ((p : ℕ) → IsPoint p → has_point new p ≡ (has_point old p || has_point one p)) → ((z : ℕ) → IsIn z (members old) ↔ IsOfferedBy net (take i js) z) → (z : ℕ) → IsIn z (members new) ↔ IsOfferedBy net (take (i + 1) js) z
offered_more net js i j old one new lt q says both all z = (to, from)
  where
    same : members new ≡ union (members old) (members one)
    same = union_members old one new both

    to : IsIn z (members new) → IsOfferedBy net (take (i + 1) js) z
    to m = ⊎_elim
        (λ n. let a = (all z).0 n in (a.0, in_more a.0 js i lt (inl a.1), a.2))
        (λ n. (j, in_more j js i lt (inr q), subst (IsIn z) (sym says) n))
        (union_only z (members old) (members one) (subst (IsIn z) same m))

    from : IsOfferedBy net (take (i + 1) js) z → IsIn z (members new)
    from a = subst (IsIn z) (sym same) (⊎_elim
        (λ m. union_left z (members old) (members one) ((all z).1 (a.0, m, a.2)))
        (λ e. union_right z (members old) (members one) (subst (IsIn z) says (subst (λ x. IsIn z (net.offers x)) (e ∙ sym q) a.2)))
        (last_in a.0 js i lt a.1))

-- the points of two sets
pub in_both : (one other both : List ℕ) → ((p : ℕ) → IsPoint p → has_point both p ≡ (has_point one p || has_point other p)) → (z : ℕ) → IsIn z (members both) ↔ (IsIn z (members one) ⊎ IsIn z (members other))
in_both one other both all z = (λ i. union_only z (members one) (members other) (subst (IsIn z) same i), λ a. subst (IsIn z) (sym same) (⊎_elim (λ m. union_left z (members one) (members other) m) (λ m. union_right z (members one) (members other) m) a))
  where
    same : members both ≡ union (members one) (members other)
    same = union_members one other both all

pub offered_none : (net : Net) (words : List ℕ) → ((p : ℕ) → has_point words p ≡ false) → (z : ℕ) → IsIn z (members words) ↔ IsOfferedBy net [] z
offered_none net words none z = (λ m. let t = (of_members words z m).1 in let f = none z in absurd (cc), λ a. absurd a.1)

common : (a b : Bool) → (a && b) ≡ true → (a ≡ true) × (b ≡ true)
common true b e = (refl, e)
common false b e = absurd (cc)

both_true : (a b : Bool) → a ≡ true → b ≡ true → (a && b) ≡ true
both_true true b e f = f
both_true false b e f = absurd (cc)

-- the role's own points of those that can come are its next points
pub next_of : (net : Net) (roles r k : ℕ) (come own both zs : List ℕ) → IsProper net roles → ((z : ℕ) → IsIn z (members come) ↔ MayComeTo net r k z) → IsSetOfRole net r (members own) → ((p : ℕ) → IsPoint p → has_point both p ≡ (has_point come p && has_point own p)) → zs ≡ members both → AreNext net r k zs
next_of net roles r k come own both zs proper all set meet same = record {
  ascending = subst IsStrictlyIncreasing (sym same) (members_rise both);
  sound = λ z i.
      let m = of_members both z (subst (IsIn z) same i) in
      let a = common (has_point come z) (has_point own z) (sym (meet z m.0) ∙ m.1) in
      let way = (all z).0 (in_members come z m.0 a.0) in
      record { way = way.0; walk = way.1; none = way.2; own = ((set z).0 (in_members own z m.0 a.1)).2 };
  complete = λ z n.
      let t = next_in_text net roles r k z proper n in
      let mine = of_members own z ((set z).1 (t.0, t.1, n.own)) in
      let came = of_members come z ((all z).1 (n.way, n.walk, n.none)) in
      subst (IsIn z) (sym same) (in_members both z mine.0 (meet z mine.0 ∙ both_true (has_point come z) (has_point own z) came.1 mine.1));
}

-- one more place offers something
pub no_end_more : (net : Net) (js : List ℕ) (i j : ℕ) → i < length js → j ≡ get_or js i 0 → (HasEnd net (take i js) → ⊥) → (net.offers j ≡ [] → ⊥) → HasEnd net (take (i + 1) js) → ⊥
no_end_more net js i j lt q n m a = ⊎_elim (λ x. n (a.0, x, a.2)) (λ e. m (ap net.offers (q ∙ sym e) ∙ a.2)) (last_in a.0 js i lt a.1)

-- a list of no items, and one of some
pub of_none : (xs : List ℕ) → true ≡ (length xs == 0) → xs ≡ []
of_none [] e = refl
of_none (x ∷ xs) e = absurd (grind (arith, nat_tests))

pub of_some : (xs : List ℕ) → false ≡ (length xs == 0) → xs ≡ [] → ⊥
of_some [] e f = absurd (grind (arith, nat_tests))
of_some (x ∷ xs) e f = cc
