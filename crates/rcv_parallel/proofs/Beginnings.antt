-- A beginning of a walk in text order is one; so a role's next points are those on such walks.
use Rattle.std.proofs.Common.{◌≡◌, ℕ, zero, suc, ◌<◌, ◌≤◌, Some, List, [], ◌∷◌, ◌++◌, refl, sym, ◌∙◌, ap, subst, ◌⊎◌, inl, inr, ⊎_elim, append_assoc, arith}
use Rattle.std.specs.Prelude.{◌↔◌}
use Rattle.std.specs.List.{cons_option}
use Rattle.std.proofs.lemmas.Bool.{cases_eq, cases_lt}
use Rattle.rcv_model.specs.Net.{Net, IsIn}
use Rattle.rcv_model.specs.Next.{IsOf, HasNone, IsNext}
use Rattle.rcv_model.specs.Run.{Act, act_at, part}
use Rattle.rcv_model.proofs.Walks.{walk_front}
use Rattle.rcv_model.proofs.Completing.{in_both}
use Rattle.rcv_model.proofs.Parts.{ActCase, none, sends, gets, act_case, part_join, part_none, First, never, at, first}
use Rattle.rcv_parallel.specs.TextOrder.{HasLanesInOrder, joined, IsInTextOrder, in_lane, by_lanes, IsNextInOrder}
use Rattle.rcv_parallel.proofs.InLane.{lane_yes, lane_no, AllIn, below, below_nil, below_yes, below_no, below_all, below_none}
use Rattle.rcv_parallel.proofs.Joining.{order_walk}
use Rattle.rcv_parallel.proofs.Sorting.{sorted, order_is_sorted}
use Rattle.rcv_parallel.proofs.EachRole.{keeps_role}

-- no point stands behind one of a later lane
abbrev pub Ascend : Net → List ℕ → Type 0
Ascend net [] = Unit {0}
Ascend net (x ∷ w) = ((y : ℕ) → IsIn y w → net.lane x ≤ net.lane y) × Ascend net w

ascend_front : (net : Net) (u v : List ℕ) → Ascend net (u ++ v) → Ascend net u
ascend_front net [] v a = tt
ascend_front net (x ∷ u) v a = ((λ y i. a.0 y (left y u i)), ascend_front net u v a.1)
  where
    left : (y : ℕ) (u : List ℕ) → IsIn y u → IsIn y (u ++ v)
    left y [] i = absurd i
    left y (z ∷ u) (inl e) = inl e
    left y (z ∷ u) (inr i) = inr (left y u i)

ascend_join : (net : Net) (u v : List ℕ) → Ascend net u → Ascend net v → ((x y : ℕ) → IsIn x u → IsIn y v → net.lane x ≤ net.lane y) → Ascend net (u ++ v)
ascend_join net [] v a b c = b
ascend_join net (x ∷ u) v a b c = ((λ y i. ⊎_elim (a.0 y) (c x y (inl refl)) (in_both y u v i)), ascend_join net u v a.1 b (λ z y i j. c z y (inr i) j))

-- what is sorted ascends
all_of_lane : (net : Net) (l : ℕ) (w : List ℕ) → AllIn net l (in_lane net w l)
all_of_lane net l [] = tt
all_of_lane net l (x ∷ w) = go (cases_eq (net.lane x) l) (all_of_lane net l w)
  where
    go : (net.lane x ≡ l) ⊎ (net.lane x ≡ l → ⊥) → AllIn net l (in_lane net w l) → AllIn net l (in_lane net (x ∷ w) l)
    go (inl e) ih = subst (AllIn net l) (sym (lane_yes net l x w e)) (e, ih)
    go (inr n) ih = subst (AllIn net l) (sym (lane_no net l x w n)) ih

each_of : (net : Net) (l y : ℕ) (u : List ℕ) → AllIn net l u → IsIn y u → net.lane y ≡ l
each_of net l y [] a i = absurd i
each_of net l y (x ∷ u) a (inl e) = ap net.lane e ∙ a.0
each_of net l y (x ∷ u) a (inr i) = each_of net l y u a.1 i

lane_ascends : (net : Net) (l : ℕ) (u : List ℕ) → AllIn net l u → Ascend net u
lane_ascends net l [] a = tt
lane_ascends net l (x ∷ u) a = ((λ y i. let e = each_of net l y u a.1 i in let f = a.0 in omega (arith, e, f)), lane_ascends net l u a.1)

joined_before : (net : Net) (n x : ℕ) (w : List ℕ) → IsIn x (joined n (in_lane net w)) → net.lane x < n
joined_before net zero x w i = absurd i
joined_before net (suc n) x w i = ⊎_elim
    (λ j. let lt = joined_before net n x w j in omega (arith, lt))
    (λ j. let e = each_of net n x (in_lane net w n) (all_of_lane net n w) j in omega (arith, e))
    (in_both x (joined n (in_lane net w)) (in_lane net w n) i)

joined_ascends : (net : Net) (n : ℕ) (w : List ℕ) → Ascend net (joined n (in_lane net w))
joined_ascends net zero w = tt
joined_ascends net (suc n) w = ascend_join net (joined n (in_lane net w)) (in_lane net w n) (joined_ascends net n w) (lane_ascends net n (in_lane net w n) (all_of_lane net n w)) between
  where
    between : (x y : ℕ) → IsIn x (joined n (in_lane net w)) → IsIn y (in_lane net w n) → net.lane x ≤ net.lane y
    between x y i j = let lt = joined_before net n x w i in let e = each_of net n y (in_lane net w n) (all_of_lane net n w) j in omega (arith, lt, e)

-- and what ascends is sorted
none_below : (net : Net) (n : ℕ) (w : List ℕ) → ((y : ℕ) → IsIn y w → n ≤ net.lane y) → below net n w ≡ []
none_below net n [] high = below_nil net n
none_below net n (x ∷ w) high = below_no net n x w (high x (inl refl)) ∙ none_below net n w (λ y i. high y (inr i))

next_lane : (net : Net) (n : ℕ) (w : List ℕ) → Ascend net w → below net (suc n) w ≡ below net n w ++ in_lane net w n
next_lane net n [] a = below_nil net (suc n) ∙ ap (λ u. u ++ []) (sym (below_nil net n))
next_lane net n (x ∷ w) a = go (next_lane net n w a.1)
  where
    go : below net (suc n) w ≡ below net n w ++ in_lane net w n → below net (suc n) (x ∷ w) ≡ below net n (x ∷ w) ++ in_lane net (x ∷ w) n
    go ih = ⊎_elim here (λ m. ⊎_elim earlier (λ le. later (omega (arith, le, m))) (cases_lt (net.lane x) n)) (cases_eq (net.lane x) n)
      where
        here : net.lane x ≡ n → below net (suc n) (x ∷ w) ≡ below net n (x ∷ w) ++ in_lane net (x ∷ w) n
        here e =
            let clear : below net n w ≡ [] = none_below net n w (λ y i. let le = a.0 y i in omega (arith, le, e)) in
            below_yes net (suc n) x w (omega (arith, e))
            ∙ ap (λ u. x ∷ u) (ih ∙ ap (λ u. u ++ in_lane net w n) clear)
            ∙ sym (lane_yes net n x w e)
            ∙ ap (λ u. u ++ in_lane net (x ∷ w) n) (sym (below_no net n x w (omega (arith, e)) ∙ clear))

        earlier : net.lane x < n → below net (suc n) (x ∷ w) ≡ below net n (x ∷ w) ++ in_lane net (x ∷ w) n
        earlier lt =
            below_yes net (suc n) x w (omega (arith, lt))
            ∙ ap (λ u. x ∷ u) ih
            ∙ sym (ap (λ u. u ++ in_lane net (x ∷ w) n) (below_yes net n x w lt) ∙ ap (λ u. x ∷ (below net n w ++ u)) (lane_no net n x w (λ e. omega (arith, e, lt))))

        later : n < net.lane x → below net (suc n) (x ∷ w) ≡ below net n (x ∷ w) ++ in_lane net (x ∷ w) n
        later lt =
            below_no net (suc n) x w (omega (arith, lt))
            ∙ ih
            ∙ sym (ap (λ u. u ++ in_lane net (x ∷ w) n) (below_no net n x w (omega (arith, lt))) ∙ ap (λ u. below net n w ++ u) (lane_no net n x w (λ e. omega (arith, e, lt))))

joined_below : (net : Net) (n : ℕ) (w : List ℕ) → Ascend net w → joined n (in_lane net w) ≡ below net n w
joined_below net zero w a = sym (below_none net w)
joined_below net (suc n) w a = ap (λ u. u ++ in_lane net w n) (joined_below net n w a) ∙ sym (next_lane net n w a)

-- so the beginning of a sorted list is sorted
sorted_front : (net : Net) (lanes : ℕ) (u v : List ℕ) → ((p : ℕ) → net.lane p < lanes) → by_lanes net lanes (u ++ v) ≡ u ++ v → by_lanes net lanes u ≡ u
sorted_front net lanes u v all e =
    joined_below net lanes u (ascend_front net u v (subst (Ascend net) e (joined_ascends net lanes (u ++ v))))
    ∙ below_all net lanes u all

pub order_front : (net : Net) (roles lanes k : ℕ) (u v : List ℕ) → HasLanesInOrder net roles lanes → IsInTextOrder net lanes k (u ++ v) → IsInTextOrder net lanes k u
order_front net roles lanes k u v has t =
    let s = (order_is_sorted net roles lanes k (u ++ v) has).0 t in
    (order_is_sorted net roles lanes k u has).1 (walk_front net k u v s.0, sorted_front net lanes u v has.has_lane s.1)

-- what a role does at a point of its own
own_act : (net : Net) (r z : ℕ) → IsOf net r z → (a : Act) × (act_at net r z ≡ Some a) × (a.point ≡ z)
own_act net r z own = go (act_case net r z)
  where
    go : ActCase net r z → (a : Act) × (act_at net r z ≡ Some a) × (a.point ≡ z)
    go (none e n) = absurd (n own)
    go (sends e f) = (_, e, refl)
    go (gets e f n) = (_, e, refl)

-- a role's part in a list up to its first point
upto_first : (net : Net) (r z : ℕ) (before after : List ℕ) (a : Act) → HasNone net r before → act_at net r z ≡ Some a → part net r (before ++ z ∷ after) ≡ a ∷ part net r after
upto_first net r z before after a clear e =
    part_join net r before (z ∷ after)
    ∙ ap (λ u. u ++ part net r (z ∷ after)) (part_none net r before clear)
    ∙ ap (λ o. cons_option o (part net r after)) e

pub next_in_order : (net : Net) (roles lanes r k z : ℕ) → HasLanesInOrder net roles lanes → IsNext net r k z ↔ IsNextInOrder net lanes r k z
next_in_order net roles lanes r k z has = (to, from)
  where
    from : IsNextInOrder net lanes r k z → IsNext net r k z
    from n = record { way = n.way; walk = (order_walk net roles lanes k (n.way ++ z ∷ []) has n.in_order).0; none = n.none; own = n.own }

    to : IsNext net r k z → IsNextInOrder net lanes r k z
    to n = go (first net r (by_lanes net lanes (n.way ++ z ∷ [])))
      where
        act : (a : Act) × (act_at net r z ≡ Some a) × (a.point ≡ z)
        act = own_act net r z n.own

        same : part net r (by_lanes net lanes (n.way ++ z ∷ [])) ≡ act.0 ∷ []
        same = keeps_role net roles lanes k r (n.way ++ z ∷ []) has n.walk ∙ upto_first net r z n.way [] act.0 n.none act.1

        go : First net r (by_lanes net lanes (n.way ++ z ∷ [])) → IsNextInOrder net lanes r k z
        go (never clear) = absurd (let e = sym (part_none net r (by_lanes net lanes (n.way ++ z ∷ [])) clear) ∙ same in cc)
        go (at before y after e clear own) =
            let b = own_act net r y own in
            let f : b.0 ∷ part net r after ≡ act.0 ∷ [] = sym (upto_first net r y before after b.0 clear b.1) ∙ ap (part net r) e ∙ same in
            let g : b.0 ≡ act.0 = cc in
            let h : y ≡ z = sym b.2 ∙ ap (λ (a : Act). a.point) g ∙ act.2 in
            record {
              way = before;
              in_order = order_front net roles lanes k (before ++ z ∷ []) after has (subst (IsInTextOrder net lanes k) (sym e ∙ ap (λ x. before ++ x ∷ after) h ∙ sym (append_assoc before (z ∷ []) after)) (sorted net roles lanes k (n.way ++ z ∷ []) has n.walk));
              none = clear;
              own = n.own;
            }
