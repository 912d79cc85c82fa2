-- A text with a lane that is a loop with a choice: two turns of the loop, between them points of the lane beside, sorted; and
-- walks from a point within the loop. And a text of one lane.
use Rattle.std.proofs.Common.{◌≡◌, ℕ, zero, suc, ◌+◌, ◌<◌, ◌≤◌, List, [], ◌∷◌, ◌++◌, length, refl, inl, inr, arith}
use Rattle.rcv_model.specs.Text.{Body, End, Single, Choose, Loop, Again, Parallel, NoMore, Or}
use Rattle.rcv_model.specs.Net.{Net, opened, left_by, IsWalk, IsEnded}
use Rattle.rcv_model.specs.Places.{lanes_of, HasEndOf, singles, net_of}
use Rattle.rcv_model.specs.Form.{HasForm}
use Rattle.rcv_model.specs.Run.{part}
use Rattle.rcv_parallel.specs.TextOrder.{HasLanesInOrder, IsWalkFromStart, IsEndedIn, IsInTextOrder, AreEnded, by_lanes}
use Rattle.rcv_parallel.proofs.EachLane.{each_lane, one_more, some_point}
use Rattle.rcv_parallel.proofs.Joining.{order_walk}
use Rattle.rcv_parallel.proofs.Sorting.{walk_sorts, order_sorted}
use Rattle.rcv_parallel.proofs.EachRole.{keeps_role}
use Rattle.rcv_parallel.proofs.TextLanes.{text_lanes}
use Rattle.rcv_parallel.proofs.OneLane.{no_par_order}

-- rec X { choice at A { a from A to B; continue X; } or { z from A to B; } }
rounds : Body
rounds = Loop (88 ∷ []) (Choose 0 (Or (Single (97 ∷ []) [] 0 1 1 (Again (88 ∷ []) End)) (Or (Single (122 ∷ []) [] 0 1 2 End) NoMore)) End) End

-- c from C to D; d from D to C;
answered : Body
answered = Single (99 ∷ []) [] 2 3 3 (Single (100 ∷ []) [] 3 2 4 End)

-- par { the first } and { the second } e from B to C;
looped : Body
unfolding rounds answered
looped = Parallel (Or rounds (Or answered NoMore)) (Single (101 ∷ []) [] 1 2 5 End)

abbrev loop : Net
unfolding looped rounds answered
loop = net_of looped

four_lanes : length (lanes_of looped) ≡ 4
unfolding looped rounds answered
four_lanes = refl

loop_form : HasForm looped 4
unfolding looped rounds answered
loop_form = record {
  numbered = (refl, (refl, (refl, (refl, (refl, tt)))));
  ends = (omega arith, omega arith, (λ e. omega arith), (omega arith, omega arith, (λ e. omega arith), (omega arith, omega arith, (λ e. omega arith), (omega arith, omega arith, (λ e. omega arith), (omega arith, omega arith, (λ e. omega arith), tt)))));
  subjects = ((((omega arith, (tt, (tt, tt)), tt), tt), (tt, tt)), tt);
  apart = ((apart, ((λ r h k. k), tt)), tt);
  few_roles = omega arith;
  few_points = omega arith;
}
  where
    low : (r : ℕ) → HasEndOf r (singles rounds) → r < 2
    low r (inl (inl e)) = omega (arith, e)
    low r (inl (inr e)) = omega (arith, e)
    low r (inr (inl (inl e))) = omega (arith, e)
    low r (inr (inl (inr e))) = omega (arith, e)
    low r (inr (inr none)) = absurd none

    high : (r : ℕ) → HasEndOf r (singles answered) → 2 ≤ r
    high r (inl (inl e)) = omega (arith, e)
    high r (inl (inr e)) = omega (arith, e)
    high r (inr (inl (inl e))) = omega (arith, e)
    high r (inr (inl (inr e))) = omega (arith, e)
    high r (inr (inr none)) = absurd none

    apart : (r : ℕ) → HasEndOf r (singles rounds) → HasEndOf r (singles answered ++ []) → ⊥
    apart r h k = let a = low r h in let b = high r k in omega (arith, a, b)

loop_has : HasLanesInOrder loop 4 4
unfolding looped rounds answered
loop_has = text_lanes looped 4 loop_form

-- before a point of the par the empty lane in front is shut
in_front : (w : List ℕ) → left_by loop (opened loop 0) w 0 ≡ [] → (l : ℕ) → l < 4 → loop.stage l < 1 → left_by loop (opened loop 0) w l ≡ []
unfolding looped rounds answered
in_front w e zero lt less = e
in_front w e (suc zero) lt less = absurd (omega (arith, less))
in_front w e (suc (suc zero)) lt less = absurd (omega (arith, less))
in_front w e (suc (suc (suc zero))) lt less = absurd (omega (arith, less))
in_front w e (suc (suc (suc (suc l)))) lt less = absurd (omega (arith, lt))

-- two turns by a and one by z, with c and d between them, and then e
upto_z : IsWalk loop 0 (1 ∷ 3 ∷ 1 ∷ 4 ∷ 2 ∷ [])
unfolding looped rounds answered
upto_z =
    let w1 : IsWalk loop 0 (1 ∷ []) = one_more loop 4 4 loop_has [] 1 tt (inl refl) (in_front [] refl) in
    let w2 : IsWalk loop 0 (1 ∷ 3 ∷ []) = one_more loop 4 4 loop_has (1 ∷ []) 3 w1 (inl refl) (in_front (1 ∷ []) refl) in
    let w3 : IsWalk loop 0 (1 ∷ 3 ∷ 1 ∷ []) = one_more loop 4 4 loop_has (1 ∷ 3 ∷ []) 1 w2 (inl refl) (in_front (1 ∷ 3 ∷ []) refl) in
    let w4 : IsWalk loop 0 (1 ∷ 3 ∷ 1 ∷ 4 ∷ []) = one_more loop 4 4 loop_has (1 ∷ 3 ∷ 1 ∷ []) 4 w3 (inl refl) (in_front (1 ∷ 3 ∷ 1 ∷ []) refl) in
    one_more loop 4 4 loop_has (1 ∷ 3 ∷ 1 ∷ 4 ∷ []) 2 w4 (inr (inl refl)) (in_front (1 ∷ 3 ∷ 1 ∷ 4 ∷ []) refl)

turns : IsWalk loop 0 (1 ∷ 3 ∷ 1 ∷ 4 ∷ 2 ∷ 5 ∷ [])
unfolding looped rounds answered
turns = one_more loop 4 4 loop_has (1 ∷ 3 ∷ 1 ∷ 4 ∷ 2 ∷ []) 5 upto_z (inl refl) before
  where
    before : (l : ℕ) → l < 4 → loop.stage l < 2 → left_by loop (opened loop 0) (1 ∷ 3 ∷ 1 ∷ 4 ∷ 2 ∷ []) l ≡ []
    before zero lt less = refl
    before (suc zero) lt less = refl
    before (suc (suc zero)) lt less = refl
    before (suc (suc (suc zero))) lt less = absurd (omega (arith, less))
    before (suc (suc (suc (suc l)))) lt less = absurd (omega (arith, lt))

turns_ended : IsEnded loop 0 (1 ∷ 3 ∷ 1 ∷ 4 ∷ 2 ∷ 5 ∷ [])
unfolding looped rounds answered
turns_ended l = each_lane loop 4 4 loop_has (1 ∷ 3 ∷ 1 ∷ 4 ∷ 2 ∷ 5 ∷ []) (loop.stage l + 1) all l (omega arith)
  where
    all : (m : ℕ) → m < 4 → loop.stage m < loop.stage l + 1 → left_by loop (opened loop 0) (1 ∷ 3 ∷ 1 ∷ 4 ∷ 2 ∷ 5 ∷ []) m ≡ []
    all zero lt less = refl
    all (suc zero) lt less = refl
    all (suc (suc zero)) lt less = refl
    all (suc (suc (suc zero))) lt less = refl
    all (suc (suc (suc (suc m)))) lt less = absurd (omega (arith, lt))

-- sorted, the loop's turns come first
turns_sort_to : by_lanes loop 4 (1 ∷ 3 ∷ 1 ∷ 4 ∷ 2 ∷ 5 ∷ []) ≡ 1 ∷ 1 ∷ 2 ∷ 3 ∷ 4 ∷ 5 ∷ []
unfolding looped rounds answered
turns_sort_to = refl

turns_in_order : IsInTextOrder loop 4 0 (1 ∷ 1 ∷ 2 ∷ 3 ∷ 4 ∷ 5 ∷ [])
unfolding looped rounds answered
turns_in_order = (walk_sorts loop 4 4 0 (1 ∷ 3 ∷ 1 ∷ 4 ∷ 2 ∷ 5 ∷ []) loop_has turns).0

turns_end_in_order : AreEnded loop 4 0 (walk_sorts loop 4 4 0 (1 ∷ 3 ∷ 1 ∷ 4 ∷ 2 ∷ 5 ∷ []) loop_has turns).0.walks
turns_end_in_order = (walk_sorts loop 4 4 0 (1 ∷ 3 ∷ 1 ∷ 4 ∷ 2 ∷ 5 ∷ []) loop_has turns).1.1 turns_ended

turns_unsorted : IsInTextOrder loop 4 0 (1 ∷ 3 ∷ 1 ∷ 4 ∷ 2 ∷ 5 ∷ []) → ⊥
unfolding looped rounds answered
turns_unsorted t = let e = second 1 3 1 1 (2 ∷ 3 ∷ 4 ∷ 5 ∷ []) (1 ∷ 4 ∷ 2 ∷ 5 ∷ []) (order_sorted loop 4 4 0 (1 ∷ 3 ∷ 1 ∷ 4 ∷ 2 ∷ 5 ∷ []) loop_has t) in omega (arith, e)
  where
    second : (x y a b : ℕ) (u v : List ℕ) → a ∷ x ∷ u ≡ b ∷ y ∷ v → x ≡ y
    second x y a b u v e = cc

-- B, in the loop, and D, beside it, do the same in both
b_does_the_same : part loop 1 (1 ∷ 1 ∷ 2 ∷ 3 ∷ 4 ∷ 5 ∷ []) ≡ part loop 1 (1 ∷ 3 ∷ 1 ∷ 4 ∷ 2 ∷ 5 ∷ [])
unfolding looped rounds answered
b_does_the_same = keeps_role loop 4 4 0 1 (1 ∷ 3 ∷ 1 ∷ 4 ∷ 2 ∷ 5 ∷ []) loop_has turns

d_does_the_same : part loop 3 (1 ∷ 1 ∷ 2 ∷ 3 ∷ 4 ∷ 5 ∷ []) ≡ part loop 3 (1 ∷ 3 ∷ 1 ∷ 4 ∷ 2 ∷ 5 ∷ [])
unfolding looped rounds answered
d_does_the_same = keeps_role loop 4 4 0 3 (1 ∷ 3 ∷ 1 ∷ 4 ∷ 2 ∷ 5 ∷ []) loop_has turns

-- from the place behind a: one more turn, z, and then e; the lane beside is gone through by no walk from there
own_lanes : ℕ → List ℕ
own_lanes zero = []
own_lanes (suc zero) = 1 ∷ 2 ∷ []
own_lanes (suc (suc zero)) = []
own_lanes (suc (suc (suc l))) = 5 ∷ []

behind_a : IsInTextOrder loop 4 1 (1 ∷ 2 ∷ 5 ∷ [])
unfolding looped rounds answered own_lanes
behind_a = record { walks = own_lanes; are = record { own = (inl refl, (inr (inl refl), tt)); later = later; shut = shut; in_turn = in_turn }; whole = refl }
  where
    later : (l : ℕ) → l < 4 → 1 < loop.stage l → IsWalkFromStart loop l (own_lanes l)
    later zero lt less = absurd (omega (arith, less))
    later (suc zero) lt less = absurd (omega (arith, less))
    later (suc (suc zero)) lt less = absurd (omega (arith, less))
    later (suc (suc (suc zero))) lt less = (inl refl, tt)
    later (suc (suc (suc (suc l)))) lt less = absurd (omega (arith, lt))

    shut : (l : ℕ) → l < 4 → (l ≡ 1 → ⊥) → loop.stage l ≤ 1 → own_lanes l ≡ []
    shut zero lt n le = refl
    shut (suc zero) lt n le = absurd (n refl)
    shut (suc (suc zero)) lt n le = refl
    shut (suc (suc (suc l))) lt n le = absurd (only l lt le)
      where
        only : (l : ℕ) → suc (suc (suc l)) < 4 → loop.stage (suc (suc (suc l))) ≤ 1 → ⊥
        only zero lt le = omega (arith, le)
        only (suc l) lt le = omega (arith, lt)

    in_turn : (l m : ℕ) → l < 4 → m < 4 → loop.stage l < loop.stage m → (own_lanes m ≡ [] → ⊥) → IsEndedIn loop 1 l (own_lanes l)
    in_turn zero m lt lt_m less some = record { own = λ e. absurd (omega (arith, e)); later = λ f. absurd (omega (arith, f)) }
    in_turn (suc zero) m lt lt_m less some = record { own = λ e. refl; later = λ f. absurd (omega (arith, f)) }
    in_turn (suc (suc zero)) m lt lt_m less some = record { own = λ e. absurd (omega (arith, e)); later = λ f. absurd (omega (arith, f)) }
    in_turn (suc (suc (suc zero))) m lt lt_m less some = record { own = λ e. absurd (omega (arith, e)); later = λ f. refl }
    in_turn (suc (suc (suc (suc l)))) m lt lt_m less some = absurd (omega (arith, lt))

walk_behind_a : IsWalk loop 1 (1 ∷ 2 ∷ 5 ∷ [])
walk_behind_a = (order_walk loop 4 4 1 (1 ∷ 2 ∷ 5 ∷ []) loop_has behind_a).0

no_c_behind_a : IsInTextOrder loop 4 1 (3 ∷ []) → ⊥
unfolding looped rounds answered
no_c_behind_a t = (order_walk loop 4 4 1 (3 ∷ []) loop_has t).0.0.offered

-- a from A to B; b from B to A; has one lane, and the walk a, b in it is one in text order
two_points : Body
two_points = Single (97 ∷ []) [] 0 1 1 (Single (98 ∷ []) [] 1 0 2 End)

alone_in_order : IsInTextOrder (net_of two_points) 1 0 (1 ∷ 2 ∷ [])
unfolding two_points
alone_in_order = (no_par_order two_points 0 (1 ∷ 2 ∷ []) tt).0.1 (inl refl, (inl refl, tt))

-- a alone is one too, and it isn't ended
a_alone : IsInTextOrder (net_of two_points) 1 0 (1 ∷ [])
unfolding two_points
a_alone = (no_par_order two_points 0 (1 ∷ []) tt).0.1 (inl refl, tt)

not_ended : AreEnded (net_of two_points) 1 0 a_alone.walks → ⊥
unfolding two_points
not_ended ends = some_point 2 [] (((no_par_order two_points 0 (1 ∷ []) tt).1 a_alone).0 ends)
