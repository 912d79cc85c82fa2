-- A text with two lanes beside each other: which of its walks are in text order, and what the others sort to.
use Rattle.std.proofs.Common.{◌≡◌, ℕ, zero, suc, ◌+◌, ◌<◌, cond, Some, None, List, [], ◌∷◌, length, refl, sym, ap, subst, ◌⊎◌, inl, inr, ⊎_elim, arith, ne_eqb}
use Rattle.std.specs.List.{cons_option}
use Rattle.std.proofs.lemmas.Bool.{cases_eq}
use Rattle.rcv_tree.specs.declared.event.Dir.TheVariants.{Sent}
use Rattle.rcv_model.specs.Text.{Body, End, Single, Parallel, NoMore, Or}
use Rattle.rcv_model.specs.Net.{Net, opened, left_by, IsWalk, IsEnded, IsPrefix}
use Rattle.rcv_model.specs.Places.{lanes_of, net_of}
use Rattle.rcv_model.specs.Form.{HasForm}
use Rattle.rcv_model.specs.Next.{IsNext}
use Rattle.rcv_model.specs.Run.{part, acts, IsRun}
use Rattle.rcv_model.proofs.Cases.{sent}
use Rattle.rcv_model.proofs.Keeping.{queued_more, queued_nil, fits_else}
use Rattle.rcv_model.proofs.Lists.{prefix_nil}
use Rattle.rcv_parallel.specs.TextOrder.{HasLanesInOrder, IsWalkFromStart, IsEndedFromStart, IsInTextOrder, AreEnded, by_lanes, FollowsTextOrder, IsNextInOrder}
use Rattle.rcv_parallel.specs.ByStages.{GoesByStages, IsBehindAll}
use Rattle.rcv_parallel.proofs.EachLane.{each_lane, one_more, same_first, some_point}
use Rattle.rcv_parallel.proofs.Joining.{order_walk}
use Rattle.rcv_parallel.proofs.Sorting.{walk_sorts, order_sorted}
use Rattle.rcv_parallel.proofs.EachRole.{keeps_role, runs_in_order}
use Rattle.rcv_parallel.proofs.Beginnings.{next_in_order}
use Rattle.rcv_parallel.proofs.OfStages.{stages_are}
use Rattle.rcv_parallel.proofs.TextLanes.{text_lanes}

-- par { a from A to B; } and { c from C to D; } e from B to C;
two_lanes : Body
two_lanes = Parallel (Or (Single (97 ∷ []) [] 0 1 1 End) (Or (Single (99 ∷ []) [] 2 3 2 End) NoMore)) (Single (101 ∷ []) [] 1 2 3 End)

abbrev two : Net
unfolding two_lanes
two = net_of two_lanes

four_lanes : length (lanes_of two_lanes) ≡ 4
unfolding two_lanes
four_lanes = refl

two_form : HasForm two_lanes 4
unfolding two_lanes
two_form = record {
  numbered = (refl, (refl, (refl, tt)));
  ends = (omega arith, omega arith, (λ e. omega arith), (omega arith, omega arith, (λ e. omega arith), (omega arith, omega arith, (λ e. omega arith), tt)));
  subjects = ((tt, (tt, tt)), tt);
  apart = ((apart, ((λ r h k. k), tt)), tt);
  few_roles = omega arith;
  few_points = omega arith;
}
  where
    apart : (r : ℕ) → ((0 ≡ r) ⊎ (1 ≡ r)) ⊎ ⊥ → (((2 ≡ r) ⊎ (3 ≡ r)) ⊎ ⊥) → ⊥
    apart r (inl (inl e)) (inl (inl f)) = omega (arith, e, f)
    apart r (inl (inl e)) (inl (inr f)) = omega (arith, e, f)
    apart r (inl (inr e)) (inl (inl f)) = omega (arith, e, f)
    apart r (inl (inr e)) (inl (inr f)) = omega (arith, e, f)
    apart r (inl (inl e)) (inr none) = none
    apart r (inl (inr e)) (inr none) = none
    apart r (inr none) d = none

two_has : HasLanesInOrder two 4 4
unfolding two_lanes
two_has = text_lanes two_lanes 4 two_form

-- c, a, e is a walk, and it is ended
c_first : IsWalk two 0 (2 ∷ [])
unfolding two_lanes
c_first = one_more two 4 4 two_has [] 2 tt (inl refl) before
  where
    before : (l : ℕ) → l < 4 → two.stage l < 1 → opened two 0 l ≡ []
    before zero lt less = refl
    before (suc zero) lt less = absurd (omega (arith, less))
    before (suc (suc zero)) lt less = absurd (omega (arith, less))
    before (suc (suc (suc zero))) lt less = absurd (omega (arith, less))
    before (suc (suc (suc (suc l)))) lt less = absurd (omega (arith, lt))

c_a : IsWalk two 0 (2 ∷ 1 ∷ [])
unfolding two_lanes
c_a = one_more two 4 4 two_has (2 ∷ []) 1 c_first (inl refl) before
  where
    before : (l : ℕ) → l < 4 → two.stage l < 1 → left_by two (opened two 0) (2 ∷ []) l ≡ []
    before zero lt less = refl
    before (suc zero) lt less = absurd (omega (arith, less))
    before (suc (suc zero)) lt less = absurd (omega (arith, less))
    before (suc (suc (suc zero))) lt less = absurd (omega (arith, less))
    before (suc (suc (suc (suc l)))) lt less = absurd (omega (arith, lt))

c_a_e : IsWalk two 0 (2 ∷ 1 ∷ 3 ∷ [])
unfolding two_lanes
c_a_e = one_more two 4 4 two_has (2 ∷ 1 ∷ []) 3 c_a (inl refl) before
  where
    before : (l : ℕ) → l < 4 → two.stage l < 2 → left_by two (opened two 0) (2 ∷ 1 ∷ []) l ≡ []
    before zero lt less = refl
    before (suc zero) lt less = refl
    before (suc (suc zero)) lt less = refl
    before (suc (suc (suc zero))) lt less = absurd (omega (arith, less))
    before (suc (suc (suc (suc l)))) lt less = absurd (omega (arith, lt))

c_a_e_ended : IsEnded two 0 (2 ∷ 1 ∷ 3 ∷ [])
unfolding two_lanes
c_a_e_ended l = each_lane two 4 4 two_has (2 ∷ 1 ∷ 3 ∷ []) (two.stage l + 1) all l (omega arith)
  where
    all : (m : ℕ) → m < 4 → two.stage m < two.stage l + 1 → left_by two (opened two 0) (2 ∷ 1 ∷ 3 ∷ []) m ≡ []
    all zero lt less = refl
    all (suc zero) lt less = refl
    all (suc (suc zero)) lt less = refl
    all (suc (suc (suc zero))) lt less = refl
    all (suc (suc (suc (suc m)))) lt less = absurd (omega (arith, lt))

-- it sorts to a, c, e, which is a walk in text order, and ended
sorts_to : by_lanes two 4 (2 ∷ 1 ∷ 3 ∷ []) ≡ 1 ∷ 2 ∷ 3 ∷ []
unfolding two_lanes
sorts_to = refl

a_c_e : IsInTextOrder two 4 0 (1 ∷ 2 ∷ 3 ∷ [])
unfolding two_lanes
a_c_e = (walk_sorts two 4 4 0 (2 ∷ 1 ∷ 3 ∷ []) two_has c_a_e).0

a_c_e_ended : AreEnded two 4 0 (walk_sorts two 4 4 0 (2 ∷ 1 ∷ 3 ∷ []) two_has c_a_e).0.walks
a_c_e_ended = (walk_sorts two 4 4 0 (2 ∷ 1 ∷ 3 ∷ []) two_has c_a_e).1.1 c_a_e_ended

-- C, which sends c and receives e, does the same in both; and so does B, which receives a and sends e
c_does_the_same : part two 2 (1 ∷ 2 ∷ 3 ∷ []) ≡ part two 2 (2 ∷ 1 ∷ 3 ∷ [])
unfolding two_lanes
c_does_the_same = keeps_role two 4 4 0 2 (2 ∷ 1 ∷ 3 ∷ []) two_has c_a_e

b_does_the_same : part two 1 (1 ∷ 2 ∷ 3 ∷ []) ≡ part two 1 (2 ∷ 1 ∷ 3 ∷ [])
unfolding two_lanes
b_does_the_same = keeps_role two 4 4 0 1 (2 ∷ 1 ∷ 3 ∷ []) two_has c_a_e

-- c, a, e itself isn't in text order, nor is c, a
c_a_e_unsorted : IsInTextOrder two 4 0 (2 ∷ 1 ∷ 3 ∷ []) → ⊥
unfolding two_lanes
c_a_e_unsorted t = let e = same_first 1 2 (2 ∷ 3 ∷ []) (1 ∷ 3 ∷ []) (order_sorted two 4 4 0 (2 ∷ 1 ∷ 3 ∷ []) two_has t) in omega (arith, e)

c_a_unsorted : IsInTextOrder two 4 0 (2 ∷ 1 ∷ []) → ⊥
unfolding two_lanes
c_a_unsorted t = let e = same_first 1 2 (2 ∷ []) (1 ∷ []) (order_sorted two 4 4 0 (2 ∷ 1 ∷ []) two_has t) in omega (arith, e)

-- a, e is sorted and isn't a walk in text order: c is left
a_e_sorted : by_lanes two 4 (1 ∷ 3 ∷ []) ≡ 1 ∷ 3 ∷ []
unfolding two_lanes
a_e_sorted = refl

a_e_too_early : IsInTextOrder two 4 0 (1 ∷ 3 ∷ []) → ⊥
unfolding two_lanes
a_e_too_early t = some_point 2 [] ((order_walk two 4 4 0 (1 ∷ 3 ∷ []) two_has t).0.1.0.ended 2 (omega arith))

-- C sends c: the events so far are a run by c, a, e, and so by a, c, e
c_sent : IsRun two (sent 2 2 1 ∷ [])
unfolding two_lanes
c_sent = (2 ∷ 1 ∷ 3 ∷ [], record { walk = c_a_e; parts = parts; queued = queued_more two [] (sent 2 2 1) (queued_nil two) (λ s r. fits_else two (sent 2 2 1) [] s r (queued_nil two) refl) })
  where
    parts : (r : ℕ) → IsPrefix (acts r (sent 2 2 1 ∷ [])) (part two r (2 ∷ 1 ∷ 3 ∷ []))
    parts r = ⊎_elim (λ e. subst (λ q. IsPrefix (acts q (sent 2 2 1 ∷ [])) (part two q (2 ∷ 1 ∷ 3 ∷ []))) e at_c) (λ n. subst (λ a. IsPrefix a (part two r (2 ∷ 1 ∷ 3 ∷ []))) (sym (nothing n)) (prefix_nil (part two r (2 ∷ 1 ∷ 3 ∷ [])))) (cases_eq 2 r)
      where
        at_c : IsPrefix (acts 2 (sent 2 2 1 ∷ [])) (part two 2 (2 ∷ 1 ∷ 3 ∷ []))
        at_c = (part two 2 (3 ∷ []), refl)

        nothing : (2 ≡ r → ⊥) → acts r (sent 2 2 1 ∷ []) ≡ []
        nothing n = ap (λ b. cons_option (cond b (Some (record { dir = Sent; point = 2 })) None) []) (ne_eqb 2 r n)

follows_a_c_e : FollowsTextOrder two 4 (sent 2 2 1 ∷ [])
follows_a_c_e = (runs_in_order two 4 4 (sent 2 2 1 ∷ []) two_has).0 c_sent

-- behind c, a is B's next point from the start; in text order it comes first
b_next : IsNext two 1 0 1
unfolding two_lanes
b_next = record { way = 2 ∷ []; walk = c_a; none = ((λ o. ⊎_elim (λ e. omega (arith, e)) (λ e. omega (arith, e)) o), tt); own = inr refl }

b_next_in_order : IsNextInOrder two 4 1 0 1
b_next_in_order = (next_in_order two 4 4 1 0 1 two_has).0 b_next

-- a, c, e told stage by stage: none in the first lane, which is empty, then a and c, and then e
by_stages : GoesByStages two 4 0 (1 ∷ 2 ∷ 3 ∷ [])
unfolding two_lanes
by_stages = record {
  front = [];
  rest = 1 ∷ 2 ∷ 3 ∷ [];
  whole = refl;
  following = 2;
  walk = tt;
  ended = λ some. refl;
  behind = record {
    front = 1 ∷ 2 ∷ [];
    rest = 3 ∷ [];
    whole = refl;
    walk = record { walks = first; each = each_first; none = none_first; whole = refl };
    ended = ended_first;
    behind = record {
      front = 3 ∷ [];
      rest = [];
      whole = refl;
      walk = record { walks = second; each = each_second; none = none_second; whole = refl };
      ended = λ some. absurd (omega (arith, some));
      behind = refl;
    };
  };
}
  where
    first : ℕ → List ℕ
    first zero = []
    first (suc zero) = 1 ∷ []
    first (suc (suc zero)) = 2 ∷ []
    first (suc (suc (suc l))) = []

    each_first : (l : ℕ) → l < 4 → two.stage l ≡ 1 → IsWalkFromStart two l (first l)
    each_first zero lt e = absurd (omega (arith, e))
    each_first (suc zero) lt e = (inl refl, tt)
    each_first (suc (suc zero)) lt e = (inl refl, tt)
    each_first (suc (suc (suc l))) lt e = tt

    none_first : (l : ℕ) → l < 4 → (two.stage l ≡ 1 → ⊥) → first l ≡ []
    none_first zero lt n = refl
    none_first (suc zero) lt n = absurd (n refl)
    none_first (suc (suc zero)) lt n = absurd (n refl)
    none_first (suc (suc (suc l))) lt n = refl

    ended_first : 0 < 1 → (l : ℕ) → l < 4 → two.stage l ≡ 1 → IsEndedFromStart two l (first l)
    ended_first some zero lt e = refl
    ended_first some (suc zero) lt e = refl
    ended_first some (suc (suc zero)) lt e = refl
    ended_first some (suc (suc (suc zero))) lt e = absurd (omega (arith, e))
    ended_first some (suc (suc (suc (suc l)))) lt e = absurd (omega (arith, lt))

    second : ℕ → List ℕ
    second zero = []
    second (suc zero) = []
    second (suc (suc zero)) = []
    second (suc (suc (suc l))) = 3 ∷ []

    each_second : (l : ℕ) → l < 4 → two.stage l ≡ 2 → IsWalkFromStart two l (second l)
    each_second zero lt e = tt
    each_second (suc zero) lt e = tt
    each_second (suc (suc zero)) lt e = tt
    each_second (suc (suc (suc zero))) lt e = (inl refl, tt)
    each_second (suc (suc (suc (suc l)))) lt e = absurd (omega (arith, lt))

    none_second : (l : ℕ) → l < 4 → (two.stage l ≡ 2 → ⊥) → second l ≡ []
    none_second zero lt n = refl
    none_second (suc zero) lt n = refl
    none_second (suc (suc zero)) lt n = refl
    none_second (suc (suc (suc zero))) lt n = absurd (n refl)
    none_second (suc (suc (suc (suc l)))) lt n = absurd (omega (arith, lt))

again_in_order : IsInTextOrder two 4 0 (1 ∷ 2 ∷ 3 ∷ [])
again_in_order = (stages_are two 4 4 0 (1 ∷ 2 ∷ 3 ∷ []) two_has).0.1 by_stages

-- it is ended, so it can be told up to a stage that no lane has; and a, e can't be told so at all
ends_by_stages : (g : GoesByStages two 4 0 (1 ∷ 2 ∷ 3 ∷ [])) × IsBehindAll two 4 0 g.following
unfolding two_lanes
ends_by_stages = (stages_are two 4 4 0 (1 ∷ 2 ∷ 3 ∷ []) two_has).1.0 ((walk_sorts two 4 4 0 (2 ∷ 1 ∷ 3 ∷ []) two_has c_a_e).0, a_c_e_ended)

a_e_not_by_stages : GoesByStages two 4 0 (1 ∷ 3 ∷ []) → ⊥
a_e_not_by_stages g = a_e_too_early ((stages_are two 4 4 0 (1 ∷ 3 ∷ []) two_has).0.1 g)
