-- A Send finds a walk. Where the walk of a run goes another way at the sender's choice, its lane is cut there and goes on with
-- the Send; other lanes and later stages stay.
use Rattle.std.proofs.Common.{◌≡◌, ℕ, zero, suc, ◌<◌, ◌≤◌, Bool, true, false, List, [], ◌∷◌, ◌++◌, refl, sym, ◌∙◌, ap, subst, ◌⊎◌, inl, inr, ⊎_elim, append_assoc, append-nil, arith, eq-eqb, ne_eqb}
use Rattle.std.specs.Prelude.{◌==◌, ◌↔◌}
use Rattle.std.specs.List.{cons_option}
use Rattle.std.proofs.lemmas.Bool.{cases_eq, cases_lt}
use Rattle.rcv_tree.specs.declared.event.Event.{Event}
use Rattle.rcv_tree.specs.declared.event.Dir.TheVariants.{Sent}
use Rattle.rcv_model.specs.Net.{Net, IsIn, opened, moved, MayCome, ComeFrom, left_by, IsWalk, IsLaneWalk, IsPrefix, last_of}
use Rattle.rcv_model.specs.Run.{act_at, acts, part, place_of, IsRunOf}
use Rattle.rcv_model.specs.Next.{IsOf, HasNone, IsNext, met_by, seen_by, Chain, HasLater, IsPlaceOf, IsProper, IsAccepted}
use Rattle.rcv_model.proofs.Lists.{prefix_trans, prefix_map}
use Rattle.rcv_model.proofs.Walks.{Ahead, come_join, come_front, come_back, walk_front, moved_here, moved_else, lane_back}
use Rattle.rcv_model.proofs.Lanes.{IsLaned, moved_laned, left_laned, opened_laned, walk_in_text}
use Rattle.rcv_model.proofs.Views.{seen, seen_join, none_seen, SeenCut, seen_cut, Sees, sees_opened, sees_walk, IsMet, met_offered, met_one_lane}
use Rattle.rcv_model.proofs.Completing.{ComesInLane, comes_in_lane, GoesAlong, goes_along}
use Rattle.rcv_model.proofs.Ways.{stands, next_in_text}
use Rattle.rcv_model.proofs.Parts.{part_join, part_none, ActCase, none, sends, gets, act_case, First, first, at, Cut, cut, last_join, part_next}
use Rattle.rcv_model.proofs.Parts.{never as has_none}
use Rattle.rcv_model.proofs.Forks.{IsForced, chain_way, forced_walk, forced_none, beside_way, lane_walk_join, Stands, stands_at, Fork, IsAtStake, split_at, nobody}

-- the points of a list that aren't in the lane of x
aside_if : Bool → ℕ → List ℕ → List ℕ
aside_if true y w = w
aside_if false y w = y ∷ w

aside : Net → ℕ → List ℕ → List ℕ
aside net x [] = []
aside net x (y ∷ w) = aside_if (net.lane y == net.lane x) y (aside net x w)

aside_yes : (net : Net) (x y : ℕ) (w : List ℕ) → net.lane y ≡ net.lane x → aside net x (y ∷ w) ≡ aside net x w
unfolding aside aside_if
aside_yes net x y w e = ap (λ b. aside_if b y (aside net x w)) (eq-eqb (net.lane y) (net.lane x) e)

aside_no : (net : Net) (x y : ℕ) (w : List ℕ) → (net.lane y ≡ net.lane x → ⊥) → aside net x (y ∷ w) ≡ y ∷ aside net x w
unfolding aside aside_if
aside_no net x y w n = ap (λ b. aside_if b y (aside net x w)) (ne_eqb (net.lane y) (net.lane x) n)

aside_nil : (net : Net) (x : ℕ) → aside net x [] ≡ []
unfolding aside
aside_nil net x = refl

-- a role has a point in the lane, or its part is the same without the lane
part_aside : (net : Net) (q x : ℕ) (w : List ℕ) → ((t : ℕ) × IsOf net q t × IsIn t w × (net.lane t ≡ net.lane x)) ⊎ (part net q w ≡ part net q (aside net x w))
part_aside net q x [] = inr (ap (part net q) (sym (aside_nil net x)))
part_aside net q x (y ∷ w) = go (part_aside net q x w) (cases_eq (net.lane y) (net.lane x)) (act_case net q y)
  where
    go : ((t : ℕ) × IsOf net q t × IsIn t w × (net.lane t ≡ net.lane x)) ⊎ (part net q w ≡ part net q (aside net x w)) → (net.lane y ≡ net.lane x) ⊎ (net.lane y ≡ net.lane x → ⊥) → ActCase net q y → ((t : ℕ) × IsOf net q t × IsIn t (y ∷ w) × (net.lane t ≡ net.lane x)) ⊎ (part net q (y ∷ w) ≡ part net q (aside net x (y ∷ w)))
    go (inl s) d c = inl (s.0, s.1, inr s.2, s.3)
    go (inr e) (inl f) (none g n) = inr (ap (λ o. cons_option o (part net q w)) g ∙ e ∙ ap (part net q) (sym (aside_yes net x y w f)))
    go (inr e) (inl f) (sends g s) = inl (y, inl s, inl refl, f)
    go (inr e) (inl f) (gets g s n) = inl (y, inr s, inl refl, f)
    go (inr e) (inr n) c = inr (ap (λ l. cons_option (act_at net q y) l) e ∙ ap (part net q) (sym (aside_no net x y w n)))

-- lanes as they were but for that of x, which is ended or of the last stage
record AreElse (net : Net) (x : ℕ) (old new : Ahead) : Type 0 where
  same : (l : ℕ) → (l ≡ net.lane x → ⊥) → old l ≡ new l
  free : (new (net.lane x) ≡ []) ⊎ ((p : ℕ) → 1 ≤ p → p ≤ net.count → net.stage (net.lane x) < net.stage (net.lane p) → ⊥)

come_aside : (net : Net) (roles x : ℕ) (old new : Ahead) (w : List ℕ) → IsProper net roles → IsLaned net old → ComeFrom net old w → AreElse net x old new → ComeFrom net new (aside net x w)
come_aside net roles x old new [] proper is_laned c are = subst (ComeFrom net new) (sym (aside_nil net x)) tt
come_aside net roles x old new (y ∷ w) proper is_laned c are = ⊎_elim
    (λ e. subst (ComeFrom net new) (sym (aside_yes net x y w e)) (come_aside net roles x (moved net old y) new w proper (moved_laned net roles old y proper is_laned) c.1 (record { same = λ l n. moved_else net old y l (λ f. n (f ∙ e)) ∙ are.same l n; free = are.free })))
    (λ n. subst (ComeFrom net new) (sym (aside_no net x y w n)) (
      record { offered = subst (IsIn y) (are.same (net.lane y) n) c.0.offered; ended = λ l lt. ended n l lt (cases_eq l (net.lane x)) },
      come_aside net roles x (moved net old y) (moved net new y) w proper (moved_laned net roles old y proper is_laned) c.1 (record { same = λ l m. both l m (cases_eq l (net.lane y)); free = ⊎_elim (λ e. inl (moved_else net new y (net.lane x) (λ f. n (sym f)) ∙ e)) (λ f. inr f) are.free }),
    ))
    (cases_eq (net.lane y) (net.lane x))
  where
    ended : (net.lane y ≡ net.lane x → ⊥) → (l : ℕ) → net.stage l < net.stage (net.lane y) → (l ≡ net.lane x) ⊎ (l ≡ net.lane x → ⊥) → new l ≡ []
    ended n l lt (inr m) = sym (are.same l m) ∙ c.0.ended l lt
    ended n l lt (inl e) = ⊎_elim (λ f. ap new e ∙ f) (λ f. let t = is_laned.in_text (net.lane y) y c.0.offered in absurd (f y t.0 t.1 (subst (λ k. net.stage k < net.stage (net.lane y)) e lt))) are.free

    both : (l : ℕ) → (l ≡ net.lane x → ⊥) → (l ≡ net.lane y) ⊎ (l ≡ net.lane y → ⊥) → moved net old y l ≡ moved net new y l
    both l m (inl e) = moved_here net old y l e ∙ sym (moved_here net new y l e)
    both l m (inr k) = moved_else net old y l k ∙ are.same l m ∙ sym (moved_else net new y l k)

-- a later stage has a point, or none has
later_up_to : (net : Net) (p n : ℕ) → n ≤ net.count → HasLater net p ⊎ ((q : ℕ) → 1 ≤ q → q ≤ n → net.stage (net.lane p) < net.stage (net.lane q) → ⊥)
later_up_to net p zero le = inr (λ q low high lt. absurd (omega arith))
later_up_to net p (suc n) le = go (later_up_to net p n (omega arith)) (cases_lt (net.stage (net.lane p)) (net.stage (net.lane (suc n))))
  where
    go : HasLater net p ⊎ ((q : ℕ) → 1 ≤ q → q ≤ n → net.stage (net.lane p) < net.stage (net.lane q) → ⊥) → (net.stage (net.lane p) < net.stage (net.lane (suc n))) ⊎ (net.stage (net.lane (suc n)) ≤ net.stage (net.lane p)) → HasLater net p ⊎ ((q : ℕ) → 1 ≤ q → q ≤ suc n → net.stage (net.lane p) < net.stage (net.lane q) → ⊥)
    go (inl a) d = inl a
    go (inr m) (inl lt) = inl (suc n, omega arith, le, lt)
    go (inr m) (inr ge) = inr (λ q low high lt. ⊎_elim (λ e. omega (arith, ge, lt, ap (λ k. net.stage (net.lane k)) e)) (λ k. m q low (omega (arith, k)) lt) (cases_eq q (suc n)))

pub later_stage : (net : Net) (p : ℕ) → HasLater net p ⊎ (HasLater net p → ⊥)
later_stage net p = ⊎_elim (λ a. inl a) (λ n. inr (λ a. n a.0 a.1 a.2 a.3)) (later_up_to net p net.count (omega arith))

-- a walk that the events follow, on which the Send at z is next for r
pub record Leads (net : Net) (r z : ℕ) (h : List Event) : Type 0 where
  pub way : List ℕ
  pub walk : IsWalk net 0 way
  pub parts : (q : ℕ) → IsPrefix (acts q h) (part net q way)
  pub own : IsPrefix (acts r h ++ record { dir = Sent; point = z } ∷ []) (part net r way)

-- how the lane of z goes on: to its end where a later stage has a point
record GoesOn (net : Net) (z : ℕ) : Type 0 where
  way : List ℕ
  walk : IsLaneWalk net z way
  free : (net.offers (last_of z way) ≡ []) ⊎ ((p : ℕ) → 1 ≤ p → p ≤ net.count → net.stage (net.lane z) < net.stage (net.lane p) → ⊥)

lane_goes_on : (net : Net) (roles z : ℕ) → IsAccepted net roles → 1 ≤ z → z ≤ net.count → GoesOn net z
lane_goes_on net roles z accepted low high = ⊎_elim
    (λ a. let e = accepted.lanes_end z low high a in record { way = e.0; walk = e.1; free = inl e.2 })
    (λ n. record { way = []; walk = tt; free = inr (λ p l h lt. n (p, l, h, lt)) })
    (later_stage net z)

-- at a fork the lane goes the other way, and the rest of the walk stays
fork_leads : (net : Net) (roles : ℕ) (w : List ℕ) (h : List Event) (r x z : ℕ) (a v : List ℕ) (on_ : GoesOn net z) → net.sender z ≡ r → Fork net roles w h r x z a v on_.way → Leads net r z h
fork_leads net roles w h r x z a v on_ sent fork = record { way = a ++ (z ∷ (on_.way ++ aside net x v)); walk = walk; parts = parts; own = own }
  where
    all_walk' : IsWalk net 0 (a ++ x ∷ v)
    all_walk' = subst (IsWalk net 0) (sym fork.whole) fork.run.walk

    now : Ahead
    now = left_by net (opened net 0) a

    rest : ComeFrom net (left_by net (opened net 0) a) (x ∷ v)
    rest = come_back net (opened net 0) a (x ∷ v) all_walk'

    laned' : IsLaned net (left_by net (opened net 0) a)
    laned' = left_laned net roles (opened net 0) a fork.proper (opened_laned net roles 0 fork.proper)

    c : ComesInLane net (left_by net (opened net 0) a) z on_.way
    c = comes_in_lane net roles (left_by net (opened net 0) a) z on_.way fork.proper fork.may fork.way

    are : AreElse net x (moved net (left_by net (opened net 0) a) x) (left_by net (left_by net (opened net 0) a) (z ∷ on_.way))
    are = record {
      same = λ l n. moved_else net (left_by net (opened net 0) a) x l n ∙ sym (c.else' l (λ e. n (e ∙ fork.beside)));
      free = ⊎_elim (λ e. inl (ap (left_by net (left_by net (opened net 0) a) (z ∷ on_.way)) (sym fork.beside) ∙ c.here' ∙ e)) (λ f. inr (λ p low high lt. f p low high (subst (λ k. net.stage k < net.stage (net.lane p)) (sym fork.beside) lt))) on_.free;
    }

    walk : IsWalk net 0 (a ++ (z ∷ (on_.way ++ aside net x v)))
    walk = come_join net (opened net 0) a (z ∷ (on_.way ++ aside net x v)) (come_front net (opened net 0) a (x ∷ v) all_walk') (come_join net (left_by net (opened net 0) a) (z ∷ on_.way) (aside net x v) c.walk (come_aside net roles x (moved net (left_by net (opened net 0) a) x) (left_by net (left_by net (opened net 0) a) (z ∷ on_.way)) v fork.proper (moved_laned net roles (left_by net (opened net 0) a) x fork.proper laned') rest.1 are))

    at_stake : (q : ℕ) → IsAtStake net x v z on_.way q → IsPrefix (acts q h) (part net q (a ++ (z ∷ (on_.way ++ aside net x v))))
    at_stake q stake = prefix_trans _ _ _ (nobody net roles w h r x z a v on_.way fork [] h refl (λ s m. (_, refl)) q stake) (prefix_map (act_at net q) a _ (z ∷ (on_.way ++ aside net x v), refl))

    parts : (q : ℕ) → IsPrefix (acts q h) (part net q (a ++ (z ∷ (on_.way ++ aside net x v))))
    parts q = go (first net q (z ∷ on_.way)) (part_aside net q x (x ∷ v))
      where
        in_middle : (b : List ℕ) (u : ℕ) (d : List ℕ) → IsIn u (b ++ u ∷ d)
        in_middle [] u d = inl refl
        in_middle (g ∷ b) u d = inr (in_middle b u d)

        go : First net q (z ∷ on_.way) → ((t : ℕ) × IsOf net q t × IsIn t (x ∷ v) × (net.lane t ≡ net.lane x)) ⊎ (part net q (x ∷ v) ≡ part net q (aside net x (x ∷ v))) → IsPrefix (acts q h) (part net q (a ++ (z ∷ (on_.way ++ aside net x v))))
        go (at b u d f k o) s = at_stake q (u, o, inr (subst (IsIn u) f (in_middle b u d)))
        go (has_none k) (inl s) = at_stake q (s.0, s.1, inl (s.2, s.3))
        go (has_none k) (inr e) = subst (IsPrefix (acts q h)) same (fork.run.parts q)
          where
            same : part net q w ≡ part net q (a ++ (z ∷ (on_.way ++ aside net x v)))
            same =
                ap (part net q) (sym fork.whole) ∙ part_join net q a (x ∷ v)
                ∙ ap (λ l. part net q a ++ l) (e ∙ ap (part net q) (aside_yes net x x v refl) ∙ ap (λ l. l ++ part net q (aside net x v)) (sym (part_none net q (z ∷ on_.way) k)) ∙ sym (part_join net q (z ∷ on_.way) (aside net x v)))
                ∙ sym (part_join net q a (z ∷ (on_.way ++ aside net x v)))

    own : IsPrefix (acts r h ++ record { dir = Sent; point = z } ∷ []) (part net r (a ++ (z ∷ (on_.way ++ aside net x v))))
    own = (part net r (on_.way ++ aside net x v), append_assoc (acts r h) (record { dir = Sent; point = z } ∷ []) _ ∙ ap (λ l. l ++ record { dir = Sent; point = z } ∷ part net r (on_.way ++ aside net x v)) fork.waits ∙ sym (part_next net r z a [] (on_.way ++ aside net x v) sent tt))

-- a next point of a role whose next points are all its Sends is next on some walk that the events follow
pub send_finds_walk : (net : Net) (roles : ℕ) (w : List ℕ) (h : List Event) (r z : ℕ) → IsProper net roles → IsAccepted net roles → IsRunOf net w h → r < roles → IsNext net r (place_of 0 (acts r h)) z → ((x : ℕ) → IsNext net r (place_of 0 (acts r h)) x → net.sender x ≡ r) → Leads net r z h
send_finds_walk net roles w h r z proper accepted run lt next sends' = go (beside_way (seen_by net r) r (place_of 0 (acts r h)) cw.0 (seen net r b) cw.1 behind)
  where
    c : Cut net r 0 w (acts r h)
    c = cut net r 0 w (acts r h) (run.parts r)

    cut_walk : IsWalk net 0 (c.front ++ c.back)
    cut_walk = subst (IsWalk net 0) (sym c.whole) run.walk

    st : Stands net r c.front roles
    st = stands_at net roles r c.front proper (walk_front net 0 c.front c.back cut_walk)

    f : List ℕ
    f = st.front

    b : List ℕ
    b = st.back ++ c.back

    whole : st.front ++ (st.back ++ c.back) ≡ w
    whole = sym (append_assoc st.front st.back c.back) ∙ ap (λ l. l ++ c.back) st.whole ∙ c.whole

    did : part net r st.front ≡ acts r h
    did = st.did ∙ c.did

    stop : last_of 0 (seen net r st.front) ≡ place_of 0 (acts r h)
    stop = st.stop ∙ ap (place_of 0) c.did

    -- what r sees of a walk that begins with f
    sees_from : (d : List ℕ) → IsWalk net 0 (st.front ++ d) → IsLaneWalk (seen_by net r) (place_of 0 (acts r h)) (seen net r d) × Sees net r (left_by net (opened net 0) (st.front ++ d)) (last_of (place_of 0 (acts r h)) (seen net r d))
    sees_from d walk =
        let s = sees_walk net roles r proper (opened net 0) 0 (st.front ++ d) (opened_laned net roles 0 proper) walk (sees_opened net r proper.lanes) in
        let split = seen_join net r st.front d in (
          subst (λ n. IsLaneWalk (seen_by net r) n (seen net r d)) stop (lane_back (seen_by net r) 0 (seen net r st.front) (seen net r d) (subst (IsLaneWalk (seen_by net r) 0) split s.way)),
          subst (Sees net r (left_by net (opened net 0) (st.front ++ d))) (ap (last_of 0) split ∙ last_join 0 (seen net r st.front) (seen net r d) ∙ ap (λ n. last_of n (seen net r d)) stop) s.sees,
        )

    f_walk : IsWalk net 0 (st.front ++ (st.back ++ c.back))
    f_walk = subst (IsWalk net 0) (sym whole) run.walk

    behind : IsLaneWalk (seen_by net r) (place_of 0 (acts r h)) (seen net r (st.back ++ c.back))
    behind = (sees_from (st.back ++ c.back) f_walk).0

    stood : IsPlaceOf net r (place_of 0 (acts r h))
    stood = subst (λ l. IsPlaceOf net r (place_of 0 l)) c.did (stands net roles r c.front c.back proper cut_walk)

    en : (j : ℕ) × Chain (seen_by net r) r (place_of 0 (acts r h)) j × ((t : ℕ) → IsIn t (met_by net r j) ↔ IsNext net r (place_of 0 (acts r h)) t)
    en = accepted.enabled r (place_of 0 (acts r h)) z lt stood next sends'

    cw : (u : List ℕ) × IsForced (seen_by net r) r (place_of 0 (acts r h)) u × (last_of (place_of 0 (acts r h)) u ≡ en.0)
    cw = chain_way (seen_by net r) r (place_of 0 (acts r h)) en.0 en.1

    meets_z : IsIn z (met_by net r (last_of (place_of 0 (acts r h)) cw.0))
    meets_z = subst (λ n. IsIn z (met_by net r n)) (sym cw.2) ((en.2 z).1 next)

    u_none : HasNone net r cw.0
    u_none = forced_none (seen_by net r) r (place_of 0 (acts r h)) cw.0 cw.1

    in_text : (d e : List ℕ) → IsWalk net 0 (st.front ++ (d ++ e)) → (x : ℕ) → IsIn x d → (1 ≤ x) × (x ≤ net.count)
    in_text d e walk x i =
        let s = split_at x d i in
        walk_in_text net roles 0 x (st.front ++ s.0) (s.1 ++ e) proper (subst (IsWalk net 0) (ap (λ l. st.front ++ (l ++ e)) (sym s.2) ∙ ap (λ l. st.front ++ l) (append_assoc s.0 (x ∷ s.1) e) ∙ sym (append_assoc st.front s.0 (x ∷ (s.1 ++ e)))) walk)

    -- the walk goes on, where it stops before the choice
    extend : (m : List ℕ) → seen net r (st.back ++ c.back) ++ m ≡ cw.0 → Leads net r z h
    extend m e = record {
      way = w ++ g.way;
      walk = walk;
      parts = λ q. prefix_trans _ _ _ (run.parts q) (prefix_map (act_at net q) w _ (g.way, refl));
      own = subst (λ l. IsPrefix (acts r h ++ record { dir = Sent; point = z } ∷ []) (part net r l)) (sym split) (part net r k.back, append_assoc (acts r h) (record { dir = Sent; point = z } ∷ []) _ ∙ ap (λ l. l ++ record { dir = Sent; point = z } ∷ part net r k.back) (sym did) ∙ sym (part_next net r z st.front ((st.back ++ c.back) ++ k.front) k.back (sends' z next) clear));
    }
      where
        so_far : Sees net r (left_by net (opened net 0) w) (last_of (place_of 0 (acts r h)) (seen net r (st.back ++ c.back)))
        so_far = subst (λ l. Sees net r (left_by net (opened net 0) l) (last_of (place_of 0 (acts r h)) (seen net r (st.back ++ c.back)))) whole (sees_from (st.back ++ c.back) f_walk).1

        to_z : IsLaneWalk (seen_by net r) (place_of 0 (acts r h)) (seen net r (st.back ++ c.back) ++ (m ++ z ∷ []))
        to_z = subst (IsLaneWalk (seen_by net r) (place_of 0 (acts r h))) (ap (λ l. l ++ z ∷ []) (sym e) ∙ append_assoc (seen net r (st.back ++ c.back)) m (z ∷ [])) (lane_walk_join (seen_by net r) (place_of 0 (acts r h)) cw.0 (z ∷ []) (forced_walk (seen_by net r) r (place_of 0 (acts r h)) cw.0 cw.1) (meets_z, tt))

        g : GoesAlong net roles proper accepted.lanes_end r (left_by net (opened net 0) w) (m ++ z ∷ [])
        g = goes_along net roles proper accepted.lanes_end r (left_by net (opened net 0) w) _ (m ++ z ∷ []) (left_laned net roles (opened net 0) w proper (opened_laned net roles 0 proper)) so_far (lane_back (seen_by net r) (place_of 0 (acts r h)) (seen net r (st.back ++ c.back)) (m ++ z ∷ []) to_z)

        walk : IsWalk net 0 (w ++ g.way)
        walk = come_join net (opened net 0) w g.way run.walk g.walk

        k : SeenCut net r g.way m z []
        k = seen_cut net r g.way m z [] (sym g.sees)

        split : w ++ g.way ≡ st.front ++ (((st.back ++ c.back) ++ k.front) ++ z ∷ k.back)
        split = ap (λ l. l ++ g.way) (sym whole) ∙ append_assoc st.front (st.back ++ c.back) g.way ∙ ap (λ l. st.front ++ l) (ap (λ l. (st.back ++ c.back) ++ l) (sym k.whole) ∙ sym (append_assoc (st.back ++ c.back) k.front (z ∷ k.back)))

        clear : HasNone net r ((st.back ++ c.back) ++ k.front)
        clear = none_seen net r ((st.back ++ c.back) ++ k.front) (in_text ((st.back ++ c.back) ++ k.front) (z ∷ k.back) (subst (IsWalk net 0) split walk)) (subst (HasNone net r) (sym (seen_join net r (st.back ++ c.back) k.front ∙ ap (λ l. seen net r (st.back ++ c.back) ++ l) k.seen_front ∙ e)) u_none)

    -- the walk comes by the choice
    passes : (x : ℕ) (rest : List ℕ) → cw.0 ++ x ∷ rest ≡ seen net r (st.back ++ c.back) → Leads net r z h
    passes x rest e = ⊎_elim same choose (cases_eq x z)
      where
        k : SeenCut net r (st.back ++ c.back) cw.0 x rest
        k = seen_cut net r (st.back ++ c.back) cw.0 x rest e

        parted : st.front ++ (k.front ++ x ∷ k.back) ≡ w
        parted = ap (λ l. st.front ++ l) k.whole ∙ whole

        clear : HasNone net r k.front
        clear = none_seen net r k.front (in_text k.front (x ∷ k.back) (subst (IsWalk net 0) (sym parted) run.walk)) (subst (HasNone net r) (sym k.seen_front) u_none)

        same : x ≡ z → Leads net r z h
        same d = record {
          way = w;
          walk = run.walk;
          parts = run.parts;
          own = subst (λ l. IsPrefix (acts r h ++ record { dir = Sent; point = z } ∷ []) (part net r l)) (ap (λ n. st.front ++ (k.front ++ n ∷ k.back)) (sym d) ∙ parted) (part net r k.back, append_assoc (acts r h) (record { dir = Sent; point = z } ∷ []) _ ∙ ap (λ l. l ++ record { dir = Sent; point = z } ∷ part net r k.back) (sym did) ∙ sym (part_next net r z st.front k.front k.back (sends' z next) clear));
        }

        choose : (x ≡ z → ⊥) → Leads net r z h
        choose n = fork_leads net roles w h r x z (st.front ++ k.front) k.back on_ (sends' z next) (record {
          proper = proper;
          accepted = accepted;
          run = run;
          whole = append_assoc st.front k.front (x ∷ k.back) ∙ parted;
          waits = sym did ∙ sym (append-nil _) ∙ ap (λ l. part net r st.front ++ l) (sym (part_none net r k.front clear)) ∙ sym (part_join net r st.front k.front);
          mine = sends' x ((en.2 x).0 (subst (λ j. IsIn x (met_by net r j)) cw.2 meets_x));
          may = record { offered = met'.offered; ended = λ l less. may_x.ended l (subst (λ m. net.stage l < net.stage m) beside less) };
          beside = beside;
          differ = n;
          way = on_.walk;
        })
          where
            a_walk : IsWalk net 0 ((st.front ++ k.front) ++ x ∷ k.back)
            a_walk = subst (IsWalk net 0) (sym (append_assoc st.front k.front (x ∷ k.back) ∙ parted)) run.walk

            may_x : MayCome net (left_by net (opened net 0) (st.front ++ k.front)) x
            may_x = (come_back net (opened net 0) (st.front ++ k.front) (x ∷ k.back) a_walk).0

            meets_x : IsIn x (met_by net r (last_of (place_of 0 (acts r h)) cw.0))
            meets_x = (lane_back (seen_by net r) (place_of 0 (acts r h)) cw.0 (x ∷ rest) (subst (IsLaneWalk (seen_by net r) (place_of 0 (acts r h))) (sym e) behind)).0

            beside : net.lane z ≡ net.lane x
            beside = met_one_lane net roles r proper (last_of (place_of 0 (acts r h)) cw.0) z x meets_z meets_x

            so_far : Sees net r (left_by net (opened net 0) (st.front ++ k.front)) (last_of (place_of 0 (acts r h)) cw.0)
            so_far = subst (λ l. Sees net r (left_by net (opened net 0) (st.front ++ k.front)) (last_of (place_of 0 (acts r h)) l)) k.seen_front (sees_from k.front (walk_front net 0 (st.front ++ k.front) (x ∷ k.back) a_walk)).1

            met' : IsMet net roles r proper (left_by net (opened net 0) (st.front ++ k.front)) z
            met' = met_offered net roles r proper (last_of (place_of 0 (acts r h)) cw.0) z (left_by net (opened net 0) (st.front ++ k.front)) so_far meets_z

            text : (1 ≤ z) × (z ≤ net.count)
            text = next_in_text net roles r (place_of 0 (acts r h)) z proper next

            on_ : GoesOn net z
            on_ = lane_goes_on net roles z accepted text.0 text.1

    go : IsPrefix (seen net r (st.back ++ c.back)) cw.0 ⊎ ((x : ℕ) × (rest : List ℕ) × (cw.0 ++ x ∷ rest ≡ seen net r (st.back ++ c.back))) → Leads net r z h
    go (inl s) = extend s.0 s.1
    go (inr s) = passes s.0 s.1 s.2
