-- A protocol with a loop and a choice, and roles that share a host: points that are met, and points that never are.
use Rattle.std.proofs.Common.{cond, ◌≡◌, ℕ, ◌≤◌, true, false, Option, Some, None, List, [], ◌∷◌, ◌++◌, length, refl, sym, ◌∙◌, ap, subst, ◌⊎◌, inl, inr, ⊎_elim, arith, ne_eqb}
use Rattle.std.specs.Prelude.{◌==◌, if◌then◌else◌, slice_get}
use Rattle.rcv_tree.specs.Bits.{is_listed}
use Rattle.rcv_tree.specs.declared.event.Event.{Event}
use Rattle.rcv_tree.specs.declared.event.Dir.TheVariants.{Got}
use Rattle.rcv_model.specs.Net.{IsIn, IsWalk, IsLaneWalk}
use Rattle.rcv_model.specs.Run.{Act, acts, IsQueued}
use Rattle.rcv_model.specs.Places.{net_of}
use Rattle.rcv_model.specs.Text.{Body, End, Single, Loop, Again}
use Rattle.rcv_model.specs.Table.{marks, point_of, IsRestart, concerned_by_any}
use Rattle.rcv_model.specs.Undo.{bound_of, keep_of}
use Rattle.rcv_model.proofs.Concerned.{listed_concerned}
use Rattle.rcv_model.proofs.Lists.{some_same}
use Rattle.rcv_model.proofs.Located.{get_front, locate}
use Rattle.rcv_model.proofs.OneLane.{one_lane}
use Rattle.rcv_model.proofs.Scanning.{among}
use Rattle.rcv_model.proofs.Session.{net, feed_proper, feed_one, feed_accepted}
use Rattle.rcv_model.proofs.Walks.{of_lane_walk, to_lane_walk}
use Rattle.rcv_told.specs.Told.{Terms}
use Rattle.rcv_told.specs.Laws.{AreAccepted}
use Rattle.rcv_tightness.specs.Met.{IsFirstUndone, LosesFrom, IsMet}
use Rattle.rcv_tightness.specs.Laws.{MayFail}
use Rattle.rcv_tightness.specs.Told.{IsMetInTold}
use Rattle.rcv_tightness.proofs.Turns.{in_turn, are_in_turn, run_in_turn}
use Rattle.rcv_tightness.proofs.Firsts.{first_undone_is_next}
use Rattle.rcv_tightness.proofs.Meeting.{marks_keep, meets, met_restarts, concerned_do_lose}
use Rattle.rcv_tightness.proofs.ToldMeeting.{told_restarts_are_met}

-- rec X { choice at A { 1: A to B; 2: B to C; 3: A to D; continue X; } or { 4: A to B; 5: B to C; 6: A to D; } }
-- A and D share a host, and A loses its events from its point 3 on.
abbrev host : List ℕ
host = 0 ∷ (3 ∷ [])

may_fail : MayFail net 4 host 0 3
may_fail = let most : 3 ≤ 6 = omega arith in
    record { proper = feed_proper; accepted = feed_accepted; member = inl refl; least = omega arith; most = most; own = inl refl }

-- around the loop and by the other branch C is first marked at 5, or by the same branch again at 2
other_branch : IsRestart net 0 3 2 5
other_branch = inr (
  λ e. absurd (omega (arith, e)),
  record {
    before = 3 ∷ (4 ∷ []);
    after = [];
    walk = (4 ∷ (5 ∷ []), of_lane_walk net 3 (4 ∷ (5 ∷ [])) feed_one (inr (inl refl), (inl refl, tt)), refl);
    not_yet = not_yet;
    now = inl refl;
  },
)
  where
    not_yet : IsIn 2 (marks net (0 ∷ []) (3 ∷ (4 ∷ []))) → ⊥
    not_yet (inl e) = omega (arith, e)
    not_yet (inr (inl e)) = omega (arith, e)
    not_yet (inr (inr (inl e))) = omega (arith, e)
    not_yet (inr (inr (inr i))) = i

same_branch : IsRestart net 0 3 2 2
same_branch = inr (
  λ e. absurd (omega (arith, e)),
  record {
    before = 3 ∷ (1 ∷ []);
    after = [];
    walk = (1 ∷ (2 ∷ []), of_lane_walk net 3 (1 ∷ (2 ∷ [])) feed_one (inl refl, (inl refl, tt)), refl);
    not_yet = not_yet;
    now = inl refl;
  },
)
  where
    not_yet : IsIn 2 (marks net (0 ∷ []) (3 ∷ (1 ∷ []))) → ⊥
    not_yet (inl e) = omega (arith, e)
    not_yet (inr (inl e)) = omega (arith, e)
    not_yet (inr (inr (inl e))) = omega (arith, e)
    not_yet (inr (inr (inr i))) = i

-- so both are met, and A itself goes back to 3
meets_other_branch : IsMet net host 0 3 2 5
meets_other_branch = meets net 4 host 0 3 2 5 may_fail other_branch

meets_same_branch : IsMet net host 0 3 2 2
meets_same_branch = meets net 4 host 0 3 2 2 may_fail same_branch

meets_itself : IsMet net host 0 3 0 3
meets_itself = meets net 4 host 0 3 0 3 may_fail (inl (refl, refl))

-- The same by hand: five messages in turn, after which A has saved one event and each other role all.
abbrev all : List Event
all = in_turn net (1 ∷ (2 ∷ (3 ∷ (4 ∷ (5 ∷ [])))))

abbrev saved : ℕ → ℕ
saved r = if r == 0 then 1 else length (acts r all)

-- two messages are left
left : keep_of net host saved all ≡ in_turn net (1 ∷ (2 ∷ []))
left = refl

walk : IsWalk net 0 (1 ∷ (2 ∷ (3 ∷ (4 ∷ (5 ∷ [])))))
walk = of_lane_walk net 0 (1 ∷ (2 ∷ (3 ∷ (4 ∷ (5 ∷ []))))) feed_one (inl refl, (inl refl, (inl refl, (inr (inl refl), (inl refl, tt)))))

loses : LosesFrom all saved 0 3
loses = record { start = refl; others = λ r m. ap (λ b. cond b 1 (length (acts r all))) (ne_eqb r 0 m) }

queued : IsQueued net all
queued = (run_in_turn net (1 ∷ (2 ∷ (3 ∷ (4 ∷ (5 ∷ []))))) all feed_proper.two_ends walk (are_in_turn net (1 ∷ (2 ∷ (3 ∷ (4 ∷ (5 ∷ []))))))).queued

back_to_5 : IsFirstUndone net all (bound_of host saved all) 2 5
back_to_5 = (first_undone_is_next net all (bound_of host saved all) 2 5 queued).1 (record { dir = Got; point = 5 }, refl, refl)

by_hand : IsMet net host 0 3 2 5
by_hand = record {
  events = all;
  saved = saved;
  run = (
    1 ∷ (2 ∷ (3 ∷ (4 ∷ (5 ∷ [])))),
    run_in_turn net (1 ∷ (2 ∷ (3 ∷ (4 ∷ (5 ∷ []))))) all feed_proper.two_ends walk
        (are_in_turn net (1 ∷ (2 ∷ (3 ∷ (4 ∷ (5 ∷ [])))))),
  );
  loses = loses;
  back = back_to_5;
}

-- C's Recv at 2 stays, so it isn't the first that is undone
not_back_to_2 : IsFirstUndone net all (bound_of host saved all) 2 2 → ⊥
not_back_to_2 f =
    let n = (first_undone_is_next net all (bound_of host saved all) 2 2 queued).0 f in
    let there : slice_get (acts 2 all) 1 ≡ Some n.0 = n.1 in
    let here : slice_get (acts 2 all) 1 ≡ Some (record { dir = Got; point = 5 }) = refl in
    let same = ap (λ (a : Act). a.point) (some_same (sym here ∙ there)) in
    let e : 5 ≡ 2 = same ∙ n.2 in
    omega (arith, e)

-- A's first event that it hasn't saved is at 3, and not at 1
not_from_1 : LosesFrom all saved 0 1 → ⊥
not_from_1 l = let s : Some 3 ≡ Some 1 = l.start in let e : 3 ≡ 1 = some_same s in omega (arith, e)

-- B and D share a host, and B loses all of its events: C goes back to 2, as each walk marks it there. So it never goes back to 5.
may_fail_b : MayFail net 4 (1 ∷ (3 ∷ [])) 1 1
may_fail_b = let most : 1 ≤ 6 = omega arith in
    record { proper = feed_proper; accepted = feed_accepted; member = inl refl; least = omega arith; most = most; own = inr refl }

heads : (x y : ℕ) (xs ys : List ℕ) → x ∷ xs ≡ y ∷ ys → x ≡ y
heads x y xs ys e = cc

tails : (x y : ℕ) (xs ys : List ℕ) → x ∷ xs ≡ y ∷ ys → xs ≡ ys
tails x y xs ys e = cc

not_nil : (x : ℕ) (xs : List ℕ) → x ∷ xs ≡ [] → ⊥
not_nil x xs e = cc

never_at_5 : IsRestart net 1 1 2 5 → ⊥
never_at_5 (inl e) = let f = e.0 in omega (arith, f)
never_at_5 (inr m) = go m.1.before m.1.walk.0 m.1.walk.2 (to_lane_walk net 1 m.1.walk.0 feed_one m.1.walk.1) m.1.not_yet
  where
    go : (before w : List ℕ) → before ++ 5 ∷ m.1.after ≡ 1 ∷ w → IsLaneWalk net 1 w → (IsIn 2 (marks net (1 ∷ []) before) → ⊥) → ⊥
    go [] w e walk n = omega (arith, heads 5 1 m.1.after w e)
    go (x ∷ []) [] e walk n = not_nil 5 m.1.after (tails x 1 (5 ∷ m.1.after) [] e)
    go (x ∷ []) (y ∷ w) e walk n = ⊎_elim (λ g. omega (arith, heads 5 y m.1.after w (tails x 1 (5 ∷ m.1.after) (y ∷ w) e), g)) (λ i. i) walk.0
    go (x ∷ (y ∷ b)) [] e walk n = not_nil y (b ++ 5 ∷ m.1.after) (tails x 1 (y ∷ (b ++ 5 ∷ m.1.after)) [] e)
    go (x ∷ (y ∷ b)) (t ∷ w) e walk n =
        let first : x ≡ 1 = heads x 1 (y ∷ (b ++ 5 ∷ m.1.after)) (t ∷ w) e in
        let second : y ≡ 2 = heads y t (b ++ 5 ∷ m.1.after) w (tails x 1 (y ∷ (b ++ 5 ∷ m.1.after)) (t ∷ w) e)
        ∙ ⊎_elim (λ g. g) (λ i. absurd i) walk.0 in
        n (subst (λ k. IsIn 2 (marks net (1 ∷ []) (k ∷ (y ∷ b)))) (sym first)
        (subst (λ k. IsIn 2 (marks net (1 ∷ []) (1 ∷ (k ∷ b)))) (sym second) (marks_keep net (2 ∷ (1 ∷ [])) b 2 (inl refl))))

not_met_at_5 : IsMet net (1 ∷ (3 ∷ [])) 1 1 2 5 → ⊥
not_met_at_5 met = never_at_5 (met_restarts net 4 (1 ∷ (3 ∷ [])) 1 1 2 5 may_fail_b met)

-- D depends on nothing of B's, so it never loses by B
never_loses : (z : ℕ) → IsMet net (1 ∷ (3 ∷ [])) 1 1 3 z → ⊥
never_loses z met =
    let c = (concerned_do_lose net 4 (1 ∷ (3 ∷ [])) 1 1 3 may_fail_b).1 (z, met) in
    let i = (listed_concerned net 4 (λ r. Some 1) feed_proper feed_accepted.lanes_end (1 ∷ []) 3).1 (inr (1, 1, inl refl, refl, c)) in
    let t = among 3 (concerned_by_any net 4 (1 ∷ []) (λ r. Some 1)) i in
    let f : is_listed (concerned_by_any net 4 (1 ∷ []) (λ r. Some 1)) 3 ≡ false = refl in
    let same : true ≡ false = sym t ∙ f in
    cc

-- Told sessions of the same protocol on these hosts.
abbrev on_hosts : (ℕ → List ℕ) → Terms
on_hosts hosts = record { net = net; roles = 4; host = hosts }

are_accepted : (hosts : ℕ → List ℕ) → AreAccepted (on_hosts hosts)
are_accepted hosts = record { few = omega arith; proper = feed_proper; accepted = feed_accepted }

told_other_branch : IsMetInTold (on_hosts (λ r. 3 ∷ [])) 0 3 2 5
told_other_branch =
    let most : 3 ≤ 6 = omega arith in
    (told_restarts_are_met (on_hosts (λ r. 3 ∷ [])) 0 3 2 5
    (record { accepted = are_accepted (λ r. 3 ∷ []); least = omega arith; most = most; own = inl refl })).0 other_branch

not_told_at_5 : IsMetInTold (on_hosts (λ r. 3 ∷ [])) 1 1 2 5 → ⊥
not_told_at_5 met =
    let most : 1 ≤ 6 = omega arith in
    never_at_5
    ((told_restarts_are_met (on_hosts (λ r. 3 ∷ [])) 1 1 2 5
    (record { accepted = are_accepted (λ r. 3 ∷ []); least = omega arith; most = most; own = inr refl })).1 met)

-- Acceptance is needed: rec X { 1: A to B; continue X; } 2: A to B; has a point that no walk reaches. It is the restart point
-- of A from itself, and isn't met.
abbrev never_left : Body
never_left = Loop (88 ∷ []) (Single [] [] 0 1 1 (Again (88 ∷ []) End)) (Single [] [] 0 1 2 End)

restarts_at_2 : IsRestart (net_of never_left) 0 2 0 2
restarts_at_2 = inl (refl, refl)

always_1 : (k : ℕ) (before after : List ℕ) → (k ≡ 0) ⊎ (k ≡ 1) → IsLaneWalk (net_of never_left) k (before ++ 2 ∷ after) → ⊥
always_1 k [] after (inl e) walk = ⊎_elim (λ f. omega (arith, f)) (λ i. i) (subst (λ j. IsIn 2 ((net_of never_left).offers j)) e walk.0)
always_1 k [] after (inr e) walk = ⊎_elim (λ f. omega (arith, f)) (λ i. i) (subst (λ j. IsIn 2 ((net_of never_left).offers j)) e walk.0)
always_1 k (x ∷ before) after (inl e) walk =
    let is : x ≡ 1 = ⊎_elim (λ f. f) (λ i. absurd i) (subst (λ j. IsIn x ((net_of never_left).offers j)) e walk.0) in
    always_1 x before after (inr is) walk.1
always_1 k (x ∷ before) after (inr e) walk =
    let is : x ≡ 1 = ⊎_elim (λ f. f) (λ i. absurd i) (subst (λ j. IsIn x ((net_of never_left).offers j)) e walk.0) in
    always_1 x before after (inr is) walk.1

never_met_at_2 : IsMet (net_of never_left) (0 ∷ []) 0 2 0 2 → ⊥
never_met_at_2 met = go (slice_get (acts 0 met.events) (met.saved 0)) refl met.loses.start
  where
    go : (o : Option Act) → slice_get (acts 0 met.events) (met.saved 0) ≡ o → point_of o ≡ Some 2 → ⊥
    go None e s = cc
    go (Some a) e s =
        let parts = met.run.1.parts 0 in
        let there = subst (λ l. slice_get l (met.saved 0) ≡ Some a) parts.1 (get_front (acts 0 met.events) parts.0 (met.saved 0) a e) in
        let at' = locate (net_of never_left) 0 met.run.0 (met.saved 0) a there in
        let lane = to_lane_walk (net_of never_left) 0 met.run.0 (one_lane never_left tt) met.run.1.walk in
        let is : a.point ≡ 2 = some_same s in
        always_1 0 at'.before at'.after (inl refl)
        (subst (λ k. IsLaneWalk (net_of never_left) 0 (at'.before ++ k ∷ at'.after)) is
        (subst (IsLaneWalk (net_of never_left) 0) (sym at'.whole) lane))
