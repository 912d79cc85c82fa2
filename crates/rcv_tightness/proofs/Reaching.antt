-- Each point is reached by a walk after which each walk from the point goes on: lanes beside the point's lane are ended before it.
use Rattle.std.proofs.Common.{◌≡◌, ℕ, ◌+◌, ◌<◌, ◌≤◌, cond, List, [], ◌∷◌, ◌++◌, refl, sym, ◌∙◌, ap, subst, ◌⊎◌, inl, inr, ⊎_elim, append_assoc, arith, eq-eqb, ne_eqb}
use Rattle.std.specs.Prelude.{◌==◌, if◌then◌else◌}
use Rattle.std.proofs.lemmas.Bool.{cases_eq, cases_lt}
use Rattle.rcv_model.specs.Net.{Net, IsIn, opened, moved, MayCome, ComeFrom, left_by, IsWalk}
use Rattle.rcv_model.specs.Next.{HasLater, IsProper, IsAccepted}
use Rattle.rcv_model.proofs.Completing.{EndsBy, at_end, by_way, AreCompleted, completed, all_ended}
use Rattle.rcv_model.proofs.Lanes.{IsLaned, moved_laned, left_laned, opened_laned, ended_stays, IsBeyond, is_beyond, AreBeyond, beyond_point}
use Rattle.rcv_model.proofs.Sending.{later_stage}
use Rattle.rcv_model.proofs.Walks.{Ahead, come_join, come_front, come_back, left_join, moved_here, moved_else}

module _ (net : Net) (roles n : ℕ) (proper : IsProper net roles) where
  -- what lanes offer after a walk to n goes on like what they offer at n
  record Follows (all own : Ahead) : Type 0 where
    same : (l : ℕ) → IsBeyond net n l → all l ≡ own l
    none : (l : ℕ) → (IsBeyond net n l → ⊥) → own l ≡ []
    shut : (l : ℕ) → (IsBeyond net n l → ⊥) → (net.stage l < net.stage (net.lane n)) ⊎ HasLater net n → all l ≡ []

  follows_on : (all own : Ahead) (x : ℕ) → IsBeyond net n (net.lane x) → Follows all own → Follows (moved net all x) (moved net own x)
  follows_on all own x i f = record {
    same = λ l j. ⊎_elim (λ e. moved_here net all x l e ∙ sym (moved_here net own x l e))
        (λ m. moved_else net all x l m ∙ f.same l j ∙ sym (moved_else net own x l m)) (cases_eq l (net.lane x));
    none = λ l m. moved_else net own x l (λ e. m (subst (IsBeyond net n) (sym e) i)) ∙ f.none l m;
    shut = λ l m d. moved_else net all x l (λ e. m (subst (IsBeyond net n) (sym e) i)) ∙ f.shut l m d;
  }

  -- so a walk from n comes after it
  come_along : (all own : Ahead) (w : List ℕ) → IsLaned net own → Follows all own → ComeFrom net own w → ComeFrom net all w
  come_along all own [] laned f c = tt
  come_along all own (x ∷ w) laned f c = (
    record { offered = subst (IsIn x) (sym (f.same (net.lane x) beyond)) c.0.offered; ended = ended },
    come_along (moved net all x) (moved net own x) w (moved_laned net roles own x proper laned) (follows_on all own x beyond f) c.1,
  )
    where
      beyond : IsBeyond net n (net.lane x)
      beyond = ⊎_elim (λ i. i) (λ m. absurd (subst (IsIn x) (f.none (net.lane x) m) c.0.offered)) (is_beyond net n (net.lane x))

      early : (l : ℕ) → net.stage l < net.stage (net.lane x) → (net.stage l < net.stage (net.lane n)) ⊎ HasLater net n
      early l lt = ⊎_elim
          (λ less. inl less)
          (λ ge. let t = laned.in_text (net.lane x) x c.0.offered in inr (x, t.0, t.1, omega (arith, lt, ge)))
          (cases_lt (net.stage l) (net.stage (net.lane n)))

      ended : (l : ℕ) → net.stage l < net.stage (net.lane x) → all l ≡ []
      ended l lt = ⊎_elim (λ i. f.same l i ∙ c.0.ended l lt) (λ m. f.shut l m (early l lt)) (is_beyond net n l)

  -- a walk to n after which each walk from n goes on
  record IsReady : Type 0 where
    front : List ℕ
    walk : IsWalk net 0 (front ++ n ∷ [])
    shut : (l : ℕ) → (IsBeyond net n l → ⊥) → (net.stage l < net.stage (net.lane n)) ⊎ HasLater net n
        → left_by net (opened net 0) (front ++ n ∷ []) l ≡ []

  -- lanes that aren't beyond n are left alone by n itself
  left_else : (front : List ℕ) (l : ℕ) → (IsBeyond net n l → ⊥) → left_by net (opened net 0) (front ++ n ∷ []) l ≡ left_by net (opened net 0) front l
  left_else front l m = ap (λ f. f l) (left_join net (opened net 0) front (n ∷ []))
      ∙ moved_else net (left_by net (opened net 0) front) n l (λ e. m (inl e))

  -- if no later stage has a point, nothing needs to be ended
  ready_last : (front : List ℕ) → IsWalk net 0 (front ++ n ∷ []) → (HasLater net n → ⊥) → IsReady
  ready_last front walk none' = record { front = front; walk = walk; shut = shut }
    where
      shut : (l : ℕ) → (IsBeyond net n l → ⊥) → (net.stage l < net.stage (net.lane n)) ⊎ HasLater net n
          → left_by net (opened net 0) (front ++ n ∷ []) l ≡ []
      shut l m (inl lt) = left_else front l m ∙ (come_back net (opened net 0) front (n ∷ []) walk).0.ended l lt
      shut l m (inr later) = absurd (none' later)

  -- each lane but that of n
  abbrev aside : Ahead → Ahead
  aside ahead l = if l == net.lane n then [] else ahead l

  aside_own : (ahead : Ahead) (l : ℕ) → l ≡ net.lane n → aside ahead l ≡ []
  aside_own ahead l e = ap (λ b. cond b [] (ahead l)) (eq-eqb l (net.lane n) e)

  aside_else : (ahead : Ahead) (l : ℕ) → (l ≡ net.lane n → ⊥) → aside ahead l ≡ ahead l
  aside_else ahead l m = ap (λ b. cond b [] (ahead l)) (ne_eqb l (net.lane n) m)

  aside_laned : (ahead : Ahead) → IsLaned net ahead → IsLaned net (aside ahead)
  aside_laned ahead laned = record { in_text = λ l x i. laned.in_text l x (still l x i); lane = λ l x i. laned.lane l x (still l x i) }
    where
      still : (l x : ℕ) → IsIn x (aside ahead l) → IsIn x (ahead l)
      still l x i =
          ⊎_elim (λ e. absurd (subst (IsIn x) (aside_own ahead l e) i)) (λ m. subst (IsIn x) (aside_else ahead l m) i) (cases_eq l (net.lane n))

  -- points of other lanes, of stages no later than n's, come whatever the lane of n offers
  abbrev AreBeside : List ℕ → Type 0
  AreBeside w = (x : ℕ) → IsIn x w → (net.lane x ≡ net.lane n → ⊥) × (net.stage (net.lane x) ≤ net.stage (net.lane n))

  abbrev AreSameBeside : Ahead → Ahead → Type 0
  AreSameBeside old new = (l : ℕ) → (l ≡ net.lane n → ⊥) → old l ≡ new l

  same_on : (old new : Ahead) (x : ℕ) → AreSameBeside old new → AreSameBeside (moved net old x) (moved net new x)
  same_on old new x same l m = ⊎_elim
      (λ e. moved_here net old x l e ∙ sym (moved_here net new x l e))
      (λ k. moved_else net old x l k ∙ same l m ∙ sym (moved_else net new x l k))
      (cases_eq l (net.lane x))

  come_beside : (old new : Ahead) (w : List ℕ) → AreBeside w → AreSameBeside old new → ComeFrom net old w → ComeFrom net new w
  come_beside old new [] are same c = tt
  come_beside old new (x ∷ w) are same c = (
    record {
      offered = subst (IsIn x) (same (net.lane x) (are x (inl refl)).0) c.0.offered;
      ended = λ l lt. sym (same l (λ e. let b = (are x (inl refl)).1 in omega (arith, lt, b, ap net.stage e))) ∙ c.0.ended l lt;
    },
    come_beside (moved net old x) (moved net new x) w (λ y i. are y (inr i)) (same_on old new x same) c.1,
  )

  left_beside : (old new : Ahead) (w : List ℕ) → AreSameBeside old new → AreSameBeside (left_by net old w) (left_by net new w)
  left_beside old new [] same = same
  left_beside old new (x ∷ w) same = left_beside (moved net old x) (moved net new x) w (same_on old new x same)

  left_own : (ahead : Ahead) (w : List ℕ) → AreBeside w → left_by net ahead w (net.lane n) ≡ ahead (net.lane n)
  left_own ahead [] are = refl
  left_own ahead (x ∷ w) are = left_own (moved net ahead x) w (λ y i. are y (inr i))
      ∙ moved_else net ahead x (net.lane n) (λ e. (are x (inl refl)).0 (sym e))

  -- else the lanes beside n's are ended before n
  ready_ended : (front : List ℕ) → IsAccepted net roles → IsWalk net 0 (front ++ n ∷ []) → HasLater net n → IsReady
  ready_ended front accepted walk later = record { front = front ++ c.way; walk = whole; shut = shut }
    where
      ahead : Ahead
      ahead = left_by net (opened net 0) front

      laned : IsLaned net (left_by net (opened net 0) front)
      laned = left_laned net roles (opened net 0) front proper (opened_laned net roles 0 proper)

      may : MayCome net (left_by net (opened net 0) front) n
      may = (come_back net (opened net 0) front (n ∷ []) walk).0

      ends : (q : ℕ) → 1 ≤ q → q ≤ net.count → net.stage (net.lane q) < net.stage (net.lane n) + 1
          → EndsBy net (λ x. Unit {0}) (aside (left_by net (opened net 0) front) (net.lane q))
      ends q low high lt = go (aside (left_by net (opened net 0) front) (net.lane q)) refl
        where
          go : (ps : List ℕ) → aside (left_by net (opened net 0) front) (net.lane q) ≡ ps
              → EndsBy net (λ x. Unit {0}) (aside (left_by net (opened net 0) front) (net.lane q))
          go [] e = at_end e
          go (x ∷ ps) e =
              let i : IsIn x (aside (left_by net (opened net 0) front) (net.lane q)) = subst (IsIn x) (sym e) (inl refl) in
              let are = aside_laned (left_by net (opened net 0) front) laned in
              let t = are.in_text (net.lane q) x i in
              let same = ap net.stage (are.lane (net.lane q) x i) in
              let less = later.3 in
              let v = accepted.lanes_end x t.0 t.1 (later.0, later.1, later.2, omega (arith, less, lt, same)) in
              by_way x v.0 i v.1 v.2 (λ y j. tt)

      c : AreCompleted net (λ x. Unit {0}) (aside (left_by net (opened net 0) front)) (net.stage (net.lane n) + 1) net.count
      c = completed net roles proper (λ x. Unit {0}) (aside (left_by net (opened net 0) front)) (net.stage (net.lane n) + 1) net.count
          (aside_laned (left_by net (opened net 0) front) laned) (omega arith) ends

      beside : AreBeside c.way
      beside x i = let o = c.of_open x i in
          (λ e. o.1 (aside_own (left_by net (opened net 0) front) (net.lane x) e), let less = o.0 in omega (arith, less))

      same : AreSameBeside (aside (left_by net (opened net 0) front)) (left_by net (opened net 0) front)
      same l m = aside_else (left_by net (opened net 0) front) l m

      come : ComeFrom net (left_by net (opened net 0) front) c.way
      come = come_beside (aside (left_by net (opened net 0) front)) (left_by net (opened net 0) front) c.way beside same c.walk

      split : left_by net (opened net 0) (front ++ c.way) ≡ left_by net (left_by net (opened net 0) front) c.way
      split = left_join net (opened net 0) front c.way

      may_now : MayCome net (left_by net (opened net 0) (front ++ c.way)) n
      may_now = record {
        offered = subst (IsIn n) (sym (ap (λ f. f (net.lane n)) split ∙ left_own (left_by net (opened net 0) front) c.way beside)) may.offered;
        ended = λ l lt. ap (λ f. f l) split ∙ ended_stays net (left_by net (opened net 0) front) c.way l come (may.ended l lt);
      }

      whole : IsWalk net 0 ((front ++ c.way) ++ n ∷ [])
      whole = come_join net (opened net 0) (front ++ c.way) (n ∷ [])
          (come_join net (opened net 0) front c.way (come_front net (opened net 0) front (n ∷ []) walk) come) (may_now, tt)

      shut : (l : ℕ) → (IsBeyond net n l → ⊥) → (net.stage l < net.stage (net.lane n)) ⊎ HasLater net n
          → left_by net (opened net 0) ((front ++ c.way) ++ n ∷ []) l ≡ []
      shut l m d =
          let low : net.stage l < net.stage (net.lane n) + 1 =
          ⊎_elim (λ lt. absurd (m (inr lt))) (λ le. omega (arith, le)) (cases_lt (net.stage (net.lane n)) (net.stage l)) in
          left_else (front ++ c.way) l m
          ∙ ap (λ f. f l) split
          ∙ sym (left_beside (aside (left_by net (opened net 0) front)) (left_by net (opened net 0) front) c.way same l (λ e. m (inl e)))
          ∙ all_ended net roles proper (λ x. Unit {0}) (aside (left_by net (opened net 0) front)) (net.stage (net.lane n) + 1) l
          (aside_laned (left_by net (opened net 0) front) laned) c low

  -- after such a walk each walk from n goes on
  goes_on_from : (r : IsReady) (w : List ℕ) → IsWalk net n w → IsWalk net 0 (r.front ++ n ∷ w)
  goes_on_from r w walk =
      let are : AreBeyond net n (left_by net (opened net 0) (r.front ++ n ∷ [])) (opened net n) = beyond_point net roles r.front n proper r.walk in
      let f : Follows (left_by net (opened net 0) (r.front ++ n ∷ [])) (opened net n) = record { same = are.same; none = are.none; shut = r.shut } in
      let on = come_along (left_by net (opened net 0) (r.front ++ n ∷ [])) (opened net n) w (opened_laned net roles n proper) f walk in
      subst (IsWalk net 0) (append_assoc r.front (n ∷ []) w) (come_join net (opened net 0) (r.front ++ n ∷ []) w r.walk on)

-- a walk to the point, after which each walk from it goes on
pub reach : (net : Net) (roles n : ℕ) → IsProper net roles → IsAccepted net roles → 1 ≤ n → n ≤ net.count
    → (front : List ℕ) × ((w : List ℕ) → IsWalk net n w → IsWalk net 0 (front ++ n ∷ w))
reach net roles n proper accepted low high =
    let a = accepted.reached n low high in
    ⊎_elim
    (λ later. let r = ready_ended net roles n proper a.0 accepted a.1 later in (r.front, goes_on_from net roles n proper r))
    (λ none'. let r = ready_last net roles n proper a.0 a.1 none' in (r.front, goes_on_from net roles n proper r))
    (later_stage net n)
