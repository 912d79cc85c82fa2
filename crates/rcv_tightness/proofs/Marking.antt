-- If p loses its events from the point n on, and all of a walk was done in turn, then the roles that lose are those that the
-- walk marks, each from where it is marked first.
use Rattle.std.proofs.Common.{◌≡◌, ℕ, ◌<◌, ◌≤◌, Bool, true, false, cond, not, ◌&&◌, ◌||◌, List, [], ◌∷◌, ◌++◌, length, refl, sym, ◌∙◌, ap, subst, ◌⊎◌, inl, inr, ⊎_elim, append_assoc, append-nil, length-append, arith}
use Rattle.std.specs.Prelude.{nat_le}
use Rattle.std.proofs.lemmas.Bool.{cases_Bool}
use Rattle.std.proofs.lemmas.Bool.Decides.{nat_tests}
use Rattle.std.proofs.lemmas.List.Elements.{filter_map-append}
use Rattle.rcv_tree.specs.declared.event.Event.{Event}
use Rattle.rcv_tree.specs.declared.event.Dir.TheVariants.{Sent, Got}
use Rattle.rcv_model.specs.Net.{Net, IsIn, HasTwoEnds}
use Rattle.rcv_model.specs.Run.{act_of, acts, is_sent, puts_on, takes_on, put_by, taken_by, put, taken, IsQueued}
use Rattle.rcv_model.specs.Table.{mark, marks}
use Rattle.rcv_model.specs.Undo.{Kept, is_stopped, is_behind, is_starved, is_blocked, scanned}
use Rattle.rcv_model.proofs.Keeping.{Scan, scan_of, put_front, taken_same, taken_none}
use Rattle.rcv_model.proofs.Lists.{prefix_map, prefix_length}
use Rattle.rcv_model.proofs.Marks.{cases_in, mark_keeps, mark_here, mark_cases}
use Rattle.rcv_model.proofs.Parts.{acts_own}
use Rattle.rcv_model.proofs.Scanning.{keep_join, lose, hold, among, is_member, acts_same}
use Rattle.rcv_model.proofs.Undoing.{or_left, put_same, put_longer, unstopped}
use Rattle.rcv_tightness.proofs.Turns.{IsTurn, AreInTurn, all_taken}

or_last : (a b d : Bool) → d ≡ true → (a || (b || d)) ≡ true
or_last true b d e = refl
or_last false true d e = refl
or_last false false d e = e

-- what a role did grows
pub acts_grow : (r : ℕ) (f g : List Event) → length (acts r f) ≤ length (acts r (f ++ g))
acts_grow r f g = prefix_length (acts r f) (acts r (f ++ g)) (prefix_map (act_of r) f (f ++ g) (g, refl))

module _ (net : Net) (bound : ℕ → ℕ) (h : List Event) (queued : IsQueued net h) where
  abbrev pub state : List Event → Kept
  state front = scanned net bound front

  scan_at : (front back : List Event) → front ++ back ≡ h → Scan net front (state front)
  scan_at front back e = scan_of net bound front (λ f b g s r. queued f (b ++ back) (sym (append_assoc f b back) ∙ ap (λ l. l ++ back) g ∙ e) s r)

  -- no later event of the role is kept
  abbrev pub IsDoomed : ℕ → List Event → Type 0
  IsDoomed q front = IsIn q (state front).stopped ⊎ (bound q ≤ length (acts q front))

  after_lost : (front : List Event) (e : Event) → is_blocked net bound (state front) e ≡ true → state (front ++ e ∷ []) ≡ lose (state front) e
  after_lost front e t = keep_join net bound (record { events = []; stopped = [] }) front (e ∷ [])
      ∙ ap (λ b. cond b (lose (state front) e) (hold (state front) e)) t

  after_kept : (front : List Event) (e : Event) → is_blocked net bound (state front) e ≡ false → state (front ++ e ∷ []) ≡ hold (state front) e
  after_kept front e t = keep_join net bound (record { events = []; stopped = [] }) front (e ∷ [])
      ∙ ap (λ b. cond b (lose (state front) e) (hold (state front) e)) t

  -- who is stopped after one event more
  pub stopped_then : (front : List Event) (e : Event) (q : ℕ) → IsIn q (state (front ++ e ∷ [])).stopped
      → IsIn q (state front).stopped ⊎ ((q ≡ e.role) × (is_blocked net bound (state front) e ≡ true))
  stopped_then front e q i = ⊎_elim
      (λ t. ⊎_elim (λ f. inr (f, t)) (λ j. inl j) (subst (λ (k : Kept). IsIn q k.stopped) (after_lost front e t) i))
      (λ t. inl (subst (λ (k : Kept). IsIn q k.stopped) (after_kept front e t) i))
      (cases_Bool (is_blocked net bound (state front) e))

  still_stopped : (front : List Event) (e : Event) (q : ℕ) → IsIn q (state front).stopped → IsIn q (state (front ++ e ∷ [])).stopped
  still_stopped front e q i = ⊎_elim
      (λ t. subst (λ (k : Kept). IsIn q k.stopped) (sym (after_lost front e t)) (inr i))
      (λ t. subst (λ (k : Kept). IsIn q k.stopped) (sym (after_kept front e t)) i)
      (cases_Bool (is_blocked net bound (state front) e))

  pub still_doomed : (front : List Event) (e : Event) (q : ℕ) → IsDoomed q front → IsDoomed q (front ++ e ∷ [])
  still_doomed front e q (inl i) = inl (still_stopped front e q i)
  still_doomed front e q (inr le) = inr (let g = acts_grow q front (e ∷ []) in omega (arith, le, g))

  -- a role that isn't stopped has kept as many as it did
  as_many : (front back : List Event) (r : ℕ) → front ++ back ≡ h → (IsIn r (state front).stopped → ⊥)
      → length (acts r (state front).events) ≡ length (acts r front)
  as_many front back r e n = ap length (acts_same r (state front).events front (unstopped net bound h queued front back r e n))

  pub lost_event : (front back : List Event) (e : Event) → front ++ e ∷ back ≡ h → IsDoomed e.role front → is_blocked net bound (state front) e ≡ true
  lost_event front back e eq d = ⊎_elim stopped count d
    where
      stopped : IsIn e.role (state front).stopped → is_blocked net bound (state front) e ≡ true
      stopped i = ap (λ b. b || (is_behind bound (state front) e || is_starved net (state front) e)) (among e.role (state front).stopped i)

      count : bound e.role ≤ length (acts e.role front) → is_blocked net bound (state front) e ≡ true
      count le = ⊎_elim
          stopped
          (λ n.
          let same = as_many front (e ∷ back) e.role eq n in
          let t : is_behind bound (state front) e ≡ true = grind (arith, nat_tests) in
          or_left (is_stopped (state front) e) (is_behind bound (state front) e) (is_starved net (state front) e) t)
          (cases_in e.role (state front).stopped)

  kept_event : (front back : List Event) (e : Event) → front ++ e ∷ back ≡ h → (IsIn e.role (state front).stopped → ⊥)
      → length (acts e.role front) < bound e.role → is_starved net (state front) e ≡ false → is_blocked net bound (state front) e ≡ false
  kept_event front back e eq n lt fed =
      let same = as_many front (e ∷ back) e.role eq n in
      let moving : is_stopped (state front) e ≡ false =
      ⊎_elim (λ t. absurd (n (is_member e.role (state front).stopped t))) (λ f. f) (cases_Bool (is_stopped (state front) e)) in
      let within : is_behind bound (state front) e ≡ false = grind (arith, nat_tests) in
      ap (λ b. b || (is_behind bound (state front) e || is_starved net (state front) e)) moving ∙ ap (λ b. b || is_starved net (state front) e) within
      ∙ fed

  send_is_fed : (kept : Kept) (e : Event) → e.dir ≡ Sent → is_starved net kept e ≡ false
  send_is_fed kept e d =
      ap (λ y. not (is_sent y) && nat_le (length (put net (net.sender e.point) e.role kept.events))
      (length (taken net (net.sender e.point) e.role kept.events))) d

  recv_is_starved : (kept : Kept) (e : Event) (s r : ℕ) → e.dir ≡ Got → net.sender e.point ≡ s → e.role ≡ r
      → length (put net s r kept.events) ≤ length (taken net s r kept.events) → is_starved net kept e ≡ true
  recv_is_starved kept e s r d f g le =
      let le' : length (put net (net.sender e.point) e.role kept.events) ≤ length (taken net (net.sender e.point) e.role kept.events) =
      subst (λ y. length (put net y e.role kept.events) ≤ length (taken net y e.role kept.events)) (sym f)
      (subst (λ y. length (put net s y kept.events) ≤ length (taken net s y kept.events)) (sym g) le) in
      ap (λ y. not (is_sent y) && nat_le (length (put net (net.sender e.point) e.role kept.events))
      (length (taken net (net.sender e.point) e.role kept.events))) d ∙ grind (arith, nat_tests)

  recv_is_fed : (kept : Kept) (e : Event) (s r : ℕ) → e.dir ≡ Got → net.sender e.point ≡ s → e.role ≡ r
      → length (taken net s r kept.events) < length (put net s r kept.events) → is_starved net kept e ≡ false
  recv_is_fed kept e s r d f g lt =
      let lt' : length (taken net (net.sender e.point) e.role kept.events) < length (put net (net.sender e.point) e.role kept.events) =
      subst (λ y. length (taken net y e.role kept.events) < length (put net y e.role kept.events)) (sym f)
      (subst (λ y. length (taken net s y kept.events) < length (put net s y kept.events)) (sym g) lt) in
      ap (λ y. not (is_sent y) && nat_le (length (put net (net.sender e.point) e.role kept.events))
      (length (taken net (net.sender e.point) e.role kept.events))) d ∙ grind (arith, nat_tests)

  -- so far who isn't marked has lost nothing, and who is marked keeps nothing more
  pub record Agrees (front : List Event) (marked : List ℕ) : Type 0 where
    pub free : (q : ℕ) → (IsIn q marked → ⊥) → IsIn q (state front).stopped → ⊥
    pub doomed : (q : ℕ) → IsIn q marked → IsDoomed q front

  -- one point more, at which unmarked roles may keep their events
  module _ (two : HasTwoEnds net) (front back : List Event) (marked : List ℕ) (x : ℕ) (a b : Event) (turn : IsTurn net x a b)
      (whole : front ++ a ∷ (b ∷ back) ≡ h)
      (empty : (s r : ℕ) → put net s r front ≡ taken net s r front) (agrees : Agrees front marked)
      (room : (r : ℕ) → (IsIn r marked → ⊥) → length (acts r (front ++ a ∷ (b ∷ []))) ≤ bound r) where
    pub later_whole : (front ++ a ∷ []) ++ b ∷ back ≡ h
    later_whole = append_assoc front (a ∷ []) (b ∷ back) ∙ whole

    send_lost : IsIn (net.sender x) marked → is_blocked net bound (state front) a ≡ true
    send_lost i = lost_event front (b ∷ back) a whole (subst (λ z. IsDoomed z front) (sym turn.sender) (agrees.doomed (net.sender x) i))

    unstopped_sender : (IsIn (net.sender x) marked → ⊥) → IsIn a.role (state front).stopped → ⊥
    unstopped_sender n i = agrees.free (net.sender x) n (subst (λ z. IsIn z (state front).stopped) turn.sender i)

    send_kept : (IsIn (net.sender x) marked → ⊥) → is_blocked net bound (state front) a ≡ false
    send_kept n = kept_event front (b ∷ back) a whole (unstopped_sender n) less (send_is_fed (state front) a turn.is_send)
      where
        less : length (acts a.role front) < bound a.role
        less =
            let r = subst (λ z. length (acts z (front ++ a ∷ (b ∷ []))) ≤ bound z) (sym turn.sender) (room (net.sender x) n) in
            let more = acts_grow a.role (front ++ a ∷ []) (b ∷ []) in
            omega (
              arith,
              r,
              more,
              ap (λ l. length (acts a.role l)) (append_assoc front (a ∷ []) (b ∷ [])),
              ap length
                  (acts_own front a),
              length-append (acts a.role front) (record { dir = a.dir; point = a.point } ∷ []),
            )

    -- only a marked sender is stopped by its Send
    stopped_now : (q : ℕ) → IsIn q (state (front ++ a ∷ [])).stopped
        → IsIn q (state front).stopped ⊎ ((q ≡ net.sender x) × IsIn (net.sender x) marked)
    stopped_now q i = ⊎_elim
        (λ j. inl j)
        (λ t. ⊎_elim
        (λ m. inr (t.0 ∙ turn.sender, m))
        (λ n. absurd (let f = send_kept n in let g = t.1 in cc))
        (cases_in (net.sender x) marked))
        (stopped_then front a q i)

    pub free_now : (q : ℕ) → (IsIn q marked → ⊥) → IsIn q (state (front ++ a ∷ [])).stopped → ⊥
    free_now q n i = ⊎_elim (agrees.free q n) (λ m. n (subst (λ z. IsIn z marked) (sym m.0) m.1)) (stopped_now q i)

    pub doomed_recv : IsIn (net.receiver x) marked → is_blocked net bound (state (front ++ a ∷ [])) b ≡ true
    doomed_recv i =
        lost_event (front ++ a ∷ []) back b later_whole
        (subst (λ z. IsDoomed z (front ++ a ∷ [])) (sym turn.receiver) (still_doomed front a (net.receiver x) (agrees.doomed (net.receiver x) i)))

    from : net.sender b.point ≡ net.sender x
    from = ap net.sender turn.got_at

    pub starved_recv : IsIn (net.sender x) marked → (IsIn (net.receiver x) marked → ⊥) → is_blocked net bound (state (front ++ a ∷ [])) b ≡ true
    starved_recv i n =
        or_last (is_stopped (state (front ++ a ∷ [])) b) (is_behind bound (state (front ++ a ∷ [])) b) (is_starved net (state (front ++ a ∷ [])) b)
        (recv_is_starved (state (front ++ a ∷ [])) b (net.sender x) (net.receiver x) turn.is_recv from turn.receiver few)
      where
        events : (state (front ++ a ∷ [])).events ≡ (state front).events
        events = ap (λ (k : Kept). k.events) (after_lost front a (send_lost i))

        puts : length (put net (net.sender x) (net.receiver x) (state front).events) ≤ length (put net (net.sender x) (net.receiver x) front)
        puts = prefix_length _ _
            (put_front net (net.sender x) (net.receiver x) (state front).events front ((scan_at front (a ∷ (b ∷ back)) whole).front (net.sender x)))

        takes : taken net (net.sender x) (net.receiver x) (state front).events ≡ taken net (net.sender x) (net.receiver x) front
        takes = taken_same net (net.sender x) (net.receiver x) (state front).events front
            (unstopped net bound h queued front (a ∷ (b ∷ back)) (net.receiver x) whole (agrees.free (net.receiver x) n))

        few : length (put net (net.sender x) (net.receiver x) (state (front ++ a ∷ [])).events) ≤ length
            (taken net (net.sender x) (net.receiver x) (state (front ++ a ∷ [])).events)
        few = subst (λ l. length (put net (net.sender x) (net.receiver x) l) ≤ length (taken net (net.sender x) (net.receiver x) l)) (sym events)
            (omega (arith, puts, ap length takes, ap length (empty (net.sender x) (net.receiver x))))

    kept_recv : (IsIn (net.sender x) marked → ⊥) → (IsIn (net.receiver x) marked → ⊥) → is_blocked net bound (state (front ++ a ∷ [])) b ≡ false
    kept_recv n m =
        kept_event (front ++ a ∷ []) back b later_whole
        (λ i. free_now (net.receiver x) m (subst (λ z. IsIn z (state (front ++ a ∷ [])).stopped) turn.receiver i)) less
        (recv_is_fed (state (front ++ a ∷ [])) b (net.sender x) (net.receiver x) turn.is_recv from turn.receiver more)
      where
        less : length (acts b.role (front ++ a ∷ [])) < bound b.role
        less =
            let r = subst (λ z. length (acts z (front ++ a ∷ (b ∷ []))) ≤ bound z) (sym turn.receiver) (room (net.receiver x) m) in
            omega (
              arith,
              r,
              ap (λ l. length (acts b.role l)) (append_assoc front (a ∷ []) (b ∷ [])),
              ap length
                  (acts_own (front ++ a ∷ []) b),
              length-append (acts b.role (front ++ a ∷ [])) (record { dir = b.dir; point = b.point } ∷ []),
            )

        is_put : puts_on net (net.sender x) (net.receiver x) a ≡ true
        is_put = let d = turn.is_send in let f = turn.sender in let g = turn.sent_at in grind (arith, nat_tests)

        no_take : takes_on net (net.sender x) (net.receiver x) a ≡ false
        no_take = let d = turn.is_send in grind (arith, nat_tests)

        puts : put net (net.sender x) (net.receiver x) (state (front ++ a ∷ [])).events ≡ put net (net.sender x) (net.receiver x) (front ++ a ∷ [])
        puts = put_same net (net.sender x) (net.receiver x) (state (front ++ a ∷ [])).events (front ++ a ∷ [])
            (unstopped net bound h queued (front ++ a ∷ []) (b ∷ back) (net.sender x) later_whole (free_now (net.sender x) n))

        takes : taken net (net.sender x) (net.receiver x) (state (front ++ a ∷ [])).events ≡ taken net (net.sender x) (net.receiver x) front
        takes =
            taken_same net (net.sender x) (net.receiver x) (state (front ++ a ∷ [])).events (front ++ a ∷ [])
            (unstopped net bound h queued (front ++ a ∷ []) (b ∷ back) (net.receiver x) later_whole (free_now (net.receiver x) m))
            ∙ taken_none net (net.sender x) (net.receiver x) front a no_take

        more : length (taken net (net.sender x) (net.receiver x) (state (front ++ a ∷ [])).events) < length
            (put net (net.sender x) (net.receiver x) (state (front ++ a ∷ [])).events)
        more = omega (
          arith,
          ap length puts,
          ap length takes,
          put_longer net (net.sender x) (net.receiver x) front a is_put,
          ap length
              (empty (net.sender x) (net.receiver x)),
        )

    -- after the point
    pub agrees_then : Agrees (front ++ a ∷ (b ∷ [])) (mark net marked x)
    agrees_then = subst (λ l. Agrees l (mark net marked x)) (append_assoc front (a ∷ []) (b ∷ [])) (record { free = free; doomed = doomed })
      where
        free : (q : ℕ) → (IsIn q (mark net marked x) → ⊥) → IsIn q (state ((front ++ a ∷ []) ++ b ∷ [])).stopped → ⊥
        free q n i = ⊎_elim (free_now q before) last (stopped_then (front ++ a ∷ []) b q i)
          where
            before : IsIn q marked → ⊥
            before j = n (mark_keeps net marked x q j)

            last : (q ≡ b.role) × (is_blocked net bound (state (front ++ a ∷ [])) b ≡ true) → ⊥
            last t =
                let is : q ≡ net.receiver x = t.0 ∙ turn.receiver in
                let no_receiver : IsIn (net.receiver x) marked → ⊥ = λ j. before (subst (λ z. IsIn z marked) (sym is) j) in
                let no_sender : IsIn (net.sender x) marked → ⊥ =
                λ j. n (subst (λ z. IsIn z (mark net marked x)) (sym is) (mark_here net marked x j)) in
                let k = kept_recv no_sender no_receiver in
                let g = t.1 in
                cc

        doomed : (q : ℕ) → IsIn q (mark net marked x) → IsDoomed q ((front ++ a ∷ []) ++ b ∷ [])
        doomed q i = ⊎_elim
            (λ j. still_doomed (front ++ a ∷ []) b q (still_doomed front a q (agrees.doomed q j)))
            (λ j. inl (subst (λ (k : Kept). IsIn q k.stopped) (sym (after_lost (front ++ a ∷ []) b (lost j.1))) (inl (j.0 ∙ sym turn.receiver))))
            (mark_cases net marked x q i)
          where
            lost : IsIn (net.sender x) marked → is_blocked net bound (state (front ++ a ∷ [])) b ≡ true
            lost s = ⊎_elim doomed_recv (starved_recv s) (cases_in (net.receiver x) marked)

  -- all points of a walk
  pub agree_along : HasTwoEnds net → (v : List ℕ) (g front back : List Event) (marked : List ℕ) → AreInTurn net v g → front ++ (g ++ back) ≡ h
      → ((s r : ℕ) → put net s r front ≡ taken net s r front) → Agrees front marked
      → ((r : ℕ) → (IsIn r marked → ⊥) → length (acts r (front ++ g)) ≤ bound r) → Agrees (front ++ g) (marks net marked v)
  agree_along two [] [] front back marked t e empty agrees room = subst (λ l. Agrees l marked) (sym (append-nil front)) agrees
  agree_along two [] (c ∷ g) front back marked t e empty agrees room = absurd t
  agree_along two (x ∷ v) [] front back marked t e empty agrees room = absurd t
  agree_along two (x ∷ v) (a ∷ []) front back marked t e empty agrees room = absurd t
  agree_along two (x ∷ v) (a ∷ (b ∷ g)) front back marked t e empty agrees room =
      subst (λ l. Agrees l (marks net (mark net marked x) v)) (split g)
      (agree_along two v g (front ++ a ∷ (b ∷ [])) back (mark net marked x) t.1 (append_assoc front (a ∷ (b ∷ [])) (g ++ back) ∙ e) empty' next
      (λ r n. subst (λ l. length (acts r l) ≤ bound r) (sym (split g)) (room r (λ i. n (mark_keeps net marked x r i)))))
    where
      split : (g : List Event) → (front ++ a ∷ (b ∷ [])) ++ g ≡ front ++ a ∷ (b ∷ g)
      split g = append_assoc front (a ∷ (b ∷ [])) g

      empty' : (s r : ℕ) → put net s r (front ++ a ∷ (b ∷ [])) ≡ taken net s r (front ++ a ∷ (b ∷ []))
      empty' s r =
          filter_map-append (put_by net s r) front (a ∷ (b ∷ []))
          ∙ ap (λ l. l ++ put net s r (a ∷ (b ∷ []))) (empty s r)
          ∙ ap (λ l. taken net s r front ++ l) (all_taken net (x ∷ []) (a ∷ (b ∷ [])) s r (t.0, tt))
          ∙ sym (filter_map-append (taken_by net s r) front (a ∷ (b ∷ [])))

      next : Agrees (front ++ a ∷ (b ∷ [])) (mark net marked x)
      next = agrees_then two front (g ++ back) marked x a b t.0 e empty agrees
          (λ r n. let more = acts_grow r (front ++ a ∷ (b ∷ [])) g in omega (arith, more, ap (λ l. length (acts r l)) (split g), room r n))
