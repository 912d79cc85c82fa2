-- What a part keeps, what follows from it for what the role does next, and how it is kept.
use Prim.Native.Nat.{zero, suc}
use Rattle.std.proofs.Common.{◌≡◌, ◌≢◌, ℕ, ◌+◌, ◌-◌, ◌*◌, ◌/◌, ◌<◌, ◌≤◌, Bool, true, false, cond, Option, Some, None, List, [], ◌∷◌, ◌++◌, length, take, drop, refl, sym, ◌∙◌, ap, subst, ◌⊎◌, inl, inr, ⊎_elim, arith, length-append, eq-eqb, le_antisymm, mul-le-mul_right, div-mul-le_self, le-div_iff_mul-le}
use Rattle.std.specs.Prelude.{ℤ, pos, min, ◌↔◌, IsTrue, IfSome, nat_le, nat_lt, slice_get, slice_index_or}
use Rattle.std.specs.List.{All, cons_option, count_by}
use Rattle.std.proofs.lemmas.Nat.{le-div}
use Rattle.std.proofs.lemmas.Option.{get_or_from_slice_get}
use Rattle.std.proofs.lemmas.List.{length-take, take-take}
use Rattle.std.proofs.lemmas.List.Sums.{count_by-le-length}
use Rattle.rcv_tree.specs.Bits.{IsPoint}
use Rattle.rcv_tree.specs.declared.entry.Entry.TheVariants.{Crash}
use Rattle.rcv_tree.specs.declared.entry.Timed.{Timed}
use Rattle.rcv_tree.specs.declared.event.Event.{Event}
use Rattle.rcv_tree.specs.declared.event.Dir.{Dir}
use Rattle.rcv_tree.specs.declared.event.Dir.TheVariants.{Sent, Got}
use Rattle.rcv_model.specs.Net.{Net, IsIn}
use Rattle.rcv_model.specs.Run.{acts, place_of, taken, takes_on}
use Rattle.rcv_model.specs.Next.{AreNext, IsPlaceOf, IsProper, IsAccepted, IsNext}
use Rattle.rcv_model.specs.Plan.{PlanLine, crashes_in}
use Rattle.rcv_model.specs.Script.{pick, number_for}
use Rattle.rcv_model.proofs.Choosing.{chosen_in}
use Rattle.rcv_model.proofs.Forms.{proper}
use Rattle.rcv_model.proofs.Keeping.{is_recv}
use Rattle.rcv_model.proofs.Steps.{not_taken}
use Rattle.rcv_model.proofs.Ways.{next_in_text}
use Rattle.rcv_model.specs.Journal.{Own, own_place, own_event, own_after, IsOwnDue, MayOwnSend}
use Rattle.rcv_theory.specs.Own.{own_back}
use Rattle.rcv_plan.proofs.Few.{plans_are_short}
use Rattle.rcv_session.specs.Session.{SessionView, text_of, roles_of, net_for, lines_of, rules_of, IsPointOf}
use Rattle.rcv_checkpoint.specs.declared.state.State.{State}
use Rattle.rcv_checkpoint.specs.declared.changed.Changed.{Changed}
use Rattle.rcv_checkpoint.specs.Changed.{IsChange}
use Rattle.rcv_checkpoint.specs.Rows.{nowhere}
use Rattle.rcv_checkpoint.specs.Tail.{TailView, made, place_of as place_in, HasState, final_vars, with_held, from_base, IsSaved, AreFrom}
use Rattle.rcv_checkpoint.proofs.TailStates.{top_from, same_from, more_from, fewer_from, forgotten_from}
use Rattle.rcv_ledger.specs.Ledger.{state_behind}
use Rattle.rcv_ledger.proofs.Lists.{get_taken, get_more, take_left, take_whole}
use Rattle.rcv_core.specs.Setup.{vars_by, vars_behind}
use Rattle.rcv_core.proofs.Books.{two_ends, less_by, low_role}
use Rattle.rcv_core.proofs.Pushing.{behind_told}
use Rattle.rcv_core.proofs.Ranges.{ranges}
use Rattle.rcv_role.specs.Part.{PartView, IsOwn, AreOwn, IsOwnSend, Offers, AllSends, AllRecvs, IsBelow, HasNoStrangers, HoldsStates, IsPart, IsNextSend, durable_of, state_at, with_crash, point_there}

abbrev pub IsPartOf : PartView → TailView → Type 0
IsPartOf p tail = IsPart p.setup p.role p.own p.base p.held tail

-- one more event of the role behind another
acts_cons : (r : ℕ) (e : Event) (h : List Event) → e.role ≡ r → acts r (e ∷ h) ≡ record { dir = e.dir; point = e.point } ∷ acts r h
acts_cons r e h f = ap (λ b. cons_option (cond b (Some (record { dir = e.dir; point = e.point })) None) (acts r h)) (eq-eqb e.role r f)

-- the place behind the role's own events is one of it
place_from : (setup : SessionView) (r k : ℕ) (events : List Event) → IsPlaceOf (net_for setup) r k → AreOwn setup r events → IsPlaceOf (net_for setup) r (place_of k (acts r events))
place_from setup r k [] here own = here
place_from setup r k (e ∷ events) here own =
    let o = own zero e refl in
    subst (λ l. IsPlaceOf (net_for setup) r (place_of k l)) (sym (acts_cons r e events o.role)) (place_from setup r e.point events (inr (o.first, o.last, o.of)) (λ n. own (suc n)))

-- the role takes nothing from itself or from an undeclared role
else_takes : (net : Net) (t r : ℕ) (e : Event) → (net.sender e.point ≡ t → ⊥) → takes_on net t r e ≡ false
else_takes net t r e n = go (takes_on net t r e) refl
  where
    go : (b : Bool) → takes_on net t r e ≡ b → b ≡ false
    go true f = absurd (n (is_recv net t r e f).2)
    go false f = refl

takes_none : (setup : SessionView) (r t : ℕ) (e : Event) → (t ≡ r) ⊎ (roles_of setup ≤ t) → IsOwn setup r e → (d : Dir) → e.dir ≡ d → takes_on (net_for setup) t r e ≡ false
takes_none setup r t e out own Sent f = not_taken (net_for setup) t r e f
takes_none setup r t e out own Got f = else_takes (net_for setup) t r e (apart out)
  where
    apart : (t ≡ r) ⊎ (roles_of setup ≤ t) → (net_for setup).sender e.point ≡ t → ⊥
    apart (inl g) h = (own.partner f).0 (h ∙ g)
    apart (inr le) h = let l = (own.partner f).1 in omega (arith, l, le, h)

no_strangers : (setup : SessionView) (r t : ℕ) (events : List Event) → (t ≡ r) ⊎ (roles_of setup ≤ t) → AreOwn setup r events → taken (net_for setup) t r events ≡ []
no_strangers setup r t [] out own = refl
no_strangers setup r t (e ∷ events) out own =
    ap (λ b. cons_option (cond b (Some (record { point = e.point; value = e.value; stamp = e.sent })) None) (taken (net_for setup) t r events)) (takes_none setup r t e out (own zero e refl) e.dir refl)
    ∙ no_strangers setup r t events out (λ n. own (suc n))

-- the greatest multiple is what a division leaves
durable_is : (n every count : ℕ) → 0 < every → (k : ℕ) → k * every ≡ count → count ≤ n → ((other : ℕ) → ((i : ℕ) × (i * every ≡ other)) → other ≤ n → other ≤ count) → count ≡ n / every * every
durable_is n every count some k is within greatest =
    let low : k ≤ n / every = (le-div_iff_mul-le {k = every} {x = k} {y = n} some).1 (subst (λ c. c ≤ n) (sym is) within) in
    let below : count ≤ n / every * every = subst (λ c. c ≤ n / every * every) is (mul-le-mul_right {m = k} {n = n / every} every low) in
    le_antisymm below (greatest (n / every * every) (n / every, refl) (div-mul-le_self n every))

-- fewer events, fewer saved ones
saved_less : (m n every : ℕ) → 0 < every → m ≤ n → m / every * every ≤ n / every * every
saved_less m n every some le = mul-le-mul_right {m = m / every} {n = n / every} every (le-div (m / every) n every some (let a = div-mul-le_self m every in omega (arith, a, le)))

-- a multiple within is at most the greatest
saved_within : (n every base : ℕ) → 0 < every → (k : ℕ) × (k * every ≡ base) → base ≤ n → base ≤ n / every * every
saved_within n every base some m within =
    let low : m.0 ≤ n / every = (le-div_iff_mul-le {k = every} {x = m.0} {y = n} some).1 (subst (λ c. c ≤ n) (sym m.1) within) in
    subst (λ c. c ≤ n / every * every) m.1 (mul-le-mul_right {m = m.0} {n = n / every} every low)

module _ (p : PartView) (tail : TailView) (part : IsPartOf p tail) where
  pub place_is : IsPlaceOf (net_for p.setup) p.role (own_place p.role p.own)
  place_is = place_from p.setup p.role 0 p.own.events (inl refl) part.sound

  pub strangers_none : HasNoStrangers p
  strangers_none t out = no_strangers p.setup p.role t p.own.events out part.sound

  steps : 0 < (rules_of p.setup).every p.role
  steps = let a = (ranges p.setup part.planned).every_first p.role in omega (arith, a)

  -- the base is one that the role has saved
  base_saved : p.base ≤ length p.own.events / (rules_of p.setup).every p.role * (rules_of p.setup).every p.role
  base_saved = saved_within (length p.own.events) ((rules_of p.setup).every p.role) p.base steps part.step part.low

  pub holds_states : HoldsStates p
  holds_states = record { base = let b = base_saved in let s = part.saved in omega (arith, b, s); within = part.within; running = part.running; saved = part.saved }

  base_held : tail.base ≤ p.held
  base_held = let e = part.base_is in let b = base_saved in let s = part.saved in omega (arith, e, b, s)

  -- where the role runs, the last state is the present one
  module _ (running : p.own.numbers.crashed ≡ false) where
    pub top_is : (x : State) → slice_get tail.states (length tail.states - 1) ≡ Some x → x ≡ state_behind (vars_by p.setup) p.role p.own.events
    top_is x at =
        top_from (state_at p.setup p.role p.own.events) tail.base p.held tail.states part.states base_held x at
        ∙ ap (λ k. state_behind (vars_by p.setup) p.role (take k p.own.events)) (part.running running)
        ∙ ap (state_behind (vars_by p.setup) p.role) (take_whole p.own.events)

    pub top_place : (x : State) → slice_get tail.states (length tail.states - 1) ≡ Some x → IsPlaceOf (net_for p.setup) p.role x.k
    top_place x at = subst (λ (y : State). IsPlaceOf (net_for p.setup) p.role y.k) (sym (top_is x at)) place_is

    pub top_offers : (x : State) (zs : List ℕ) → slice_get tail.states (length tail.states - 1) ≡ Some x → AreNext (net_for p.setup) p.role x.k zs → Offers p zs
    top_offers x zs at next = subst (λ (y : State). AreNext (net_for p.setup) p.role y.k zs) (top_is x at) next

    pub top_vars : (x : State) → slice_get tail.states (length tail.states - 1) ≡ Some x → x.vars ≡ vars_by p.setup p.role p.own.events
    top_vars x at = ap (λ (y : State). y.vars) (top_is x at)

    -- the variables that a tail compares with are those of the present state
    pub final_is : final_vars tail ≡ vars_by p.setup p.role p.own.events
    final_is = ap (λ (y : State). y.vars) (get_or_from_slice_get tail.states (length tail.states - 1) last nowhere at) ∙ top_vars last at
      where
        last : State
        last = state_at p.setup p.role p.own.events p.held

        at : slice_get tail.states (length tail.states - 1) ≡ Some last
        at =
            let a = part.states.all in
            let low = base_held in
            let place : p.held - tail.base ≡ length tail.states - 1 = omega (arith, a, low) in
            subst (λ k. slice_get tail.states k ≡ Some last) place (part.states.each p.held low (omega arith))

    pub next_state : (e : Event) (x state : State) → IsOwn p.setup p.role e → slice_get tail.states (length tail.states - 1) ≡ Some x → state.k ≡ e.point → state.vars ≡ vars_behind p.setup e x.vars → state ≡ state_behind (vars_by p.setup) p.role (p.own.events ++ e ∷ [])
    next_state e x state own at point vars =
        subst (λ q. state ≡ state_behind (vars_by p.setup) q (p.own.events ++ e ∷ [])) own.role
        (behind_told p.setup p.own.events e state point (vars ∙ ap (vars_behind p.setup e) (top_vars x at ∙ ap (λ q. vars_by p.setup q p.own.events) (sym own.role))))

    pub part_more : (e : Event) (state : State) → IsOwn p.setup p.role e → IsBelow p → state ≡ state_behind (vars_by p.setup) p.role (p.own.events ++ e ∷ []) → IsPart p.setup p.role (own_event p.own e) p.base (p.held + 1) (with_held tail (tail.states ++ state ∷ []))
    part_more e state own below behind = record {
      protocol = part.protocol;
      planned = part.planned;
      declared = part.declared;
      sound = λ n y at. ⊎_elim (λ f. part.sound n y f) (λ f. subst (IsOwn p.setup p.role) f own) (get_more p.own.events e y n at);
      within = let r = part.running running in omega (arith, r, more);
      states = more_from (state_at p.setup p.role (p.own.events ++ e ∷ [])) tail.base p.held tail.states
          (same_from (state_at p.setup p.role p.own.events) tail.base p.held tail.states part.states base_held (state_at p.setup p.role (p.own.events ++ e ∷ [])) (λ n le. ap (state_behind (vars_by p.setup) p.role) (sym (take_left p.own.events (e ∷ []) n (let w = part.within in omega (arith, le, w))))))
          base_held state (behind ∙ sym (ap (λ k. state_behind (vars_by p.setup) p.role (take k (p.own.events ++ e ∷ []))) all ∙ ap (state_behind (vars_by p.setup) p.role) (take_whole (p.own.events ++ e ∷ []))));
      count_is = let a = part.states.all in let b = length-append tail.states (state ∷ []) in let h = base_held in omega (arith, a, b, h);
      base_is = part.base_is;
      saved = let r = part.running running in let d = div-mul-le_self (length (p.own.events ++ e ∷ [])) ((rules_of p.setup).every p.role) in omega (arith, r, more, d);
      running = λ f. let r = part.running running in omega (arith, r, more);
      step = part.step;
      low = let l = part.low in omega (arith, l, more);
      every_is = part.every_is;
      room_is = part.room_is;
      few = let f = part.few in omega (arith, f, more);
      most = let b = below.raw in omega (arith, b);
    }
      where
        more : length (p.own.events ++ e ∷ []) ≡ length p.own.events + 1
        more = length-append p.own.events (e ∷ [])

        all : p.held + 1 ≡ length (p.own.events ++ e ∷ [])
        all = let r = part.running running in let m = more in omega (arith, r, m)

    pub saved_is : (count : ℕ) → IsSaved tail count → count ≡ length p.own.events / (rules_of p.setup).every p.role * (rules_of p.setup).every p.role
    saved_is count durable =
        let e : made tail ≡ length p.own.events = sym part.count_is ∙ part.running running in
        durable_is (length p.own.events) ((rules_of p.setup).every p.role) count steps durable.multiple.0
        (ap (λ n. durable.multiple.0 * n) (sym part.every_is) ∙ durable.multiple.1)
        (let w = durable.within in omega (arith, w, e))
        (λ other m le. durable.greatest other (m.0, ap (λ n. m.0 * n) part.every_is ∙ m.1) (omega (arith, le, e)))

    pub from_saved : (count : ℕ) → IsSaved tail count → tail.base ≤ count
    from_saved count durable = let s = saved_is count durable in let b = base_saved in let e = part.base_is in omega (arith, s, b, e)

    pub part_crashed : (count : ℕ) → IsSaved tail count → IsPart p.setup p.role (own_after p.own (Crash p.role)) p.base count (with_held tail (take (place_in tail count + 1) tail.states))
    part_crashed count durable = record {
      protocol = part.protocol;
      planned = part.planned;
      declared = part.declared;
      sound = part.sound;
      within = low;
      states = kept;
      count_is = let a = kept.all in let f = from in omega (arith, a, f);
      base_is = part.base_is;
      saved = let s = saved_is count durable in omega (arith, s);
      running = λ f. absurd (cc);
      step = part.step;
      low = part.low;
      every_is = part.every_is;
      room_is = part.room_is;
      few = part.few;
      most = part.most;
    }
      where
        low : count ≤ length p.own.events
        low = let s = saved_is count durable in let d = div-mul-le_self (length p.own.events) ((rules_of p.setup).every p.role) in omega (arith, s, d)

        from : tail.base ≤ count
        from = from_saved count durable

        kept : AreFrom (state_at p.setup p.role p.own.events) tail.base count (take (place_in tail count + 1) tail.states)
        kept = fewer_from (state_at p.setup p.role p.own.events) tail.base p.held tail.states part.states base_held count from (let s = saved_is count durable in let h = part.saved in omega (arith, s, h))

  -- a role that is due has fewer crashes than lines
  pub few_crashes : IsOwnDue (rules_of p.setup) p.role p.own → p.own.numbers.crashes < 100064
  few_crashes due =
      let lines = crashes_in p.setup.plan p.role in
      let a = due.1 in
      let b = count_by-le-length (λ n. nat_le n p.own.numbers.raw) lines in
      let c = plans_are_short.role (roles_of p.setup) p.setup.plan p.role part.planned in
      omega (arith, a, b, c)

  -- fewer events
  sound_first : (keep : ℕ) → AreOwn p.setup p.role (take keep p.own.events)
  sound_first keep n e at = part.sound n e (get_taken keep p.own.events n e at)

  pub part_back : (keep clock : ℕ) → p.base ≤ keep → keep ≤ p.held → IsPart p.setup p.role (own_back p.own keep true clock) p.base keep (with_held tail (take (place_in tail keep + 1) tail.states))
  part_back keep clock from le = record {
    protocol = part.protocol;
    planned = part.planned;
    declared = part.declared;
    sound = sound_first keep;
    within = omega (arith, size);
    states = kept;
    count_is = let a = kept.all in let f = after in omega (arith, a, f);
    base_is = part.base_is;
    saved = let d = div-mul-le_self (length (take keep p.own.events)) ((rules_of p.setup).every p.role) in omega (arith, d, size);
    running = λ f. sym size;
    step = part.step;
    low = omega (arith, size, from);
    every_is = part.every_is;
    room_is = part.room_is;
    few = let f = part.few in let w = part.within in omega (arith, f, size, w, le);
    most = part.most;
  }
    where
      size : length (take keep p.own.events) ≡ keep
      size = let l = length-take keep p.own.events in let w = part.within in omega (arith, l, w, le)

      after : tail.base ≤ keep
      after = let e = part.base_is in omega (arith, e, from)

      kept : AreFrom (state_at p.setup p.role (take keep p.own.events)) tail.base (keep) (take (place_in tail (keep) + 1) tail.states)
      kept = same_from (state_at p.setup p.role p.own.events) tail.base (keep) (take (place_in tail (keep) + 1) tail.states)
          (fewer_from (state_at p.setup p.role p.own.events) tail.base p.held tail.states part.states base_held (keep) after (omega (arith, le)))
          after (state_at p.setup p.role (take keep p.own.events)) (λ n within. ap (state_behind (vars_by p.setup) p.role) (sym (take-take n keep p.own.events (omega (arith, within)))))

  pub part_cut : (keep clock : ℕ) → p.own.numbers.crashed ≡ true → p.base ≤ keep → keep ≤ length p.own.events → IsPart p.setup p.role (own_back p.own keep false clock) p.base (min keep p.held) (with_held tail (take (place_in tail (min keep p.held) + 1) tail.states))
  part_cut keep clock crashed from le = record {
    protocol = part.protocol;
    planned = part.planned;
    declared = part.declared;
    sound = sound_first keep;
    within = omega (arith, size);
    states = kept;
    count_is = let a = kept.all in let f = after in omega (arith, a, f);
    base_is = part.base_is;
    saved = let s = part.saved in let d = div-mul-le_self (length (take keep p.own.events)) ((rules_of p.setup).every p.role) in let m = saved_less (length (take keep p.own.events)) (length p.own.events) ((rules_of p.setup).every p.role) steps (omega (arith, size, le)) in omega (arith, s, d, m, size);
    running = λ f. absurd (cc);
    step = part.step;
    low = omega (arith, size, from);
    every_is = part.every_is;
    room_is = part.room_is;
    few = let f = part.few in omega (arith, f, size, le);
    most = part.most;
  }
    where
      size : length (take keep p.own.events) ≡ keep
      size = let l = length-take keep p.own.events in omega (arith, l, le)

      after : tail.base ≤ min keep p.held
      after = let e = part.base_is in let h = base_held in omega (arith, e, from, h)

      kept : AreFrom (state_at p.setup p.role (take keep p.own.events)) tail.base (min keep p.held) (take (place_in tail (min keep p.held) + 1) tail.states)
      kept = same_from (state_at p.setup p.role p.own.events) tail.base (min keep p.held) (take (place_in tail (min keep p.held) + 1) tail.states)
          (fewer_from (state_at p.setup p.role p.own.events) tail.base p.held tail.states part.states base_held (min keep p.held) after (omega (arith)))
          after (state_at p.setup p.role (take keep p.own.events)) (λ n within. ap (state_behind (vars_by p.setup) p.role) (sym (take-take n keep p.own.events (omega (arith, within)))))

-- from a later base on
part_forgot : (p : PartView) (tail : TailView) → IsPartOf p tail → (line : ℕ) → (k : ℕ) × (k * (rules_of p.setup).every p.role ≡ line) → p.base ≤ line → line ≤ durable_of p → IsPart p.setup p.role p.own line p.held (from_base tail line)
part_forgot p tail part line step above saved = record {
  protocol = part.protocol;
  planned = part.planned;
  declared = part.declared;
  sound = part.sound;
  within = part.within;
  states = kept;
  count_is = let a = kept.all in omega (arith, a, held);
  base_is = refl;
  saved = part.saved;
  running = part.running;
  step = step;
  low = let d = div-mul-le_self (length p.own.events) ((rules_of p.setup).every p.role) in omega (arith, saved, d);
  every_is = part.every_is;
  room_is = part.room_is;
  few = part.few;
  most = part.most;
}
  where
    held : line ≤ p.held
    held = let s = part.saved in omega (arith, s, saved)

    kept : AreFrom (state_at p.setup p.role p.own.events) line p.held (drop (line - tail.base) tail.states)
    kept = forgotten_from (state_at p.setup p.role p.own.events) tail.base p.held tail.states part.states (base_held p tail part) line (let e = part.base_is in omega (arith, e, above)) held

-- the part's Send with this point and number
abbrev pub sent_event : PartView → ℕ → ℤ → Event
sent_event p point value = record { role = p.role; dir = Sent; point = point; value = value; stamp = p.own.numbers.clock + 1; sent = p.own.numbers.clock + 1 }

module _ (p : PartView) (tail : TailView) (zs : List ℕ) (part : IsPartOf p tail) (offers : Offers p zs) where
  known : IsProper (net_for p.setup) (roles_of p.setup)
  known = proper (text_of p.setup) (roles_of p.setup) part.protocol.form

  accepted : IsAccepted (net_for p.setup) (roles_of p.setup)
  accepted = part.protocol.accepted

  here : IsPlaceOf (net_for p.setup) p.role (own_place p.role p.own)
  here = place_is p tail part

  -- a next point is one of the text
  pub text_point : (z : ℕ) → IsIn z zs → (1 ≤ z) × (z ≤ (net_for p.setup).count) × ((net_for p.setup).sender z < roles_of p.setup) × ((net_for p.setup).receiver z < roles_of p.setup)
  text_point z i =
      let next : IsNext (net_for p.setup) p.role (own_place p.role p.own) z = offers.sound z i in
      let there = next_in_text (net_for p.setup) (roles_of p.setup) p.role (own_place p.role p.own) z known next in
      (there.0, there.1, known.senders z there.0 there.1, known.receivers z there.0 there.1)

  -- next points are all sends, or all receives from one role
  pub all_sends : (x : ℕ) → IsIn x zs → (net_for p.setup).sender x ≡ p.role → AllSends p zs
  all_sends x i e z j = ⊎_elim (λ f. f) (λ f. absurd (accepted.unmixed p.role _ x z part.declared here (offers.sound x i) (offers.sound z j) e f)) (offers.sound z j).own

  pub all_recvs : (x : ℕ) → IsIn x zs → ((net_for p.setup).sender x ≡ p.role → ⊥) → AllRecvs p zs ((net_for p.setup).sender x)
  all_recvs x i n = record {
    receives = λ z j.
        let g : (net_for p.setup).receiver x ≡ p.role = ⊎_elim (λ f. absurd (n f)) (λ f. f) (offers.sound x i).own in
        let h : (net_for p.setup).receiver z ≡ p.role = ⊎_elim (λ f. absurd (accepted.unmixed p.role _ z x part.declared here (offers.sound z j) (offers.sound x i) f g)) (λ f. f) (offers.sound z j).own in
        (h, accepted.one_sender p.role _ z x part.declared here (offers.sound z j) (offers.sound x i) h g);
    apart = n;
    declared = (text_point x i).2;
  }

  module _ (x : State) (running : p.own.numbers.crashed ≡ false) (at : slice_get tail.states (length tail.states - 1) ≡ Some x) (point : ℕ) (value : ℤ) (some : zs ≢ []) (sends : AllSends p zs) (chosen : point ≡ pick (net_for p.setup) (lines_of p.setup p.role) x.vars p.own.numbers.attempt zs) where
    pub among : IsIn point zs
    among = subst (λ z. IsIn z zs) (sym (chosen ∙ ap (λ v. pick (net_for p.setup) (lines_of p.setup p.role) v p.own.numbers.attempt zs) (top_vars p tail part running x at))) (chosen_in (net_for p.setup) (lines_of p.setup) p.role p.own.events p.own.numbers.attempt zs some)

    pub may_send : (IsOwnDue (rules_of p.setup) p.role p.own → ⊥) → IsBelow p → value ≡ number_for ((net_for p.setup).label point) (lines_of p.setup p.role) x.vars p.own.numbers.attempt → MayOwnSend (rules_of p.setup) p.own (sent_event p point value)
    may_send calm below number = record {
      free = record { declared = part.declared; running = running; not_due = calm; below_limit = below.raw };
      offered = zs;
      next = offers;
      sends = sends;
      is_send = refl;
      among = among;
      point = chosen ∙ ap (λ v. pick (net_for p.setup) (lines_of p.setup p.role) v p.own.numbers.attempt zs) (top_vars p tail part running x at);
      value = number ∙ ap (λ v. number_for ((net_for p.setup).label point) (lines_of p.setup p.role) v p.own.numbers.attempt) (top_vars p tail part running x at);
      stamp = refl;
      sent = refl;
    }

    pub own_send : IsBelow p → IsOwnSend p.setup p.role (sent_event p point value)
    own_send below = record {
      own = record { role = refl; first = (text_point point among).0; last = (text_point point among).1; of = inl (sends point among); partner = λ e. absurd (cc) };
      dir = refl;
      sender = sends point among;
      receiver = (text_point point among).3;
      apart = λ e. two_ends p.setup part.protocol point (sends point among ∙ sym e);
      stamp = let low = below.clock in omega (arith, low);
    }

in_at : (zs : List ℕ) (k d : ℕ) → k < length zs → IsIn (slice_index_or zs k d) zs
in_at [] k d lt = absurd (omega (arith, lt))
in_at (z ∷ zs) zero d lt = inl refl
in_at (z ∷ zs) (suc k) d lt = inr (in_at zs k d (omega (arith, lt)))

-- the same of the part as contracts see it
module _ (v q : PartView) (tail : TailView) (is : v ≡ q) (part : IsPartOf v tail) where
  pub seen : IsPartOf q tail
  seen = subst (λ p. IsPartOf p tail) is part

  pub seen_place : (x : State) → q.own.numbers.crashed ≡ false → slice_get tail.states (length tail.states - 1) ≡ Some x → IsPlaceOf (net_for v.setup) v.role x.k
  seen_place x running at = subst (λ (p : PartView). IsPlaceOf (net_for p.setup) p.role x.k) (sym is) (top_place q tail seen running x at)

  pub seen_offers : (x : State) (zs : List ℕ) → q.own.numbers.crashed ≡ false → slice_get tail.states (length tail.states - 1) ≡ Some x → AreNext (net_for v.setup) v.role x.k zs → Offers q zs
  seen_offers x zs running at next = top_offers q tail seen running x zs at (subst (λ (p : PartView). AreNext (net_for p.setup) p.role x.k zs) is next)

  pub seen_state : (e : Event) (x state : State) → q.own.numbers.crashed ≡ false → IsOwn q.setup q.role e → slice_get tail.states (length tail.states - 1) ≡ Some x → state.k ≡ e.point → state.vars ≡ vars_behind v.setup e x.vars → state ≡ state_behind (vars_by q.setup) q.role (q.own.events ++ e ∷ [])
  seen_state e x state running own at point vars = next_state q tail seen running e x state own at point (subst (λ (p : PartView). state.vars ≡ vars_behind p.setup e x.vars) is vars)

  -- what an event changed of the variables
  pub seen_change : (x : State) (change : Changed) (vars : List ℤ) → q.own.numbers.crashed ≡ false → slice_get tail.states (length tail.states - 1) ≡ Some x → IsChange change x.vars vars → IsChange change (vars_by q.setup q.role q.own.events) vars
  seen_change x change vars running at is = subst (λ l. IsChange change l vars) (top_vars q tail seen running x at) is

  pub seen_final : (change : Changed) (vars : List ℤ) → q.own.numbers.crashed ≡ false → IsChange change (vars_by q.setup q.role q.own.events) vars → IsChange change (final_vars tail) vars
  seen_final change vars running is = subst (λ l. IsChange change l vars) (sym (final_is q tail seen running)) is

  -- the states that are held
  pub seen_holds : (count : ℕ) → tail.base ≤ count → count ≤ v.held → HasState tail count
  seen_holds count from to = (from, let c = part.count_is in omega (arith, c, to))

  pub seen_vars : (count : ℕ) (x : State) → tail.base ≤ count → count ≤ v.held → slice_get tail.states (place_in tail count) ≡ Some x → x.vars ≡ vars_by q.setup q.role (take count q.own.events)
  seen_vars count x from to at =
      let same : Some x ≡ Some (state_at v.setup v.role v.own.events count) = sym at ∙ part.states.each count from to in
      let state : x ≡ state_at v.setup v.role v.own.events count = cc in
      ap (λ (y : State). y.vars) state ∙ ap (λ (p : PartView). vars_by p.setup p.role (take count p.own.events)) is

  -- a remembered choice
  pub remembered : (o : Option Event) (e : Event) → IfSome o (IsNextSend v.setup v.role v.own) → o ≡ Some e → IsNextSend q.setup q.role q.own e
  remembered o e next some = subst (λ (p : PartView). IsNextSend p.setup p.role p.own e) is (subst (λ x. IfSome x (IsNextSend v.setup v.role v.own)) some next)

  pub remember : (e : Event) → IsNextSend q.setup q.role q.own e → IsNextSend v.setup v.role v.own e
  remember e next = subst (λ (p : PartView). IsNextSend p.setup p.role p.own e) (sym is) next

  -- a crashed role has chosen nothing
  pub none_chosen : (own : Own) (o : Option Event) → q.own.numbers.crashed ≡ true → IfSome o (IsNextSend v.setup v.role v.own) → IfSome o (IsNextSend v.setup v.role own)
  none_chosen own None crashed next = tt
  none_chosen own (Some e) crashed next =
      let running = next.may.free.running in
      let same : v.own.numbers.crashed ≡ true = subst (λ (p : PartView). p.own.numbers.crashed ≡ true) (sym is) crashed in
      absurd (cc)

  module _ (zs : List ℕ) (offers : Offers q zs) where
    pub offered_point : (z : ℕ) → IsIn z zs → IsPointOf v.setup z
    offered_point z i = subst (λ (p : PartView). IsPointOf p.setup z) (sym is) (let t = text_point q tail zs seen offers z i in record { first = t.0; last = t.1 })

    pub offered_points : All (IsPointOf v.setup) zs
    offered_points k d lt = offered_point (slice_index_or zs k d) (in_at zs k d lt)

    module _ (x : State) (running : q.own.numbers.crashed ≡ false) (at : slice_get tail.states (length tail.states - 1) ≡ Some x) (point : ℕ) (some : zs ≢ []) (sends : AllSends q zs) (chosen : point ≡ pick (net_for v.setup) (lines_of v.setup v.role) x.vars v.own.numbers.attempt zs) where
      chosen_now : point ≡ pick (net_for q.setup) (lines_of q.setup q.role) x.vars q.own.numbers.attempt zs
      chosen_now = subst (λ (p : PartView). point ≡ pick (net_for p.setup) (lines_of p.setup p.role) x.vars p.own.numbers.attempt zs) is chosen

      pub chosen_point : IsPointOf v.setup point
      chosen_point = offered_point point (among q tail zs seen offers x running at point (pos 0) some sends chosen_now)

      sent_may : (value : ℤ) → (IsOwnDue (rules_of q.setup) q.role q.own → ⊥) → IsBelow q → value ≡ number_for ((net_for v.setup).label point) (lines_of v.setup v.role) x.vars v.own.numbers.attempt → MayOwnSend (rules_of q.setup) q.own (sent_event v point value)
      sent_may value calm below number =
          subst (λ (p : PartView). MayOwnSend (rules_of q.setup) q.own (sent_event p point value)) (sym is)
          (may_send q tail zs seen offers x running at point value some sends chosen_now calm below (subst (λ (p : PartView). value ≡ number_for ((net_for p.setup).label point) (lines_of p.setup p.role) x.vars p.own.numbers.attempt) is number))

      sent_own : (value : ℤ) → IsBelow q → IsOwnSend q.setup q.role (sent_event v point value)
      sent_own value below = subst (λ (p : PartView). IsOwnSend q.setup q.role (sent_event p point value)) (sym is) (own_send q tail zs seen offers x running at point value some sends chosen_now below)

      pub sent_next : (value : ℤ) → (IsOwnDue (rules_of q.setup) q.role q.own → ⊥) → IsBelow q → value ≡ number_for ((net_for v.setup).label point) (lines_of v.setup v.role) x.vars v.own.numbers.attempt → IsNextSend q.setup q.role q.own (sent_event v point value)
      sent_next value calm below number = record { may = sent_may value calm below number; sends = sent_own value below }

    pub whose_sends : (x sender : ℕ) → IsIn x zs → sender ≡ (net_for v.setup).sender x → sender ≡ v.role → AllSends q zs
    whose_sends x sender i e g = all_sends q tail zs seen offers x i (subst (λ (p : PartView). (net_for p.setup).sender x ≡ p.role) is (sym e ∙ g))

    pub whose_recvs : (x sender : ℕ) → IsIn x zs → sender ≡ (net_for v.setup).sender x → (sender ≡ v.role → ⊥) → AllRecvs q zs sender
    whose_recvs x sender i e n =
        let f : sender ≡ (net_for q.setup).sender x = subst (λ (p : PartView). sender ≡ (net_for p.setup).sender x) is e in
        subst (AllRecvs q zs) (sym f) (all_recvs q tail zs seen offers x i (λ h. n (f ∙ h ∙ ap (λ (p : PartView). p.role) (sym is))))

  -- what was asked of the part as contracts see it is asked of its fields
  pub fields : (P : PartView → Type 0) → P q → P v
  fields P x = subst P (sym is) x

  -- a test of crash lines
  pub due_is : (plan : List PlanLine) (b : Bool) → q.own.numbers.crashed ≡ false → plan ≡ v.setup.plan → b ≡ nat_lt v.own.numbers.crashes (count_by (λ n. nat_le n v.own.numbers.raw) (crashes_in plan v.role)) → IsTrue b ↔ IsOwnDue (rules_of q.setup) q.role q.own
  due_is plan b running same e =
      let calm : v.own.numbers.crashed ≡ false = fields (λ p. p.own.numbers.crashed ≡ false) running in
      let t = less_by v.own.numbers.crashes (count_by (λ n. nat_le n v.own.numbers.raw) (crashes_in v.setup.plan v.role)) b (e ∙ ap (λ (l : List PlanLine). nat_lt v.own.numbers.crashes (count_by (λ n. nat_le n v.own.numbers.raw) (crashes_in l v.role))) same) in
      subst (λ (p : PartView). IsTrue b ↔ IsOwnDue (rules_of p.setup) p.role p.own) is ((λ u. (calm, t.0 u)), λ d. t.1 d.1)

-- the same of other own numbers, as far as a part keeps something of them
pub same_part : (setup : SessionView) (r : ℕ) (own own' : Own) (base count : ℕ) (tail tail' : TailView) → IsPart setup r own base count tail → own'.events ≡ own.events → own'.numbers.raw ≡ own.numbers.raw → (own'.numbers.crashed ≡ false → own.numbers.crashed ≡ false) → tail' ≡ tail → IsPart setup r own' base count tail'
same_part setup r own own' base count tail tail' part events raw runs same = subst (IsPart setup r own' base count) (sym same) (record {
  protocol = part.protocol;
  planned = part.planned;
  declared = part.declared;
  sound = subst (AreOwn setup r) (sym events) part.sound;
  within = subst (λ (l : List Event). count ≤ length l) (sym events) part.within;
  states = subst (λ (l : List Event). AreFrom (state_at setup r l) tail.base count tail.states) (sym events) part.states;
  count_is = part.count_is;
  base_is = part.base_is;
  saved = subst (λ (l : List Event). length l / (rules_of setup).every r * (rules_of setup).every r ≤ count) (sym events) part.saved;
  running = λ f. part.running (runs f) ∙ ap length (sym events);
  step = part.step;
  low = subst (λ (l : List Event). base ≤ length l) (sym events) part.low;
  every_is = part.every_is;
  room_is = part.room_is;
  few = let f = part.few in let e = ap length events in omega (arith, f, e, raw);
  most = let m = part.most in omega (arith, m, raw);
})

-- the base is the tail's
from_tail : (setup : SessionView) (r : ℕ) (own : Own) (base count : ℕ) (tail : TailView) → IsPart setup r own base count tail → IsPart setup r own tail.base count tail
from_tail setup r own base count tail part = subst (λ b. IsPart setup r own b count tail) (sym part.base_is) part

-- the part's fields behind an event, behind a crash, and behind a recovery
module _ (v q : PartView) (tail tail' : TailView) (is : v ≡ q) (part : IsPartOf v tail) where
  pub more_is : (e : Event) (state : State) (own' : Own) → q.own.numbers.crashed ≡ false → IsOwn q.setup q.role e → IsBelow q → state ≡ state_behind (vars_by q.setup) q.role (q.own.events ++ e ∷ []) → tail' ≡ with_held tail (tail.states ++ state ∷ []) → own'.events ≡ v.own.events ++ e ∷ [] → own'.numbers.raw ≡ v.own.numbers.raw + 1 → own'.numbers.crashed ≡ v.own.numbers.crashed → IsPart v.setup v.role own' tail'.base (v.held + 1) tail'
  more_is e state own' running own below behind same events raw crashed =
      from_tail v.setup v.role own' v.base (v.held + 1) tail'
      (same_part v.setup v.role (own_event v.own e) own' v.base (v.held + 1) (with_held tail (tail.states ++ state ∷ [])) tail'
      (part_more v tail part (fields v q tail is part (λ p. p.own.numbers.crashed ≡ false) running) e state (fields v q tail is part (λ p. IsOwn p.setup p.role e) own) (fields v q tail is part IsBelow below) (fields v q tail is part (λ p. state ≡ state_behind (vars_by p.setup) p.role (p.own.events ++ e ∷ [])) behind))
      events raw (λ f. sym crashed ∙ f) same)

  pub crashed_is : (count : ℕ) (own' : Own) → IsOwnDue (rules_of q.setup) q.role q.own → IsSaved tail count → tail' ≡ with_held tail (take (place_in tail count + 1) tail.states) → own'.events ≡ v.own.events → own'.numbers.raw ≡ v.own.numbers.raw → own'.numbers.crashed ≡ true → IsPart v.setup v.role own' tail'.base count tail'
  crashed_is count own' due durable same events raw crashed =
      from_tail v.setup v.role own' v.base count tail'
      (same_part v.setup v.role (own_after v.own (Crash v.role)) own' v.base count (with_held tail (take (place_in tail count + 1) tail.states)) tail'
      (part_crashed v tail part (fields v q tail is part (λ p. p.own.numbers.crashed ≡ false) due.0) count durable)
      events raw (λ f. absurd (let g = sym crashed ∙ f in cc)) same)

  pub crashed_view : (count : ℕ) (log : List Timed) → IsOwnDue (rules_of q.setup) q.role q.own → IsSaved tail count → tail' ≡ with_held tail (take (place_in tail count + 1) tail.states) → log ≡ v.log ++ record { stamp = v.own.numbers.clock; step = Crash v.role } ∷ [] → record { setup = v.setup; role = v.role; own = own_after v.own (Crash v.role); held = count; base = tail'.base; log = log } ≡ with_crash q
  crashed_view count log due durable same logged =
      let base : tail'.base ≡ v.base = ap (λ (t : TailView). t.base) same ∙ part.base_is in
      ap (λ (x : ℕ × (ℕ × List Timed)). record { setup = v.setup; role = v.role; own = own_after v.own (Crash v.role); held = x.0; base = x.1.0; log = x.1.1 }) (λ i. (saved_is v tail part (fields v q tail is part (λ p. p.own.numbers.crashed ≡ false) due.0) count durable i, (base i, logged i)))
      ∙ ap with_crash is

  pub few_crashes_is : IsOwnDue (rules_of q.setup) q.role q.own → v.own.numbers.crashes < 100064
  few_crashes_is due = few_crashes v tail part (fields v q tail is part (λ p. IsOwnDue (rules_of p.setup) p.role p.own) due)

  pub back_is : (keep clock : ℕ) (own' : Own) → q.base ≤ keep → keep ≤ q.held → tail' ≡ with_held tail (take (place_in tail keep + 1) tail.states) → own'.events ≡ take keep v.own.events → own'.numbers.raw ≡ v.own.numbers.raw → IsPart v.setup v.role own' tail'.base keep tail'
  back_is keep clock own' from le same events raw =
      from_tail v.setup v.role own' v.base keep tail'
      (same_part v.setup v.role (own_back v.own keep true clock) own' v.base keep (with_held tail (take (place_in tail keep + 1) tail.states)) tail'
      (part_back v tail part keep clock (fields v q tail is part (λ p. p.base ≤ keep) from) (fields v q tail is part (λ p. keep ≤ p.held) le))
      events raw (λ f. refl) same)

  pub cut_is : (keep clock count : ℕ) (own' : Own) → count ≡ min keep v.held → q.own.numbers.crashed ≡ true → q.base ≤ keep → keep ≤ length q.own.events → tail' ≡ with_held tail (take (place_in tail count + 1) tail.states) → own'.events ≡ take keep v.own.events → own'.numbers.raw ≡ v.own.numbers.raw → own'.numbers.crashed ≡ v.own.numbers.crashed → IsPart v.setup v.role own' tail'.base count tail'
  cut_is keep clock count own' least crashed from le same events raw stays =
      subst (λ n. IsPart v.setup v.role own' tail'.base n tail') (sym least)
      (from_tail v.setup v.role own' v.base (min keep v.held) tail'
      (same_part v.setup v.role (own_back v.own keep false clock) own' v.base (min keep v.held) (with_held tail (take (place_in tail (min keep v.held) + 1) tail.states)) tail'
      (part_cut v tail part keep clock (fields v q tail is part (λ p. p.own.numbers.crashed ≡ true) crashed) (fields v q tail is part (λ p. p.base ≤ keep) from) (fields v q tail is part (λ p. keep ≤ length p.own.events) le))
      events raw (λ f. sym stays ∙ f) (same ∙ ap (λ n. with_held tail (take (place_in tail n + 1) tail.states)) least)))

-- the states that are asked for are held
module _ (v q : PartView) (tail : TailView) (is : v ≡ q) (part : IsPartOf v tail) where
  pub crash_holds : (count : ℕ) → IsOwnDue (rules_of q.setup) q.role q.own → IsSaved tail count → HasState tail count
  crash_holds count due saved = (from_saved v tail part (fields v q tail is part (λ p. p.own.numbers.crashed ≡ false) due.0) count saved, saved.within)

  pub back_holds : (keep : ℕ) → q.base ≤ keep → keep ≤ q.held → HasState tail keep
  back_holds keep from le =
      let b = part.base_is in
      let c = part.count_is in
      let low : v.base ≤ keep = fields v q tail is part (λ p. p.base ≤ keep) from in
      let high : keep ≤ v.held = fields v q tail is part (λ p. keep ≤ p.held) le in
      (omega (arith, b, low), omega (arith, c, high))

  pub cut_holds : (keep count : ℕ) → count ≡ min keep v.held → q.base ≤ keep → HasState tail count
  cut_holds keep count least from =
      let b = part.base_is in
      let c = part.count_is in
      let h = base_held v tail part in
      let low : v.base ≤ keep = fields v q tail is part (λ p. p.base ≤ keep) from in
      (omega (arith, b, low, h, least), omega (arith, c, least))

  pub line_holds : (line : ℕ) → q.base ≤ line → line ≤ durable_of q → HasState tail line
  line_holds line above saved =
      let b = part.base_is in
      let c = part.count_is in
      let s = part.saved in
      let low : v.base ≤ line = fields v q tail is part (λ p. p.base ≤ line) above in
      let high : line ≤ durable_of v = fields v q tail is part (λ p. line ≤ durable_of p) saved in
      (omega (arith, b, low), omega (arith, c, s, high))

  -- the part's fields from a later base on
  pub forgot_is : (tail' : TailView) (line : ℕ) → (k : ℕ) × (k * (rules_of q.setup).every q.role ≡ line) → q.base ≤ line → line ≤ durable_of q → tail' ≡ from_base tail line → IsPart v.setup v.role v.own tail'.base v.held tail'
  forgot_is tail' line step above saved same =
      subst (λ (t : TailView). IsPart v.setup v.role v.own t.base v.held t) (sym same)
      (part_forgot v tail part line (fields v q tail is part (λ p. (k : ℕ) × (k * (rules_of p.setup).every p.role ≡ line)) step) (fields v q tail is part (λ p. p.base ≤ line) above) (fields v q tail is part (λ p. line ≤ durable_of p) saved))

-- the events of a part are at points that a set can hold
pub event_point : (v q : PartView) (tail : TailView) (n : ℕ) (o : Option ℕ) → v ≡ q → IsPartOf v tail → o ≡ point_there (slice_get q.own.events n) → IfSome o IsPoint
event_point v q tail n o is part e = subst (λ (x : Option ℕ). IfSome x IsPoint) (sym e) (go (slice_get q.own.events n) refl)
  where
    go : (x : Option Event) → slice_get q.own.events n ≡ x → IfSome (point_there x) IsPoint
    go None at = tt
    go (Some e) at =
        let kept = seen v q tail is part in
        let own = kept.sound n e at in
        let few = kept.protocol.form.few_points in
        let last = own.last in
        record { first = own.first; last = omega (arith, few, last) }

pub low : (v q : PartView) (tail : TailView) → v ≡ q → IsPartOf v tail → q.role < 8
low v q tail is part = subst (λ (p : PartView). p.role < 8) is (low_role v.setup v.role part.protocol part.declared)
