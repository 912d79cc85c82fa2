-- What was told is a legal journal in hindsight, where all failures are by steps.
use Rattle.std.proofs.Common.{◌≡◌, ℕ, ◌+◌, ◌*◌, ◌/◌, ◌<◌, ◌≤◌, Bool, true, false, cond, Option, Some, None, List, [], ◌∷◌, ◌++◌, length, replicate, refl, sym, ◌∙◌, ap, subst, ◌⊎◌, inl, inr, ⊎_elim, eq-eqb, ne_eqb, arith}
use Rattle.std.specs.Prelude.{◌==◌, ◌↔◌, ℤ, pos, nat_le, slice_get, slice_index, slice_set}
use Rattle.std.specs.List.{count_by}
use Rattle.std.proofs.Math.Path.{fun_ext}
use Rattle.std.proofs.lemmas.Bool.{cases_eq, cases_lt}
use Rattle.std.proofs.lemmas.List.{length-replicate, get_or-replicate, get_or_past}
use Rattle.rcv_tree.specs.Bits.{has_bit, is_listed}
use Rattle.rcv_tree.specs.Numbers.{fresh}
use Rattle.rcv_tree.specs.declared.event.Event.{Event}
use Rattle.rcv_tree.specs.declared.numbers.Numbers.{Numbers}
use Rattle.rcv_tree.specs.declared.entry.Entry.{Entry}
use Rattle.rcv_tree.specs.declared.entry.Entry.TheVariants.{Send, Recv, Crash, Recover}
use Rattle.rcv_tree.specs.declared.role.RoleSet.{RoleSet}
use Rattle.rcv_model.specs.Net.{IsIn}
use Rattle.rcv_model.specs.Run.{acts, place_of}
use Rattle.rcv_model.specs.Next.{AreNext}
use Rattle.rcv_model.specs.Table.{start_of, point_of}
use Rattle.rcv_model.specs.Undo.{keep_within, bound_of}
use Rattle.rcv_model.specs.Journal.{Rules, nobody, numbers_at, events_of, durable, kept_by, concerned_in, IsConcernedIn, advanced, failed, gone_back, greatest, numbers_behind, after_recovery, after, reading_from, IsDue, IsFree, May, IsLegalFrom}
use Rattle.rcv_model.proofs.Bystanders.{as_many}
use Rattle.rcv_model.proofs.NextLists.{lists_exist}
use Rattle.rcv_model.proofs.Recovering.{listed as concerned_listed}
use Rattle.rcv_model.proofs.Roles.{place_is, set_here, set_else, set_keeps, mapped_alike, mapped_keeps, greatest_same}
use Rattle.rcv_model.proofs.Scanning.{among}
use Rattle.rcv_told.specs.Told.{Terms, Remembered, nothing_told, state_of, down_at, roles_in, group_of, held_of, left_at, MayBeTold, IsToldFrom, after_crash, told_after, told_from, told, made_of, IsConcernedWhere}
use Rattle.rcv_told.specs.Hindsight.{IsBySteps, FailsBySteps, FailBySteps}
use Rattle.rcv_told.specs.Laws.{AreAccepted, ToldJournalsAreLegal}
use Rattle.rcv_told.proofs.Telling.{HoldsTold, holds_first, holds_one, down_there, declared, next_at, all_sent, all_received}
use Rattle.rcv_told.proofs.Failing.{held_is, made_is, left_is, listed_of, of_listed}
use Rattle.rcv_told.proofs.ReadOff.{sent_at, crashes_at, IsAhead, was_ahead, not_told_at, told_at, line_reached, inside, raw_grows, raw_from, lines_above}

-- the point and the value of what is found; 0 of nothing
abbrev point_in : Option Event → ℕ
point_in None = 0
point_in (Some e) = e.point

abbrev value_in : Option Event → ℤ
value_in None = pos 0
value_in (Some e) = e.value

-- two tests that agree
same_test : (a b : Bool) → (a ≡ true → b ≡ true) → (b ≡ true → a ≡ true) → a ≡ b
same_test true b f g = sym (f refl)
same_test false true f g = g refl
same_test false false f g = refl

-- the rules by which it is legal
abbrev rules_of : Terms → (ℕ → ℕ) → ℕ → (ℕ → ℕ → ℕ → Option Event) → (ℕ → List ℕ) → Rules
rules_of terms every limit found lines =
    record {
      net = terms.net;
      roles = terms.roles;
      chosen = λ r events attempt offered. point_in (found r (length events) attempt);
      value = λ r events attempt point. value_in (found r (length events) attempt);
      every = every;
      host = terms.host;
      crash_lines = lines;
      limit = limit;
      room = 0;
    }

module _ (terms : Terms) (known : AreAccepted terms) (every : ℕ → ℕ) (limit : ℕ) (found : ℕ → ℕ → ℕ → Option Event) (lines : ℕ → List ℕ) where
  abbrev rules : Rules
  rules = rules_of terms every limit found lines

  -- crash lines that are still to come, and how many of some are at most x
  abbrev coming : Remembered → List Entry → ℕ → List ℕ
  coming m es r = crashes_at terms m es r

  abbrev reached : ℕ → List ℕ → ℕ
  reached x ns = count_by (λ n. nat_le n x) ns

  -- the scripts and crash lines say what is still to be told
  record Foretells (m : Remembered) (es : List Entry) : Type 0 where
    pub sends : (r n a : ℕ) → r < terms.roles → IsAhead m r n a → found r n a ≡ sent_at terms m es r n a
    pub crashed : (r x : ℕ) → (numbers_at m.roles r).raw ≤ x
        → reached x (lines r) ≡ (numbers_at m.roles r).crashes + reached x (coming m es r)
    pub low : (r : ℕ) → (numbers_at (told_from terms m es).roles r).raw ≤ limit

  -- a role that tells something has no crash before it
  not_due : (m m' : Remembered) (es : List Entry) (r : ℕ)
      → reached (numbers_at m.roles r).raw (lines r) ≡ (numbers_at m.roles r).crashes + reached (numbers_at m.roles r).raw (coming m' es r)
      → HoldsTold terms known m' → IsToldFrom terms m' es → (numbers_at m.roles r).raw < (numbers_at m'.roles r).raw
      → IsDue rules (state_of m) r → ⊥
  not_due m m' es r count holds are lt due =
      let none = lines_above terms known m' es r (numbers_at m.roles r).raw holds are lt in
      let more' = due.1 in
      omega (arith, count, none, more')

  -- so it may make a step
  free : (m : Remembered) (e : Event) (es : List Entry) (entry : Entry)
      → (told_after terms m entry).roles ≡ slice_set m.roles e.role (advanced (numbers_at m.roles e.role) e.stamp)
      → HoldsTold terms known m → MayBeTold terms m entry → IsToldFrom terms (told_after terms m entry) es
      → down_at m e.role ≡ Some false
      → reached (numbers_at m.roles e.role).raw (lines e.role)
      ≡ (numbers_at m.roles e.role).crashes + reached (numbers_at m.roles e.role).raw (coming (told_after terms m entry) es e.role)
      → (numbers_at (told_from terms (told_after terms m entry) es).roles e.role).raw ≤ limit
      → IsFree rules (state_of m) e.role
  free m e es entry set holds may later up count low =
      let lt = declared terms known m e.role holds.nothing up in
      let next : (numbers_at (told_after terms m entry).roles e.role).raw ≡ (numbers_at m.roles e.role).raw + 1 =
      ap (λ (l : List Numbers). (numbers_at l e.role).raw) set
      ∙ ap (λ (x : Numbers). x.raw) (set_here m.roles e.role (advanced (numbers_at m.roles e.role) e.stamp) (inside terms known m e.role holds lt)) in
      let holds' = holds_one terms known m entry holds may in
      let end' = raw_from terms known (told_after terms m entry) es e.role holds' later in
      record {
        declared = lt;
        running = (down_there m.roles e.role false up).1;
        not_due = not_due m (told_after terms m entry) es e.role count holds' later (omega (arith, next));
        below_limit = omega (arith, next, end', low);
      }

  -- what is found at a Send is the Send
  found_here : (m : Remembered) (e : Event) (es : List Entry) → e.role < terms.roles → Foretells m (Send e ∷ es)
      → found e.role (length (events_of e.role m.held)) (numbers_at m.roles e.role).attempt ≡ Some e
  found_here m e es lt ahead =
      let le : length (acts e.role m.held) ≤ length (acts e.role m.held) = omega arith in
      ap (λ n. found e.role n (numbers_at m.roles e.role).attempt) (sym (as_many e.role m.held))
      ∙ ahead.sends e.role (length (acts e.role m.held)) (numbers_at m.roles e.role).attempt lt (inr (refl, le))
      ∙ ap (λ b. cond b (Some e) (sent_at terms (told_after terms m (Send e)) es e.role (length (acts e.role m.held)) (numbers_at m.roles e.role).attempt))
      (told_at m e)

  may_send : (m : Remembered) (e : Event) (es : List Entry) → HoldsTold terms known m → Foretells m (Send e ∷ es)
      → IsToldFrom terms m (Send e ∷ es) → May rules (state_of m) (Send e)
  may_send m e es holds ahead are =
      let may = are.0 in
      let lt = declared terms known m e.role holds.nothing may.up in
      let next = next_at terms known m e.role e.point holds.nothing may.next in
      let list = lists_exist terms.net terms.roles e.role (place_of 0 (acts e.role m.held)) known.proper in
      let all = all_sent terms known m.held e.role e.point holds.run lt next may.sends in
      let here' = found_here m e es lt ahead in
      record {
        free = free m e es (Send e) refl holds may are.1 may.up (ahead.crashed e.role (numbers_at m.roles e.role).raw (omega arith)) (ahead.low e.role);
        offered = list.0;
        next = subst (λ k. AreNext terms.net e.role k list.0) (sym (place_is (state_of m) e.role)) list.1;
        sends = λ z i. all z (list.1.sound z i);
        is_send = may.is_send;
        among = list.1.complete e.point next;
        point = sym (ap point_in here');
        value = sym (ap value_in here');
        stamp = may.stamp;
        sent = may.sent;
      }

  may_recv : (m : Remembered) (e : Event) (es : List Entry) → HoldsTold terms known m → Foretells m (Recv e ∷ es)
      → IsToldFrom terms m (Recv e ∷ es) → May rules (state_of m) (Recv e)
  may_recv m e es holds ahead are =
      let may = are.0 in
      let lt = declared terms known m e.role holds.nothing may.up in
      let next = next_at terms known m e.role e.point holds.nothing may.next in
      let list = lists_exist terms.net terms.roles e.role (place_of 0 (acts e.role m.held)) known.proper in
      let all = all_received terms known m.held e.role e.point holds.run lt next may.receives in
      let among = list.1.complete e.point next in
      record {
        own = record {
          free = free m e es (Recv e) refl holds may are.1 may.up (ahead.crashed e.role (numbers_at m.roles e.role).raw (omega arith)) (ahead.low e.role);
          offered = list.0;
          some = λ f. subst (IsIn e.point) f among;
          from = terms.net.sender e.point;
          next = subst (λ k. AreNext terms.net e.role k list.0) (sym (place_is (state_of m) e.role)) list.1;
          receives = λ z i. all z (list.1.sound z i);
          is_recv = may.is_recv;
          sender = refl;
          stamp = may.stamp;
        };
        among = among;
        front = may.front;
      }

  may_crash : (m : Remembered) (p : ℕ) (es : List Entry) → HoldsTold terms known m → Foretells m (Crash p ∷ es)
      → IsToldFrom terms m (Crash p ∷ es) → May rules (state_of m) (Crash p)
  may_crash m p es holds ahead are = (declared terms known m p holds.nothing are.0, ((down_there m.roles p false are.0).1, due))
    where
      rest : List ℕ
      rest = coming (told_after terms m (Crash p)) es p

      -- its line
      line : reached (numbers_at m.roles p).raw (coming m (Crash p ∷ es) p) ≡ 1 + reached (numbers_at m.roles p).raw rest
      line =
          ap (λ b. reached (numbers_at m.roles p).raw (cond b ((numbers_at m.roles p).raw ∷ rest) rest)) (eq-eqb p p refl)
          ∙ line_reached (numbers_at m.roles p).raw (numbers_at m.roles p).raw rest (omega arith)

      due : (numbers_at m.roles p).crashes < reached (numbers_at m.roles p).raw (lines p)
      due = let count = ahead.crashed p (numbers_at m.roles p).raw (omega arith) in omega (arith, count, line)

  -- a failure by steps
  module _ (m : Remembered) (holds : HoldsTold terms known m) (p : ℕ) (concerned : RoleSet) (kept : List ℕ) (undone : ℕ)
      (steps : IsBySteps terms every m p concerned kept undone) where
    abbrev left : List Event
    left = left_at terms.net m (group_of terms p) steps.saved

    -- what its roles have saved is what is durable
    saved_is : (q : ℕ) → is_listed (group_of terms p) q ≡ true → durable rules (state_of m) q ≡ held_of m steps.saved q
    saved_is q t =
        ap (λ n. n / every q * every q) (sym (made_is terms.roles m m.held q holds.nothing))
        ∙ sym (steps.multiple q t) ∙ sym (held_is terms.roles m steps.saved q holds.nothing)

    kept_is : kept_by rules (state_of m) p ≡ left
    kept_is = ap (λ b. keep_within terms.net b m.held) (fun_ext same)
      where
        same : (q : ℕ) → bound_of (group_of terms p) (durable rules (state_of m)) m.held q
            ≡ bound_of (group_of terms p) (held_of m steps.saved) m.held q
        same q = go (is_listed (group_of terms p) q) (saved_is q)
          where
            go : (b : Bool) → (b ≡ true → durable rules (state_of m) q ≡ held_of m steps.saved q)
                → cond b (durable rules (state_of m) q) (length (acts q m.held)) ≡ cond b (held_of m steps.saved q) (length (acts q m.held))
            go true f = f refl
            go false f = refl

    start_is : (r : ℕ) → IsIn r (group_of terms p) → start_of (durable rules (state_of m)) m.held r ≡ start_of (held_of m steps.saved) m.held r
    start_is r i = ap (λ n. point_of (slice_get (acts r m.held) n)) (saved_is r (among r (group_of terms p) i))

    -- whom it concerns
    concerns : (q : ℕ) → IsConcernedIn rules (state_of m) p q ↔ IsConcernedWhere terms m p steps.saved q
    concerns q = (to, back)
      where
        to : IsConcernedIn rules (state_of m) p q → IsConcernedWhere terms m p steps.saved q
        to (inl i) = inl i
        to (inr x) = inr (x.0, x.1, x.2, sym (start_is x.0 x.2) ∙ x.3, x.4)

        back : IsConcernedWhere terms m p steps.saved q → IsConcernedIn rules (state_of m) p q
        back (inl i) = inl i
        back (inr x) = inr (x.0, x.1, x.2, start_is x.0 x.2 ∙ x.3, x.4)

    may_recover : down_at m p ≡ Some true → May rules (state_of m) (Recover p concerned kept undone)
    may_recover down = record {
      crashed = down_there m.roles p true down;
      byte = steps.byte;
      concerned = λ q lt. (λ t. (concerns q).1 ((steps.failed.concerned_is q lt).0 t), λ c. (steps.failed.concerned_is q lt).1 ((concerns q).0 c));
      eight = steps.failed.eight;
      counts = λ q lt. steps.failed.counts q lt ∙ ap (λ n. cond (has_bit concerned.0 q) n 0) (counted q);
      undone = ap (λ (h : List Event). undone + length h) kept_is ∙ steps.failed.undone_is;
    }
      where
        counted : (q : ℕ) → made_of m left q ≡ length (acts q (kept_by rules (state_of m) p))
        counted q = made_is terms.roles m left q holds.nothing ∙ ap (λ (h : List Event). length (acts q h)) (sym kept_is)

    alike : (q : ℕ) → q < 8 → is_listed (concerned_in rules (state_of m) p) q ≡ is_listed (roles_in concerned) q
    alike q lt =
        let c = concerned_listed rules (state_of m) p known.proper known.accepted.lanes_end q in
        same_test _ _
        (λ t. listed_of (has_bit concerned.0) 8 q lt ((steps.failed.concerned_is q lt).1 ((concerns q).0 (c.0 t))))
        (λ t. c.1 ((concerns q).1 ((steps.failed.concerned_is q lt).0 (of_listed (has_bit concerned.0) 8 q t).1)))

    -- a journal's state behind it
    pub recovered : after rules (state_of m) (Recover p concerned kept undone) ≡ state_of (told_after terms m (Recover p concerned kept undone))
    recovered =
        ap (after_recovery (state_of m) (group_of terms p) mine) (kept_is ∙ sym (left_is terms known m holds p steps.saved concerned kept undone steps.failed))
        ∙ ap (λ (l : List Numbers). record { kept = listed; roles = l }) (mapped_alike (behind mine) (behind (roles_in concerned)) 0 m.roles each)
      where
        mine : List ℕ
        mine = concerned_in rules (state_of m) p

        listed : List Event
        listed = left_at terms.net m (roles_in concerned) (slice_index kept)

        behind : List ℕ → ℕ → Numbers → Numbers
        behind qs = numbers_behind (state_of m) (group_of terms p) qs listed

        few : (i : ℕ) → i < length m.roles → 0 + i < 8
        few i lt = let n = holds.nothing.numbers in omega (arith, lt, n, known.few)

        -- with this clock
        at_clock : ℕ → ℕ → Numbers → Numbers
        at_clock clock r n = gone_back n (is_listed (group_of terms p) r) (length (acts r listed)) (length (acts r m.held)) clock

        -- the clocks, by whom the recovery concerns, however that is listed
        each : (i : ℕ) → i < length m.roles → behind mine (0 + i) (numbers_at m.roles i) ≡ behind (roles_in concerned) (0 + i) (numbers_at m.roles i)
        each i lt =
            let n = numbers_at m.roles i in
            ap (λ g. at_clock (cond (is_listed mine (0 + i)) (g + 1) n.clock) (0 + i) n)
            (greatest_same (is_listed mine) (is_listed (roles_in concerned)) 0 m.roles (λ q below. alike (0 + q) (few q below)))
            ∙ ap (λ b. at_clock (cond b (greatest (is_listed (roles_in concerned)) 0 m.roles + 1) n.clock) (0 + i) n) (alike (0 + i) (few i lt))

  -- the next entry may come
  may_come : (m : Remembered) (e : Entry) (es : List Entry) → HoldsTold terms known m → Foretells m (e ∷ es)
      → IsToldFrom terms m (e ∷ es) → FailsBySteps terms every m e → May rules (state_of m) e
  may_come m (Send e) es holds ahead are steps = may_send m e es holds ahead are
  may_come m (Recv e) es holds ahead are steps = may_recv m e es holds ahead are
  may_come m (Crash p) es holds ahead are steps = may_crash m p es holds ahead are
  may_come m (Recover p concerned kept undone) es holds ahead are steps = may_recover m holds p concerned kept undone steps are.0.0

  -- and leaves what it leaves of what was told
  after_is : (m : Remembered) (e : Entry) → HoldsTold terms known m → FailsBySteps terms every m e
      → after rules (state_of m) e ≡ state_of (told_after terms m e)
  after_is m (Send e) holds steps = refl
  after_is m (Recv e) holds steps = refl
  after_is m (Crash p) holds steps = refl
  after_is m (Recover p concerned kept undone) holds steps = recovered m holds p concerned kept undone steps

  -- an event leaves each role's crashes, and its lines that are still to come
  lines_left : (m : Remembered) (e : Event) (entry : Entry) (es : List Entry)
      → (told_after terms m entry).roles ≡ slice_set m.roles e.role (advanced (numbers_at m.roles e.role) e.stamp)
      → ((r : ℕ) → coming m (entry ∷ es) r ≡ coming (told_after terms m entry) es r)
      → HoldsTold terms known m → MayBeTold terms m entry → Foretells m (entry ∷ es) → (r x : ℕ) → (numbers_at (told_after terms m entry).roles r).raw ≤ x
      → reached x (lines r) ≡ (numbers_at (told_after terms m entry).roles r).crashes + reached x (coming (told_after terms m entry) es r)
  lines_left m e entry es set same holds may ahead r x le =
      let up = raw_grows terms known m entry r holds may in
      let count = ahead.crashed r x (omega (arith, le, up)) in
      let crashes : (numbers_at (told_after terms m entry).roles r).crashes ≡ (numbers_at m.roles r).crashes =
      ap (λ (l : List Numbers). (numbers_at l r).crashes) set
      ∙ set_keeps (λ (y : Numbers). y.crashes) m.roles e.role r (advanced (numbers_at m.roles e.role) e.stamp) refl in
      omega (arith, count, crashes, ap (reached x) (same r))

  -- what is to be told later
  foretells_on : (m : Remembered) (e : Entry) (es : List Entry) → HoldsTold terms known m → MayBeTold terms m e
      → Foretells m (e ∷ es) → Foretells (told_after terms m e) es
  foretells_on m (Send e) es holds may ahead = record {
    sends = λ r n a lt x.
        ahead.sends r n a lt (was_ahead terms m (Send e) r n a (inside terms known m r holds lt) x)
        ∙ ap (λ b. cond b (Some e) (sent_at terms (told_after terms m (Send e)) es r n a)) (not_told_at m e r n a x);
    crashed = lines_left m e (Send e) es refl (λ r. refl) holds may ahead;
    low = ahead.low;
  }
  foretells_on m (Recv e) es holds may ahead = record {
    sends = λ r n a lt x. ahead.sends r n a lt (was_ahead terms m (Recv e) r n a (inside terms known m r holds lt) x);
    crashed = lines_left m e (Recv e) es refl (λ r. refl) holds may ahead;
    low = ahead.low;
  }
  foretells_on m (Crash p) es holds may ahead = record {
    sends = λ r n a lt x. ahead.sends r n a lt (was_ahead terms m (Crash p) r n a (inside terms known m r holds lt) x);
    crashed = λ r x le.
        let up = raw_grows terms known m (Crash p) r holds may in
        let low : (numbers_at m.roles r).raw ≤ x = omega (arith, le, up) in
        go r x low (cases_eq p r) (ahead.crashed r x low);
    low = ahead.low;
  }
    where
      rest : ℕ → List ℕ
      rest r = coming (told_after terms m (Crash p)) es r

      go : (r x : ℕ) → (numbers_at m.roles r).raw ≤ x → (p ≡ r) ⊎ (p ≡ r → ⊥)
          → reached x (lines r) ≡ (numbers_at m.roles r).crashes + reached x (cond (p == r) ((numbers_at m.roles r).raw ∷ rest r) (rest r))
          → reached x (lines r) ≡ (numbers_at (after_crash m p).roles r).crashes + reached x (rest r)
      go r x le (inl e) count =
          let here : (numbers_at (after_crash m p).roles p).crashes ≡ (numbers_at m.roles p).crashes + 1 =
          ap (λ (y : Numbers). y.crashes)
          (set_here m.roles p (failed (numbers_at m.roles p)) (inside terms known m p holds (declared terms known m p holds.nothing may))) in
          let more' = subst (λ q. (numbers_at (after_crash m p).roles q).crashes ≡ (numbers_at m.roles q).crashes + 1) e here in
          let line =
          ap (λ b. reached x (cond b ((numbers_at m.roles r).raw ∷ rest r) (rest r))) (eq-eqb p r e) ∙ line_reached x (numbers_at m.roles r).raw (rest r) le in
          omega (arith, count, more', line)
      go r x le (inr f) count =
          let same = ap (λ (y : Numbers). y.crashes) (set_else m.roles p r (failed (numbers_at m.roles p)) f) in
          let line = ap (λ b. reached x (cond b ((numbers_at m.roles r).raw ∷ rest r) (rest r))) (ne_eqb p r f) in
          omega (arith, count, same, line)
  foretells_on m (Recover p concerned kept undone) es holds may ahead = record {
    sends = λ r n a lt x. ahead.sends r n a lt (was_ahead terms m (Recover p concerned kept undone) r n a (inside terms known m r holds lt) x);
    crashed = λ r x le.
        let up = raw_grows terms known m (Recover p concerned kept undone) r holds may in
        let count = ahead.crashed r x (omega (arith, le, up)) in
        let left = left_at terms.net m (roles_in concerned) (slice_index kept) in
        let same =
        mapped_keeps (λ (y : Numbers). y.crashes) (numbers_behind (state_of m) (group_of terms p) (roles_in concerned) left) (λ i y. refl) 0 r m.roles in
        omega (arith, count, same);
    low = ahead.low;
  }

  legal_from : (m : Remembered) (es : List Entry) → HoldsTold terms known m → Foretells m es → IsToldFrom terms m es
      → FailBySteps terms every m es → IsLegalFrom rules (state_of m) es
  legal_from m [] holds ahead are steps = tt
  legal_from m (e ∷ es) holds ahead are steps =
      let holds' = holds_one terms known m e holds are.0 in
      let ahead' = foretells_on m e es holds are.0 ahead in
      let ih = legal_from (told_after terms m e) es holds' ahead' are.1 steps.1 in (
        may_come m e es holds ahead are steps.0,
        subst (λ s. IsLegalFrom rules s es) (sym (after_is m e holds steps.0)) ih,
      )

  same_from : (m : Remembered) (front back : List Entry) → HoldsTold terms known m → IsToldFrom terms m (front ++ back)
      → FailBySteps terms every m (front ++ back)
      → reading_from rules (state_of m) front ≡ state_of (told_from terms m front)
  same_from m [] back holds are steps = refl
  same_from m (e ∷ front) back holds are steps =
      let ih = same_from (told_after terms m e) front back (holds_one terms known m e holds are.0) are.1 steps.1 in
      ap (λ s. reading_from rules s front) (after_is m e holds steps.0) ∙ ih

-- what is read off what was told from the start
abbrev found_in : Terms → List Entry → ℕ → ℕ → ℕ → Option Event
found_in terms entries = sent_at terms (nothing_told terms.roles) entries

abbrev lines_in : Terms → List Entry → ℕ → List ℕ
lines_in terms entries = crashes_at terms (nothing_told terms.roles) entries

no_crashes : (roles r : ℕ) → (numbers_at (nothing_told roles).roles r).crashes ≡ 0
no_crashes roles r = ⊎_elim
    (λ lt. ap (λ (x : Numbers). x.crashes) (get_or-replicate roles r fresh nobody lt))
    (λ le. ap (λ (x : Numbers). x.crashes) (get_or_past (replicate roles fresh) r nobody (subst (λ l. l ≤ r) (sym (length-replicate roles fresh)) le)))
    (cases_lt r roles)

foretold : (terms : Terms) (known : AreAccepted terms) (every : ℕ → ℕ) (limit : ℕ) (entries : List Entry)
    → ((r : ℕ) → (numbers_at (told terms entries).roles r).raw ≤ limit)
    → Foretells terms known every limit (found_in terms entries) (lines_in terms entries) (nothing_told terms.roles) entries
foretold terms known every limit entries low = record {
  sends = λ r n a lt x. refl;
  crashed = λ r x le. omega (arith, no_crashes terms.roles r);
  low = low;
}

pub told_journals_are_legal : ToldJournalsAreLegal
told_journals_are_legal terms every limit entries known are steps low =
    let holds = holds_first terms known in
    record {
      rules = rules_of terms every limit (found_in terms entries) (lines_in terms entries);
      net_is = refl;
      roles_is = refl;
      host_is = refl;
      every_is = refl;
      limit_is = refl;
      legal =
          let ahead = foretold terms known every limit entries low in
          legal_from terms known every limit (found_in terms entries) (lines_in terms entries) (nothing_told terms.roles) entries
          holds ahead are steps;
      same = λ front back f.
          same_from terms known every limit (found_in terms entries) (lines_in terms entries) (nothing_told terms.roles) front back holds
          (subst (IsToldFrom terms (nothing_told terms.roles)) (sym f) are) (subst (FailBySteps terms every (nothing_told terms.roles)) (sym f) steps);
    }
