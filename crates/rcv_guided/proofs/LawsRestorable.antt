-- What told lines leave of a session can be restored.
use Rattle.std.proofs.Common.{◌≡◌, ℕ, zero, suc, ◌+◌, ◌-◌, ◌<◌, ◌≤◌, Bool, true, false, cond, Some, None, List, [], ◌∷◌, ◌++◌, length, take, drop, refl, sym, ◌∙◌, ap, subst, inl, inr, append_assoc, eq-eqb, arith}
use Rattle.std.specs.Prelude.{◌==◌, ◌&&◌, not, slice_get}
use Rattle.std.specs.List.{cons_option}
use Rattle.std.proofs.Math.Seq.{take-append_seam}
use Rattle.std.proofs.lemmas.Bool.Decides.{nat_tests}
use Rattle.std.proofs.lemmas.List.{drop-take}
use Rattle.std.proofs.lemmas.List.Elements.{filter_map-append}
use Rattle.rcv_tree.specs.declared.event.Event.{Event}
use Rattle.rcv_tree.specs.declared.event.Message.{Message}
use Rattle.rcv_tree.specs.declared.event.Dir.{Dir}
use Rattle.rcv_tree.specs.declared.event.Dir.TheVariants.{Sent, Got}
use Rattle.rcv_model.specs.Net.{Net, IsWalk, IsPrefix}
use Rattle.rcv_model.specs.Run.{Act, is_sent, acts, act_at, part, place_of, put, taken, taken_by, IsRun}
use Rattle.rcv_model.specs.Next.{IsOf, IsNext, IsProper}
use Rattle.rcv_model.specs.Journal.{events_of}
use Rattle.rcv_model.proofs.Keeping.{acts_through, queued_now}
use Rattle.rcv_model.proofs.Lists.{some_same}
use Rattle.rcv_model.proofs.Queues.{From, from_of, get_here, Around, around, at_number, taken_by_some}
use Rattle.rcv_model.proofs.Ways.{point_is_next}
use Rattle.rcv_tables.specs.Rows.{TableView}
use Rattle.rcv_ledger.specs.Logs.{log_at}
use Rattle.rcv_ledger.specs.Ledger.{LedgerView}
use Rattle.rcv_ledger.proofs.Lists.{get_taken}
use Rattle.rcv_told.specs.Told.{Remembered, told}
use Rattle.rcv_told.specs.Forgetting.{since, IsShorter}
use Rattle.rcv_told.proofs.Memories.{acts_join, place_join, drop_acts}
use Rattle.rcv_told.proofs.Telling.{ForgotNothing, holds_after}
use Rattle.rcv_guide.specs.Numbers.{numbers_at}
use Rattle.rcv_guide.specs.Guide.{net_for, terms_of, IsMemory, IsGuide}
use Rattle.rcv_guide.specs.Remembered.{seeds_at}
use Rattle.rcv_guide.proofs.Guides.{is_proper, known}
use Rattle.rcv_guide.proofs.Memories as memories
use Rattle.rcv_guide.proofs.Shortening.{get_behind}
use Rattle.rcv_guided.specs.Session.{SessionView, roles_in}
use Rattle.rcv_guided.specs.Laws.{ToldSessionsAreRestorable, place_before}
use Rattle.rcv_guided.proofs.LawsLists.{all_own}

-- an event of a role's is one of it
own_role : (r : ℕ) (h : List Event) (k : ℕ) (e : Event) → slice_get (events_of r h) k ≡ Some e → e.role ≡ r
own_role r [] k e there = absurd (cc)
own_role r (x ∷ h) k e there = go (x.role == r) refl k there (λ j f. own_role r h j e f)
  where
    go : (b : Bool) → (x.role == r) ≡ b → (k : ℕ) → slice_get (cond b (x ∷ events_of r h) (events_of r h)) k ≡ Some e → ((j : ℕ) → slice_get (events_of r h) j ≡ Some e → e.role ≡ r) → e.role ≡ r
    go true t zero f ih = let own : x.role ≡ r = grind (arith, nat_tests) in ap (λ (y : Event). y.role) (sym (some_same f)) ∙ own
    go true t (suc k) f ih = ih k f
    go false t k f ih = ih k f

take_none : {A : Type 0} (k : ℕ) → take {A = A} k [] ≡ []
take_none zero = refl
take_none (suc k) = refl

-- the first so many are those of the first ones and those behind them
take_both : {A : Type 0} (a b : ℕ) (xs : List A) → take (a + b) xs ≡ take a xs ++ take b (drop a xs)
take_both zero b xs = let e : 0 + b ≡ b = omega arith in ap (λ k. take k xs) e
take_both (suc a) b [] = take_none (suc a + b) ∙ sym (take_none b)
take_both (suc a) b (x ∷ xs) = let e : suc a + b ≡ suc (a + b) = omega arith in ap (λ k. take k (x ∷ xs)) e ∙ ap (λ l. x ∷ l) (take_both a b xs)

-- two that begin one list and are of one length are the same
same_front : {A : Type 0} (xs ys us vs : List A) → xs ++ us ≡ ys ++ vs → length xs ≡ length ys → xs ≡ ys
same_front xs ys us vs e size =
    sym (take-append_seam xs us) ∙ ap (take (length xs)) e ∙ ap (λ k. take k (ys ++ vs)) size ∙ take-append_seam ys vs

-- a point of a role's part is one of its own
part_own : (net : Net) (r p : ℕ) (a : Act) → act_at net r p ≡ Some a → IsOf net r p × (p ≡ a.point)
part_own net r p a = go (net.sender p == r) (net.receiver p == r) refl refl
  where
    go : (b c : Bool) → (net.sender p == r) ≡ b → (net.receiver p == r) ≡ c → cond b (Some (record { dir = Sent; point = p })) (cond c (Some (record { dir = Got; point = p })) None) ≡ Some a → IsOf net r p × (p ≡ a.point)
    go true c t u e = (inl (grind (arith, nat_tests)), ap (λ (x : Act). x.point) (some_same e))
    go false true t u e = (inr (grind (arith, nat_tests)), ap (λ (x : Act). x.point) (some_same e))
    go false false t u e = absurd (cc)

first_act : (r : ℕ) (e : Event) (es : List Event) → e.role ≡ r → acts r (e ∷ es) ≡ record { dir = e.dir; point = e.point } ∷ acts r es
first_act r e es own = ap (λ b. cons_option (cond b (Some (record { dir = e.dir; point = e.point })) None) (acts r es)) (eq-eqb e.role r own)

-- each event of a run is at one of the points that came next
module _ (net : Net) (roles : ℕ) (proper : IsProper net roles) (h : List Event) (run : IsRun net h) (r k : ℕ) (e : Event) (there : slice_get (events_of r h) k ≡ Some e) where
  cut_there : Around (events_of r h) k e
  cut_there = around (events_of r h) k e there

  abbrev act : Act
  act = record { dir = e.dir; point = e.point }

  begins : part net r run.0 ≡ acts r cut_there.front ++ act ∷ (acts r cut_there.back ++ (run.1.parts r).0)
  begins =
      sym (run.1.parts r).1
      ∙ ap (λ l. l ++ (run.1.parts r).0) (acts_through r h ∙ ap (acts r) (sym cut_there.whole) ∙ acts_join r cut_there.front (e ∷ cut_there.back) ∙ ap (λ l. acts r cut_there.front ++ l) (first_act r e cut_there.back (own_role r h k e there)))
      ∙ append_assoc (acts r cut_there.front) (act ∷ acts r cut_there.back) (run.1.parts r).0

  point_there : From (act_at net r) run.0 (length (acts r cut_there.front)) act
  point_there = from_of (act_at net r) run.0 (length (acts r cut_there.front)) act
      (ap (λ l. slice_get l (length (acts r cut_there.front))) begins ∙ get_here (acts r cut_there.front) (acts r cut_there.back ++ (run.1.parts r).0) act)

  fronts : part net r point_there.front ≡ acts r cut_there.front
  fronts = same_front (part net r point_there.front) (acts r cut_there.front) (part net r (point_there.item ∷ point_there.back)) (act ∷ (acts r cut_there.back ++ (run.1.parts r).0))
      (sym (filter_map-append (act_at net r) point_there.front (point_there.item ∷ point_there.back)) ∙ ap (part net r) point_there.whole ∙ begins)
      point_there.number

  run_turns : IsNext net r (place_of 0 (acts r (take k (events_of r h)))) e.point
  run_turns =
      let own = part_own net r point_there.item act point_there.gives in
      subst (λ l. IsNext net r (place_of 0 (acts r l)) e.point) (sym cut_there.taken_is)
      (subst (λ l. IsNext net r (place_of 0 l) e.point) fronts
      (subst (IsNext net r (place_of 0 (part net r point_there.front))) own.1
      (point_is_next net roles r point_there.item point_there.front [] point_there.back proper (subst (IsWalk net 0) (sym point_there.whole) run.1.walk) tt own.0)))

module _ (s : SessionView) {table : TableView} {ledger : LedgerView} (kept : IsGuide s.guide table ledger) where
  own_of : (r n : ℕ) (e : Event) → slice_get (log_at s.guide.logs r) n ≡ Some e → e.role ≡ r
  own_of r n e there = own_role r kept.holds.memory.held n e (ap (λ l. slice_get l n) (kept.holds.is.events r) ∙ there)

  -- what a shorter memory of a run has come to
  module _ (full m : Remembered) (nothing : ForgotNothing (roles_in s) full) (run : IsRun (net_for s.guide) full.held) (is : IsMemory s.guide m) (short : IsShorter (net_for s.guide) full m) (r n : ℕ) (e : Event) (lt : r < roles_in s) (le : (numbers_at s.guide.numbers r).seeds ≤ n) (there : slice_get (log_at s.guide.logs r) n ≡ Some e) where
    abbrev log : List Event
    log = log_at s.guide.logs r

    abbrev seeds : ℕ
    seeds = (numbers_at s.guide.numbers r).seeds

    abbrev whole : List Event
    whole = events_of r full.held

    abbrev gone : ℕ
    gone = short.gone r

    abbrev more : ℕ
    more = n - seeds

    on : seeds + more ≡ n
    on = omega (arith, le)

    all_since : since full r ≡ whole
    all_since = ap (λ k. drop k whole) (nothing.seeds r)

    behind : drop gone whole ≡ drop seeds log
    behind =
        ap (drop gone) (sym all_since)
        ∙ sym (short.lacks r).since_is
        ∙ ap (λ k. drop k (events_of r m.held)) (memories.seeds_at s.guide m is r lt)
        ∙ ap (drop seeds) (is.events r)

    there_too : slice_get whole (gone + more) ≡ Some e
    there_too =
        sym (get_behind gone more whole)
        ∙ ap (λ l. slice_get l more) behind
        ∙ get_behind seeds more log
        ∙ ap (slice_get log) on
        ∙ there

    point_is : place_of 0 (acts r (take gone whole)) ≡ (numbers_at s.guide.numbers r).point
    point_is =
        ap (λ l. place_of 0 (acts r (take gone l))) (sym all_since)
        ∙ ap (λ k. place_of k (acts r (take gone (since full r)))) (sym (nothing.points r))
        ∙ sym (short.lacks r).point
        ∙ memories.point_at s.guide m is r lt

    came : acts r (take more (drop gone whole)) ≡ drop seeds (acts r (take n log))
    came =
        ap (λ l. acts r (take more l)) behind
        ∙ ap (acts r) (sym (drop-take seeds more log) ∙ ap (λ k. drop seeds (take k log)) on)
        ∙ ap (λ l. acts r (drop seeds l)) (sym (all_own r (take n log) (λ j f at_j. own_of r j f (get_taken n log j f at_j))))
        ∙ sym (drop_acts r seeds (take n log))

    turn : IsNext (net_for s.guide) r (place_before s r n) e.point
    turn = subst (λ k. IsNext (net_for s.guide) r k e.point)
        (ap (λ l. place_of 0 (acts r l)) (take_both gone more whole)
        ∙ ap (place_of 0) (acts_join r (take gone whole) (take more (drop gone whole)))
        ∙ place_join 0 (acts r (take gone whole)) (acts r (take more (drop gone whole)))
        ∙ ap (λ k. place_of k (acts r (take more (drop gone whole)))) point_is
        ∙ ap (place_of (numbers_at s.guide.numbers r).point) came)
        (run_turns (net_for s.guide) (roles_in s) (is_proper kept) full.held run r (gone + more) e there_too)

  -- seeds are Sends: a Recv would have received something
  seeds_sent : (r n : ℕ) (e : Event) → slice_get (seeds_at s.guide r) n ≡ Some e → e.dir ≡ Sent
  seeds_sent r n e there = go e.dir refl
    where
      took : (b c : Bool) → b ≡ true → c ≡ true → (not false && (b && c)) ≡ true
      took true true t u = refl
      took true false t u = absurd (cc)
      took false c t u = absurd (cc)

      nowhere : (k : ℕ) (x : Message) → slice_get [] k ≡ Some x → ⊥
      nowhere k x f = absurd (cc)

      go : (d : Dir) → e.dir ≡ d → e.dir ≡ Sent
      go Sent is = is
      go Got is =
          let a = around (seeds_at s.guide r) n e there in
          let from = (net_for s.guide).sender e.point in
          let own = own_of r n e (get_taken (numbers_at s.guide.numbers r).seeds (log_at s.guide.logs r) n e there) in
          let takes = taken_by_some (net_for s.guide) from r e (ap (λ b. not b && ((e.role == r) && (from == from))) (ap is_sent is) ∙ took (e.role == r) (from == from) (eq-eqb e.role r own) (eq-eqb from from refl)) in
          let some = at_number (taken_by (net_for s.guide) from r) a.front a.back e (record { point = e.point; value = e.value; stamp = e.sent }) takes in
          absurd (nowhere (length (taken (net_for s.guide) from r a.front)) (record { point = e.point; value = e.value; stamp = e.sent })
          (ap (λ (l : List Message). slice_get l (length (taken (net_for s.guide) from r a.front))) (sym (kept.sound.seeds_are from r) ∙ ap (taken (net_for s.guide) from r) (sym a.whole)) ∙ some))

  channels_queued : (a b : ℕ) → IsPrefix (taken (net_for s.guide) a b (log_at s.guide.logs b)) (put (net_for s.guide) a b (log_at s.guide.logs a))
  channels_queued a b =
      let m = kept.holds.memory in
      subst (λ l. IsPrefix l (put (net_for s.guide) a b (log_at s.guide.logs a))) (memories.taken_held s.guide m kept.holds.is a b)
      (subst (IsPrefix (taken (net_for s.guide) a b m.held)) (memories.put_held s.guide m kept.holds.is a b)
      (queued_now (net_for s.guide) m.held kept.holds.is.queued a b))

pub told_sessions_are_restorable : ToldSessionsAreRestorable
told_sessions_are_restorable s table ledger history kept has session saves =
    let past = holds_after (terms_of s.guide) (known kept) history has.may in (
      record {
        logs = kept.logs;
        numbers = kept.numbers;
        incarnations = session.incarnations;
        steps = session.steps;
        told = saves.all ∙ session.steps;
        ascending = λ r lt. saves.ascending r;
        seeds = kept.sound.seeds;
        seeds_are = λ r n e lt there.
            let logged = get_taken (numbers_at s.guide.numbers r).seeds (log_at s.guide.logs r) n e there in
            let dir = seeds_sent s kept r n e there in
            record { role = own_of s kept r n e logged; dir = dir; sent = kept.stamped.sent r n e logged dir };
      },
      record {
        told = kept.told;
        least = session.room;
        most = kept.rooms.few;
        filled = let a = kept.rooms.logged in let b = kept.rooms.filled in omega (arith, a, b);
        incarnations = λ r lt. session.few r;
        sound = kept.sound;
        stamped = kept.stamped;
        few = kept.few;
        queued = channels_queued s kept;
        turns = λ r n e lt le there. turn s kept (told (terms_of s.guide) history) has.memory past.nothing past.run has.is has.shorter r n e lt le there;
        saved = session.saved;
      },
    )
