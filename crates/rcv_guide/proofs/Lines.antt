-- Counts come down to the stable line, and no further.
use Prim.Native.Nat.{zero, suc}
use Rattle.std.proofs.Common.{◌≡◌, ℕ, ◌+◌, ◌-◌, ◌<◌, ◌≤◌, List, [], ◌∷◌, length, take, drop, replicate, refl, sym, ◌∙◌, ap, subst, inl, ⊎_elim, arith}
use Rattle.std.specs.Prelude.{min, slice_index}
use Rattle.std.specs.List.{sum}
use Rattle.std.proofs.lemmas.Bool.{cases_eq, cases_lt}
use Rattle.std.proofs.lemmas.List.{take-append-drop}
use Rattle.std.proofs.lemmas.List.Sums.{sum_by-cons}
use Rattle.rcv_tree.specs.declared.event.Event.{Event}
use Rattle.rcv_model.specs.Net.{Net}
use Rattle.rcv_model.specs.Run.{put, taken, taken_by}
use Rattle.rcv_model.proofs.Bystanders.{as_many}
use Rattle.rcv_model.proofs.Keeping.{put_through, taken_through, queued_now}
use Rattle.rcv_model.proofs.Lists.{prefix_map, prefix_length}
use Rattle.rcv_model.proofs.Lines.{Counts, closed_of_counts}
use Rattle.rcv_theory.specs.Counts.{IsClosed}
use Rattle.rcv_theory.proofs.Counting.{greatest_kept}
use Rattle.rcv_depend.specs.Logs.{AreLogsOf}
use Rattle.rcv_depend.specs.declared.cut.Counted.{Counted}
use Rattle.rcv_ledger.specs.Logs.{log_at}
use Rattle.rcv_depend.specs.Cuts.{IsCounted, AllEven, StaysAbove}
use Rattle.rcv_ledger.proofs.Lists.{none_there}
use Rattle.rcv_saves.specs.Saves.{SavesView, IsSaved, IsLastSaved}
use Rattle.rcv_tables.specs.Rows.{TableView}
use Rattle.rcv_ledger.specs.Ledger.{LedgerView}
use Rattle.rcv_guide.specs.declared.numbers.Numbers.{Numbers}
use Rattle.rcv_guide.specs.Numbers.{numbers_at}
use Rattle.rcv_guide.specs.Guide.{GuideView, net_for, roles_of, IsGuide}
use Rattle.rcv_guide.specs.Line.{IsLine, reach, AreStableIn, IsLineIn, AreNumbered, ReachSeeds, AreAboveLines, IsLastCount, AreSavedCounts, AreBehindSeeds}
use Rattle.rcv_guide.proofs.Guides.{few_log}

-- The last saved count of all events, as one of logged ones.
pub last_count : (x : Numbers) (saves : SavesView) (r count last : ℕ) → x.seeds ≤ count → IsLastSaved saves r x.forgotten (x.forgotten + (count - x.seeds)) last → IsLastCount x saves r count (x.seeds + (last - x.forgotten))
last_count x saves r count last le is = record {
  seeds = omega arith;
  within = let w = is.within in omega (arith, le, w);
  saved = subst (IsSaved saves r x.forgotten) (omega (arith, above)) is.is;
  greatest = λ more saved low. let g = is.greatest (x.forgotten + more) saved (omega (arith, le, low)) in omega (arith, g);
}
  where
    above : x.forgotten ≤ last
    above = ⊎_elim (λ e. omega (arith, e)) (λ p. p.0) is.is

nothing_at : (n r : ℕ) → slice_index (replicate n 0) r ≡ 0
nothing_at zero r = refl
nothing_at (suc n) zero = refl
nothing_at (suc n) (suc r) = nothing_at n r

first : (x : ℕ) (xs : List ℕ) → sum (x ∷ xs) ≡ x + sum xs
first x xs = sum_by-cons (λ n. n) x xs

-- Counts that are nowhere higher have no greater sum, and a less one where one of them is less.
sum_low : (xs ys : List ℕ) → length xs ≡ length ys → ((r : ℕ) → slice_index xs r ≤ slice_index ys r) → sum xs ≤ sum ys
sum_low [] ys e low = omega arith
sum_low (x ∷ xs) [] e low = absurd (omega (arith, e))
sum_low (x ∷ xs) (y ∷ ys) e low = let a : x ≤ y = low 0 in let b = sum_low xs ys (omega (arith, e)) (λ r. low (suc r)) in omega (arith, a, b, first x xs, first y ys)

pub sum_less : (xs ys : List ℕ) (r : ℕ) → length xs ≡ length ys → ((q : ℕ) → slice_index xs q ≤ slice_index ys q) → slice_index xs r < slice_index ys r → sum xs < sum ys
sum_less xs [] r e low lt = absurd (omega (arith, lt))
sum_less [] (y ∷ ys) r e low lt = absurd (omega (arith, e))
sum_less (x ∷ xs) (y ∷ ys) zero e low lt = let a : x < y = lt in let b = sum_low xs ys (omega (arith, e)) (λ q. low (suc q)) in omega (arith, a, b, first x xs, first y ys)
sum_less (x ∷ xs) (y ∷ ys) (suc r) e low lt = let a : x ≤ y = low 0 in let b = sum_less xs ys r (omega (arith, e)) (λ q. low (suc q)) lt in omega (arith, a, b, first x xs, first y ys)

-- No count of a role goes up where one role goes back.
pub one_less : (xs ys : List ℕ) (role count : ℕ) → count < slice_index xs role → slice_index ys role ≡ count → ((r : ℕ) → (r ≡ role → ⊥) → slice_index ys r ≡ slice_index xs r) → (r : ℕ) → slice_index ys r ≤ slice_index xs r
one_less xs ys role count less there others r = ⊎_elim
    (λ same. let a = ap (slice_index xs) same in let b = ap (slice_index ys) same in omega (arith, a, b, less, there))
    (λ apart. let o = others r apart in omega (arith, o))
    (cases_eq r role)

-- The first events of a list take no more off a channel than all of them.
all_taken : (net : Net) (a b n : ℕ) (l : List Event) → length (taken net a b (take n l)) ≤ length (taken net a b l)
all_taken net a b n l = prefix_length _ _ (prefix_map (taken_by net a b) (take n l) l (drop n l, take-append-drop n l))

module _ (net : Net) (logs : List (List Event)) (numbers : List Numbers) (saves : SavesView) where
  -- Nothing at all is stable; so the seeds are within each stable line.
  nothing : AreNumbered net logs numbers → AreStableIn net logs numbers saves (replicate 8 0)
  nothing are = record {
    eight = refl;
    held = λ r lt. let s = are.seeds r lt in let n = nothing_at 8 r in omega (arith, s, n);
    closed = λ a b la lb.
        let n = nothing_at 8 b in
        let same : reach numbers (replicate 8 0) b ≡ (numbers_at numbers b).seeds = omega (arith, n) in
        let t = ap (λ k. length (taken net a b (take k (log_at logs b)))) same in
        let z = ap length (are.none a b) in
        omega (arith, t, z);
    saved = λ r lt. inl (let n = nothing_at 8 r in omega (arith, n));
  }

  pub seeds_within : AreNumbered net logs numbers → (cut : Counted) → IsCounted net logs cut → AreAboveLines net logs numbers saves cut.counts → ReachSeeds numbers cut.counts
  seeds_within are cut counted above = record {
    seeds = λ r lt. let a = above (replicate 8 0) (nothing are) r (let n = are.all in omega (arith, n, lt)) in omega (arith, a);
    few = λ r lt. let m = counted.made r in let f = are.few r (let n = are.all in omega (arith, n, lt)) in omega (arith, m, f);
  }

  -- All events are at least each stable line.
  pub all_above : (cs : List ℕ) → ((r : ℕ) → slice_index cs r ≡ length (log_at logs r)) → AreAboveLines net logs numbers saves cs
  all_above cs all other stable r lt = let a = all r in let h = stable.held r lt in omega (arith, a, h)

  -- So are counts that a role comes down to where it has saved its last.
  pub above_lower : (cs ds : List ℕ) (role count : ℕ) → IsLastCount (numbers_at numbers role) saves role (slice_index cs role) count → slice_index ds role ≡ count → ((r : ℕ) → (r ≡ role → ⊥) → slice_index ds r ≡ slice_index cs r) → AreAboveLines net logs numbers saves cs → AreAboveLines net logs numbers saves ds
  above_lower cs ds role count last there others above other stable r lt = ⊎_elim
      (λ same. subst (λ q. reach numbers other q ≤ slice_index ds q) (sym same) (own (subst (λ q. q < length logs) same lt)))
      (λ apart. let o = others r apart in let a = above other stable r lt in omega (arith, o, a))
      (cases_eq r role)
    where
      own : role < length logs → reach numbers other role ≤ slice_index ds role
      own lt = let g = last.greatest (slice_index other role) (stable.saved role lt) (above other stable role lt) in omega (arith, g, there)

  -- A stable line, as what is kept where each role may keep as much.
  module _ (h : List Event) (are : AreLogsOf net h logs) (other : List ℕ) (stable : AreStableIn net logs numbers saves other) where
    line : ℕ → ℕ
    line r = min (reach numbers other r) (length (log_at logs r))

    value : (r : ℕ) → line r ≡ min (reach numbers other r) (length (log_at logs r))
    unfolding line
    value r = refl

    line_is : (r : ℕ) → r < length logs → line r ≡ reach numbers other r
    line_is r lt = let a = stable.held r lt in let v = value r in omega (arith, a, v)

    line_none : (r : ℕ) → length logs ≤ r → line r ≡ 0
    line_none r le = let z = ap length (none_there logs r [] le) in let v = value r in omega (arith, z, v)

    even : (a b : ℕ) → length (taken net a b (take (line b) (log_at logs b))) ≤ length (put net a b (take (line a) (log_at logs a)))
    even a b = ⊎_elim
        (λ lb. ⊎_elim
        (λ la.
        let c = stable.closed a b la lb in
        let t = ap (λ k. length (taken net a b (take k (log_at logs b)))) (line_is b lb) in
        let p = ap (λ k. length (put net a b (take k (log_at logs a)))) (line_is a la) in
        omega (arith, c, t, p))
        (λ ha.
        let all = all_taken net a b (line b) (log_at logs b) in
        let t = ap length (taken_through net a b h) ∙ ap (λ l. length (taken net a b l)) (sym (are.lists b)) in
        let p : length (put net a b h) ≡ 0 = ap length (put_through net a b h) ∙ ap (λ l. length (put net a b l)) (sym (are.lists a) ∙ none_there logs a [] ha) in
        let q = prefix_length _ _ (queued_now net h are.queued a b) in
        omega (arith, all, t, p, q))
        (cases_lt a (length logs)))
        (λ hb.
        let t : length (taken net a b (take (line b) (log_at logs b))) ≡ 0 = ap (λ k. length (taken net a b (take k (log_at logs b)))) (line_none b hb) in
        omega (arith, t))
        (cases_lt b (length logs))

    counts : Counts net h line
    counts a b =
        let e = even a b in
        let t = ap (λ l. length (taken net a b (take (line b) l))) (are.lists b) in
        let p = ap (λ l. length (put net a b (take (line a) l))) (are.lists a) in
        omega (arith, e, t, p)

    closed : IsClosed net h line
    closed = record {
      made = λ r. let b = ap length (are.lists r) in let n = as_many r h in let v = value r in omega (arith, b, n, v);
      sends = closed_of_counts net h line counts;
    }

    -- What leaves the counts above what is kept leaves them above it.
    pub stays_above : (cs ds : List ℕ) → StaysAbove net logs cs ds → ((r : ℕ) → r < length logs → reach numbers other r ≤ slice_index cs r) → (r : ℕ) → r < length logs → reach numbers other r ≤ slice_index ds r
    stays_above cs ds stays above r lt =
        let kept = (greatest_kept net line h are.queued).greatest line closed (λ q. omega arith) r in
        let low = stays (λ g. line) (λ g areg q. let b = (greatest_kept net line g areg.queued).bounded q in let l = below q in omega (arith, b, l)) h are r in
        let same = line_is r lt in
        omega (arith, kept, low, same)
      where
        below : (q : ℕ) → line q ≤ slice_index cs q
        below q = ⊎_elim
            (λ lt. let a = above q lt in let v = value q in omega (arith, a, v))
            (λ le. let z = line_none q le in omega (arith, z))
            (cases_lt q (length logs))

  pub lines_stay : (h : List Event) → AreLogsOf net h logs → (cs ds : List ℕ) → StaysAbove net logs cs ds → AreAboveLines net logs numbers saves cs → AreAboveLines net logs numbers saves ds
  lines_stay h are cs ds stays above other stable r lt = stays_above h are other stable cs ds stays (above other stable) r lt

  -- Where each role has saved its state at its count, and no channel owes, the counts are the stable line.
  pub line_found : (cut : Counted) (behind : List ℕ) → AreNumbered net logs numbers → IsCounted net logs cut → AllEven (length logs) cut → AreAboveLines net logs numbers saves cut.counts → AreSavedCounts numbers saves cut.counts → AreBehindSeeds numbers cut.counts behind → IsLineIn net logs numbers saves behind
  line_found cut behind are counted even above saved is = record {
    stable = record {
      eight = is.eight;
      held = λ r lt. let e = reached r lt in let m = counted.made r in omega (arith, e, m);
      closed = λ a b la lb.
          let e = even a b la lb in
          let t = counted.taken_is a b la lb in
          let p = counted.put_is a b la lb in
          let u = ap (λ k. length (taken net a b (take k (log_at logs b)))) (reached b lb) in
          let v = ap (λ k. length (put net a b (take k (log_at logs a)))) (reached a la) in
          omega (arith, e, t, p, u, v);
      saved = λ r lt. subst (λ k. IsSaved saves r (numbers_at numbers r).forgotten ((numbers_at numbers r).forgotten + k)) (sym (is.each r (low r lt))) (saved r (low r lt));
    };
    greatest = λ other stable r lt. let a = above other stable r lt in let e = is.each r (low r lt) in omega (arith, a, e);
    others = λ r le. is.others r (let n = are.all in omega (arith, n, le));
  }
    where
      low : (r : ℕ) → r < length logs → r < length numbers
      low r lt = let n = are.all in omega (arith, n, lt)

      reached : (r : ℕ) → r < length logs → reach numbers behind r ≡ slice_index cut.counts r
      reached r lt = let e = is.each r (low r lt) in let s = (seeds_within are cut counted above).seeds r (low r lt) in omega (arith, e, s)

-- It is that of the guide that holds them.
pub line_is_its : {g : GuideView} {table : TableView} {ledger : LedgerView} (kept : IsGuide g table ledger) (saves : SavesView) (counts : List ℕ) → IsLineIn (net_for g) g.logs g.numbers saves counts → IsLine g saves counts
line_is_its {g} kept saves counts is = record {
  stable = record {
    forget = record {
      eight = is.stable.eight;
      held = λ r lt. is.stable.held r (low r lt);
      closed = λ a b la lb. is.stable.closed a b (low a la) (low b lb);
    };
    saved = λ r lt. is.stable.saved r (low r lt);
  };
  greatest = λ other stable r lt. is.greatest other (record {
    eight = stable.forget.eight;
    held = λ q in_. stable.forget.held q (declared q in_);
    closed = λ a b la lb. stable.forget.closed a b (declared a la) (declared b lb);
    saved = λ q in_. stable.saved q (declared q in_);
  }) r (low r lt);
  others = λ r le. is.others r (let n = kept.logs in omega (arith, n, le));
}
  where
    low : (r : ℕ) → r < roles_of g → r < length g.logs
    low r lt = let n = kept.logs in omega (arith, n, lt)

    declared : (r : ℕ) → r < length g.logs → r < roles_of g
    declared r lt = let n = kept.logs in omega (arith, n, lt)

-- What a guide holds is numbered.
pub numbered : {g : GuideView} {table : TableView} {ledger : LedgerView} → IsGuide g table ledger → AreNumbered (net_for g) g.logs g.numbers
numbered {g} kept = record {
  all = let a = kept.numbers in let b = kept.logs in omega (arith, a, b);
  seeds = λ r lt. kept.sound.seeds r (let a = kept.logs in omega (arith, a, lt));
  none = kept.sound.seeds_are;
  few = λ r lt.
      let few = kept.few r (let a = kept.logs in omega (arith, a, lt)) in
      let a = few.raw in
      let b = few.made in
      let c = kept.told in
      let d = few_log kept r in
      omega (arith, a, b, c, d);
}
