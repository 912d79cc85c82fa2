-- Forgetting moves no line.
use Rattle.std.proofs.Common.{◌≡◌, ℕ, zero, suc, ◌+◌, ◌-◌, ◌<◌, ◌≤◌, Bool, true, false, cond, List, [], ◌∷◌, length, take, refl, sym, ◌∙◌, ap, subst, inl, inr, ⊎_elim, arith}
use Rattle.std.specs.Prelude.{nat_lt, slice_index, slice_index_or}
use Rattle.std.specs.List.{Contains, filter}
use Rattle.std.proofs.lemmas.Bool.{cases_lt}
use Rattle.std.proofs.lemmas.Bool.Decides.{nat_tests}
use Rattle.rcv_model.specs.Net.{Net}
use Rattle.rcv_model.specs.Run.{put, taken}
use Rattle.rcv_ledger.specs.Logs.{log_at}
use Rattle.rcv_ledger.proofs.Lists.{none_there}
use Rattle.rcv_saves.specs.Counts.{IsStepped}
use Rattle.rcv_saves.specs.Saves.{SavesView, told_of, Saves}
use Rattle.rcv_told.specs.Told.{Remembered}
use Rattle.rcv_told.specs.Forgetting.{since, IsShorter}
use Rattle.rcv_told.proofs.Memories.{many_old, many_new}
use Rattle.rcv_guide.specs.declared.numbers.Numbers.{Numbers}
use Rattle.rcv_guide.specs.Numbers.{at_start, numbers_at}
use Rattle.rcv_guide.specs.Guide.{GuideView, net_for, roles_of, IsMemory, HasForgotten}
use Rattle.rcv_guide.specs.Line.{IsSavedBehind, AreStable, IsLine, HaveForgotten, ForgettingMovesNoLine}
use Rattle.rcv_guide.proofs.Memories.{seeds_at, forgotten_at, many_held}
use Rattle.rcv_guide.proofs.Moving.{within, put_moved, taken_moved}

-- numbers at the same place of two lists
abbrev paired : (ℕ → ℕ → ℕ) → List ℕ → List ℕ → List ℕ
paired f [] ys = []
paired f (x ∷ xs) [] = []
paired f (x ∷ xs) (y ∷ ys) = f x y ∷ paired f xs ys

many_paired : (f : ℕ → ℕ → ℕ) (xs ys : List ℕ) → length xs ≡ length ys → length (paired f xs ys) ≡ length xs
many_paired f [] ys e = refl
many_paired f (x ∷ xs) [] e = absurd (omega (arith, e))
many_paired f (x ∷ xs) (y ∷ ys) e = ap suc (many_paired f xs ys (omega (arith, e)))

paired_at : (f : ℕ → ℕ → ℕ) → f 0 0 ≡ 0 → (xs ys : List ℕ) → length xs ≡ length ys → (r : ℕ) → slice_index (paired f xs ys) r ≡ f (slice_index xs r) (slice_index ys r)
paired_at f none [] [] e r = sym none
paired_at f none [] (y ∷ ys) e r = absurd (omega (arith, e))
paired_at f none (x ∷ xs) [] e r = absurd (omega (arith, e))
paired_at f none (x ∷ xs) (y ∷ ys) e zero = refl
paired_at f none (x ∷ xs) (y ∷ ys) e (suc r) = paired_at f none xs ys (omega (arith, e)) r

-- what a part of a list contains
later : (y x : ℕ) (ys : List ℕ) → Contains ys x → Contains (y ∷ ys) x
later y x ys c = (suc c.0, (let lt = c.1 in omega (arith, lt)), c.2)

kept_is : (f : ℕ → Bool) (xs : List ℕ) (x k : ℕ) → k < length (filter f xs) → slice_index_or (filter f xs) k x ≡ x → Contains xs x
kept_is f [] x k lt e = absurd (omega (arith, lt))
kept_is f (y ∷ ys) x k lt e = go (f y) (λ j low at. kept_is f ys x j low at) k lt e
  where
    go : (b : Bool) → ((j : ℕ) → j < length (filter f ys) → slice_index_or (filter f ys) j x ≡ x → Contains ys x) → (k : ℕ) → k < length (cond b (y ∷ filter f ys) (filter f ys)) → slice_index_or (cond b (y ∷ filter f ys) (filter f ys)) k x ≡ x → Contains (y ∷ ys) x
    go true in_rest zero lt e = (0, omega arith, e)
    go true in_rest (suc k) lt e = later y x ys (in_rest k (omega (arith, lt)) e)
    go false in_rest k lt e = later y x ys (in_rest k lt e)

is_kept : (f : ℕ → Bool) (xs : List ℕ) (x k : ℕ) → f x ≡ true → k < length xs → slice_index_or xs k x ≡ x → Contains (filter f xs) x
is_kept f [] x k t lt e = absurd (omega (arith, lt))
is_kept f (y ∷ ys) x zero t lt e =
    subst (λ b. Contains (cond b (y ∷ filter f ys) (filter f ys)) x) (sym (ap f e ∙ t)) (0, omega arith, e)
is_kept f (y ∷ ys) x (suc k) t lt e = go (f y) (is_kept f ys x k t (omega (arith, lt)) e)
  where
    go : (b : Bool) → Contains (filter f ys) x → Contains (cond b (y ∷ filter f ys) (filter f ys)) x
    go true c = later y x (filter f ys) c
    go false c = c

-- a guide's logs are its memory's events
read_within : (g : GuideView) (m : Remembered) (is : IsMemory g m) (r k : ℕ) → r < roles_of g → take ((numbers_at g.numbers r).seeds + k) (log_at g.logs r) ≡ within m r k
read_within g m is r k lt =
    ap (λ n. take (n + k) (log_at g.logs r)) (sym (seeds_at g m is r lt))
    ∙ ap (take (slice_index m.seeds r + k)) (sym (is.events r))

-- a role that isn't declared has forgotten nothing
none_forgotten : (g : GuideView) (m : Remembered) → IsMemory g m → (r : ℕ) → roles_of g ≤ r → (numbers_at g.numbers r).forgotten ≡ 0
none_forgotten g m is r le = ap (λ (x : Numbers). x.forgotten) (none_there g.numbers r at_start (let a = is.numbers_are.all in omega (arith, a, le)))

module _ (old new : GuideView) (saves left : SavesView) (counts : List ℕ) (room : ℕ) (long short : Remembered) (is : IsMemory old long) (short_is : IsMemory new short) (shorter : IsShorter (net_for old) long short) (stable : AreStable old saves counts) (forgot : HasForgotten old new counts room) (gone : HaveForgotten new saves left) where
  net_is : net_for new ≡ net_for old
  net_is = ap (λ (g : GuideView). net_for g) forgot.rest

  roles_is : roles_of new ≡ roles_of old
  roles_is = ap (λ (g : GuideView). roles_of g) forgot.rest

  low : (r : ℕ) → r < roles_of old → r < roles_of new
  low r lt = subst (λ n. r < n) (sym roles_is) lt

  declared : (r : ℕ) → r < roles_of new → r < roles_of old
  declared r lt = subst (λ n. r < n) roles_is lt

  gone_is : (r : ℕ) → r < roles_of old → shorter.gone r ≡ slice_index counts r
  gone_is r lt =
      let a = (shorter.lacks r).forgotten in
      let b = forgotten_at old long is r lt in
      let c = forgotten_at new short short_is r (low r lt) in
      let d = forgot.gone r lt in
      omega (arith, a, b, c, d)

  -- what is within counts of the new logs, and within these and the forgotten ones of the old logs
  put_both : (a b k : ℕ) → a < roles_of old
      → length (put (net_for old) a b (take ((numbers_at old.numbers a).seeds + (slice_index counts a + k)) (log_at old.logs a)))
      ≡ length (shorter.messages a b).received + length (put (net_for new) a b (take ((numbers_at new.numbers a).seeds + k) (log_at new.logs a)))
  put_both a b k lt =
      ap (λ l. length (put (net_for old) a b l)) (read_within old long is a (slice_index counts a + k) lt)
      ∙ ap (λ n. length (put (net_for old) a b (within long a (n + k)))) (sym (gone_is a lt))
      ∙ put_moved (net_for old) long short shorter a b k
      ∙ ap (λ (net : Net). length (shorter.messages a b).received + length (put net a b (within short a k))) (sym net_is)
      ∙ ap (λ l. length (shorter.messages a b).received + length (put (net_for new) a b l)) (sym (read_within new short short_is a k (low a lt)))

  taken_both : (a b k : ℕ) → b < roles_of old
      → length (taken (net_for old) a b (take ((numbers_at old.numbers b).seeds + (slice_index counts b + k)) (log_at old.logs b)))
      ≡ length (shorter.messages a b).received + length (taken (net_for new) a b (take ((numbers_at new.numbers b).seeds + k) (log_at new.logs b)))
  taken_both a b k lt =
      ap (λ l. length (taken (net_for old) a b l)) (read_within old long is b (slice_index counts b + k) lt)
      ∙ ap (λ n. length (taken (net_for old) a b (within long b (n + k)))) (sym (gone_is b lt))
      ∙ taken_moved (net_for old) long short shorter a b k
      ∙ ap (λ (net : Net). length (shorter.messages a b).received + length (taken net a b (within short b k))) (sym net_is)
      ∙ ap (λ l. length (shorter.messages a b).received + length (taken (net_for new) a b l)) (sym (read_within new short short_is b k (low b lt)))

  many_before : (r : ℕ) → r < roles_of old → length (log_at old.logs r) ≡ (numbers_at old.numbers r).seeds + slice_index counts r + length (since short r)
  many_before r lt =
      let a = many_held old long is r in
      let b = many_old long short r (shorter.gone r) (shorter.lacks r) in
      let c = seeds_at old long is r lt in
      let d = gone_is r lt in
      omega (arith, a, b, c, d)

  many_after : (r : ℕ) → r < roles_of old → length (log_at new.logs r) ≡ (numbers_at new.numbers r).seeds + length (since short r)
  many_after r lt =
      let a = many_held new short short_is r in
      let b = many_new long short r (shorter.gone r) (shorter.lacks r) in
      let c = seeds_at new short short_is r (low r lt) in
      omega (arith, a, b, c)

  -- what a role has saved
  module _ (r : ℕ) (lt : r < roles_of old) where
    abbrev base : ℕ
    base = (numbers_at old.numbers r).forgotten

    abbrev later_base : ℕ
    later_base = (numbers_at new.numbers r).forgotten

    saves_before : (x : ℕ) → Saves left r x → Saves saves r x
    saves_before x s = ⊎_elim
        (λ told. let c = subst (λ l. Contains l x) (gone.told r (low r lt)) told in inl (kept_is (λ y. nat_lt later_base y) (told_of saves r) x c.0 c.1 c.2))
        (λ stepped. inr (subst (λ (l : List ℕ). IsStepped (slice_index l r) x) gone.steps stepped))
        s

    saves_after : (x : ℕ) → later_base < x → Saves saves r x → Saves left r x
    saves_after x high s = ⊎_elim
        (λ told. inl (subst (λ l. Contains l x) (sym (gone.told r (low r lt))) (is_kept (λ y. nat_lt later_base y) (told_of saves r) x told.0 (grind (arith, nat_tests)) told.1 told.2)))
        (λ stepped. inr (subst (λ (l : List ℕ). IsStepped (slice_index l r) x) (sym gone.steps) stepped))
        s

    saved_before : (k : ℕ) → IsSavedBehind new.numbers left r k → IsSavedBehind old.numbers saves r (slice_index counts r + k)
    saved_before k s = ⊎_elim
        (λ e. subst (IsSavedBehind old.numbers saves r) (omega (arith, e)) (stable.saved r lt))
        (λ p.
        let same : later_base + k ≡ base + (slice_index counts r + k) = (let f = forgot.gone r lt in omega (arith, f)) in
        inr (omega arith, subst (Saves saves r) same (saves_before (later_base + k) p.1)))
        s

    saved_after : (k : ℕ) → IsSavedBehind old.numbers saves r (slice_index counts r + k) → IsSavedBehind new.numbers left r k
    saved_after zero s = inl (omega arith)
    saved_after (suc k) s = ⊎_elim
        (λ e. absurd (omega (arith, e)))
        (λ p.
        let same : base + (slice_index counts r + suc k) ≡ later_base + suc k = (let f = forgot.gone r lt in omega (arith, f)) in
        inr (omega arith, saves_after (later_base + suc k) (omega arith) (subst (Saves saves r) same p.1)))
        s

  -- counts that are stable now were so with the forgotten ones
  stable_before : (now : List ℕ) → AreStable new left now → AreStable old saves (paired (λ x y. x + y) counts now)
  stable_before now s = record {
    forget = record {
      eight = many_paired (λ x y. x + y) counts now same ∙ stable.forget.eight;
      held = λ r lt.
          let a = sum r in
          let b = many_before r lt in
          let c = many_after r lt in
          let d = s.forget.held r (low r lt) in
          omega (arith, a, b, c, d);
      closed = λ a b la lb.
          let x = ap (λ n. length (taken (net_for old) a b (take ((numbers_at old.numbers b).seeds + n) (log_at old.logs b)))) (sum b) ∙ taken_both a b (slice_index now b) lb in
          let y = ap (λ n. length (put (net_for old) a b (take ((numbers_at old.numbers a).seeds + n) (log_at old.logs a)))) (sum a) ∙ put_both a b (slice_index now a) la in
          let z = s.forget.closed a b (low a la) (low b lb) in
          omega (arith, x, y, z);
    };
    saved = λ r lt. subst (IsSavedBehind old.numbers saves r) (sym (sum r)) (saved_before r lt (slice_index now r) (s.saved r (low r lt)));
  }
    where
      same : length counts ≡ length now
      same = stable.forget.eight ∙ sym s.forget.eight

      sum : (r : ℕ) → slice_index (paired (λ x y. x + y) counts now) r ≡ slice_index counts r + slice_index now r
      sum r = paired_at (λ x y. x + y) refl counts now same r

  -- counts that were stable, and above the forgotten ones, are so without these
  stable_after : (then : List ℕ) → AreStable old saves then → ((r : ℕ) → r < roles_of old → slice_index counts r ≤ slice_index then r) → AreStable new left (paired (λ x y. x - y) then counts)
  stable_after then s high = record {
    forget = record {
      eight = many_paired (λ x y. x - y) then counts same ∙ s.forget.eight;
      held = λ r lt.
          let o = declared r lt in
          let a = rest r o in
          let b = many_before r o in
          let c = many_after r o in
          let d = s.forget.held r o in
          omega (arith, a, b, c, d);
      closed = λ a b la lb.
          let oa = declared a la in
          let ob = declared b lb in
          let x = ap (λ n. length (taken (net_for old) a b (take ((numbers_at old.numbers b).seeds + n) (log_at old.logs b)))) (rest b ob) ∙ taken_both a b (slice_index (paired (λ x y. x - y) then counts) b) ob in
          let y = ap (λ n. length (put (net_for old) a b (take ((numbers_at old.numbers a).seeds + n) (log_at old.logs a)))) (rest a oa) ∙ put_both a b (slice_index (paired (λ x y. x - y) then counts) a) oa in
          let z = s.forget.closed a b oa ob in
          omega (arith, x, y, z);
    };
    saved = λ r lt. let o = declared r lt in saved_after r o (slice_index (paired (λ x y. x - y) then counts) r) (subst (IsSavedBehind old.numbers saves r) (rest r o) (s.saved r o));
  }
    where
      same : length then ≡ length counts
      same = s.forget.eight ∙ sym stable.forget.eight

      rest : (r : ℕ) → r < roles_of old → slice_index then r ≡ slice_index counts r + slice_index (paired (λ x y. x - y) then counts) r
      rest r lt = let a = paired_at (λ x y. x - y) refl then counts same r in let b = high r lt in omega (arith, a, b)

  unmoved : (line now : List ℕ) → IsLine old saves line → IsLine new left now → (r : ℕ) → r < roles_of old → slice_index line r ≡ slice_index counts r + slice_index now r
  unmoved line now was is_now r lt =
      let high = was.greatest counts stable in
      let up = was.greatest (paired (λ x y. x + y) counts now) (stable_before now is_now.stable) r lt in
      let down = is_now.greatest (paired (λ x y. x - y) line counts) (stable_after line was.stable high) r (low r lt) in
      let a = paired_at (λ x y. x + y) refl counts now (stable.forget.eight ∙ sym is_now.stable.forget.eight) r in
      let b = paired_at (λ x y. x - y) refl line counts (was.stable.forget.eight ∙ sym stable.forget.eight) r in
      let c = high r lt in
      omega (arith, up, down, a, b, c)

pub forgetting_moves_no_line : ForgettingMovesNoLine
forgetting_moves_no_line old new saves left counts line later room has stable forgot gone was now r =
    let short = forgot.shorter has.memory has.is in
    ⊎_elim
    (λ lt.
    let e = unmoved old new saves left counts room has.memory short.0 has.is short.1 short.2 stable forgot gone line later was now r lt in
    let f = forgot.gone r lt in
    omega (arith, e, f))
    (λ le.
    let same : roles_of new ≡ roles_of old = ap (λ (g : GuideView). roles_of g) forgot.rest in
    let high : roles_of new ≤ r = omega (arith, le, same) in
    let a = was.others r le in
    let b = now.others r high in
    let c = none_forgotten old has.memory has.is r le in
    let d = none_forgotten new short.0 short.1 r high in
    omega (arith, a, b, c, d))
    (cases_lt r (roles_of old))
