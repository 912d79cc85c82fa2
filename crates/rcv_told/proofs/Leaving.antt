-- What is kept of both memories where roles lose events behind what the shorter one lacks: of each role as much of what both have.
use Prim.Native.Nat.{zero}
use Rattle.std.proofs.Common.{◌≡◌, ℕ, ◌+◌, ◌-◌, ◌≤◌, List, ◌++◌, length, take, drop, refl, sym, ◌∙◌, ap, append_assoc, arith, length-append, length-take-le}
use Rattle.std.specs.Prelude.{slice_index}
use Rattle.std.proofs.Math.Seq.{take-append-add}
use Rattle.std.proofs.lemmas.List.{take_at, drop_at}
use Rattle.rcv_tree.specs.declared.event.Event.{Event}
use Rattle.rcv_model.specs.Net.{Net}
use Rattle.rcv_model.specs.Run.{put, taken, IsQueued}
use Rattle.rcv_model.specs.Undo.{keep_within}
use Rattle.rcv_model.specs.Journal.{events_of}
use Rattle.rcv_model.proofs.Keeping.{by_role, scan_of}
use Rattle.rcv_model.proofs.Bystanders.{as_many}
use Rattle.rcv_model.proofs.Lines.{first_of, Counts, closed_of_counts, counts_of_closed}
use Rattle.rcv_theory.specs.Counts.{IsGreatestClosed, kept_counts}
use Rattle.rcv_theory.proofs.Counting.{greatest_kept}
use Rattle.rcv_told.specs.Told.{Remembered}
use Rattle.rcv_told.specs.Forgetting.{since, seeds_of, lacked, IsShorter}
use Rattle.rcv_told.proofs.Memories.{put_join, taken_join, events_split, old_events, many_lacked, many_old, many_new}
use Rattle.rcv_told.proofs.Staying.{with_held, StillLacks, still_shorter}

-- Counts of remembered events, of the longer memory and of the shorter one, that reach so far beyond what the shorter lacks.
pub record ReachBeyond (old new : Remembered) (gone c d x : ℕ → ℕ) : Type 0 where
  pub longer : (r : ℕ) → c r ≡ slice_index old.seeds r + gone r + x r
  pub shorter : (r : ℕ) → d r ≡ slice_index new.seeds r + x r

-- What is kept of a role are its first events.
first_kept : (net : Net) (bound : ℕ → ℕ) (h : List Event) → IsQueued net h → (r : ℕ)
    → by_role r (keep_within net bound h) ≡ first_of (kept_counts net bound h r) r h
first_kept net bound h queued r =
    let p = (scan_of net bound h queued).front r in
    sym (ap (take (kept_counts net bound h r)) (sym p.1)
    ∙ take_at (by_role r (keep_within net bound h)) p.0 (kept_counts net bound h r) (sym (as_many r (keep_within net bound h))))

module _ (net : Net) (old new : Remembered) (s : IsShorter net old new) where
  -- How many remembered events each role has of those that the shorter memory lacks, in each of them.
  abbrev longer_floor : ℕ → ℕ
  longer_floor r = slice_index old.seeds r + s.gone r

  abbrev shorter_floor : ℕ → ℕ
  shorter_floor r = slice_index new.seeds r

  first_longer : (r n x : ℕ) → n ≡ slice_index old.seeds r + s.gone r + x → first_of n r old.held ≡ lacked old r (s.gone r) ++ take x (since new r)
  first_longer r n x e =
      let m = many_lacked old new r (s.gone r) (s.lacks r) in
      let k : n ≡ length (lacked old r (s.gone r)) + x = omega (arith, e, m) in
      ap (λ j. take j (by_role r old.held)) k
      ∙ ap (take (length (lacked old r (s.gone r)) + x)) (old_events old new r (s.gone r) (s.lacks r))
      ∙ take-append-add (lacked old r (s.gone r)) (since new r) x

  first_shorter : (r n x : ℕ) → n ≡ slice_index new.seeds r + x → first_of n r new.held ≡ seeds_of new r ++ take x (since new r)
  first_shorter r n x e =
      let m = length-take-le (slice_index new.seeds r) (events_of r new.held) (s.lacks r).new_seeds in
      let k : n ≡ length (seeds_of new r) + x = omega (arith, e, m) in
      ap (λ j. take j (by_role r new.held)) k
      ∙ ap (take (length (seeds_of new r) + x)) (events_split new r)
      ∙ take-append-add (seeds_of new r) (since new r) x

  -- What was put on a channel and taken from it within the counts.
  module _ (a b n x : ℕ) where
    taken_longer : n ≡ slice_index old.seeds b + s.gone b + x
        → taken net a b (first_of n b old.held) ≡ (s.messages a b).received ++ taken net a b (take x (since new b))
    taken_longer e =
        ap (taken net a b) (first_longer b n x e)
        ∙ taken_join net a b (lacked old b (s.gone b)) (take x (since new b))
        ∙ ap (λ l. l ++ taken net a b (take x (since new b))) (s.messages a b).received_is

    put_longer : n ≡ slice_index old.seeds a + s.gone a + x
        → put net a b (first_of n a old.held) ≡ (s.messages a b).received ++ (put net a b (seeds_of new a) ++ put net a b (take x (since new a)))
    put_longer e =
        ap (put net a b) (first_longer a n x e)
        ∙ put_join net a b (lacked old a (s.gone a)) (take x (since new a))
        ∙ ap (λ l. l ++ put net a b (take x (since new a))) (s.messages a b).sent_is
        ∙ append_assoc (s.messages a b).received (put net a b (seeds_of new a)) (put net a b (take x (since new a)))

    taken_shorter : n ≡ slice_index new.seeds b + x → taken net a b (first_of n b new.held) ≡ taken net a b (take x (since new b))
    taken_shorter e =
        ap (taken net a b) (first_shorter b n x e)
        ∙ taken_join net a b (seeds_of new b) (take x (since new b))
        ∙ ap (λ l. l ++ taken net a b (take x (since new b))) (s.messages a b).seeds_are

    put_shorter : n ≡ slice_index new.seeds a + x → put net a b (first_of n a new.held) ≡ put net a b (seeds_of new a) ++ put net a b (take x (since new a))
    put_shorter e = ap (put net a b) (first_shorter a n x e) ∙ put_join net a b (seeds_of new a) (take x (since new a))

  -- Such counts are closed in both or in none.
  module _ (c d x : ℕ → ℕ) (reach : ReachBeyond old new s.gone c d x) where
    gap_taken : (a b : ℕ)
        → length (taken net a b (first_of (c b) b old.held)) ≡ length (s.messages a b).received + length (taken net a b (first_of (d b) b new.held))
    gap_taken a b =
        let t = ap length (taken_longer a b (c b) (x b) (reach.longer b)) in
        let u = ap length (taken_shorter a b (d b) (x b) (reach.shorter b)) in
        let v = length-append (s.messages a b).received (taken net a b (take (x b) (since new b))) in
        omega (arith, t, u, v)

    gap_put : (a b : ℕ) → length (put net a b (first_of (c a) a old.held)) ≡ length (s.messages a b).received + length (put net a b (first_of (d a) a new.held))
    gap_put a b =
        let t = ap length (put_longer a b (c a) (x a) (reach.longer a)) in
        let u = ap length (put_shorter a b (d a) (x a) (reach.shorter a)) in
        let v = length-append (s.messages a b).received (put net a b (seeds_of new a) ++ put net a b (take (x a) (since new a))) in
        omega (arith, t, u, v)

    counts_shorter : Counts net old.held c → Counts net new.held d
    counts_shorter counts a b = let k = counts a b in let t = gap_taken a b in let p = gap_put a b in omega (arith, k, t, p)

    counts_longer : Counts net new.held d → Counts net old.held c
    counts_longer counts a b = let k = counts a b in let t = gap_taken a b in let p = gap_put a b in omega (arith, k, t, p)

  -- What the shorter memory lacks is closed, and so are the messages that are left of it.
  seeds_closed : Counts net new.held shorter_floor
  seeds_closed a b =
      let u : length (taken net a b (first_of (shorter_floor b) b new.held)) ≡ 0 =
      ap length (taken_shorter a b (shorter_floor b) zero (omega arith)) in
      omega (arith, u)

  lacked_closed : Counts net old.held longer_floor
  lacked_closed =
      counts_longer longer_floor shorter_floor (λ r. 0) (record { longer = λ r. omega arith; shorter = λ r. omega arith }) seeds_closed

  -- Roles may keep so many events, and at least what the shorter memory lacks.
  module _ (c d x : ℕ → ℕ) (reach : ReachBeyond old new s.gone c d x) where
    abbrev longer_left : List Event
    longer_left = keep_within net c old.held

    abbrev shorter_left : List Event
    shorter_left = keep_within net d new.held

    abbrev longer_kept : ℕ → ℕ
    longer_kept = kept_counts net c old.held

    abbrev shorter_kept : ℕ → ℕ
    shorter_kept = kept_counts net d new.held

    longer_most : IsGreatestClosed net old.held c longer_kept
    longer_most = greatest_kept net c old.held s.old_queued

    shorter_most : IsGreatestClosed net new.held d shorter_kept
    shorter_most = greatest_kept net d new.held s.new_queued

    longer_above : (r : ℕ) → longer_floor r ≤ longer_kept r
    longer_above r =
        longer_most.greatest
        longer_floor
        (record {
          made = λ q. let m = many_old old new q (s.gone q) (s.lacks q) in omega (arith, m);
          sends = closed_of_counts net old.held longer_floor lacked_closed;
        })
        (λ q. let e = reach.longer q in omega (arith, e))
        r

    shorter_above : (r : ℕ) → shorter_floor r ≤ shorter_kept r
    shorter_above r =
        shorter_most.greatest
        shorter_floor
        (record {
          made = λ q. let m = many_new old new q (s.gone q) (s.lacks q) in omega (arith, m);
          sends = closed_of_counts net new.held shorter_floor seeds_closed;
        })
        (λ q. let e = reach.shorter q in omega (arith, e))
        r

    -- How far what is kept reaches beyond, in each of them.
    abbrev longer_more : ℕ → ℕ
    longer_more r = longer_kept r - longer_floor r

    abbrev shorter_more : ℕ → ℕ
    shorter_more r = shorter_kept r - shorter_floor r

    as_longer : ReachBeyond old new s.gone longer_kept (λ r. shorter_floor r + longer_more r) longer_more
    as_longer = record { longer = λ r. let a = longer_above r in omega (arith, a); shorter = λ r. refl }

    as_shorter : ReachBeyond old new s.gone (λ r. longer_floor r + shorter_more r) shorter_kept shorter_more
    as_shorter = record { longer = λ r. refl; shorter = λ r. let a = shorter_above r in omega (arith, a) }

    no_fewer : (r : ℕ) → shorter_floor r + longer_more r ≤ shorter_kept r
    no_fewer r =
        shorter_most.greatest
        (λ q. shorter_floor q + longer_more q)
        (record {
          made = λ q.
              let a = longer_above q in
              let b = longer_most.closed.made q in
              let m = many_old old new q (s.gone q) (s.lacks q) in
              let n = many_new old new q (s.gone q) (s.lacks q) in
              omega (arith, a, b, m, n);
          sends =
              closed_of_counts net new.held (λ q. shorter_floor q + longer_more q)
              (counts_shorter longer_kept (λ q. shorter_floor q + longer_more q) longer_more as_longer
              (counts_of_closed net old.held longer_kept s.old_queued longer_most.closed.sends));
        })
        (λ q. let a = longer_above q in let b = longer_most.bounded q in let e = reach.longer q in let f = reach.shorter q in omega (arith, a, b, e, f))
        r

    no_more : (r : ℕ) → longer_floor r + shorter_more r ≤ longer_kept r
    no_more r =
        longer_most.greatest
        (λ q. longer_floor q + shorter_more q)
        (record {
          made = λ q.
              let a = shorter_above q in
              let b = shorter_most.closed.made q in
              let m = many_old old new q (s.gone q) (s.lacks q) in
              let n = many_new old new q (s.gone q) (s.lacks q) in
              omega (arith, a, b, m, n);
          sends =
              closed_of_counts net old.held (λ q. longer_floor q + shorter_more q)
              (counts_longer (λ q. longer_floor q + shorter_more q) shorter_kept shorter_more as_shorter
              (counts_of_closed net new.held shorter_kept s.new_queued shorter_most.closed.sends));
        })
        (λ q. let a = shorter_above q in let b = shorter_most.bounded q in let e = reach.longer q in let f = reach.shorter q in omega (arith, a, b, e, f))
        r

    pub kept_alike : ReachBeyond old new s.gone longer_kept shorter_kept shorter_more
    kept_alike = record {
      longer = λ r. let a = longer_above r in let b = shorter_above r in let m = no_fewer r in let n = no_more r in omega (arith, a, b, m, n);
      shorter = λ r. let b = shorter_above r in omega (arith, b);
    }

    -- So the shorter memory of what is left lacks what it lacked.
    module _ (r : ℕ) where
      abbrev rest : List Event
      rest = take (shorter_more r) (since new r)

      abbrev first : List Event
      first = take (s.gone r) (since old r)

      longer_events : events_of r longer_left ≡ seeds_of old r ++ (first ++ rest)
      longer_events =
          first_kept net c old.held s.old_queued r
          ∙ first_longer r (longer_kept r) (shorter_more r) (kept_alike.longer r)
          ∙ append_assoc (seeds_of old r) first rest

      shorter_events : events_of r shorter_left ≡ seeds_of new r ++ rest
      shorter_events = first_kept net d new.held s.new_queued r ∙ first_shorter r (shorter_kept r) (shorter_more r) (kept_alike.shorter r)

      old_size : length (seeds_of old r) ≡ slice_index old.seeds r
      old_size = length-take-le (slice_index old.seeds r) (events_of r old.held) (s.lacks r).old_seeds

      new_size : length (seeds_of new r) ≡ slice_index new.seeds r
      new_size = length-take-le (slice_index new.seeds r) (events_of r new.held) (s.lacks r).new_seeds

      first_size : length first ≡ s.gone r
      first_size = length-take-le (s.gone r) (since old r) (s.lacks r).enough

      old_since : since (with_held old longer_left) r ≡ first ++ rest
      old_since = ap (drop (slice_index old.seeds r)) longer_events ∙ drop_at (seeds_of old r) (first ++ rest) (slice_index old.seeds r) old_size

      new_since : since (with_held new shorter_left) r ≡ rest
      new_since = ap (drop (slice_index new.seeds r)) shorter_events ∙ drop_at (seeds_of new r) rest (slice_index new.seeds r) new_size

      left_lacks : StillLacks old new longer_left shorter_left r (s.gone r)
      left_lacks = record {
        enough = let a = ap length old_since in let b = length-append first rest in let f = first_size in omega (arith, a, b, f);
        gone_is = ap (take (s.gone r)) old_since ∙ take_at first rest (s.gone r) first_size;
        since_is = new_since ∙ sym (ap (drop (s.gone r)) old_since ∙ drop_at first rest (s.gone r) first_size);
        old_same = ap (take (slice_index old.seeds r)) longer_events ∙ take_at (seeds_of old r) (first ++ rest) (slice_index old.seeds r) old_size;
        new_same = ap (take (slice_index new.seeds r)) shorter_events ∙ take_at (seeds_of new r) rest (slice_index new.seeds r) new_size;
        old_seeds = let a = ap length longer_events in let b = length-append (seeds_of old r) (first ++ rest) in let f = old_size in omega (arith, a, b, f);
        new_seeds = let a = ap length shorter_events in let b = length-append (seeds_of new r) rest in let f = new_size in omega (arith, a, b, f);
      }

    pub left_shorter : IsShorter net (with_held old longer_left) (with_held new shorter_left)
    left_shorter =
        still_shorter net old new s longer_left shorter_left left_lacks
        (scan_of net c old.held s.old_queued).queued (scan_of net d new.held s.new_queued).queued
