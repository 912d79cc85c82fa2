-- A guide with one role more that is down.
use Rattle.std.proofs.Common.{◌≡◌, ℕ, ◌+◌, ◌<◌, true, false, Some, List, length, length-set, take, refl, sym, ◌∙◌, ap, subst, ⊎_elim, arith}
use Rattle.std.proofs.lemmas.Bool.{cases_eq}
use Rattle.std.proofs.lemmas.List.{get_or-set_same, get_or-set_other}
use Rattle.rcv_tree.specs.declared.entry.Entry.TheVariants.{Crash}
use Rattle.rcv_tree.specs.declared.numbers.Numbers as counts
use Rattle.rcv_model.specs.Next.{IsPlaceOf}
use Rattle.rcv_model.specs.Run.{taken}
use Rattle.rcv_model.specs.Journal.{numbers_at as counted_at, failed as counted_down}
use Rattle.rcv_model.proofs.Roles.{set_here as counted_here, set_else as counted_else}
use Rattle.rcv_tables.specs.Rows.{TableView}
use Rattle.rcv_ledger.specs.Logs.{log_at}
use Rattle.rcv_ledger.specs.Ledger.{LedgerView}
use Rattle.rcv_told.specs.Told.{Remembered, after_crash}
use Rattle.rcv_guide.specs.declared.numbers.Numbers.{Numbers}
use Rattle.rcv_guide.specs.Numbers.{at_start, numbers_at, with_crash, AreNumbersOf}
use Rattle.rcv_guide.specs.Guide.{GuideView, net_for, roles_of, stand, most_told, with_numbers, IsMemory, IsAfter, AreFewOf, IsGuide}
use Rattle.rcv_guide.proofs.Memories.{declared_by, down_held}

abbrev fallen : Numbers → Numbers
fallen x = record x { down = true }

module _ (numbers : List Numbers) (p : ℕ) (lt : p < length numbers) where
  fallen_own : numbers_at (with_crash numbers p) p ≡ fallen (numbers_at numbers p)
  fallen_own = get_or-set_same numbers p (fallen (numbers_at numbers p)) at_start lt

  fallen_other : (r : ℕ) → (p ≡ r → ⊥) → numbers_at (with_crash numbers p) r ≡ numbers_at numbers r
  fallen_other r other = get_or-set_other numbers p r (fallen (numbers_at numbers p)) at_start (λ f. other (sym f))

  -- all but the mark stays
  fallen_same : {A : Type 0} (f : Numbers → A) → f (fallen (numbers_at numbers p)) ≡ f (numbers_at numbers p) → (r : ℕ) → f (numbers_at (with_crash numbers p) r) ≡ f (numbers_at numbers r)
  fallen_same f same r = ⊎_elim
      (λ own. subst (λ q. f (numbers_at (with_crash numbers p) q) ≡ f (numbers_at numbers q)) own (ap f fallen_own ∙ same))
      (λ other. ap f (fallen_other r other))
      (cases_eq p r)

module _ {g : GuideView} {table : TableView} {ledger : LedgerView} (kept : IsGuide g table ledger) (p : ℕ) (up : (stand g p).down ≡ Some false) (few : g.told < most_told) where
  declared : p < roles_of g
  declared = declared_by g kept.holds.memory kept.holds.is p false up

  pub there : p < length g.numbers
  there = let a = kept.numbers in let b = declared in omega (arith, a, b)

  memory_crash : (m : Remembered) → IsMemory g m → IsMemory (with_numbers g (with_crash g.numbers p)) (after_crash m p)
  memory_crash m is = record {
    events = is.events;
    queued = is.queued;
    numbers_are = record {
      have = record {
        seeds = is.numbers_are.have.seeds;
        forgotten = is.numbers_are.have.forgotten;
        points = is.numbers_are.have.points;
        numbers = length-set m.roles p _ ∙ is.numbers_are.have.numbers;
      };
      all = length-set g.numbers p _ ∙ is.numbers_are.all;
      each = λ r low. ⊎_elim
          (λ same. subst (λ q. AreNumbersOf (after_crash m p) q (numbers_at (with_crash g.numbers p) q)) same own)
          (λ other. others r low other)
          (cases_eq p r);
    };
  }
    where
      own : AreNumbersOf (after_crash m p) p (numbers_at (with_crash g.numbers p) p)
      own =
          let old = is.numbers_are.each p declared in
          let counted = counted_here m.roles p (counted_down (counted_at m.roles p)) (let a = is.numbers_are.have.numbers in let b = declared in omega (arith, a, b)) in
          subst (λ (x : Numbers). AreNumbersOf (after_crash m p) p x) (sym (fallen_own g.numbers p there))
          (record {
            seeds = old.seeds;
            forgotten = old.forgotten;
            point = old.point;
            raw = ap (λ (x : counts.Numbers). x.raw) counted ∙ old.raw;
            attempt = ap (λ (x : counts.Numbers). x.attempt) counted ∙ old.attempt;
            clock = ap (λ (x : counts.Numbers). x.clock) counted ∙ old.clock;
            down = ap (λ (x : counts.Numbers). x.crashed) counted;
          })

      others : (r : ℕ) → r < roles_of g → (p ≡ r → ⊥) → AreNumbersOf (after_crash m p) r (numbers_at (with_crash g.numbers p) r)
      others r low other =
          let old = is.numbers_are.each r low in
          let counted = counted_else m.roles p r (counted_down (counted_at m.roles p)) other in
          subst (λ (x : Numbers). AreNumbersOf (after_crash m p) r x) (sym (fallen_other g.numbers p there r other))
          (record {
            seeds = old.seeds;
            forgotten = old.forgotten;
            point = old.point;
            raw = ap (λ (x : counts.Numbers). x.raw) counted ∙ old.raw;
            attempt = ap (λ (x : counts.Numbers). x.attempt) counted ∙ old.attempt;
            clock = ap (λ (x : counts.Numbers). x.clock) counted ∙ old.clock;
            down = ap (λ (x : counts.Numbers). x.crashed) counted ∙ old.down;
          })

  pub crash_after : IsAfter g (with_numbers g (with_crash g.numbers p)) (Crash p)
  crash_after = record {
    may = λ m is. down_held g m is p false up;
    memory = memory_crash;
  }

  few_now : (r : ℕ) → r < roles_of g → AreFewOf (g.told + 1) (log_at g.logs r) (numbers_at (with_crash g.numbers p) r)
  few_now r lt =
      let old = kept.few r lt in
      let seeds = fallen_same g.numbers p there (λ (x : Numbers). x.seeds) refl r in
      let forgotten = fallen_same g.numbers p there (λ (x : Numbers). x.forgotten) refl r in
      let raw = fallen_same g.numbers p there (λ (x : Numbers). x.raw) refl r in
      let attempt = fallen_same g.numbers p there (λ (x : Numbers). x.attempt) refl r in
      let clock = fallen_same g.numbers p there (λ (x : Numbers). x.clock) refl r in
      record {
        raw = let a = old.raw in omega (arith, a, raw);
        made = let a = old.made in omega (arith, a, seeds, forgotten, raw);
        attempts = let a = old.attempts in omega (arith, a, attempt);
        clocks = let a = old.clocks in omega (arith, a, clock);
      }

  pub guide_crash : IsGuide (with_numbers g (with_crash g.numbers p)) table ledger
  guide_crash = record {
    protocol = kept.protocol;
    planned = kept.planned;
    table_is = kept.table_is;
    logs = kept.logs;
    numbers = length-set g.numbers p _ ∙ kept.numbers;
    holds = record {
      memory = after_crash kept.holds.memory p;
      is = memory_crash kept.holds.memory kept.holds.is;
      holds = kept.holds.holds;
    };
    sound = record {
      points = λ r lt. subst (IsPlaceOf (net_for g) r) (sym (fallen_same g.numbers p there (λ (x : Numbers). x.point) refl r)) (kept.sound.points r lt);
      events = kept.sound.events;
      seeds = λ r lt. let a = fallen_same g.numbers p there (λ (x : Numbers). x.seeds) refl r in let b = kept.sound.seeds r lt in omega (arith, a, b);
      seeds_are = λ a b. ap (λ n. taken (net_for g) a b (take n (log_at g.logs b))) (fallen_same g.numbers p there (λ (x : Numbers). x.seeds) refl b) ∙ kept.sound.seeds_are a b;
      ends = kept.sound.ends;
    };
    stamped = record {
      grow = kept.stamped.grow;
      within = λ r i d at. let a = kept.stamped.within r i d at in let b = fallen_same g.numbers p there (λ (x : Numbers). x.clock) refl r in omega (arith, a, b);
      after = kept.stamped.after;
      sent = kept.stamped.sent;
    };
    told = omega (arith, few);
    few = few_now;
    rooms = record {
      few = kept.rooms.few;
      used = kept.rooms.used;
      filled = kept.rooms.filled;
      logged = kept.rooms.logged;
      most = kept.rooms.most;
      events = kept.rooms.events;
      states = kept.rooms.states;
    };
  }
