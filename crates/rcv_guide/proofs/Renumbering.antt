-- A guide with other numbers of one role.
use Rattle.std.proofs.Common.{◌≡◌, ℕ, ◌<◌, ◌≤◌, List, [], length, length-set, take, refl, sym, ◌∙◌, ap, subst, ⊎_elim, Some, arith}
use Rattle.std.specs.Prelude.{slice_get, slice_set}
use Rattle.std.proofs.lemmas.Bool.{cases_eq}
use Rattle.std.proofs.lemmas.List.{get_or-set_same, get_or-set_other}
use Rattle.rcv_tree.specs.declared.event.Event.{Event}
use Rattle.rcv_tree.specs.declared.numbers.Numbers as counts
use Rattle.rcv_model.specs.Next.{IsPlaceOf}
use Rattle.rcv_model.specs.Run.{taken}
use Rattle.rcv_model.specs.Journal.{numbers_at as counted_at}
use Rattle.rcv_model.proofs.Roles.{set_here as counted_here, set_else as counted_else}
use Rattle.rcv_theory.proofs.Besides.{set_other}
use Rattle.rcv_tables.specs.Rows.{TableView}
use Rattle.rcv_ledger.specs.Logs.{log_at}
use Rattle.rcv_ledger.specs.Ledger.{LedgerView}
use Rattle.rcv_told.specs.Told.{Remembered}
use Rattle.rcv_guide.specs.declared.numbers.Numbers.{Numbers}
use Rattle.rcv_guide.specs.declared.standing.Standing.{Standing}
use Rattle.rcv_guide.specs.Numbers.{at_start, numbers_at, AreNumbersOf, AreNumbers}
use Rattle.rcv_guide.specs.Guide.{GuideView, net_for, roles_of, AreFewOf, IsGuide}
use Rattle.rcv_guide.specs.Restoring.{MayStand, numbers_of, with_standing}
use Rattle.rcv_guide.proofs.Growing.{set_here}

module _ (numbers : List Numbers) (p : ℕ) (x : Numbers) (lt : p < length numbers) where
  pub now_own : numbers_at (slice_set numbers p x) p ≡ x
  now_own = get_or-set_same numbers p x at_start lt

  pub now_other : (r : ℕ) → (p ≡ r → ⊥) → numbers_at (slice_set numbers p x) r ≡ numbers_at numbers r
  now_other r other = get_or-set_other numbers p r x at_start (λ f. other (sym f))

  -- a number that is the same stays
  pub now_same : {A : Type 0} (f : Numbers → A) → f x ≡ f (numbers_at numbers p) → (r : ℕ) → f (numbers_at (slice_set numbers p x) r) ≡ f (numbers_at numbers r)
  now_same f same r = ⊎_elim
      (λ own. subst (λ q. f (numbers_at (slice_set numbers p x) q) ≡ f (numbers_at numbers q)) own (ap f now_own ∙ same))
      (λ other. ap f (now_other r other))
      (cases_eq p r)

-- these numbers, with the crashes of others
abbrev recounted : counts.Numbers → Numbers → counts.Numbers
recounted n x = record { raw = x.raw; crashes = n.crashes; crashed = x.down; attempt = x.attempt; clock = x.clock }

-- a memory with these numbers of a role, and these events
abbrev pub renumbered : List Event → Remembered → ℕ → Numbers → Remembered
renumbered held m p x =
    record {
      held = held;
      seeds = slice_set m.seeds p x.seeds;
      forgotten = slice_set m.forgotten p x.forgotten;
      points = slice_set m.points p x.point;
      roles = slice_set m.roles p (recounted (counted_at m.roles p) x);
    }

module _ (roles : ℕ) (held : List Event) (m : Remembered) (numbers : List Numbers) (are : AreNumbers roles m numbers) (p : ℕ) (x : Numbers) (lt : p < roles) where
  there : p < length numbers
  there = let a = are.all in omega (arith, lt, a)

  own_now : AreNumbersOf (renumbered held m p x) p x
  own_now =
      let have = are.have in
      let counted = counted_here m.roles p (recounted (counted_at m.roles p) x) (let a = have.numbers in omega (arith, lt, a)) in
      record {
        seeds = set_here m.seeds p x.seeds (let a = have.seeds in omega (arith, lt, a));
        forgotten = set_here m.forgotten p x.forgotten (let a = have.forgotten in omega (arith, lt, a));
        point = set_here m.points p x.point (let a = have.points in omega (arith, lt, a));
        raw = ap (λ (y : counts.Numbers). y.raw) counted;
        attempt = ap (λ (y : counts.Numbers). y.attempt) counted;
        clock = ap (λ (y : counts.Numbers). y.clock) counted;
        down = ap (λ (y : counts.Numbers). y.crashed) counted;
      }

  others_now : (r : ℕ) → r < roles → (p ≡ r → ⊥) → AreNumbersOf (renumbered held m p x) r (numbers_at numbers r)
  others_now r low other =
      let old = are.each r low in
      let counted = counted_else m.roles p r (recounted (counted_at m.roles p) x) other in
      record {
        seeds = set_other m.seeds p r x.seeds (λ f. other (sym f)) ∙ old.seeds;
        forgotten = set_other m.forgotten p r x.forgotten (λ f. other (sym f)) ∙ old.forgotten;
        point = set_other m.points p r x.point (λ f. other (sym f)) ∙ old.point;
        raw = ap (λ (y : counts.Numbers). y.raw) counted ∙ old.raw;
        attempt = ap (λ (y : counts.Numbers). y.attempt) counted ∙ old.attempt;
        clock = ap (λ (y : counts.Numbers). y.clock) counted ∙ old.clock;
        down = ap (λ (y : counts.Numbers). y.crashed) counted ∙ old.down;
      }

  pub renumbered_are : AreNumbers roles (renumbered held m p x) (slice_set numbers p x)
  renumbered_are = record {
    have = record {
      seeds = length-set m.seeds p _ ∙ are.have.seeds;
      forgotten = length-set m.forgotten p _ ∙ are.have.forgotten;
      points = length-set m.points p _ ∙ are.have.points;
      numbers = length-set m.roles p _ ∙ are.have.numbers;
    };
    all = length-set numbers p x ∙ are.all;
    each = λ r low. ⊎_elim
        (λ same. subst (λ q. AreNumbersOf (renumbered held m p x) q (numbers_at (slice_set numbers p x) q)) same
        (subst (λ (y : Numbers). AreNumbersOf (renumbered held m p x) p y) (sym (now_own numbers p x there)) own_now))
        (λ other. subst (λ (y : Numbers). AreNumbersOf (renumbered held m p x) r y) (sym (now_other numbers p x there r other)) (others_now r low other))
        (cases_eq p r);
  }

-- a role of which nothing is remembered stands elsewhere
module _ {g : GuideView} {table : TableView} {ledger : LedgerView} (kept : IsGuide g table ledger) (p : ℕ) (s : Standing) (may : MayStand g p s) where
  in_numbers : p < length g.numbers
  in_numbers = let a = kept.numbers in let b = may.declared in omega (arith, a, b)

  abbrev new : List Numbers
  new = slice_set g.numbers p (numbers_of s)

  none_own : length (log_at g.logs p) ≡ 0
  none_own = ap (λ (l : List Event). length l) may.nothing

  -- what holds of the role with its new numbers, and of the others, holds of each
  each_role : (P : ℕ → Numbers → Type 0) → P p (numbers_of s) → (r : ℕ) → P r (numbers_at g.numbers r) → P r (numbers_at new r)
  each_role P own r old = ⊎_elim
      (λ same. subst (λ q. P q (numbers_at new q)) same (subst (P p) (sym (now_own g.numbers p (numbers_of s) in_numbers)) own))
      (λ other. subst (P r) (sym (now_other g.numbers p (numbers_of s) in_numbers r other)) old)
      (cases_eq p r)

  few_own : AreFewOf g.told (log_at g.logs p) (numbers_of s)
  few_own = record {
    raw = may.raw;
    made = let a = may.forgotten in let b = none_own in omega (arith, a, b);
    attempts = may.attempt;
    clocks = may.clock;
  }

  nowhere : (i : ℕ) (d : Event) → slice_get (log_at g.logs p) i ≡ Some d → ⊥
  nowhere i d at = none i d (subst (λ l. slice_get l i ≡ Some d) may.nothing at)
    where
      none : (i : ℕ) (d : Event) → slice_get [] i ≡ Some d → ⊥
      none i d at = absurd (cc)

  pub guide_standing : IsGuide (with_standing g p s) table ledger
  guide_standing = record {
    protocol = kept.protocol;
    planned = kept.planned;
    table_is = kept.table_is;
    logs = kept.logs;
    numbers = length-set g.numbers p _ ∙ kept.numbers;
    holds = record {
      memory = renumbered kept.holds.memory.held kept.holds.memory p (numbers_of s);
      is = record {
        events = kept.holds.is.events;
        queued = kept.holds.is.queued;
        numbers_are = renumbered_are (roles_of g) kept.holds.memory.held kept.holds.memory g.numbers kept.holds.is.numbers_are p (numbers_of s) may.declared;
      };
      holds = kept.holds.holds;
    };
    sound = record {
      points = λ r lt. each_role (λ q x. IsPlaceOf (net_for g) q x.point) may.place r (kept.sound.points r lt);
      events = kept.sound.events;
      seeds = λ r lt. each_role (λ q x. x.seeds ≤ length (log_at g.logs q)) (omega arith) r (kept.sound.seeds r lt);
      seeds_are = λ a b. each_role (λ q x. taken (net_for g) a q (take x.seeds (log_at g.logs q)) ≡ []) refl b (kept.sound.seeds_are a b);
      ends = kept.sound.ends;
    };
    stamped = record {
      grow = kept.stamped.grow;
      within = λ r i d at. each_role (λ q x. slice_get (log_at g.logs q) i ≡ Some d → d.stamp ≤ x.clock) (λ here. absurd (nowhere i d here)) r (kept.stamped.within r i d) at;
      after = kept.stamped.after;
      sent = kept.stamped.sent;
    };
    told = kept.told;
    few = λ r lt. each_role (λ q x. AreFewOf g.told (log_at g.logs q) x) few_own r (kept.few r lt);
    rooms = record {
      few = kept.rooms.few;
      used = kept.rooms.used;
      filled = kept.rooms.filled;
      logged = kept.rooms.logged;
      most = kept.rooms.most;
      events = kept.rooms.events;
      states = kept.rooms.states;
    };
  }
