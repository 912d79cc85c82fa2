-- A role that is down: nothing else of the session is another.
use Rattle.std.proofs.Common.{◌≡◌, ℕ, ◌+◌, ◌<◌, ◌≤◌, Bool, true, false, cond, Some, List, length, refl, sym, ◌∙◌, ap, subst, ⊎_elim, length-set, arith}
use Rattle.std.proofs.lemmas.Bool.{cases_eq, cases_lt}
use Rattle.std.proofs.lemmas.List.{get_or-set_same, get_or-set_other, get_or_past}
use Rattle.rcv_guide.specs.declared.numbers.Numbers.{Numbers}
use Rattle.rcv_guide.specs.Numbers.{at_start, numbers_at, with_crash}
use Rattle.rcv_guide.specs.Guide.{stand, with_numbers, HaveSavedEnough}
use Rattle.rcv_guide.proofs.Memories.{down_here, down_there}
use Rattle.rcv_guided.specs.Session.{SessionView, forgotten_of}
use Rattle.rcv_guided.specs.Counts.{made_of}
use Rattle.rcv_guided.specs.Failures.{is_down_in, fallen}

marked_at : (xs : List Numbers) (p : ℕ) → p < length xs → numbers_at (with_crash xs p) p ≡ record (numbers_at xs p) { down = true }
marked_at xs p lt = get_or-set_same xs p (record (numbers_at xs p) { down = true }) at_start lt

-- All but the mark of a role's numbers stays.
crashed : {A : Type 0} (f : Numbers → A) → ((x : Numbers) → f (record x { down = true }) ≡ f x) → (xs : List Numbers) (p r : ℕ) → f (numbers_at (with_crash xs p) r) ≡ f (numbers_at xs r)
crashed f same xs p r = ⊎_elim
    (λ own. ⊎_elim
    (λ lt. subst (λ q. f (numbers_at (with_crash xs p) q) ≡ f (numbers_at xs q)) (sym own) (ap f (marked_at xs p lt) ∙ same (numbers_at xs p)))
    (λ le.
    let none : length xs ≤ r = omega (arith, le, own) in
    let size : length (with_crash xs p) ≡ length xs = length-set xs p (record (numbers_at xs p) { down = true }) in
    ap f (get_or_past (with_crash xs p) r at_start (omega (arith, none, size)) ∙ sym (get_or_past xs r at_start none)))
    (cases_lt p (length xs)))
    (λ other. ap f (get_or-set_other xs p r (record (numbers_at xs p) { down = true }) at_start other))
    (cases_eq r p)

-- The session behind a crash.
abbrev pub crash : SessionView → ℕ → SessionView
crash s p = record s { guide = with_numbers s.guide (with_crash s.guide.numbers p) }

-- What holds of a session and behind the crash holds where the role is down.
pub where_down : (P : SessionView → Type 0) (s : SessionView) (p : ℕ) → P s → P (crash s p) → P (fallen s p)
where_down P s p up down = go (is_down_in s.guide p)
  where
    go : (b : Bool) → P (cond b s (record s { guide = with_numbers s.guide (with_crash s.guide.numbers p) }))
    go true = up
    go false = down

pub when_down : (s : SessionView) (p : ℕ) → is_down_in s.guide p ≡ true → fallen s p ≡ s
when_down s p e = ap (λ b. cond b s (record s { guide = with_numbers s.guide (with_crash s.guide.numbers p) })) e

pub when_up : (s : SessionView) (p : ℕ) → is_down_in s.guide p ≡ false → fallen s p ≡ crash s p
when_up s p e = ap (λ b. cond b s (record s { guide = with_numbers s.guide (with_crash s.guide.numbers p) })) e

-- The same but for the numbers, of which what is forgotten and the seeds are the same, and for one thing more that is told.
pub record IsAlike (s t : SessionView) : Type 0 where
  pub protocol : t.guide.protocol ≡ s.guide.protocol
  pub plan : t.guide.plan ≡ s.guide.plan
  pub room : t.guide.room ≡ s.guide.room
  pub made : (r : ℕ) → made_of t r ≡ made_of s r
  pub forgotten : (r : ℕ) → forgotten_of t r ≡ forgotten_of s r
  pub saves : t.saves ≡ s.saves
  pub incarnations : t.incarnations ≡ s.incarnations
  pub most : t.guide.told ≤ s.guide.told + 1
  pub least : s.guide.told ≤ t.guide.told

pub fallen_alike : (s : SessionView) (p : ℕ) → IsAlike s (fallen s p)
fallen_alike s p = where_down (IsAlike s) s p
    (record { protocol = refl; plan = refl; room = refl; made = λ r. refl; forgotten = λ r. refl; saves = refl; incarnations = refl; most = omega arith; least = omega arith })
    (record {
      protocol = refl;
      plan = refl;
      room = refl;
      made = λ r.
          let a = crashed (λ x. x.forgotten) (λ x. refl) s.guide.numbers p r in
          let b = crashed (λ x. x.seeds) (λ x. refl) s.guide.numbers p r in
          omega (arith, a, b);
      forgotten = λ r. crashed (λ x. x.forgotten) (λ x. refl) s.guide.numbers p r;
      saves = refl;
      incarnations = refl;
      most = omega arith;
      least = omega arith;
    })

-- A role that was up is down then.
pub crash_down : (s : SessionView) (p : ℕ) (b : Bool) → (stand s.guide p).down ≡ Some b → (stand (crash s p).guide p).down ≡ Some true
crash_down s p b e =
    let lt = (down_there s.guide.numbers p b e).0 in
    down_here (with_crash s.guide.numbers p) p (omega (arith, lt, length-set s.guide.numbers p (record (numbers_at s.guide.numbers p) { down = true })))
    ∙ ap Some (ap (λ (x : Numbers). x.down) (marked_at s.guide.numbers p lt))

-- Whether it is down is known of a declared one.
pub known_down : (s : SessionView) (p : ℕ) (b : Bool) → (stand s.guide p).down ≡ Some b → is_down_in s.guide p ≡ b
known_down s p b e = (down_there s.guide.numbers p b e).1

-- What was enough is enough.
pub fallen_enough : (s : SessionView) (p : ℕ) (saved : List ℕ) → HaveSavedEnough s.guide p saved → HaveSavedEnough (fallen s p).guide p saved
fallen_enough s p saved enough = where_down (λ (t : SessionView). HaveSavedEnough t.guide p saved) s p enough
    (λ q low listed. let a = enough q low listed in let b = crashed (λ x. x.forgotten) (λ x. refl) s.guide.numbers p q in omega (arith, a, b))
