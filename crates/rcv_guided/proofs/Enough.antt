-- Saved counts that reach what is forgotten; and why no cause is left then.
use Rattle.std.proofs.Common.{◌≡◌, ℕ, ◌<◌, ◌≤◌, Bool, true, false, cond, Option, Some, None, List, [], ◌∷◌, refl, ap, subst, ⊎_elim, arith}
use Rattle.std.specs.Prelude.{◌==◌, IfSome, slice_index}
use Rattle.std.proofs.lemmas.Bool.{cases_lt}
use Rattle.std.proofs.lemmas.Bool.Decides.{nat_tests}
use Rattle.std.proofs.lemmas.List.{get_or_past}
use Rattle.rcv_told.specs.Told.{Remembered}
use Rattle.rcv_guide.specs.declared.cause.Cause.{Cause}
use Rattle.rcv_guide.specs.declared.cause.Cause.TheVariants.{Undeclared, Down, Up, Stale, Full, NotNext, Empty, NotFront, Forgotten}
use Rattle.rcv_guide.specs.declared.numbers.Numbers.{Numbers}
use Rattle.rcv_guide.specs.Numbers.{at_start}
use Rattle.rcv_guide.specs.Guide.{GuideView, roles_of, stand, most_told, IsMemory, HaveSavedEnough, MayRecover}
use Rattle.rcv_guide.specs.Causes.{IsCauseNotToCrash, IsCauseNotToRecover}
use Rattle.rcv_dialogue.specs.declared.few.Failed.{Failed}
use Rattle.rcv_dialogue.specs.declared.few.Kept.{Kept}
use Rattle.rcv_guided.specs.Session.{SessionView, roles_in, forgotten_of}
use Rattle.rcv_guided.specs.Failures.{told_count, IsSavedCount, HaveSaved, is_told_below, first_below, IsFirstBelow}
use Rattle.rcv_guided.specs.Taking.{AreEnough}

-- Why a role doesn't crash, and doesn't recover: no cause is left.
pub may_crash : (g : GuideView) (p : ℕ) (why : Cause) → p < roles_of g → (stand g p).down ≡ Some false → g.told < most_told → IsCauseNotToCrash g p why → ⊥
may_crash g p Undeclared lt up few is = absurd (omega (arith, lt, is))
may_crash g p Down lt up few is = absurd (cc)
may_crash g p Full lt up few is = let f = is.1 in absurd (omega (arith, few, f))
may_crash g p Up lt up few is = is
may_crash g p Stale lt up few is = is
may_crash g p NotNext lt up few is = is
may_crash g p Empty lt up few is = is
may_crash g p NotFront lt up few is = is
may_crash g p Forgotten lt up few is = is

pub may_recover : (g : GuideView) (p : ℕ) (saved : List ℕ) (why : Cause) → p < roles_of g → MayRecover g p saved → IsCauseNotToRecover g p saved why → ⊥
may_recover g p saved Undeclared lt may is = absurd (omega (arith, lt, is))
may_recover g p saved Up lt may is = let d = may.down in absurd (cc)
may_recover g p saved Full lt may is = let f = is.1 in let t = may.told in absurd (omega (arith, t, f))
may_recover g p saved Forgotten lt may is = is.2 may.enough
may_recover g p saved Down lt may is = is
may_recover g p saved Stale lt may is = is
may_recover g p saved NotNext lt may is = is
may_recover g p saved Empty lt may is = is
may_recover g p saved NotFront lt may is = is

-- Where none of these is below its line, each told count reaches the line.
none_some : (b : Bool) (k : Kept) (o : Option Kept) → cond b (Some k) o ≡ None → (b ≡ false) × (o ≡ None)
none_some true k o e = absurd (cc)
none_some false k o e = (refl, e)

reaches : (line : ℕ) (o : Option ℕ) → is_told_below line o ≡ false → IfSome o (λ count. line ≤ count)
reaches line None e = tt
reaches line (Some count) e = grind (arith, nat_tests)

pub all_reach : (line : ℕ → ℕ) (failed : List Failed) (r : ℕ) → first_below line failed ≡ None → IfSome (told_count failed r) (λ count. line r ≤ count)
all_reach line [] r e = tt
all_reach line (f ∷ failed) r e =
    let n = none_some (is_told_below (line f.role) f.count) (record { role = f.role; count = line f.role }) (first_below line failed) e in
    go (f.role == r) refl n.0 (all_reach line failed r n.1)
  where
    go : (b : Bool) → (f.role == r) ≡ b → is_told_below (line f.role) f.count ≡ false → IfSome (told_count failed r) (λ count. line r ≤ count)
        → IfSome (cond b f.count (told_count failed r)) (λ count. line r ≤ count)
    go true e none rest =
        let same : f.role ≡ r = grind (arith, nat_tests) in
        subst (λ q. IfSome f.count (λ count. line q ≤ count)) same (reaches (line f.role) f.count none)
    go false e none rest = rest

weaker : (o : Option ℕ) (n k : ℕ) → k ≤ n → IfSome o (λ count. n ≤ count) → IfSome o (λ count. k ≤ count)
weaker None n k le is = tt
weaker (Some count) n k le is = omega (arith, le, is)

pub are_enough : (s : SessionView) (failed : List Failed) → IsFirstBelow s failed None → AreEnough s failed
are_enough s failed above r lt =
    weaker (told_count failed r) (slice_index above.stable r) (forgotten_of s r) (let e = above.are.each r lt in omega (arith, e)) (all_reach (slice_index above.stable) failed r above.is)

-- So what each has saved reaches what is forgotten of it.
saved_reach : (s : SessionView) (r count : ℕ) (o : Option ℕ) → IfSome o (λ n. forgotten_of s r ≤ n) → IsSavedCount s r o count → forgotten_of s r ≤ count
saved_reach s r count None enough is = ⊎_elim (λ e. omega (arith, e)) (λ more. more.0) is.is
saved_reach s r count (Some n) enough is = omega (arith, enough, is)

pub have_enough : (s : SessionView) (m : Remembered) → IsMemory s.guide m → (failed : List Failed) → AreEnough s failed → (saved : List ℕ) → HaveSaved s failed saved → (p : ℕ) → HaveSavedEnough s.guide p saved
have_enough s m is failed enough saved are p q low listed = ⊎_elim
    (λ lt. saved_reach s q (slice_index saved q) (told_count failed q) (enough q lt) (are q lt))
    (λ le.
    let none = ap (λ (x : Numbers). x.forgotten) (get_or_past s.guide.numbers q at_start (let a = is.numbers_are.all in omega (arith, a, le))) in
    omega (arith, none))
    (cases_lt q (roles_in s))
