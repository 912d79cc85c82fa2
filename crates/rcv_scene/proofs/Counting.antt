-- Counting along places, and what is drawn of each role in turn.
use Rattle.std.proofs.Common.{◌≡◌, ℕ, zero, suc, ◌+◌, ◌-◌, ◌≤◌, Bool, true, false, cond, lit≤, List, [], ◌∷◌, ◌++◌, refl, sym, ◌∙◌, ap, subst, arith, append_assoc, append-nil}
use Rattle.std.specs.List.{count_by, sum_by, range_with_len}
use Rattle.std.proofs.lemmas.List.Sums.{sum_by-cons, count_by-le-length}
use Rattle.std.proofs.lemmas.List.FromFn.{length-range_with_len}
use Rattle.rcv_picture.specs.declared.pixels.Pixels.{Pixels}
use Rattle.rcv_scene.specs.Seen.{Seen}
use Rattle.rcv_scene.specs.Grid.{Scene, column}
use Rattle.rcv_scene.specs.declared.counts.Act.TheVariants.{Sends, Takes, Loses}
use Rattle.rcv_scene.specs.Folds.{times, IsFoldPart, AreFoldParts, NoRole, NextRole, AddsDone, AddsFoldParts}

sum_last : (f : ℕ → ℕ) (a n : ℕ) → sum_by f (range_with_len a (suc n)) ≡ sum_by f (range_with_len a n) + f (a + n)
sum_last f a zero = let e : f (a + 0) ≡ f a = ap f (omega arith) in omega (arith, e, sum_by-cons f a (range_with_len (a + 1) 0))
sum_last f a (suc n) =
    let ih = sum_last f (a + 1) n in
    let e : f (a + 1 + n) ≡ f (a + suc n) = ap f (omega arith) in
    sum_by-cons f a (range_with_len (a + 1) (suc n)) ∙ (let c = sum_by-cons f a (range_with_len (a + 1) n) in omega (arith, ih, e, c))

-- one place more
pub one_time_more : (p : ℕ → Bool) (first place count one : ℕ) (b : Bool) → first ≤ place → count ≡ count_by p (range_with_len first (place - first))
    → b ≡ p place → one ≡ cond b 1 0 → count + one ≡ count_by p (range_with_len first (place + 1 - first))
one_time_more p first place count one b above so_far test is =
    let n : place + 1 - first ≡ suc (place - first) = omega arith in
    let last = sum_last (λ x. cond (p x) 1 0) first (place - first) in
    let there : first + (place - first) ≡ place = omega arith in
    let unit : one ≡ cond (p (first + (place - first))) 1 0 = is ∙ ap (λ (t : Bool). cond t 1 0) (test ∙ ap p (sym there)) in
    ap (λ (m : ℕ). m + one) so_far ∙ ap (λ (m : ℕ). count_by p (range_with_len first (place - first)) + m) unit
    ∙ sym last ∙ ap (λ (m : ℕ). count_by p (range_with_len first m)) (sym n)

-- there are at most so many
pub few_times : (p : ℕ → Bool) (first n count : ℕ) → count ≡ count_by p (range_with_len first n) → count ≤ n
few_times p first n count is =
    let most = count_by-le-length p (range_with_len first n) in
    let size = length-range_with_len first n in
    omega (arith, is, most, size)

-- no role yet
pub no_parts : (scene : Scene) (y : Pixels) (first end : ℕ) (old : List Seen) → AddsFoldParts scene y first end 0 old old
no_parts scene y first end old = record { parts = []; is = sym (append-nil old); right = NoRole }

-- one role more
pub next_part : (scene : Scene) (y : Pixels) (first end role : ℕ) (old now new : List Seen) → AddsFoldParts scene y first end role old now
    → AddsDone (column scene.grid role) y (times scene role Sends first end) (times scene role Takes first end) (times scene role Loses first end) now new
    → AddsFoldParts scene y first end (role + 1) old new
next_part scene y first end role old now new so_far one =
    record {
      parts = so_far.parts ++ one.part;
      is = one.is ∙ ap (λ (d : List Seen). d ++ one.part) so_far.is ∙ append_assoc old so_far.parts one.part;
      right = NextRole role (role + 1) so_far.parts one.part (so_far.parts ++ one.part) so_far.right one.right refl refl;
    }

-- 1 or 0
pub one_at_most : (b : Bool) (one : ℕ) → one ≡ cond b 1 0 → one ≤ 1
one_at_most b one is = subst (λ (n : ℕ). n ≤ 1) (sym is) (elim b as (λ t. cond t 1 0 ≤ 1) [ true ↦ lit≤ tt | false ↦ lit≤ tt ])
