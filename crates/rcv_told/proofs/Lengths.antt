-- Lists of events are of one length where each role has as many events in the one as in the other.
use Prim.Native.Nat.{zero, suc}
use Rattle.std.proofs.Common.{◌≡◌, ℕ, ◌+◌, ◌<◌, ◌≤◌, max, cond, List, [], ◌∷◌, ◌++◌, length, refl, ap, ⊎_elim, arith, length-append, eq-eqb, ne_eqb}
use Rattle.std.proofs.lemmas.Bool.{cases_eq}
use Rattle.rcv_tree.specs.declared.event.Event.{Event}
use Rattle.rcv_model.specs.Run.{acts}
use Rattle.rcv_model.proofs.Numbers.{acts_cons}
use Rattle.rcv_told.proofs.Memories.{acts_join}

-- How many events are by roles below n, and a number that all roles of a list are below.
abbrev below : ℕ → List Event → ℕ
below zero h = 0
below (suc n) h = below n h + length (acts n h)

abbrev top : List Event → ℕ
top [] = 0
top (e ∷ h) = max (e.role + 1) (top h)

below_none : (n : ℕ) → below n [] ≡ 0
below_none zero = refl
below_none (suc n) = let ih = below_none n in omega (arith, ih)

own_more : (r : ℕ) (e : Event) (h : List Event) → e.role ≡ r → length (acts r (e ∷ h)) ≡ length (acts r h) + 1
own_more r e h f = let a = acts_cons r e h in let b = ap {B = ℕ} (λ t. cond t 1 0) (eq-eqb e.role r f) in omega (arith, a, b)

other_same : (r : ℕ) (e : Event) (h : List Event) → (e.role ≡ r → ⊥) → length (acts r (e ∷ h)) ≡ length (acts r h)
other_same r e h f = let a = acts_cons r e h in let b = ap {B = ℕ} (λ t. cond t 1 0) (ne_eqb e.role r f) in omega (arith, a, b)

above : (n : ℕ) (e : Event) (h : List Event) → n ≤ e.role → below n (e ∷ h) ≡ below n h
above zero e h le = refl
above (suc n) e h le = let ih = above n e h (omega (arith, le)) in let a = other_same n e h (λ f. omega (arith, f, le)) in omega (arith, ih, a)

within : (n : ℕ) (e : Event) (h : List Event) → e.role < n → below n (e ∷ h) ≡ below n h + 1
within zero e h lt = absurd (omega (arith, lt))
within (suc n) e h lt = ⊎_elim
    (λ f. let ih = above n e h (omega (arith, f)) in let a = own_more n e h f in omega (arith, ih, a))
    (λ f. let ih = within n e h (omega (arith, f, lt)) in let a = other_same n e h f in omega (arith, ih, a))
    (cases_eq e.role n)

all_below : (n : ℕ) (h : List Event) → top h ≤ n → below n h ≡ length h
all_below n [] le = below_none n
all_below n (e ∷ h) le = let ih = all_below n h (omega (arith, le)) in let a = within n e h (omega (arith, le)) in omega (arith, ih, a)

pub same_length : (xs ys : List Event) → ((r : ℕ) → length (acts r xs) ≡ length (acts r ys)) → length xs ≡ length ys
same_length xs ys same =
    let n = max (top xs) (top ys) in
    let a = all_below (max (top xs) (top ys)) xs (omega arith) in
    let b = all_below (max (top xs) (top ys)) ys (omega arith) in
    let c = each (max (top xs) (top ys)) in
    omega (arith, a, b, c)
  where
    each : (n : ℕ) → below n xs ≡ below n ys
    each zero = refl
    each (suc n) = let ih = each n in let s = same n in omega (arith, ih, s)

-- Where each role lost as many of the one list as of the other, both lost as many.
pub same_losses : (left whole other_left other_whole : List Event)
    → ((r : ℕ) → length (acts r left) + length (acts r other_whole) ≡ length (acts r other_left) + length (acts r whole))
    → length left + length other_whole ≡ length other_left + length whole
same_losses left whole other_left other_whole same =
    let a = same_length (left ++ other_whole) (other_left ++ whole) (λ r.
    let s = same r in
    let x = ap length (acts_join r left other_whole) in
    let y = ap length (acts_join r other_left whole) in
    omega (arith, s, x, y, length-append (acts r left) (acts r other_whole), length-append (acts r other_left) (acts r whole))) in
    omega (arith, a, length-append left other_whole, length-append other_left whole)
