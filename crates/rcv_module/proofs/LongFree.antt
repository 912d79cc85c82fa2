-- The module with the long rec isn't refused.
use Rattle.std.proofs.Common.{◌≡◌, ℕ, zero, suc, ◌≤◌, false, cond, Some, None, List, [], ◌∷◌, refl, sym, ap, subst, ◌∙◌, arith}
use Rattle.std.specs.Prelude.{slice_get, nat_lt}
use Rattle.std.proofs.lemmas.Bool.Decides.{nat_tests}
use Rattle.rcv_model.specs.Text.{Body, End}
use Rattle.rcv_module.specs.declared.fault.Fault.{Fault}
use Rattle.rcv_module.specs.declared.fault.Fault.TheVariants.{Deep, NoName, TooMany, Arity, Recursive, Empty}
use Rattle.rcv_module.specs.Parts.{Part, IsNamed, Site, sites}
use Rattle.rcv_module.specs.Sizes as sizes
use Rattle.rcv_module.specs.Sizes.{Size, Passes, AreMarks, opened}
use Rattle.rcv_module.specs.Refusing.{HoldsAt, Reaches, itself, by_call, AreCallable, IsSmall}
use Rattle.rcv_module.proofs.Walking.{named_once}
use Rattle.rcv_module.proofs.LongText.{called_name, fill, two, main_part, called_part, parts_with, the_call, one_call}

only_call : (k n : ℕ) (s : Site) → slice_get (sites (parts_with k)) n ≡ Some s → s ≡ the_call
only_call k n s e = go n (sym (ap (λ l. slice_get l n) (one_call k)) ∙ e)
  where
    go : (n : ℕ) → slice_get (the_call ∷ []) n ≡ Some s → s ≡ the_call
    go zero h = let same : the_call ≡ s = cc in sym same
    go (suc n) h = absurd (cc)

stays : (k i j : ℕ) → i ≡ 1 → Reaches (parts_with k) i j → j ≡ 1
stays k i j e (itself m) = e
stays k i j e (by_call m l o c r) =
    let held : 0 ≡ m = ap (λ (s : Site). s.holder) (sym (only_call k c.number c.call c.is)) ∙ c.holds in absurd (omega (arith, held, e))

pub named : (k : ℕ) → IsNamed (parts_with k) called_name called_part
named k = (1, refl, refl)

faultless : (k : ℕ) (g : Fault) → HoldsAt (parts_with k) g the_call → ⊥
faultless k Deep h = h
faultless k NoName h = absurd (cc)
faultless k TooMany h = h
faultless k Arity h = h.2 (ap (λ (p : Part). p.roles) (named_once (parts_with k) called_name called_part h.0 (named k) h.1))
faultless k Recursive h = let one : 1 ≡ h.0 = some_is h.1 in let back = stays k h.0 0 (sym one) h.2 in absurd (omega (arith, back))
  where
    some_is : {n m : ℕ} → Some n ≡ Some m → n ≡ m
    some_is e = cc
faultless k Empty h =
    let same : two ≡ End = ap (λ (p : Part). p.body) (named_once (parts_with k) called_name called_part h.0 (named k) h.1) ∙ h.2 in absurd (cc)

pub callable : (k : ℕ) → AreCallable (parts_with k)
callable k n s g e h = faultless k g (subst (HoldsAt (parts_with k) g) (only_call k n s e) h)

-- past the choices: no more points, and three blocks
record Ends (parts : List Part) (s : Size) (b : Body) : Type 0 where
  last : Size
  passes : Passes parts 2 s b [] last
  points : last.points ≡ 3
  blocks : last.blocks ≤ 3

fill_passes : (parts : List Part) (k : ℕ) (s : Size) → s.points ≡ 3 → s.blocks ≤ 3 → Ends parts s (fill k)
unfolding fill
fill_passes parts zero s e le = record { last = s; passes = sizes.at_end; points = e; blocks = le }
fill_passes parts (suc k) s e le =
    let more = fill_passes parts k (opened s 3) e (omega (arith, le)) in
    record { last = more.last; passes = sizes.choice (sizes.one_more (sizes.again sizes.at_end) sizes.no_more) more.passes; points = more.points; blocks = more.blocks }

pub small : (k : ℕ) → IsSmall (parts_with k)
small k =
    let x = fill_passes (parts_with k) k (record { points = 3; blocks = 2 }) refl (omega arith) in
    let p = x.points in
    let b = x.blocks in
    let flat : nat_lt 32 x.last.blocks ≡ false = grind (arith, nat_tests) in
    let few : nat_lt 256 x.last.points ≡ false = grind (arith, nat_tests) in
    let are : AreMarks (parts_with k) (x.last ∷ []) = record {
      main = main_part k;
      first = refl;
      ends = record { points = 3; blocks = 2 } ∷ [];
      whole = x.last;
      passes = sizes.loop (sizes.message (sizes.call called_part (named k) (sizes.message (sizes.message sizes.at_end)) x.passes)) sizes.at_end;
      blames = refl;
    } in
    (x.last ∷ [], are, ap (λ t. cond t (Some 0) None) flat, ap (λ t. cond t (Some 0) None) few)
