-- Names and the places of roles; names of enclosing recursions, and from where a walk comes without a message.
use Rattle.std.proofs.Common.{◌≡◌, ℕ, ◌+◌, Bool, true, false, ◌||◌, List, [], ◌∷◌, ◌++◌, length, refl, sym, ap, ◌∙◌, arith, length-append, slice_index_or, inl, inr, bytes_eq, is_none, ◌-◌, ◌⊎◌, ◌↔◌, ◌==◌, nat_lt, not, Some}
use Rattle.std.specs.List.{position_or_len}
use Rattle.std.proofs.Math.Bool.{or-false}
use Rattle.std.proofs.lemmas.List.{drop-append-le}
use Rattle.std.proofs.lemmas.List.Folds.{list_any-append}
use Rattle.std.proofs.lemmas.Bool.Decides.{Decides-or, Decides-like, same_from_decides, nat_tests, Decides-eqb}
use Rattle.std.proofs.lemmas.Slice.Eq.{bytes_eq-Decides}
use Rattle.rcv_tree.proofs.Naming.{is_named}
use Rattle.rcv_tree.specs.Names.{name_at}
use Rattle.rcv_machine.specs.Words.{Choice, At, Or, Rec, Open, Close, Symbol, Is, Word, is_listed, place_of, is_among, open_braces, Comes, FromItsStart, IntoRec, IntoChoice, IntoBranch, Place, inside, inside_rec}
use Rattle.rcv_machine.proofs.Knowing.{recent}

pub or_left : (a b : Bool) → (a || b) ≡ false → a ≡ false
or_left true b e = absurd cc
or_left false b e = refl

pub bytes_sym : (a b : List ℕ) → bytes_eq a b ≡ bytes_eq b a
bytes_sym a b = same_from_decides _ _ (bytes_eq-Decides a b) (Decides-like _ sym sym (bytes_eq-Decides b a))

pub among_more : (name n : List ℕ) (recs : List (List ℕ))
    → (is_among name (recs ++ n ∷ []) ≡ true) ↔ ((is_among name recs ≡ true) ⊎ (name ≡ n))
among_more name n recs =
    let either = Decides-or (is_among name recs) (bytes_eq name n) ((λ old. old), (λ old. old)) (bytes_eq-Decides name n) in
    let both = list_any-append (λ (other : List ℕ). bytes_eq name other) recs (n ∷ []) in
    rw (both, or-false (bytes_eq name n)) either

-- inside one recursion more a walk comes to it as well
pub recent_more : (p : Place) (n : List ℕ) → recent (inside (inside_rec p n)) ≡ recent p ++ n ∷ []
recent_more p n = let len = length-append p.recs (n ∷ []) in
    let same : length (p.recs ++ n ∷ []) - (p.comes + 1) ≡ length p.recs - p.comes = omega (arith, len) in
    rw same (drop-append-le (length p.recs - p.comes) p.recs (n ∷ []) (omega arith))

found : (n : List ℕ) (roles : List (List ℕ)) → nat_lt (position_or_len (λ role. bytes_eq role n) roles) (length roles) ≡ is_among n roles
found n [] = refl
found n (x ∷ xs) = grind (arith, nat_tests, bytes_sym n x, found n xs)

-- a name has a place where it is that of a role
pub unknown : (n : List ℕ) (roles : List (List ℕ)) → not (is_among n roles) ≡ is_none (place_of roles n)
unknown n roles = let here = found n roles in grind (arith, nat_tests, here)

-- names are one exactly where their places are
pub same_place : (roles : List (List ℕ)) (n m : List ℕ) (r q : ℕ) → place_of roles n ≡ Some r → place_of roles m ≡ Some q
    → (r == q) ≡ bytes_eq n m
same_place roles n m r q e f =
    same_from_decides (r == q) (bytes_eq n m) (Decides-eqb r q) (Decides-like (bytes_eq n m)
    (λ s. let same : Some r ≡ Some q = sym e ∙ ap (place_of roles) s ∙ f in cc)
    (λ s. sym (is_named roles n r e).1 ∙ ap (λ (i : ℕ). name_at roles i) s ∙ (is_named roles m q f).1) (bytes_eq-Decides n m))

-- a list of names, and one more
pub one_more : (roles : List (List ℕ)) (n m : List ℕ) (r q : ℕ) (ns : List (List ℕ)) (rs : List ℕ) → place_of roles n ≡ Some r
    → place_of roles m ≡ Some q → is_listed q rs ≡ is_among m ns → is_listed q (rs ++ r ∷ []) ≡ is_among m (ns ++ n ∷ [])
one_more roles n m r q ns rs e f h =
    rw (list_any-append (λ other. q == other) rs (r ∷ []), list_any-append (λ other. bytes_eq m other) ns (n ∷ []))
    (rw (h, same_place roles m n q r f e))

-- from where a walk comes to what stands behind these symbols
abbrev pub Origin : List ℕ → List Symbol → Type 0
Origin x (Is Open ∷ Word n ∷ Is Rec ∷ b) = Comes x b ⊎ (x ≡ n)
Origin x (Is Open ∷ Word a ∷ Is At ∷ Is Choice ∷ b) = Comes x b
Origin x (Is Open ∷ Is Or ∷ Is Close ∷ b) = Comes x (Is Open ∷ slice_index_or (open_braces b) 0 [])
Origin x _ = ⊥

pub origin : {x : List ℕ} {l : List Symbol} → Comes x l → Origin x l
origin (FromItsStart x b) = inr refl
origin (IntoRec x y b c) = inl c
origin (IntoChoice x a b c) = c
origin (IntoBranch x b first braces e c) = rw e c
