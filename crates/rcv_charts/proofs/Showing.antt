-- Groups that show things one by one, the words in them, and the wires of states.
use Rattle.std.proofs.Common.{◌≡◌, ℕ, zero, suc, ◌+◌, ◌<◌, List, [], ◌∷◌, ◌++◌, map, take, length, refl, sym, ◌∙◌, ap, subst, ⊎_elim, append_assoc, append-nil, arith}
use Rattle.std.specs.Prelude.{slice_index_or}
use Rattle.std.proofs.lemmas.Bool.{cases_lt}
use Rattle.std.specs.declared.alloc.Global.{Global}
use Rattle.std.specs.declared.vec.Vec.{Vec}
use Rattle.std.proofs.lemmas.List.{length-append, map-append, take_more}
use Rattle.rcv_picture.specs.declared.shape.Shape.{Shape}
use Rattle.rcv_picture.specs.declared.shape.Shape.TheVariants.{Line, Rect, Circle, Path, Text}
use Rattle.rcv_picture.specs.declared.group.Group.{Group}
use Rattle.rcv_tree.specs.Lists.{lists_in}
use Rattle.rcv_charts.specs.Titles.{texts_in}
use Rattle.rcv_charts.specs.States.{StateView, next_in}
use Rattle.rcv_charts.specs.Wires.{state_at, steps_from}
use Rattle.rcv_charts.specs.Drawn.{DrawingView}
use Rattle.rcv_charts.specs.Machine.{Adds}

at_left : {A : Type 0} (xs ys : List A) (i : ℕ) (d : A) → i < length xs → slice_index_or (xs ++ ys) i d ≡ slice_index_or xs i d
at_left [] ys i d lt = absurd (omega (arith, lt))
at_left (x ∷ xs) ys zero d lt = refl
at_left (x ∷ xs) ys (suc i) d lt = at_left xs ys i d (omega (arith, lt))

at_end : {A : Type 0} (xs : List A) (x : A) (i : ℕ) (d : A) → i ≡ length xs → slice_index_or (xs ++ x ∷ []) i d ≡ x
at_end [] x zero d e = refl
at_end [] x (suc i) d e = absurd (omega (arith, e))
at_end (y ∷ ys) x zero d e = absurd (omega (arith, e))
at_end (y ∷ ys) x (suc i) d e = at_end ys x i d (omega (arith, e))

pub nothing_added : (Shows : ℕ → Group → Type 0) (a : DrawingView) → Adds 0 Shows a a
nothing_added Shows a = record { added = []; shown = record { all = refl; each = λ i d lt. absurd (omega (arith, lt)) }; grown = sym (append-nil a.groups) }

pub one_added : (Shows : ℕ → Group → Type 0) (n : ℕ) (a b c : DrawingView) (g : Group) → Adds n Shows a b → c.groups ≡ b.groups ++ g ∷ [] → Shows n g → Adds (n + 1) Shows a c
one_added Shows n a b c g adds more is = record {
  added = adds.added ++ g ∷ [];
  shown = record { all = omega (arith, length-append adds.added (g ∷ []), adds.shown.all); each = shown };
  grown = more ∙ ap (λ gs. gs ++ g ∷ []) adds.grown ∙ append_assoc a.groups adds.added (g ∷ []);
}
  where
    shown : (i : ℕ) (d : Group) → i < n + 1 → Shows i (slice_index_or (adds.added ++ g ∷ []) i d)
    shown i d lt = ⊎_elim
        (λ less. subst (Shows i) (sym (at_left adds.added (g ∷ []) i d (omega (arith, less, adds.shown.all)))) (adds.shown.each i d less))
        (λ more. let same : i ≡ n = omega (arith, lt, more) in subst (Shows i) (sym (at_end adds.added g i d (omega (arith, same, adds.shown.all)))) (subst (λ j. Shows j g) (sym same) is))
        (cases_lt i n)

pub texts-append : (xs ys : List Shape) → texts_in (xs ++ ys) ≡ texts_in xs ++ texts_in ys
texts-append [] ys = refl
texts-append (Line from to look ∷ xs) ys = texts-append xs ys
texts-append (Rect corner width height round look ∷ xs) ys = texts-append xs ys
texts-append (Circle center radius look ∷ xs) ys = texts-append xs ys
texts-append (Path places look ∷ xs) ys = texts-append xs ys
texts-append (Text place anchor look text ∷ xs) ys = ap (λ ts. text.items ∷ ts) (texts-append xs ys)

-- the steps of one state more
pub steps_more : (i : ℕ) (states : List StateView) (n : ℕ) → n < length states → steps_from i (take (n + 1) states) ≡ steps_from i (take n states) ++ map (λ (z : ℕ). (i + n, z)) (next_in (state_at states n).act)
steps_more i [] n lt = absurd (omega (arith, lt))
steps_more i (s ∷ ss) zero lt =
    let same : i ≡ i + 0 = omega arith in
    append-nil (map (λ (z : ℕ). (i, z)) (next_in s.act)) ∙ ap (λ (j : ℕ). map (λ (z : ℕ). (j, z)) (next_in s.act)) same
steps_more i (s ∷ ss) (suc n) lt =
    let after : suc n + 1 ≡ suc (n + 1) = omega arith in
    let moved : (i + 1) + n ≡ i + suc n = omega arith in
    ap (λ m. steps_from i (take m (s ∷ ss))) after
    ∙ ap (λ rest. map (λ (z : ℕ). (i, z)) (next_in s.act) ++ rest) (steps_more (i + 1) ss n (omega (arith, lt)))
    ∙ sym (append_assoc (map (λ (z : ℕ). (i, z)) (next_in s.act)) (steps_from (i + 1) (take n ss)) (map (λ (z : ℕ). ((i + 1) + n, z)) (next_in (state_at ss n).act)))
    ∙ ap (λ (j : ℕ). (map (λ (z : ℕ). (i, z)) (next_in s.act) ++ steps_from (i + 1) (take n ss)) ++ map (λ (z : ℕ). (j, z)) (next_in (state_at ss n).act)) moved

-- one list more
pub lists_more : (vs : List (Vec ℕ Global)) (i : ℕ) (v : Vec ℕ Global) → i < length vs → v ≡ slice_index_or vs i v → lists_in (take i vs) ++ v.items ∷ [] ≡ lists_in (take (i + 1) vs)
lists_more vs i v lt e = sym (ap lists_in (take_more vs i v lt ∙ ap (λ y. take i vs ++ y ∷ []) (sym e)) ∙ map-append (λ (one : Vec ℕ Global). one.items) (take i vs) (v ∷ []))

-- an item, whatever stands behind the end
pub item_at : {A : Type 0} (xs : List A) (i : ℕ) (x d : A) → i < length xs → x ≡ slice_index_or xs i x → slice_index_or xs i d ≡ x
item_at [] i x d lt e = absurd (omega (arith, lt))
item_at (y ∷ ys) zero x d lt e = sym e
item_at (y ∷ ys) (suc i) x d lt e = item_at ys i x d (omega (arith, lt)) e
