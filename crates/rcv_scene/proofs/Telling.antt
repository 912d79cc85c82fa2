-- Groups that are added one behind the other, and what they tell.
use Rattle.std.proofs.Common.{◌≡◌, List, [], ◌∷◌, ◌++◌, map, sym, ◌∙◌, ap, subst, append_assoc, append-nil, ℕ, zero, suc, ◌+◌, ◌<◌, length, take, slice_index_or, arith}
use Rattle.std.proofs.lemmas.List.{map-append}
use Rattle.std.proofs.lemmas.List.Elements.{filter-append, All-append, All-cons, All-nil}
use Rattle.rcv_core.specs.Book.{BookView}
use Rattle.rcv_picture.specs.declared.group.Group.{Group}
use Rattle.rcv_picture.specs.declared.group.Says.{Says}
use Rattle.rcv_picture.specs.declared.group.Says.TheVariants.{Nothing}
use Rattle.rcv_scene.specs.Seen.{seen}
use Rattle.rcv_scene.specs.Grid.{Scene}
use Rattle.rcv_scene.specs.Drawn.{IsDrawn, AreDrawn}
use Rattle.rcv_scene.specs.Told.{says_something, said, told, IsTitle, AreTitled, Adds}

-- what a group says
abbrev pub says_of : Group → Says
says_of g = g.says

-- whether it is titled
abbrev pub IsTitled : BookView → Group → Type 0
IsTitled book g = IsTitle book g.says g.title.items

told_more : (old new : List Group) → told (old ++ new) ≡ told old ++ told new
told_more old new =
    ap said (map-append says_of old new) ∙ filter-append says_something (map says_of old) (map says_of new)

-- whether it is drawn so
abbrev pub IsDrawnGroup : Scene → Group → Type 0
IsDrawnGroup scene g = IsDrawn scene g.says (seen g.shapes.items)

-- one group more, which is titled and drawn
pub one_more : (book : BookView) (scene : Scene) (old new : List Group) (g : Group) → new ≡ old ++ g ∷ [] → IsTitle book g.says g.title.items
    → IsDrawn scene g.says (seen g.shapes.items) → Adds book scene old new (g.says ∷ [])
one_more book scene old new g is title drawn =
    record {
      tell = ap told is ∙ told_more old (g ∷ []);
      titled = λ before.
          subst (AreTitled book) (sym is)
          (All-append (IsTitled book) old (g ∷ []) before (All-cons (IsTitled book) g [] title (All-nil (IsTitled book))));
      drawn = λ before.
          subst (AreDrawn scene) (sym is)
          (All-append (IsDrawnGroup scene) old (g ∷ []) before (All-cons (IsDrawnGroup scene) g [] drawn (All-nil (IsDrawnGroup scene))));
    }

-- one group more that says nothing
pub one_silent : (book : BookView) (scene : Scene) (old new : List Group) (g : Group) → new ≡ old ++ g ∷ [] → g.says ≡ Nothing
    → Adds book scene old new []
one_silent book scene old new g is silent =
    let title : IsTitle book g.says g.title.items = subst (λ (s : Says). IsTitle book s g.title.items) (sym silent) tt in
    let drawn : IsDrawn scene g.says (seen g.shapes.items) = subst (λ (s : Says). IsDrawn scene s (seen g.shapes.items)) (sym silent) tt in
    let more = one_more book scene old new g is title drawn in
    record {
      tell = more.tell ∙ ap (λ (s : Says). told old ++ said (s ∷ [])) silent;
      titled = more.titled;
      drawn = more.drawn;
    }

-- nothing more
pub none_more : (book : BookView) (scene : Scene) (groups : List Group) → Adds book scene groups groups []
none_more book scene groups = record { tell = sym (append-nil (told groups)); titled = λ before. before; drawn = λ before. before }

-- some, and then some more
pub then : (book : BookView) (scene : Scene) (a b c : List Group) (xs ys : List Says) → Adds book scene a b xs → Adds book scene b c ys
    → Adds book scene a c (xs ++ ys)
then book scene a b c xs ys first second =
    record {
      tell =
          second.tell ∙ ap (λ (t : List Says). t ++ said ys) first.tell
          ∙ append_assoc (told a) (said xs) (said ys)
          ∙ ap (λ (t : List Says). told a ++ t) (sym (filter-append says_something xs ys));
      titled = λ before. second.titled (first.titled before);
      drawn = λ before. second.drawn (first.drawn before);
    }

-- one more of those that are said
one_taken : (all : List Says) (n : ℕ) (x : Says) → n < length all → slice_index_or all n x ≡ x → take (suc n) all ≡ take n all ++ x ∷ []
one_taken [] n x within is = absurd (omega (arith, within))
one_taken (y ∷ all) zero x within is = ap (λ (z : Says). z ∷ []) is
one_taken (y ∷ all) (suc n) x within is = ap (λ (l : List Says). y ∷ l) (one_taken all n x (omega (arith, within)) is)

-- those so far, and then one more
pub next_of_all : (book : BookView) (scene : Scene) (a b c : List Group) (all : List Says) (n : ℕ) (x : Says) → n < length all → slice_index_or all n x ≡ x
    → Adds book scene a b (take n all) → Adds book scene b c (x ∷ []) → Adds book scene a c (take (n + 1) all)
next_of_all book scene a b c all n x within is so_far one =
    let after : n + 1 ≡ suc n = omega arith in
    subst (Adds book scene a c) (sym (ap (λ (m : ℕ). take m all) after ∙ one_taken all n x within is)) (then book scene a b c (take n all) (x ∷ []) so_far one)

-- some were added silently, whatever is drawn
abbrev pub IsSilent : List Group → List Group → Type 0
IsSilent old new = (book : BookView) (scene : Scene) → Adds book scene old new []

-- nothing, and then nothing more
pub silent_then : (a b c : List Group) → IsSilent a b → IsSilent b c → IsSilent a c
silent_then a b c first second = λ book scene. then book scene a b c [] [] (first book scene) (second book scene)

-- what was added to no groups
pub from_none : (book : BookView) (scene : Scene) (groups : List Group) (says : List Says) → Adds book scene [] groups says → told groups ≡ said says
from_none book scene groups says adds = adds.tell

pub titled_from_none : (book : BookView) (scene : Scene) (groups : List Group) (says : List Says) → Adds book scene [] groups says → AreTitled book groups
titled_from_none book scene groups says adds = adds.titled (All-nil (IsTitled book))

pub drawn_from_none : (book : BookView) (scene : Scene) (groups : List Group) (says : List Says) → Adds book scene [] groups says → AreDrawn scene groups
drawn_from_none book scene groups says adds = adds.drawn (All-nil (IsDrawnGroup scene))

-- the whole of a picture: what lies behind, the wires, what isn't received, the rows, and three more groups or so
pub whole : (book : BookView) (scene : Scene) (a b c d e f g h : List Group) (xs ys : List Says) → a ≡ []
    → IsSilent a b → Adds book scene b c xs → IsSilent c d → Adds book scene d e ys
    → IsSilent e f → IsSilent f g → IsSilent g h
    → Adds book scene [] h (xs ++ ys)
whole book scene a b c d e f g h xs ys none behind wires loose rows above below last =
    let start : Adds book scene [] b [] = subst (λ (n : List Group). Adds book scene n b []) none (behind book scene) in
    let sent : Adds book scene [] c xs = then book scene [] b c [] xs start wires in
    let parted : Adds book scene [] d (xs ++ []) = then book scene [] c d xs [] sent (loose book scene) in
    let all : Adds book scene [] e (xs ++ ys) = then book scene [] d e xs ys (subst (λ (n : List Says). Adds book scene [] d n) (append-nil xs) parted) rows in
    let over : Adds book scene [] f (xs ++ ys) = subst (λ (n : List Says). Adds book scene [] f n) (append-nil (xs ++ ys)) (then book scene [] e f (xs ++ ys) [] all (above book scene)) in
    let under : Adds book scene [] g (xs ++ ys) = subst (λ (n : List Says). Adds book scene [] g n) (append-nil (xs ++ ys)) (then book scene [] f g (xs ++ ys) [] over (below book scene)) in
    subst (λ (n : List Says). Adds book scene [] h n) (append-nil (xs ++ ys)) (then book scene [] g h (xs ++ ys) [] under (last book scene))
