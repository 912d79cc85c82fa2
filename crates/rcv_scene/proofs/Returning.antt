-- What is drawn of each role in turn at a recovery, and what is named one after another.
use Rattle.std.proofs.Common.{◌≡◌, ℕ, zero, suc, ◌+◌, ◌<◌, Bool, List, [], ◌∷◌, ◌++◌, length, take, slice_index_or, codes, refl, sym, ◌∙◌, ap, subst, arith, append_assoc, append-nil}
use Rattle.rcv_tree.specs.declared.role.RoleSet.{RoleSet}
use Rattle.rcv_picture.specs.declared.pixels.Pixels.{Pixels}
use Rattle.rcv_story.specs.declared.story.Recovery.{Recovery}
use Rattle.rcv_model.specs.Next.{AreNext}
use Rattle.rcv_session.specs.Session.{net_for}
use Rattle.rcv_picture.specs.declared.look.Look.TheVariants as looks
use Rattle.rcv_picture.specs.declared.shape.Anchor.TheVariants.{Middle}
use Rattle.rcv_scene.specs.Seen.{Seen, Frame, Words, at, further, back}
use Rattle.rcv_scene.specs.Grid.{Scene, column}
use Rattle.rcv_scene.specs.Recoveries.{NamesAll, Begins, Goes, AddsNumber, first_words, IsNextText, nothing_left, all_named, first_named, AreRoleParts, NoRole, NextRole, AddsRole, AddsRoles}
use Rattle.rcv_scene.specs.Recoveries.{loses, last_point, pill_look, return_look, IsReturnText, AddsPillTexts, AddsPill}

-- no role yet
pub no_roles : (scene : Scene) (recovery : Recovery) (y : Pixels) (concerned : RoleSet) (keeps : List ℕ) (old : List Seen)
    → AddsRoles scene recovery y 0 concerned keeps old old
no_roles scene recovery y concerned keeps old = record { parts = []; is = sym (append-nil old); right = NoRole }

-- one role more
pub next_role : (scene : Scene) (recovery : Recovery) (y : Pixels) (role : ℕ) (concerned : RoleSet) (keeps : List ℕ) (old now new : List Seen)
    → AddsRoles scene recovery y role concerned keeps old now → AddsRole scene recovery y role concerned keeps now new
    → AddsRoles scene recovery y (role + 1) concerned keeps old new
next_role scene recovery y role concerned keeps old now new so_far one =
    record {
      parts = so_far.parts ++ one.part;
      is = one.is ∙ ap (λ (d : List Seen). d ++ one.part) so_far.is ∙ append_assoc old so_far.parts one.part;
      right = NextRole role (role + 1) so_far.parts one.part (so_far.parts ++ one.part) so_far.right one.right refl refl;
    }

-- one more of these points
taken_more : (all : List ℕ) (n x : ℕ) → n < length all → slice_index_or all n x ≡ x → take (suc n) all ≡ take n all ++ x ∷ []
taken_more [] n x within is = absurd (omega (arith, within))
taken_more (y ∷ all) zero x within is = ap (λ (z : ℕ). z ∷ []) is
taken_more (y ∷ all) (suc n) x within is = ap (λ (l : List ℕ). y ∷ l) (taken_more all n x (omega (arith, within)) is)

pub none_named : (text : List ℕ) → text ≡ codes "next" → NamesAll [] text
none_named text is = subst (NamesAll []) (sym is) Begins

pub next_named : (all : List ℕ) (n x : ℕ) (text longer : List ℕ) → n < length all → slice_index_or all n x ≡ x → NamesAll (take n all) text
    → AddsNumber text x longer → NamesAll (take (n + 1) all) longer
next_named all n x text longer within is so_far one =
    let after : n + 1 ≡ suc n = omega arith in
    Goes (take n all) (take (n + 1) all) x text one.before one.after longer so_far
    (ap (λ (m : ℕ). take m all) after ∙ taken_more all n x within is) one.is

-- what is next is said
pub said_all : (points text : List ℕ) → NamesAll points text → IsNextText points text
said_all points text names = all_named names

pub said_none : (text : List ℕ) → text ≡ codes "nothing left" → IsNextText [] text
said_none text is = nothing_left refl is

pub said_first : (first : ℕ) (others text : List ℕ) → text ≡ first_words first (length others) → IsNextText (first ∷ others) text
said_first first others text is = first_named first others refl is

-- the pill of a role, with these texts
pub pill_is : (scene : Scene) (recovery : Recovery) (y : Pixels) (role kept point : ℕ) (lost : Bool) (to next points : List ℕ) (old new : List Seen)
    → lost ≡ loses recovery role → IsReturnText lost kept to → point ≡ last_point scene recovery role
    → AreNext (net_for scene.setup) role point points → IsNextText points next
    → AddsPillTexts scene.grid y role lost to next old new → AddsPill scene recovery y role kept old new
pill_is scene recovery y role kept point lost to next points old new known returns here nexts named adds =
    let shapes : Bool → List Seen = λ (b : Bool).
    Frame adds.corner adds.width adds.height adds.round (pill_look b)
    ∷ Words (at (column scene.grid role) (back y 3)) Middle (return_look b) to
    ∷ Words (at (column scene.grid role) (further y 10)) Middle looks.Note next ∷ [] in
    record {
      pill = shapes lost;
      is = adds.is;
      right = record {
        corner = adds.corner;
        width = adds.width;
        height = adds.height;
        round = adds.round;
        to = to;
        next = next;
        points = points;
        is = ap shapes known;
        returns = subst (λ (b : Bool). IsReturnText b kept to) known returns;
        nexts = subst (λ (p : ℕ). AreNext (net_for scene.setup) role p points) here nexts;
        named = named;
      };
    }
