-- Feet that are added one after another, and the group that holds them.
use Rattle.std.proofs.Common.{◌≡◌, ℕ, zero, suc, ◌+◌, ◌<◌, List, [], ◌∷◌, ◌++◌, length, take, slice_index_or, refl, sym, ◌∙◌, ap, subst, arith, append_assoc}
use Rattle.rcv_picture.specs.declared.pixels.Pixels.{Pixels}
use Rattle.rcv_picture.specs.declared.group.Group.{Group}
use Rattle.rcv_scene.specs.declared.ends.RoleEnd.{RoleEnd}
use Rattle.rcv_picture.specs.declared.pixels.At.{At}
use Rattle.rcv_picture.specs.declared.look.Look.TheVariants as looks
use Rattle.rcv_scene.specs.Seen.{Seen, Frame, seen}
use Rattle.rcv_scene.specs.Grid.{Grid, column}
use Rattle.rcv_scene.specs.Feet.{kept_words, foot_texts, AddsFoot, AreFeet, NoFoot, NextFoot, AddsGroup, HasFeet}

-- one more of these roles
one_taken : (all : List RoleEnd) (n : ℕ) (x : RoleEnd) → n < length all → slice_index_or all n x ≡ x → take (suc n) all ≡ take n all ++ x ∷ []
one_taken [] n x within is = absurd (omega (arith, within))
one_taken (y ∷ all) zero x within is = ap (λ (z : RoleEnd). z ∷ []) is
one_taken (y ∷ all) (suc n) x within is = ap (λ (l : List RoleEnd). y ∷ l) (one_taken all n x (omega (arith, within)) is)

pub no_feet : (grid : Grid) (y : Pixels) (drawn : List Seen) → drawn ≡ [] → AreFeet grid y [] drawn
no_feet grid y drawn none = subst (AreFeet grid y []) (sym none) NoFoot

pub next_foot : (grid : Grid) (y : Pixels) (all : List RoleEnd) (n : ℕ) (x : RoleEnd) (now new : List Seen) → n < length all → slice_index_or all n x ≡ x
    → AreFeet grid y (take n all) now → AddsFoot grid y x now new → AreFeet grid y (take (n + 1) all) new
next_foot grid y all n x now new within is so_far one =
    let after : n + 1 ≡ suc n = omega arith in
    NextFoot (take n all) (take (n + 1) all) x now new so_far (ap (λ (m : ℕ). take m all) after ∙ one_taken all n x within is) one

-- the group of the feet, with one more behind it
pub feet_first : (grid : Grid) (y : Pixels) (ends : List RoleEnd) (a b c : List Group) (feet legend : List Seen) → AreFeet grid y ends feet
    → AddsGroup a b feet → AddsGroup b c legend → HasFeet grid ends c
feet_first grid y ends a b c feet legend are first second =
    record {
      y = y;
      before = a;
      after = second.group ∷ [];
      group = first.group;
      is = second.is ∙ ap (λ (l : List Group). l ++ second.group ∷ []) first.is ∙ append_assoc a (first.group ∷ []) (second.group ∷ []);
      right = subst (AreFeet grid y ends) (sym first.shows) are;
    }

-- and with one more
pub feet_stay : (grid : Grid) (ends : List RoleEnd) (a b : List Group) (drawn : List Seen) → HasFeet grid ends a → AddsGroup a b drawn → HasFeet grid ends b
feet_stay grid ends a b drawn has one =
    record {
      y = has.y;
      before = has.before;
      after = has.after ++ one.group ∷ [];
      group = has.group;
      is = one.is ∙ ap (λ (l : List Group). l ++ one.group ∷ []) has.is ∙ append_assoc has.before (has.group ∷ has.after) (one.group ∷ []);
      right = has.right;
    }

-- a box, and then the texts of a role's foot
pub foot_is : (grid : Grid) (y x : Pixels) (role : RoleEnd) (kept : List ℕ) (corner : At) (width height round : Pixels) (old mid new : List Seen)
    → x ≡ column grid role.role → kept ≡ kept_words role.kept role.raw → mid ≡ old ++ Frame corner width height round looks.Box ∷ []
    → new ≡ mid ++ foot_texts x y role.end kept → AddsFoot grid y role old new
foot_is grid y x role kept corner width height round old mid new here says box texts =
    let frame : Seen = Frame corner width height round looks.Box in
    record {
      corner = corner;
      width = width;
      height = height;
      round = round;
      is = texts ∙ ap (λ (d : List Seen). d ++ foot_texts x y role.end kept) box
          ∙ append_assoc old (frame ∷ []) (foot_texts x y role.end kept)
          ∙ ap (λ (p : Pixels). old ++ frame ∷ foot_texts p y role.end kept) here
          ∙ ap (λ (k : List ℕ). old ++ frame ∷ foot_texts (column grid role.role) y role.end k) says;
    }
