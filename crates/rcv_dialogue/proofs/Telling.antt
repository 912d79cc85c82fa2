-- The words that tell kinds.
use Rattle.std.proofs.Common.{◌≡◌, ℕ, Bool, true, false, cond, List, [], ◌∷◌, Some, refl, subst}
use Rattle.rcv_dialogue.specs.declared.kind.Kind.{Kind}
use Rattle.rcv_dialogue.specs.declared.kind.Kind.TheVariants as kind
use Rattle.rcv_dialogue.specs.declared.kind.AgainKind.{AgainKind}
use Rattle.rcv_dialogue.specs.declared.kind.AgainKind.TheVariants as kinds
use Rattle.rcv_dialogue.specs.Kinds.{again_in, again_text, kind_in, kind_text, told_in}
use Rattle.rcv_dialogue.specs.Numbers.{is_word}
use Rattle.rcv_dialogue.proofs.Numerals.{same_word}

some_is : {K : Type 0} (x y : K) → Some x ≡ Some y → x ≡ y
some_is x y e = cc

-- A word that tells a kind is its text.
pub told_takes : {K : Type 0} (text : K → List ℕ) (ks : List K) (w : List ℕ) (k : K) → told_in text ks w ≡ Some k → w ≡ text k
told_takes {K} text [] w k is = absurd cc
told_takes {K} text (x ∷ ks) w k is = go (is_word w (text x)) refl is (told_takes text ks w k)
  where
    go : (b : Bool) → is_word w (text x) ≡ b → cond b (Some x) (told_in text ks w) ≡ Some k → (told_in text ks w ≡ Some k → w ≡ text k) → w ≡ text k
    go true same is later = subst (λ (y : K). w ≡ text y) (some_is x k is) (same_word w (text x) same)
    go false other is later = later is

pub kind_again : (k : Kind) → kind_in (kind_text k) ≡ Some k
kind_again kind.Send = refl
kind_again kind.Recv = refl
kind_again kind.Save = refl
kind_again kind.Fail = refl
kind_again kind.Crash = refl
kind_again kind.Recover = refl
kind_again kind.Next = refl
kind_again kind.Kept = refl
kind_again kind.Line = refl
kind_again kind.Role = refl
kind_again kind.Flight = refl
kind_again kind.Points = refl
kind_again kind.Table = refl
kind_again kind.Snapshot = refl
kind_again kind.End = refl
kind_again kind.Again = refl

pub again_kind : (k : AgainKind) → again_in (again_text k) ≡ Some k
again_kind kinds.Session = refl
again_kind kinds.Role = refl
again_kind kinds.Flight = refl
again_kind kinds.Send = refl
again_kind kinds.Recv = refl
again_kind kinds.Save = refl
