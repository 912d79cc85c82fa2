-- Things that are tried one after another.
use Rattle.std.proofs.Common.{◌<◌, ℕ, List, [], ◌∷◌, ◌++◌, length, sym, subst, arith, append_assoc, append-nil}
use Rattle.rcv_lexer.specs.declared.token.Token.{Token}
use Rattle.rcv_found.specs.Grammars.{GrammarView}
use Rattle.rcv_found.specs.Things.{ThingView}
use Rattle.rcv_found.specs.May.{MayStand, AreThose, SoFar, none, listed, left_out}

pub one_listed : (g : GrammarView) (bundle : List ℕ) (front : List Token) (things may after : List ThingView) (x : ThingView)
    → SoFar g bundle front things may (x ∷ after) → MayStand g bundle front x → SoFar g bundle front things (may ++ x ∷ []) after
one_listed g bundle front things may after x so_far stands ys are =
    subst (AreThose g bundle front things) (sym (append_assoc may (x ∷ []) ys)) (so_far (x ∷ ys) (listed x stands are))

pub one_left_out : (g : GrammarView) (bundle : List ℕ) (front : List Token) (things may after : List ThingView) (x : ThingView)
    → SoFar g bundle front things may (x ∷ after) → (MayStand g bundle front x → ⊥) → SoFar g bundle front things may after
one_left_out g bundle front things may after x so_far stands ys are = so_far ys (left_out x stands are)

pub all_tried : (g : GrammarView) (bundle : List ℕ) (front : List Token) (things may rest : List ThingView) → length rest < 1
    → SoFar g bundle front things may rest → AreThose g bundle front things may
all_tried g bundle front things may [] few so_far = subst (AreThose g bundle front things) (append-nil may) (so_far [] none)
all_tried g bundle front things may (x ∷ rest) few so_far = absurd (omega (arith, few))
