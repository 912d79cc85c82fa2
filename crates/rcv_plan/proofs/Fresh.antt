-- What holds behind symbols where an item may begin.
use Rattle.std.proofs.Common.{◌≡◌, ℕ, true, false, List, [], ◌∷◌, refl}
use Rattle.rcv_model.specs.Plan.{PlanLine}
use Rattle.rcv_plan.specs.Symbols.{Symbol, Word, Number, Is, Text}
use Rattle.rcv_plan.specs.Codes.{is_between, is_behind, is_behind_role, is_in_list, with_hosted}

pub record Fresh (back : List Symbol) : Type 0 where
  pub between : is_between back ≡ true
  pub behind : (w : List ℕ) → is_behind w back ≡ false
  pub role : (w : List ℕ) → is_behind_role w back ≡ false
  pub in_list : is_in_list back ≡ false
  pub word : (x : List ℕ) → is_between (Word x ∷ back) ≡ false
  pub hosted : (lines : List PlanLine) (q : ℕ) → with_hosted back lines q ≡ lines

pub fresh : (back : List Symbol) → is_between back ≡ true → Fresh back
fresh [] e = record { between = e; behind = λ w. refl; role = λ w. refl; in_list = refl; word = λ x. refl; hosted = λ l q. refl }
fresh (Number n ∷ back) e = record { between = e; behind = λ w. refl; role = λ w. refl; in_list = refl; word = λ x. refl; hosted = λ l q. refl }
fresh (Word q ∷ Is m ∷ back) e = record { between = e; behind = λ w. refl; role = λ w. refl; in_list = refl; word = λ x. refl; hosted = λ l q. refl }
fresh (Word q ∷ []) e = absurd cc
fresh (Word q ∷ Word r ∷ back) e = absurd cc
fresh (Word q ∷ Number r ∷ back) e = absurd cc
fresh (Word q ∷ Text r ∷ back) e = absurd cc
fresh (Is m ∷ back) e = absurd cc
fresh (Text x ∷ back) e = absurd cc
