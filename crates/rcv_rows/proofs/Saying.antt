-- What is said in lists that are joined.
use Rattle.std.proofs.Common.{◌⊎◌, inl, inr, ⊎_elim, List, [], ◌∷◌, ◌++◌}
use Rattle.rcv_picture.specs.declared.group.Says.{Says}
use Rattle.rcv_rows.specs.Told.{IsSaid}

-- what is said in one list or in the other is said in both together
pub said_left : (x : Says) (xs ys : List Says) → IsSaid x xs → IsSaid x (xs ++ ys)
said_left x [] ys s = absurd s
said_left x (y ∷ xs) ys (inl e) = inl e
said_left x (y ∷ xs) ys (inr s) = inr (said_left x xs ys s)

pub said_right : (x : Says) (xs ys : List Says) → IsSaid x ys → IsSaid x (xs ++ ys)
said_right x [] ys s = s
said_right x (y ∷ xs) ys s = inr (said_right x xs ys s)

pub said_either : (x : Says) (xs ys : List Says) → IsSaid x (xs ++ ys) → IsSaid x xs ⊎ IsSaid x ys
said_either x [] ys s = inr s
said_either x (y ∷ xs) ys (inl e) = inl (inl e)
said_either x (y ∷ xs) ys (inr s) = ⊎_elim (λ l. inl (inr l)) (λ r. inr r) (said_either x xs ys s)
