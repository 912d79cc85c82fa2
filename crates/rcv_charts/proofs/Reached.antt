-- Points behind points.
use Rattle.std.proofs.Common.{◌≡◌, ℕ, List, [], ◌∷◌, ◌++◌, map, refl}
use Rattle.rcv_model.specs.Places.{SingleMessage}
use Rattle.rcv_charts.specs.declared.reach.Reach.{Reach}
use Rattle.rcv_charts.specs.Statements.{message_point, reached, with_point}

pub reached_two : (reach : Reach) (xs ys : List (ℕ × SingleMessage)) → reached reach (map message_point (xs ++ ys)) ≡ reached (reached reach (map message_point xs)) (map message_point ys)
reached_two reach [] ys = refl
reached_two reach (x ∷ xs) ys = reached_two (with_point reach (message_point x)) xs ys
