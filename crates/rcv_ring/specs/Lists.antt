-- A list that begins another.
use Rattle.std.specs.Prelude.{◌≡◌, List, ◌++◌}

-- The second list is the first one, and perhaps more after it.
abbrev pub Begins : {A : Type 0} → List A → List A → Type 0
Begins {A} xs ys = (rest : List A) × (xs ++ rest ≡ ys)
