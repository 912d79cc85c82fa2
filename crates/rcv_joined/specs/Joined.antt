-- The journals of several sessions, one after the other.
use Rattle.std.specs.Prelude.{ℕ, ◌+◌, Bool, true, false, codes, decimal, List, [], ◌∷◌, ◌++◌}

-- The line before the text of session i, counted from 0: `session I`, counted from 1. No line stands before its JSON.
abbrev pub heading : Bool → ℕ → List ℕ
heading true i = []
heading false i = codes "session " ++ decimal (i + 1) ++ codes "\n"

-- The texts from session i on, each after its heading.
abbrev pub joined : Bool → ℕ → List (List ℕ) → List ℕ
joined json i [] = []
joined json i (text ∷ texts) = (heading json i ++ text) ++ joined json (i + 1) texts
