-- The lines that say what a journal is.
use Rattle.std.specs.Prelude.{ℕ, codes, decimal, Bool, true, false, List, ◌++◌}

-- How the session ended.
abbrev pub end_word : Bool → List ℕ
end_word true = codes "limited\n"
end_word false = codes "completed\n"

-- `legal 4 entries completed`, or `limited`
abbrev pub legal_line : ℕ → Bool → List ℕ
legal_line entries limited = codes "legal " ++ decimal entries ++ codes " entries " ++ end_word limited

-- `wrong entry 2`, counted from 1
abbrev pub wrong_line : ℕ → List ℕ
wrong_line number = codes "wrong entry " ++ decimal number ++ codes "\n"

abbrev pub wrong_end_line : List ℕ
wrong_end_line = codes "wrong end\n"
