-- What a step of the printer puts after a text.
use Rattle.std.specs.Prelude.{◌≡◌, ℕ, List, ◌++◌}
use Rattle.rcv_model.specs.Text.{Body}
use Rattle.rcv_printer.specs.CanonicalText.{body_text}

-- The new text is the old one with this piece after it, whatever follows.
abbrev pub Puts : List ℕ → List ℕ → (List ℕ → List ℕ) → Type 0
Puts old new piece = (next : List ℕ) → new ++ next ≡ old ++ piece next

-- The new text is the old one with these statements after it, whatever statements and whatever else follow.
abbrev pub PutsStatements : List (List ℕ) → List ℕ → List ℕ → List ℕ → (Body → Body) → Type 0
PutsStatements roles margin old new statements =
    (rest : Body) (next : List ℕ) → new ++ body_text roles margin rest next ≡ old ++ body_text roles margin (statements rest) next
