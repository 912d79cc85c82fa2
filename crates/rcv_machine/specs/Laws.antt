-- What the machine's answer says in the grammar's words.
use Rattle.std.specs.Prelude.{◌≡◌, ◌↔◌, List, [], ◌∷◌, ◌++◌}
use Rattle.rcv_machine.specs.Words.{Fault, Token, Symbol, IsDerived, IsBeginning, IsFree, IsFirst, Answer, Taken, Refuses, reading}

-- The first wrong symbol stands at left, or the end if it comes too early: the symbols before are the beginning
-- of a list that the grammar derives, and with this symbol they are not; at the end the whole list isn't derived.
abbrev pub IsFirstWrong : List Symbol → List Symbol → Type 0
IsFirstWrong symbols [] = IsBeginning symbols × (IsDerived symbols → ⊥)
IsFirstWrong symbols (t ∷ ts) =
    (front : List Symbol) × (symbols ≡ front ++ t ∷ ts) × IsBeginning front × (IsBeginning (front ++ t ∷ []) → ⊥)

-- The symbols up to this one are the beginning of a list that the grammar derives.
abbrev pub IsSoFar : List Symbol → List Symbol → Type 0
IsSoFar symbols [] = ⊥
IsSoFar symbols (t ∷ ts) = (front : List Symbol) × (symbols ≡ front ++ t ∷ ts) × IsBeginning (front ++ t ∷ [])

abbrev pub IsFair : List Symbol → Answer → Type 0
IsFair symbols Taken = IsDerived symbols
IsFair symbols (Refuses Token left) = IsFirstWrong symbols left
IsFair symbols (Refuses _ left) = IsSoFar symbols left

-- The machine takes only what the grammar derives, and refuses at the right symbol.
abbrev pub CodesAreFair : Type 0
CodesAreFair = (symbols : List Symbol) → IsFair symbols (reading symbols)

-- A text is taken exactly if the grammar derives it and no code holds.
abbrev pub TextsAreTakenExactly : Type 0
TextsAreTakenExactly = (symbols : List Symbol) → (reading symbols ≡ Taken) ↔ (IsDerived symbols × IsFree symbols)

-- It is refused exactly at the first symbol, or the end, at which a code holds, with the least one.
abbrev pub TextsAreRefusedExactly : Type 0
TextsAreRefusedExactly = (symbols : List Symbol) (f : Fault) (left : List Symbol) → (reading symbols ≡ Refuses f left)
    ↔ IsFirst symbols f left
