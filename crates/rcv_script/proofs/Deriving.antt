-- What is awaited derives lists of symbols, of which each says the lines of all roles. Codes play no part in it.
use Rattle.std.proofs.Common.{◌≡◌, ℕ, Bool, false, codes, List, [], ◌∷◌, ◌++◌, refl, ◌⊎◌, inl, pos, None}
use Rattle.rcv_model.specs.Script.{Literal, Test, Less, Line, PickLine}
use Rattle.rcv_script.specs.declared.sign.Sign.TheVariants as signs
use Rattle.rcv_script.specs.Symbols.{Symbol, Is, Word, Number}
use Rattle.rcv_script.specs.Grammar.{WrittenAtom, Digits, MoreAtoms, NoAtom, MoreProducts, NoProduct, WrittenLine}
use Rattle.rcv_script.specs.Grammar.{PickText, WrittenScript, atom_text, atoms_text, products_text, test_mark}
use Rattle.rcv_script.specs.Grammar.{number_text, line_text, lines_text, scripts_text}
use Rattle.rcv_script.specs.Meaning.{atom_says, product_says, terms_say, signed_number, line_says, names_behind, lines_say, scripts_say}
use Rattle.rcv_script.specs.Machine.{Item, Scripts, Lines, ALine, This, AWord, ASigned, ANumber, AnEnd, ATest, AnAtom, Factors, Terms}

-- the lines of all roles
abbrev pub AllLines : Type 0
AllLines = List (List Line)

-- The item derives the symbols, which say these lines of all roles.
abbrev pub Derives : Item → List Symbol → AllLines → Type 0
Derives (Scripts known) ts ss = (ws : List WrittenScript) × (ts ≡ scripts_text ws) × (ss ≡ scripts_say known.roles known.scripts ws)
Derives (Lines s k) ts ss =
    (ws : List WrittenLine) × (us : List Symbol) × (ts ≡ lines_text ws us) × Derives (k (s.lines ++ lines_say s.names ws)) us ss
Derives (ALine s k) ts ss =
    (w : WrittenLine) × (us : List Symbol) × (ts ≡ line_text w us) × Derives (k (names_behind s.names w, line_says s.names w)) us ss
Derives (This m k) ts ss = (us : List Symbol) × (ts ≡ m ∷ us) × Derives k us ss
Derives (AWord fault k) ts ss = (w : List ℕ) × (us : List Symbol) × (ts ≡ Word w ∷ us) × Derives (k w) us ss
Derives (ASigned k) ts ss =
    (below : Bool) × (n : ℕ) × (us : List Symbol) × (ts ≡ number_text below n us) × Derives (k (signed_number below n)) us ss
Derives (ANumber k) ts ss = (n : ℕ) × (us : List Symbol) × (ts ≡ Number n ∷ us) × Derives (k n) us ss
Derives (AnEnd plain when) ts ss =
    ((us : List Symbol) × (ts ≡ Is signs.Semicolon ∷ us) × Derives plain us ss)
    ⊎ ((us : List Symbol) × (ts ≡ Word (codes "when") ∷ us) × Derives when us ss)
Derives (ATest k) ts ss = (t : Test) × (us : List Symbol) × (ts ≡ Is (test_mark t) ∷ us) × Derives (k t) us ss
Derives (AnAtom p k) ts ss =
    (a : WrittenAtom) × (us : List Symbol) × (ts ≡ atom_text a us) × Derives (k (atom_says p.names a)) us ss
Derives (Factors p left k) ts ss =
    (more : MoreAtoms) × (us : List Symbol) × (ts ≡ atoms_text more us) × Derives (k (product_says p.names left more)) us ss
Derives (Terms p left k) ts ss =
    (more : MoreProducts) × (us : List Symbol) × (ts ≡ products_text more us) × Derives (k (terms_say p.names left more)) us ss

-- It derives some list.
pub completion : (i : Item) → (ts : List Symbol) × (ss : AllLines) × Derives i ts ss
completion (Scripts known) = ([], known.scripts, ([], refl, refl))
completion (Lines s k) = let r = completion (k (s.lines ++ [])) in (Is signs.Close ∷ r.0, r.1, ([], r.0, refl, r.2))
completion (ALine s k) =
    let r = completion (k (s.names, PickLine [] None)) in (line_text (PickText []) r.0, r.1, (PickText [], r.0, refl, r.2))
completion (This m k) = let r = completion k in (m ∷ r.0, r.1, (r.0, refl, r.2))
completion (AWord fault k) = let r = completion (k []) in (Word [] ∷ r.0, r.1, ([], r.0, refl, r.2))
completion (ASigned k) = let r = completion (k (pos 0)) in (Number 0 ∷ r.0, r.1, (false, 0, r.0, refl, r.2))
completion (ANumber k) = let r = completion (k 0) in (Number 0 ∷ r.0, r.1, (0, r.0, refl, r.2))
completion (AnEnd plain when) = let r = completion plain in (Is signs.Semicolon ∷ r.0, r.1, inl (r.0, refl, r.2))
completion (ATest k) = let r = completion (k Less) in (Is signs.Less ∷ r.0, r.1, (Less, r.0, refl, r.2))
completion (AnAtom p k) = let r = completion (k (Literal 0)) in (Number 0 ∷ r.0, r.1, (Digits 0, r.0, refl, r.2))
completion (Factors p left k) = let r = completion (k left) in (r.0, r.1, (NoAtom, r.0, refl, r.2))
completion (Terms p left k) = let r = completion (k left) in (r.0, r.1, (NoProduct, r.0, refl, r.2))
