-- Where the machine stops at a symbol that isn't awaited, or goes on with what is awaited behind.
use Rattle.std.proofs.Common.{◌≡◌, ℕ, ℤ, Bool, true, false, List, [], ◌∷◌, refl, sym, ap, ◌∙◌, codes, arith, rules}
use Rattle.std.proofs.Common.{bytes_eq, ◌<◌, ◌≤◌, length, Option, Result, Ok, Err, IfOk, pos}
use Rattle.std.proofs.lemmas.Bool.Decides.{nat_tests}
use Rattle.std.proofs.lemmas.Slice.Eq.{bytes_eq-Decides}
use Rattle.rcv_model.specs.Script.{Expr, Line}
use denote.Enum.Bare.{same_true}
use Rattle.rcv_script.specs.contracts.sign.Sign.{the_type}
use Rattle.rcv_script.specs.declared.sign.Sign.TheVariants as signs
use Rattle.rcv_script.specs.declared.fault.Fault.{Fault}
use Rattle.rcv_script.specs.declared.fault.Fault.TheVariants.{Token}
use Rattle.rcv_script.specs.Symbols.{Symbol, Is, Word, Number, Text, IsNotNext, NoWord, NoNumber}
use Rattle.rcv_script.specs.Machine.{Item, Scripts, Known, script_of, Lines, ALine, This, AWord, ASigned, ANumber}
use Rattle.rcv_script.specs.Machine.{AnEnd, AnAtom, Factors, Terms, Place, Writing, meets, with_line, Refuses, answer}

pub same_word : (a b : List ℕ) → bytes_eq a b ≡ true → a ≡ b
same_word a b e = (bytes_eq-Decides a b).0 e

pub meets_only : (t m : Symbol) → meets t m ≡ true → t ≡ m
meets_only (Is a) (Is b) e = ap Is (same_true the_type (search rules) a b e)
meets_only (Word a) (Word b) e = ap Word (same_word a b e)
meets_only (Number a) (Number b) e = ap Number (grind (arith, nat_tests))
meets_only (Text a) (Text b) e = ap Text ((bytes_eq-Decides a b).0 e)
meets_only _ _ e = absurd cc

-- a mark or a word that isn't next
pub no_sign : (m : Symbol) (ts : List Symbol) → IsNotNext m ts → (k : Item) → answer (This m k) ts ≡ Refuses Token ts
no_sign m [] h k = refl
no_sign m (t ∷ ts) h k = let same = meets_only t m in let other = h ts in grind (arith, nat_tests, same, other)

-- a word or a number that isn't next
pub no_word : (ts : List Symbol) → NoWord ts → (fault : List ℕ → Option Fault) (k : List ℕ → Item) → answer (AWord fault k) ts ≡ Refuses Token ts
no_word (Word w ∷ ts) h fault k = absurd (h w ts refl)
no_word _ h fault k = refl

pub no_line : (ts : List Symbol) → NoWord ts → (s : Writing) (k : List (List ℕ) × Line → Item) → answer (ALine s k) ts ≡ Refuses Token ts
no_line (Word w ∷ ts) h s k = absurd (h w ts refl)
no_line _ h s k = refl

pub to_number : (now new : List Symbol) → (new ≡ now) × IsNotNext (Is signs.Minus) now → (k : ℤ → Item)
    → answer (ASigned k) now ≡ answer (ANumber (λ n. k (pos n))) new
to_number (Is signs.Minus ∷ ts) new h k = absurd (h.1 ts refl)
to_number now new h k = ap (answer (ANumber (λ n. k (pos n)))) (sym h.0)

pub no_signed : (below : Bool) (now new : List Symbol) → (below ≡ true → now ≡ Is signs.Minus ∷ new)
    → (below ≡ false → (new ≡ now) × IsNotNext (Is signs.Minus) now) → NoNumber new → (k : ℤ → Item) → answer (ASigned k) now ≡ Refuses Token new
no_signed below now (Number n ∷ ts) f g h k = absurd (h n ts refl)
no_signed true now new f g h k = ap (answer (ASigned k)) (f refl)
no_signed false now new f g h k = to_number now new (g refl) k

pub no_atom : (p : Place) (ts : List Symbol) → NoNumber ts → NoWord ts → IsNotNext (Is signs.Minus) ts → IsNotNext (Is signs.Left) ts
    → (k : Expr → Item) → answer (AnAtom p k) ts ≡ Refuses Token ts
no_atom p (Number n ∷ ts) a b c d k = absurd (a n ts refl)
no_atom p (Word w ∷ ts) a b c d k = absurd (b w ts refl)
no_atom p (Is signs.Minus ∷ ts) a b c d k = absurd (c ts refl)
no_atom p (Is signs.Left ∷ ts) a b c d k = absurd (d ts refl)
no_atom p _ a b c d k = refl

-- a line of which two words were taken, and the rest, leaves less than stood from its first word on
pub fewer : {X E : Type 0} (r : Result X E) (t u : Symbol) (old mid after new : List Symbol) → old ≡ t ∷ mid
    → mid ≡ u ∷ after → IfOk r (λ _. length new ≤ length after) → IfOk r (λ _. length new < length old)
fewer (Ok x) t u old mid after new is then h = rw (is, then) (omega (arith, h))
fewer (Err e) t u old mid after new is then h = tt

-- no more factors, terms, lines or scripts, and no end of a line
pub factors_end : (p : Place) (left : Expr) (now new : List Symbol) → (new ≡ now) × IsNotNext (Is signs.Times) now → (k : Expr → Item)
    → answer (Factors p left k) now ≡ answer (k left) new
factors_end p left (Is signs.Times ∷ ts) new h k = absurd (h.1 ts refl)
factors_end p left now new h k = ap (answer (k left)) (sym h.0)

pub terms_end : (p : Place) (left : Expr) (now new : List Symbol)
    → (new ≡ now) × IsNotNext (Is signs.Plus) now × IsNotNext (Is signs.Minus) now → (k : Expr → Item)
    → answer (Terms p left k) now ≡ answer (k left) new
terms_end p left (Is signs.Plus ∷ ts) new h k = absurd (h.1 ts refl)
terms_end p left (Is signs.Minus ∷ ts) new h k = absurd (h.2 ts refl)
terms_end p left now new h k = ap (answer (k left)) (sym h.0)

pub to_line : (s : Writing) (now new : List Symbol) → (new ≡ now) × IsNotNext (Is signs.Close) now → (k : List Line → Item)
    → answer (Lines s k) now ≡ answer (ALine s (λ x. Lines (with_line s x) k)) new
to_line s (Is signs.Close ∷ ts) new h k = absurd (h.1 ts refl)
to_line s now new h k = ap (answer (ALine s (λ x. Lines (with_line s x) k))) (sym h.0)

pub to_end : (now new : List Symbol) → (new ≡ now) × IsNotNext (Word (codes "when")) now → (plain when : Item)
    → answer (AnEnd plain when) now ≡ answer (This (Is signs.Semicolon) plain) new
to_end (Word w ∷ ts) new h plain when =
    no_sign (Word (codes "when")) (Word w ∷ ts) h.1 when ∙ ap (answer (This (Is signs.Semicolon) plain)) (sym h.0)
to_end (Is signs.Semicolon ∷ ts) new h plain when = ap (answer (This (Is signs.Semicolon) plain)) (sym h.0)
to_end now new h plain when = ap (answer (This (Is signs.Semicolon) plain)) (sym h.0)

pub no_script : (k : Known) (now new : List Symbol) → (new ≡ now) × IsNotNext (Word (codes "role")) now → (new ≡ [] → ⊥)
    → answer (Scripts k) now ≡ Refuses Token new
no_script k [] new h more = absurd (more h.0)
no_script k (Word w ∷ ts) new h more =
    no_sign (Word (codes "role")) (Word w ∷ ts) h.1 (script_of k) ∙ ap (Refuses Token) (sym h.0)
no_script k now new h more = ap (Refuses Token) (sym h.0)
