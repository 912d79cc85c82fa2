-- What the scans find is the first line that is asked for.
use Rattle.std.proofs.Common.{◌≡◌, ◌+◌, ◌<◌, ◌≤◌, ◌&&◌, ℕ, zero, suc, Bool, true, false, List, [], ◌∷◌, length, Option, Some, None, refl, sym, ap, ◌⊎◌, inl, inr, arith}
use Rattle.std.specs.Prelude.{◌==◌, nat_eq, if◌then◌else◌, option_map, unwrap_or}
use Rattle.std.specs.List.{starts_with}
use Rattle.rcv_lexer.specs.Parts.{line_of}
use Rattle.rcv_section.specs.Lines.{LineAt}
use Rattle.rcv_section.specs.Sections.{IsTitle, IsHeading, heading_word}
use Rattle.rcv_section.specs.Scanning.{behind_here, behind_from, heading_from, or_else}

same_some : (a b : ℕ) → Some a ≡ Some b → a ≡ b
same_some a b e = ap (λ o. unwrap_or o 0) e

-- The first line that is this one, in a text at a place which may begin within a line; it ends there.
pub record FoundFrom (word : List ℕ) (fresh : Bool) (start : ℕ) (text : List ℕ) (end : ℕ) : Type 0 where
  pub place : ℕ
  pub len : ℕ
  pub is_title : LineAt (IsTitle word len) fresh text place
  pub is_first : (earlier size : ℕ) → earlier < place → LineAt (IsTitle word size) fresh text earlier → ⊥
  pub ends : end ≡ start + place + len

here_some : (word : List ℕ) (fresh : Bool) (start : ℕ) (text : List ℕ) (end : ℕ) → behind_here word fresh start text ≡ Some end
    → (len : ℕ) × (fresh ≡ true) × (line_of word text ≡ Some len) × (end ≡ start + len)
here_some word false start text end e = cc
here_some word true start text end e = go (line_of word text) refl e
  where
    go : (o : Option ℕ) → line_of word text ≡ o → option_map (λ len. start + len) o ≡ Some end → (len : ℕ) × (true ≡ true) × (line_of word text ≡ Some len) × (end ≡ start + len)
    go None is e = cc
    go (Some len) is e = (len, refl, is, sym (same_some (start + len) end e))

here_none : (word : List ℕ) (fresh : Bool) (start : ℕ) (text : List ℕ) (len : ℕ) → behind_here word fresh start text ≡ None → fresh ≡ true → line_of word text ≡ Some len → ⊥
here_none word false start text len e is_fresh is = cc
here_none word true start text len e is_fresh is = go (line_of word text) is e
  where
    go : (o : Option ℕ) → o ≡ Some len → option_map (λ len. start + len) o ≡ None → ⊥
    go None is e = cc
    go (Some n) is e = cc

pub found : (word : List ℕ) (fresh : Bool) (start : ℕ) (text : List ℕ) (end : ℕ) → behind_from word fresh start text ≡ Some end → FoundFrom word fresh start text end
found word fresh start [] end e = cc
found word fresh start (b ∷ bs) end e = go (behind_here word fresh start (b ∷ bs)) refl e (λ more. found word (b == 10) (start + 1) bs end more)
  where
    go : (o : Option ℕ) → behind_here word fresh start (b ∷ bs) ≡ o → or_else o (behind_from word (b == 10) (start + 1) bs) ≡ Some end
        → (behind_from word (b == 10) (start + 1) bs ≡ Some end → FoundFrom word (b == 10) (start + 1) bs end) → FoundFrom word fresh start (b ∷ bs) end
    go (Some p) here e later =
        let it = here_some word fresh start (b ∷ bs) p here in
        record { place = 0; len = it.0; is_title = (it.1, it.2); is_first = λ earlier size less at. absurd (omega (arith, less)); ends = let same = same_some p end e in let at = it.3 in omega (arith, same, at) }
    go None here e later = let it = later e in record { place = suc it.place; len = it.len; is_title = it.is_title; is_first = first it; ends = let at = it.ends in omega (arith, at) }
      where
        first : (it : FoundFrom word (b == 10) (start + 1) bs end) (earlier size : ℕ) → earlier < suc it.place → LineAt (IsTitle word size) fresh (b ∷ bs) earlier → ⊥
        first it zero size less at = here_none word fresh start (b ∷ bs) size here at.0 at.1
        first it (suc earlier) size less at = it.is_first earlier size (omega (arith, less)) at

pub found_none : (word : List ℕ) (fresh : Bool) (start : ℕ) (text : List ℕ) → line_of word [] ≡ None → behind_from word fresh start text ≡ None → (place len : ℕ) → LineAt (IsTitle word len) fresh text place → ⊥
found_none word fresh start [] some e zero len at = let is = at.1 in cc
found_none word fresh start [] some e (suc place) len at = at
found_none word fresh start (b ∷ bs) some e place len at = go (behind_here word fresh start (b ∷ bs)) refl e place at (λ more p. found_none word (b == 10) (start + 1) bs some more p len)
  where
    go : (o : Option ℕ) → behind_here word fresh start (b ∷ bs) ≡ o → or_else o (behind_from word (b == 10) (start + 1) bs) ≡ None → (place : ℕ) → LineAt (IsTitle word len) fresh (b ∷ bs) place
        → (behind_from word (b == 10) (start + 1) bs ≡ None → (p : ℕ) → LineAt (IsTitle word len) (b == 10) bs p → ⊥) → ⊥
    go (Some p) here e place at later = cc
    go None here e zero at later = here_none word fresh start (b ∷ bs) len here at.0 at.1
    go None here e (suc place) at later = later e place at

-- The front up to the first line that begins `session `.
pub record FrontFrom (fresh : Bool) (start : ℕ) (text : List ℕ) (end : ℕ) : Type 0 where
  pub size : ℕ
  pub ends : end ≡ start + size
  pub within : size ≤ length text
  pub clear : (place : ℕ) → place < size → LineAt IsHeading fresh text place → ⊥
  pub up_to : (size ≡ length text) ⊎ LineAt IsHeading fresh text size

both_true : (x y : Bool) → (x && y) ≡ true → (x ≡ true) × (y ≡ true)
both_true true y e = (refl, e)
both_true false y e = cc

not_both : (x y : Bool) → (x && y) ≡ false → x ≡ true → y ≡ true → ⊥
not_both true true e f g = cc
not_both true false e f g = cc
not_both false y e f g = cc

pub front : (fresh : Bool) (start : ℕ) (text : List ℕ) → FrontFrom fresh start text (heading_from fresh start text)
front fresh start [] = record { size = 0; ends = omega arith; within = omega arith; clear = λ place less at. omega (arith, less); up_to = inl refl }
front fresh start (b ∷ bs) = go (fresh && starts_with nat_eq (b ∷ bs) heading_word) refl (front (b == 10) (start + 1) bs)
  where
    go : (here : Bool) → (fresh && starts_with nat_eq (b ∷ bs) heading_word) ≡ here → FrontFrom (b == 10) (start + 1) bs (heading_from (b == 10) (start + 1) bs)
        → FrontFrom fresh start (b ∷ bs) (if here then start else heading_from (b == 10) (start + 1) bs)
    go true e later = record { size = 0; ends = omega arith; within = omega arith; clear = λ place less at. omega (arith, less); up_to = inr (both_true fresh (starts_with nat_eq (b ∷ bs) heading_word) e) }
    go false e later = record {
      size = suc later.size;
      ends = let at = later.ends in omega (arith, at);
      within = let few = later.within in omega (arith, few);
      clear = clear;
      up_to = up_to later.up_to;
    }
      where
        clear : (place : ℕ) → place < suc later.size → LineAt IsHeading fresh (b ∷ bs) place → ⊥
        clear zero less at = not_both fresh (starts_with nat_eq (b ∷ bs) heading_word) e at.0 at.1
        clear (suc place) less at = later.clear place (omega (arith, less)) at

        up_to : (later.size ≡ length bs) ⊎ LineAt IsHeading (b == 10) bs later.size → (suc later.size ≡ length (b ∷ bs)) ⊎ LineAt IsHeading fresh (b ∷ bs) (suc later.size)
        up_to (inl all) = inl (omega (arith, all))
        up_to (inr at) = inr at
