-- Names in lines, and names that are cut.
use Rattle.std.proofs.Common.{◌≡◌, ℕ, true, false, ◌+◌, ◌/◌, ◌<◌, ◌≤◌, List, [], ◌∷◌, ◌++◌, length, take, drop, refl, sym, ◌∙◌, ap, subst, ⊎_elim, arith, append_assoc, append-nil}
use Rattle.std.specs.Borrow.{Bor}
use Rattle.std.proofs.lemmas.Bool.{cases_lt}
use Rattle.std.proofs.lemmas.List.{take-append-drop}
use Rattle.std.proofs.lemmas.List.Concat.{flat_map-append}
use Rattle.rcv_picture.specs.Names.{joined, cut_words, IsCut, IsShortened, as_it_is, too_long}
use Rattle.rcv_picture.specs.Names.{is_seam_at, HasNoSeam, IsEndBefore, at_seam, full_line, IsLineEnd, AreLinesOf, one_line, more_lines}

-- one text more
pub joined_more : (texts more : List (Bor (List ℕ))) (text : Bor (List ℕ)) → more ≡ texts ++ text ∷ [] → joined more ≡ joined texts ++ text.now
joined_more texts more text is =
    ap joined is ∙ flat_map-append (λ (t : Bor (List ℕ)). t.now) texts (text ∷ []) ∙ ap (λ (t : List ℕ). joined texts ++ t) (append-nil text.now)

-- a name that is split in two
pub split_in_two : (name front back : List ℕ) (n : ℕ) → front ≡ take n name → back ≡ drop n name → front ++ back ≡ name
split_in_two name front back n is_front is_back =
    ap (λ (f : List ℕ). f ++ back) is_front ∙ ap (λ (b : List ℕ). take n name ++ b) is_back ∙ take-append-drop n name

-- a name without its middle
pub cut_is : (most : ℕ) (name front rest middle back text : List ℕ) → front ++ rest ≡ name → middle ++ back ≡ rest
    → length front + 1 + length back ≡ most → length back ≡ most / 3 → text ≡ cut_words front back → IsCut most name text
cut_is most name front rest middle back text first second letters third is =
    record {
      front = front;
      middle = middle;
      back = back;
      whole = sym (ap (λ (r : List ℕ). front ++ r) second ∙ first);
      letters = letters;
      third = third;
      is = is;
    }

pub name_fits : (most : ℕ) (name text : List ℕ) → length name ≤ most → text ≡ name → IsShortened most name text
name_fits most name text few is = as_it_is few is

pub name_is_cut : (most : ℕ) (name text : List ℕ) → most < length name → IsCut most name text → IsShortened most name text
name_is_cut most name text long is = too_long long is

-- one place more that is no seam
pub no_seam_more : (name : List ℕ) (from to : ℕ) → HasNoSeam name from to → is_seam_at name to ≡ false → HasNoSeam name from (to + 1)
no_seam_more name from to none one letters after before =
    ⊎_elim
    (λ (less : letters < to). none letters after less)
    (λ (more : to ≤ letters). let same : to ≡ letters = omega (arith, more, before) in subst (λ (n : ℕ). is_seam_at name n ≡ false) same one)
    (cases_lt letters to)

-- no end yet; a seam; and a place that is none
pub no_end : (name : List ℕ) (end : ℕ) → end ≡ 14 → IsEndBefore name 7 end
no_end name end is = full_line is (λ letters after before. absurd (omega (arith, after, before)))

pub seam_found : (name : List ℕ) (to end : ℕ) → 7 ≤ to → end ≡ to → is_seam_at name to ≡ true → IsEndBefore name (to + 1) end
seam_found name to end least same is =
    subst (λ (n : ℕ). IsEndBefore name (to + 1) n) (sym same)
    (at_seam least (omega arith) is (λ letters after before. absurd (omega (arith, after, before))))

none_there : (name : List ℕ) (to end : ℕ) → IsEndBefore name to end → is_seam_at name to ≡ false → IsEndBefore name (to + 1) end
none_there name to end (at_seam least most is none) one = at_seam least (omega (arith, most)) is (no_seam_more name (end + 1) to none one)
none_there name to end (full_line is none) one = full_line is (no_seam_more name 7 to none one)

pub none_found : (name : List ℕ) (to end same : ℕ) → IsEndBefore name to end → same ≡ end → is_seam_at name to ≡ false → IsEndBefore name (to + 1) same
none_found name to end same before is one = subst (λ (n : ℕ). IsEndBefore name (to + 1) n) (sym is) (none_there name to end before one)

-- a line has some letters, and at most 14
pub some_letters : (name : List ℕ) (end : ℕ) → IsLineEnd name end → 7 ≤ end
some_letters name end (at_seam least most is none) = least
some_letters name end (full_line is none) = omega (arith, is)

pub few_letters : (name : List ℕ) (end : ℕ) → IsLineEnd name end → end ≤ 14
few_letters name end (at_seam least most is none) = omega (arith, most)
few_letters name end (full_line is none) = omega (arith, is)

-- the lines so far: with the lines of what is left they are the lines of the name
abbrev pub AreTaken : List ℕ → List (Bor (List ℕ)) → List ℕ → Type 0
AreTaken name lines rest = (later : List (Bor (List ℕ))) → AreLinesOf rest later → AreLinesOf name (lines ++ later)

pub none_taken : (name rest : List ℕ) → rest ≡ name → AreTaken name [] rest
none_taken name rest same later are = subst (λ (n : List ℕ). AreLinesOf n later) same are

pub line_taken : (name rest after : List ℕ) (lines more : List (Bor (List ℕ))) (line : Bor (List ℕ)) → AreTaken name lines rest → 14 < length rest
    → line.now ++ after ≡ rest → IsLineEnd rest (length line.now) → more ≡ lines ++ line ∷ [] → AreTaken name more after
line_taken name rest after lines more line so_far long cut end is later are =
    subst (λ (all : List (Bor (List ℕ))). AreLinesOf name all)
    (sym (ap (λ (m : List (Bor (List ℕ))). m ++ later) is ∙ append_assoc lines (line ∷ []) later))
    (so_far (line ∷ later) (more_lines rest after line later long cut end are))

pub last_line : (name : List ℕ) (lines all : List (Bor (List ℕ))) (rest : Bor (List ℕ)) → AreTaken name lines rest.now → length rest.now ≤ 14
    → all ≡ lines ++ rest ∷ [] → AreLinesOf name all
last_line name lines all rest so_far few is =
    subst (λ (l : List (Bor (List ℕ))). AreLinesOf name l) (sym is) (so_far (rest ∷ []) (one_line rest.now rest few refl))

-- put together they are the name
pub lines_are_name : (name : List ℕ) (lines : List (Bor (List ℕ))) → AreLinesOf name lines → joined lines ≡ name
lines_are_name name lines (one_line whole line few is) = append-nil line.now ∙ is
lines_are_name name lines (more_lines whole rest line more long cut end are) =
    ap (λ (t : List ℕ). line.now ++ t) (lines_are_name rest more are) ∙ cut
