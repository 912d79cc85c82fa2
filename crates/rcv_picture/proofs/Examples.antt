-- A document with a `<` in its text, and bytes that are none, since nothing closes a `<` in them.
use Rattle.std.proofs.Common.{◌≡◌, ◌∙◌, inl, inr, ℕ, zero, suc, ◌+◌, ◌-◌, ◌<◌, ◌≤◌, lit≤, List, [], ◌∷◌, ◌++◌, length, refl, sym, ap, subst, arith}
use Rattle.std.specs.Prelude.{Bool, true, false, cond, ◌==◌, codes, sum_by}
use Rattle.std.specs.Borrow.{Bor}
use Rattle.std.proofs.lemmas.Bool.Decides.{nat_tests}
use Rattle.std.proofs.lemmas.List.Sums.{sum_by-append}
use Rattle.std.specs.Char.{is_ascii_alphabetic}
use Rattle.rcv_picture.specs.Tree.{Words, Leaf, Element, NoNodes, nodes, escaped, attribute_text}
use Rattle.rcv_picture.specs.Drawn.{attribute}
use Rattle.rcv_picture.specs.WellFormed.{is_name_byte, are_name_bytes, is_name, is_plain, is_plain_in_value, IsEntity, IsDocument}
use Rattle.rcv_picture.specs.WellFormed.{IsValue, EndOfValue, ByteOfValue, EntityOfValue, AreAttributes, NoAttribute, OneAttribute}
use Rattle.rcv_picture.specs.WellFormed.{IsContent, EndOfContent, ByteOfContent, EntityOfContent, ElementOfContent, IsElement, OneTag, TwoTags}
use Rattle.rcv_picture.specs.Laws.{is_proper}
use Rattle.rcv_picture.specs.Names.{cut_words, IsShortened, as_it_is, too_long, is_seam_at, IsLineEnd, at_seam, AreLinesOf, one_line, more_lines}
use Rattle.rcv_picture.proofs.Spelling.{and_left, and_right, well_formed}

-- an element with an attribute and a text
a_document : IsDocument (codes "<a b=\"&quot;\">1 &lt; 2</a>")
unfolding attribute_text
a_document = well_formed (codes "a") (attribute (codes "b") (codes "\"") ∷ []) (nodes (Words (codes "1 < 2") ∷ [])) refl

-- a control byte, which no document has
control_bytes_are_replaced : escaped (65 ∷ 7 ∷ []) ≡ codes "A?"
control_bytes_are_replaced = refl

-- two attributes with one name, and a name that begins with a digit
one_name_twice : is_proper (Leaf (codes "a") (attribute (codes "b") [] ∷ attribute (codes "b") [] ∷ [])) ≡ false
one_name_twice = refl

digits_are_no_names : is_proper (Element (codes "1") [] NoNodes) ≡ false
digits_are_no_names = refl

-- How many `<` and how many `>` there are.
abbrev opens : ℕ → ℕ
opens c = cond (c == 60) 1 0

abbrev opened : List ℕ → ℕ
opened w = sum_by opens w

abbrev closes : ℕ → ℕ
closes c = cond (c == 62) 1 0

abbrev closed : List ℕ → ℕ
closed w = sum_by closes w

same : (c d : ℕ) → (c == d) ≡ true → c ≡ d
same c d e = grind (arith, nat_tests)

-- what a test refuses isn't there
other : (p : ℕ → Bool) → p 60 ≡ false → (c : ℕ) (b : Bool) → (c == 60) ≡ b → p c ≡ true → opens c ≡ 0
other p lacks c true e passes = absurd (clash (sym (subst (λ x. p x ≡ true) (same c 60 e) passes) ∙ lacks))
  where
    clash : true ≡ false → ⊥
    clash e = cc (e)
other p lacks c false e passes = ap (λ b. cond b 1 0) e

bytes_free : (cs : List ℕ) → are_name_bytes cs ≡ true → opened cs ≡ 0
bytes_free [] e = refl
bytes_free (c ∷ cs) e =
    let here : opens c ≡ 0 = other is_name_byte refl c (c == 60) refl (and_left (is_name_byte c) (are_name_bytes cs) e) in
    let later : opened cs ≡ 0 = bytes_free cs (and_right (is_name_byte c) (are_name_bytes cs) e) in
    let whole : opened (c ∷ cs) ≡ (0 + opens c) + opened cs = sum_by-append opens (c ∷ []) cs in
    omega (arith, here, later, whole)

name_free : (cs : List ℕ) → is_name cs ≡ true → opened cs ≡ 0
name_free [] e = refl
name_free (c ∷ cs) e =
    let here : opens c ≡ 0 = other is_ascii_alphabetic refl c (c == 60) refl (and_left (is_ascii_alphabetic c) (are_name_bytes cs) e) in
    let later : opened cs ≡ 0 = bytes_free cs (and_right (is_ascii_alphabetic c) (are_name_bytes cs) e) in
    let whole : opened (c ∷ cs) ≡ (0 + opens c) + opened cs = sum_by-append opens (c ∷ []) cs in
    omega (arith, here, later, whole)

entity_free : (w : List ℕ) → IsEntity w → opened w ≡ 0
entity_free w (inl e) = ap opened e
entity_free w (inr (inl e)) = ap opened e
entity_free w (inr (inr (inl e))) = ap opened e
entity_free w (inr (inr (inr e))) = ap opened e

value_free : {w : List ℕ} → IsValue w → opened w ≡ 0
value_free EndOfValue = refl
value_free (ByteOfValue c rest plain more) =
    let here : opens c ≡ 0 = other is_plain_in_value refl c (c == 60) refl plain in
    let later : opened rest ≡ 0 = value_free more in
    let whole : opened (c ∷ rest) ≡ (0 + opens c) + opened rest = sum_by-append opens (c ∷ []) rest in
    omega (arith, here, later, whole)
value_free (EntityOfValue entity rest is more) =
    let here : opened entity ≡ 0 = entity_free entity is in
    let later : opened rest ≡ 0 = value_free more in
    let all : opened (entity ++ rest) ≡ opened entity + opened rest = sum_by-append opens entity rest in
    omega (arith, here, later, all)

attributes_free : {names : List (List ℕ)} {w : List ℕ} → AreAttributes names w → opened w ≡ 0
attributes_free NoAttribute = refl
attributes_free (OneAttribute name value names rest named distinct fits more) =
    let first : List ℕ = codes " " ++ name ++ codes "=\"" ++ value ++ codes "\"" in
    let all : opened (first ++ rest) ≡ opened first + opened rest = sum_by-append opens first rest in
    let u : opened first ≡ opened (codes " " ++ name ++ codes "=\"" ++ value) + 0 = sum_by-append opens (codes " " ++ name ++ codes "=\"" ++ value) (codes "\"") in
    let v : opened (codes " " ++ name ++ codes "=\"" ++ value) ≡ opened (codes " " ++ name ++ codes "=\"") + opened value = sum_by-append opens (codes " " ++ name ++ codes "=\"") value in
    let x : opened (codes " " ++ name ++ codes "=\"") ≡ opened (codes " " ++ name) + 0 = sum_by-append opens (codes " " ++ name) (codes "=\"") in
    let y : opened (codes " " ++ name) ≡ 0 + opened name = sum_by-append opens (codes " ") name in
    let a : opened name ≡ 0 = name_free name named in
    let b : opened value ≡ 0 = value_free fits in
    let d : opened rest ≡ 0 = attributes_free more in
    omega (arith, all, u, v, x, y, a, b, d)

mutual
  content_bound : {w : List ℕ} → IsContent w → opened w ≤ closed w
  content_bound EndOfContent = omega arith
  content_bound (ByteOfContent c rest plain more) =
      let here : opens c ≡ 0 = other is_plain refl c (c == 60) refl plain in
      let later : opened rest ≤ closed rest = content_bound more in
      let whole : opened (c ∷ rest) ≡ (0 + opens c) + opened rest = sum_by-append opens (c ∷ []) rest in
      let ends : closed (c ∷ rest) ≡ (0 + closes c) + closed rest = sum_by-append closes (c ∷ []) rest in
      omega (arith, here, later, whole, ends)
  content_bound (EntityOfContent entity rest is more) =
      let here : opened entity ≡ 0 = entity_free entity is in
      let later : opened rest ≤ closed rest = content_bound more in
      let all : opened (entity ++ rest) ≡ opened entity + opened rest = sum_by-append opens entity rest in
      let ends : closed (entity ++ rest) ≡ closed entity + closed rest = sum_by-append closes entity rest in
      omega (arith, here, later, all, ends)
  content_bound (ElementOfContent element rest is more) =
      let here : opened element ≤ closed element = element_bound is in
      let later : opened rest ≤ closed rest = content_bound more in
      let all : opened (element ++ rest) ≡ opened element + opened rest = sum_by-append opens element rest in
      let ends : closed (element ++ rest) ≡ closed element + closed rest = sum_by-append closes element rest in
      omega (arith, here, later, all, ends)

  element_bound : {w : List ℕ} → IsElement w → opened w ≤ closed w
  element_bound (OneTag name names attributes named fit) =
      let front : opened (codes "<" ++ name ++ attributes) ≡ opened (codes "<" ++ name) + opened attributes = sum_by-append opens (codes "<" ++ name) attributes in
      let all : opened (codes "<" ++ name ++ attributes ++ codes "/>") ≡ opened (codes "<" ++ name ++ attributes) + 0 = sum_by-append opens (codes "<" ++ name ++ attributes) (codes "/>") in
      let ends : closed (codes "<" ++ name ++ attributes ++ codes "/>") ≡ closed (codes "<" ++ name ++ attributes) + 1 = sum_by-append closes (codes "<" ++ name ++ attributes) (codes "/>") in
      let a : opened name ≡ 0 = name_free name named in
      let b : opened attributes ≡ 0 = attributes_free fit in
      let first : opened (codes "<" ++ name) ≡ 1 + opened name = sum_by-append opens (codes "<") name in
      omega (arith, front, all, ends, a, b, first)
  element_bound (TwoTags name names attributes content named fit inner) =
      let tag : List ℕ = codes "<" ++ name ++ attributes in
      let close : List ℕ = codes "</" ++ name ++ codes ">" in
      let front : opened tag ≡ opened (codes "<" ++ name) + opened attributes = sum_by-append opens (codes "<" ++ name) attributes in
      let first : opened (codes "<" ++ name) ≡ 1 + opened name = sum_by-append opens (codes "<") name in
      let u : opened (tag ++ codes ">") ≡ opened tag + 0 = sum_by-append opens tag (codes ">") in
      let v : closed (tag ++ codes ">") ≡ closed tag + 1 = sum_by-append closes tag (codes ">") in
      let x : opened (tag ++ codes ">" ++ content) ≡ opened (tag ++ codes ">") + opened content = sum_by-append opens (tag ++ codes ">") content in
      let y : closed (tag ++ codes ">" ++ content) ≡ closed (tag ++ codes ">") + closed content = sum_by-append closes (tag ++ codes ">") content in
      let p : opened (tag ++ codes ">" ++ content ++ close) ≡ opened (tag ++ codes ">" ++ content) + opened close = sum_by-append opens (tag ++ codes ">" ++ content) close in
      let q : closed (tag ++ codes ">" ++ content ++ close) ≡ closed (tag ++ codes ">" ++ content) + closed close = sum_by-append closes (tag ++ codes ">" ++ content) close in
      let r : opened close ≡ opened (codes "</" ++ name) + 0 = sum_by-append opens (codes "</" ++ name) (codes ">") in
      let s : closed close ≡ closed (codes "</" ++ name) + 1 = sum_by-append closes (codes "</" ++ name) (codes ">") in
      let k : opened (codes "</" ++ name) ≡ 1 + opened name = sum_by-append opens (codes "</") name in
      let a : opened name ≡ 0 = name_free name named in
      let b : opened attributes ≡ 0 = attributes_free fit in
      let d : opened content ≤ closed content = content_bound inner in
      omega (arith, front, first, u, v, x, y, p, q, r, s, k, a, b, d)

-- three `<` and two `>`
a_bare_mark : IsDocument (codes "<a><</a>") → ⊥
a_bare_mark document = omega (arith, element_bound document)

-- A name of 17 letters is cut to 16; one of three letters isn't cut.
long_name : IsShortened 16 (codes "abcdefghijklmnopq") (cut_words (codes "abcdefghij") (codes "mnopq"))
long_name =
    too_long (lit≤ tt)
    (record { front = codes "abcdefghij"; middle = codes "kl"; back = codes "mnopq"; whole = refl; letters = refl; third = refl; is = refl })

short_name : IsShortened 16 (codes "pay") (codes "p") → ⊥
short_name (as_it_is few is) = absurd cc
short_name (too_long long cut) = absurd (omega (arith, long))

-- A name may be broken after `_`, and before a capital letter after a small one.
seams : (is_seam_at (codes "front_desk") 6 ≡ true) × (is_seam_at (codes "frontDesk") 5 ≡ true) × (is_seam_at (codes "frontDesk") 6 ≡ false)
seams = (refl, refl, refl)

-- A name of 15 letters stands in two lines; one of two letters doesn't.
abbrev desk : List ℕ
desk = codes "storefront_Desk"

no_later_seam : (more : ℕ) → more < 3 → is_seam_at desk (more + 12) ≡ false
no_later_seam zero few = refl
no_later_seam (suc zero) few = refl
no_later_seam (suc (suc zero)) few = refl
no_later_seam (suc (suc (suc more))) few = absurd (omega (arith, few))

desk_ends : IsLineEnd desk 11
desk_ends =
    at_seam (lit≤ tt) (lit≤ tt) refl
    (λ letters after before.
    let there : (letters - 12) + 12 ≡ letters = omega (arith, after) in
    subst (λ (n : ℕ). is_seam_at desk n ≡ false) there (no_later_seam (letters - 12) (omega (arith, after, before))))

two_lines : (first second : Bor (List ℕ)) → first.now ≡ codes "storefront_" → second.now ≡ codes "Desk" → AreLinesOf desk (first ∷ second ∷ [])
two_lines first second is after =
    more_lines desk (codes "Desk") first (second ∷ []) (lit≤ tt) (ap (λ (t : List ℕ). t ++ codes "Desk") is)
    (subst (λ (t : List ℕ). IsLineEnd desk (length t)) (sym is) desk_ends) (one_line (codes "Desk") second (lit≤ tt) after)

two_lines_of_two : (first second : Bor (List ℕ)) → AreLinesOf (codes "me") (first ∷ second ∷ []) → ⊥
two_lines_of_two first second (more_lines name rest line lines long cut end are) = absurd (omega (arith, long))
