-- Where texts stand one behind another, each behind the line of its session, a session's section is its text.
use Rattle.std.proofs.Common.{◌≡◌, ◌+◌, ◌^◌, ◌<◌, ◌≤◌, ℕ, zero, suc, true, false, List, [], ◌∷◌, ◌++◌, length, take, drop, refl, sym, ap, ◌∙◌, subst, ◌⊎◌, inl, inr, ⊎_elim, arith, append_assoc, length-append}
use Rattle.std.specs.Prelude.{slice_index_or}
use Rattle.std.specs.List.{All}
use Rattle.std.proofs.lemmas.List.Elements.{All-head, All-tail}
use Rattle.std.proofs.Math.Seq.{drop-append-add, drop-append_seam, take-append_seam}
use Rattle.rcv_lexer.specs.Parts.{line_of}
use Rattle.rcv_joined.specs.Joined.{joined}
use Rattle.rcv_section.specs.declared.section.Section.{Section}
use Rattle.rcv_section.specs.Lines.{LineAt, IsWhole}
use Rattle.rcv_section.specs.Sections.{IsFirstTitle, IsFront, IsHeading, IsSection, IsTitle, heading_word, section_text, title}
use Rattle.rcv_section.specs.Laws.{IsPlain}
use Rattle.rcv_section.proofs.Places.{behind_is, both_whole, line_is_whole, none_within, shift, unshift, weaken, within_or_behind}
use Rattle.rcv_section.proofs.Titles.{is_itself, one_title, quiet_before, starts, title_has_no_feed, title_is_heading}

-- The section of session n, which has these bytes.
record PartIs (n : ℕ) (text want : List ℕ) : Type 0 where
  pub place : ℕ
  pub len : ℕ
  pub size : ℕ
  pub first : IsFirstTitle (title n) text place len
  pub front : IsFront (drop (place + len) text) size
  pub is : take size (drop (place + len) text) ≡ want

-- The line of a session, with its end.
abbrev line : ℕ → List ℕ
line m = title m ++ 10 ∷ []

-- A text behind the line of its session.
here : (n : ℕ) (t rest : List ℕ) → IsPlain t → (rest ≡ []) ⊎ IsHeading rest → PartIs n ((line n ++ t) ++ rest) t
here n t rest plain more =
    let shape : (line n ++ t) ++ rest ≡ title n ++ 10 ∷ (t ++ rest) = append_assoc (line n) t rest ∙ append_assoc (title n) (10 ∷ []) (t ++ rest) in
    let long : 0 + (length (title n) + 1) ≡ length (line n) = let e = length-append (title n) (10 ∷ []) in omega (arith, e) in
    let dropped : drop (0 + (length (title n) + 1)) ((line n ++ t) ++ rest) ≡ t ++ rest =
    ap (λ (k : ℕ). drop k ((line n ++ t) ++ rest)) long ∙ ap (drop (length (line n))) (append_assoc (line n) t rest) ∙ drop-append_seam (line n) (t ++ rest) in
    record {
      place = 0;
      len = length (title n) + 1;
      size = length t;
      first = record { is_title = (refl, ap (line_of (title n)) shape ∙ is_itself (title n) (t ++ rest)); is_first = λ earlier size less at. omega (arith, less) };
      front = subst (λ (l : List ℕ). IsFront l (length t)) (sym dropped) (record { within = let e = length-append t rest in omega (arith, e); clear = quiet_before t rest true plain.whole plain.quiet; up_to = up more });
      is = ap (take (length t)) dropped ∙ take-append_seam t rest;
    }
  where
    up : (rest ≡ []) ⊎ IsHeading rest → (length t ≡ length (t ++ rest)) ⊎ LineAt IsHeading true (t ++ rest) (length t)
    up (inl none) = inl (let e = length-append t rest in let f : length rest ≡ 0 = ap length none in omega (arith, e, f))
    up (inr is) = inr (subst (LineAt IsHeading true (t ++ rest)) (let e = behind_is t 0 in omega (arith, e)) (shift IsHeading true t rest 0 plain.whole (refl, is)))

-- The line of a session holds no line of another.
not_in_line : (m n : ℕ) → m < 2 ^ 64 → n < 2 ^ 64 → (m ≡ n → ⊥) → (rest : List ℕ) (q size : ℕ) → q < length (line m) → LineAt (IsTitle (title n) size) true (title m ++ 10 ∷ rest) q → ⊥
not_in_line m n small_m small_n other rest zero size less at = other (one_title m n small_m small_n rest size at.1)
not_in_line m n small_m small_n other rest (suc q) size less at =
    let long = length-append (title m) (10 ∷ []) in
    none_within (IsTitle (title n) size) (drop 1 (title m)) rest q (title_has_no_feed m small_m).1 (omega (arith, less, long)) at

-- The section of a session behind the text of another.
later : (n m : ℕ) → m < 2 ^ 64 → n < 2 ^ 64 → (m ≡ n → ⊥) → (t rest want : List ℕ) → IsPlain t → PartIs n rest want → PartIs n ((line m ++ t) ++ rest) want
later n m small_m small_n other t rest want plain part =
    record {
      place = length front_of + part.place;
      len = part.len;
      size = part.size;
      first = record { is_title = subst (LineAt (IsTitle (title n) part.len) true (front_of ++ rest)) (behind_is front_of part.place) (shift (IsTitle (title n) part.len) true front_of rest part.place whole part.first.is_title); is_first = clear };
      front = subst (λ (l : List ℕ). IsFront l part.size) (sym dropped) part.front;
      is = ap (take part.size) dropped ∙ part.is;
    }
  where
    front_of : List ℕ
    front_of = line m ++ t

    whole : IsWhole true (line m ++ t)
    whole = both_whole true (line m) t (line_is_whole true (title m)) plain.whole

    dropped : drop ((length (line m ++ t) + part.place) + part.len) ((line m ++ t) ++ rest) ≡ drop (part.place + part.len) rest
    dropped =
        ap (λ (k : ℕ). drop k ((line m ++ t) ++ rest)) (omega arith) ∙ drop-append-add (line m ++ t) rest (part.place + part.len)

    in_text : (q size : ℕ) → q < length t → LineAt (IsTitle (title n) size) true (t ++ rest) q → ⊥
    in_text q size less at = quiet_before t rest true plain.whole plain.quiet q less (weaken (IsTitle (title n) size) IsHeading (title_is_heading n size) true (t ++ rest) q at)

    in_front : (q size : ℕ) → q < length (line m ++ t) → LineAt (IsTitle (title n) size) true (line m ++ (t ++ rest)) q → ⊥
    in_front q size less at = ⊎_elim
        (λ inside. not_in_line m n small_m small_n other (t ++ rest) q size inside (subst (λ (l : List ℕ). LineAt (IsTitle (title n) size) true l q) (append_assoc (title m) (10 ∷ []) (t ++ rest)) at))
        (λ (p, e). in_text p size (let f = behind_is (line m) p in let g = length-append (line m) t in omega (arith, less, e, f, g))
        (unshift (IsTitle (title n) size) true (line m) (t ++ rest) p (line_is_whole true (title m)) (subst (LineAt (IsTitle (title n) size) true (line m ++ (t ++ rest))) e at)))
        (within_or_behind (line m) q)

    clear : (q size : ℕ) → q < length (line m ++ t) + part.place → LineAt (IsTitle (title n) size) true ((line m ++ t) ++ rest) q → ⊥
    clear q size less at = ⊎_elim
        (λ inside. in_front q size inside (subst (λ (l : List ℕ). LineAt (IsTitle (title n) size) true l q) (append_assoc (line m) t rest) at))
        (λ (p, e). part.first.is_first p size (let f = behind_is (line m ++ t) p in omega (arith, less, e, f))
        (unshift (IsTitle (title n) size) true (line m ++ t) rest p whole (subst (LineAt (IsTitle (title n) size) true ((line m ++ t) ++ rest)) e at)))
        (within_or_behind (line m ++ t) q)

-- Texts one behind another are none, or begin with the line of a session.
begins : (k : ℕ) (ts : List (List ℕ)) → (joined false k ts ≡ []) ⊎ IsHeading (joined false k ts)
begins k [] = inl refl
begins k (t ∷ ts) = inr (starts (joined false k (t ∷ ts)) heading_word (drop 8 (joined false k (t ∷ ts))) refl)

part : (ts : List (List ℕ)) (k i : ℕ) → k + length ts ≤ 64 → All IsPlain ts → i < length ts → PartIs (k + i + 1) (joined false k ts) (slice_index_or ts i [])
part [] k i few plain less = absurd (omega (arith, less))
part (t ∷ ts) k zero few plain less = subst (λ (n : ℕ). PartIs n (joined false k (t ∷ ts)) t) (omega arith) (here (k + 1) t (joined false (k + 1) ts) (All-head IsPlain t ts plain) (begins (k + 1) ts))
part (t ∷ ts) k (suc i) few plain less =
    later (k + suc i + 1) (k + 1) (omega (arith, few)) (omega (arith, few, less)) (λ same. omega (arith, same)) t (joined false (k + 1) ts) (slice_index_or ts i []) (All-head IsPlain t ts plain)
    (subst (λ (n : ℕ). PartIs n (joined false (k + 1) ts) (slice_index_or ts i [])) (omega arith) (part ts (k + 1) i (omega (arith, few)) (All-tail IsPlain t ts plain) (omega (arith, less))))

pub sections_are_texts : (texts : List (List ℕ)) (i : ℕ) → length texts ≤ 64 → All IsPlain texts → i < length texts
    → (section : Section) × IsSection (i + 1) (joined false 0 texts) section × (section_text (joined false 0 texts) section ≡ slice_index_or texts i [])
sections_are_texts texts i few plain less = go (subst (λ (n : ℕ). PartIs n (joined false 0 texts) (slice_index_or texts i [])) (omega arith) (part texts 0 i (omega (arith, few)) plain less))
  where
    go : PartIs (i + 1) (joined false 0 texts) (slice_index_or texts i []) → (section : Section) × IsSection (i + 1) (joined false 0 texts) section × (section_text (joined false 0 texts) section ≡ slice_index_or texts i [])
    go it = (
      record { begin = it.place + it.len; end = it.place + it.len + it.size },
      record { place = it.place; len = it.len; size = it.size; is_title = it.first; begins = refl; ends = refl; is_front = it.front },
      ap (λ (n : ℕ). take n (drop (it.place + it.len) (joined false 0 texts))) (omega arith) ∙ it.is,
    )
