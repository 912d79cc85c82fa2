-- Two texts, compared line by line.
use Rattle.std.proofs.Common.{◌≡◌, ℕ, zero, suc, ◌+◌, ◌-◌, ◌<◌, ◌≤◌, ◌^◌, List, [], ◌∷◌, ◌++◌, length, take, flat_map, cond, Bool, true, false, refl, sym, ◌∙◌, ap, ap₂, subst, inl, inr, arith, append_assoc, append-nil, length-append}
use Rattle.std.specs.Prelude.{◌==◌}
use Rattle.std.proofs.Math.Seq.{take-append_seam}
use Rattle.rcv_journal.specs.Form.{lines_from, lines_of}
use Rattle.rcv_lines.proofs.Splitting.{goes_on}
use Rattle.rcv_retold.specs.Text.{IsFirstOther}

-- ---- the lines of a text joined are the text

abbrev pub joined : List (List ℕ) → List ℕ
joined lines = flat_map (λ (line : List ℕ). line) lines

joined_from : (begun text : List ℕ) → joined (lines_from begun text) ≡ begun ++ text
joined_from [] [] = refl
joined_from (x ∷ begun) [] = refl
joined_from begun (b ∷ text) = ap joined (goes_on begun b text) ∙ go (b == 10) (joined_from [] text) (joined_from (begun ++ b ∷ []) text)
  where
    go : (t : Bool) → joined (lines_from [] text) ≡ text → joined (lines_from (begun ++ b ∷ []) text) ≡ (begun ++ b ∷ []) ++ text → joined (cond t ((begun ++ b ∷ []) ∷ lines_from [] text) (lines_from (begun ++ b ∷ []) text)) ≡ begun ++ b ∷ text
    go true rest more = ap (λ t. (begun ++ b ∷ []) ++ t) rest ∙ append_assoc begun (b ∷ []) text
    go false rest more = more ∙ append_assoc begun (b ∷ []) text

pub joined_lines : (text : List ℕ) → joined (lines_of text) ≡ text
joined_lines text = joined_from [] text

pub same_text : (a b : List ℕ) → lines_of a ≡ lines_of b → a ≡ b
same_text a b same = sym (joined_lines a) ∙ ap joined same ∙ joined_lines b

-- ---- two texts with the same first lines

pub record IsSoFar (text right text_left right_left : List ℕ) (number : ℕ) : Type 0 where
  pub done : List (List ℕ)
  pub text_is : lines_of text ≡ done ++ lines_of text_left
  pub right_is : lines_of right ≡ done ++ lines_of right_left
  pub counted : number ≡ length done + 1
  pub short : length done + length text_left ≤ length text

pub starts : (text right : List ℕ) → IsSoFar text right text right 1
starts text right = record { done = []; text_is = refl; right_is = refl; counted = refl; short = omega arith }

take_next : (done : List (List ℕ)) (rest : List (List ℕ)) (x : List ℕ) → take (suc (length done)) (done ++ x ∷ rest) ≡ done ++ x ∷ []
take_next [] rest x = refl
take_next (d ∷ done) rest x = ap (λ l. d ∷ l) (take_next done rest x)

take_more : (done : List (List ℕ)) (rest : List (List ℕ)) (x : List ℕ) → take (length done + 1) (done ++ x ∷ rest) ≡ done ++ x ∷ []
take_more done rest x = let next : length done + 1 ≡ suc (length done) = omega arith in ap (λ n. take n (done ++ x ∷ rest)) next ∙ take_next done rest x

before_is : (done a b xs ys : List (List ℕ)) → xs ≡ done ++ a → ys ≡ done ++ b → take (length done + 1 - 1) xs ≡ take (length done + 1 - 1) ys
before_is done a b xs ys f g =
    let back : length done + 1 - 1 ≡ length done = omega arith in
    ap (λ n. take n xs) back ∙ ap (take (length done)) f ∙ take-append_seam done a
    ∙ sym (ap (λ n. take n ys) back ∙ ap (take (length done)) g ∙ take-append_seam done b)

some_lines : (text : List ℕ) → lines_of text ≡ [] → length text ≡ 0
some_lines text none = ap length (sym (joined_lines text) ∙ ap joined none)

no_text : (text : List ℕ) → length text ≡ 0 → text ≡ []
no_text [] none = refl
no_text (b ∷ text) none = absurd (omega (arith, none))

module _ (text right text_left right_left : List ℕ) (number : ℕ) (at : IsSoFar text right text_left right_left number) where
  -- the next lines
  module _ (line behind right_line right_behind : List ℕ) (parts : text_left ≡ line ++ behind) (right_parts : right_left ≡ right_line ++ right_behind)
      (some : 0 < length line) (lines : lines_of text_left ≡ line ∷ lines_of behind) (right_lines : 0 < length right_left → lines_of right_left ≡ right_line ∷ lines_of right_behind) where
    right_some : line ≡ right_line → 0 < length right_left
    right_some same = omega (arith, some, ap length same, ap length right_parts, length-append right_line right_behind)

    pub next : line ≡ right_line → IsSoFar text right behind right_behind (number + 1)
    next same = record {
      done = at.done ++ line ∷ [];
      text_is = at.text_is ∙ ap (λ l. at.done ++ l) lines ∙ sym (append_assoc at.done (line ∷ []) (lines_of behind));
      right_is =
          at.right_is ∙ ap (λ l. at.done ++ l) (right_lines (right_some same) ∙ ap (λ x. x ∷ lines_of right_behind) (sym same))
          ∙ sym (append_assoc at.done (line ∷ []) (lines_of right_behind));
      counted = let c = at.counted in omega (arith, c, length-append at.done (line ∷ []));
      short = let s = at.short in omega (arith, s, some, length-append at.done (line ∷ []), ap length parts, length-append line behind);
    }

    -- they differ
    upto : take (length at.done + 1) (lines_of text) ≡ at.done ++ line ∷ []
    upto = ap (take (length at.done + 1)) (at.text_is ∙ ap (λ l. at.done ++ l) lines) ∙ take_more at.done (lines_of behind) line

    last_same : (line ≡ right_line → ⊥) → (rest : List (List ℕ)) → lines_of right_left ≡ rest → (rest ≡ lines_of right_left) → at.done ++ line ∷ [] ≡ take (length at.done + 1) (at.done ++ rest) → ⊥
    last_same differ [] is back same = omega (arith, ap length (same ∙ ap (take (length at.done + 1)) (append-nil at.done)), length-append at.done (line ∷ []), short_take (length at.done + 1) at.done)
      where
        short_take : (n : ℕ) (xs : List (List ℕ)) → length (take n xs) ≤ length xs
        short_take zero xs = omega arith
        short_take (suc n) [] = omega arith
        short_take (suc n) (x ∷ xs) = let s = short_take n xs in omega (arith, s)
    last_same differ (r ∷ rest) is back same = differ (head_same at.done line r (same ∙ take_more at.done rest r) ∙ r_is)
      where
        head_same : (done : List (List ℕ)) (a b : List ℕ) → done ++ a ∷ [] ≡ done ++ b ∷ [] → a ≡ b
        head_same [] a b e = cc
        head_same (d ∷ done) a b e = head_same done a b (let f : done ++ a ∷ [] ≡ done ++ b ∷ [] = cc in f)

        right_any : (l : List ℕ) → lines_of l ≡ r ∷ rest → 0 < length l
        right_any [] e = absurd cc
        right_any (x ∷ l) e = omega arith

        r_is : r ≡ right_line
        r_is = let e : right_line ∷ lines_of right_behind ≡ r ∷ rest = sym (right_lines (right_any right_left is)) ∙ is in cc

    pub differ : (line ≡ right_line → ⊥) → IsFirstOther text right number
    differ other = subst (IsFirstOther text right) (sym at.counted) (record {
      first = omega arith;
      before = before_is at.done (lines_of text_left) (lines_of right_left) (lines_of text) (lines_of right) at.text_is at.right_is;
      other = inl (
        (omega (arith, ap length (at.text_is ∙ ap (λ l. at.done ++ l) lines), length-append at.done (line ∷ lines_of behind))),
        λ same. last_same other (lines_of right_left) refl refl (sym upto ∙ same ∙ ap (take (length at.done + 1)) at.right_is),
      );
    })

  -- one of them stops
  pub at_end : length text_left ≡ 0 → length right_left ≡ 0 → text ≡ right
  at_end none right_none = same_text text right (at.text_is ∙ ap (λ l. at.done ++ lines_of l) (no_text text_left none ∙ sym (no_text right_left right_none)) ∙ sym at.right_is)

  pub stops : length text_left ≡ 0 → 0 < length right_left → IsFirstOther text right number
  stops none more = subst (IsFirstOther text right) (sym at.counted) (record {
    first = omega arith;
    before = before_is at.done (lines_of text_left) (lines_of right_left) (lines_of text) (lines_of right) at.text_is at.right_is;
    other = inr (
      ap (λ n. n + 1) (sym (ap length all)),
      λ same. let e = some_lines right_left (cancel at.done (lines_of right_left) (sym at.right_is ∙ ap lines_of (sym same) ∙ all)) in omega (arith, e, more),
    );
  })
    where
      all : lines_of text ≡ at.done
      all = at.text_is ∙ ap (λ l. at.done ++ lines_of l) (no_text text_left none) ∙ append-nil at.done

      cancel : (done rest : List (List ℕ)) → done ++ rest ≡ done → rest ≡ []
      cancel [] rest e = e
      cancel (d ∷ done) rest e = cancel done rest (let f : done ++ rest ≡ done = cc in f)

  pub is_within : number ≤ length text + 1
  is_within = let c = at.counted in let s = at.short in omega (arith, c, s)
