-- The column behind one byte more.
use Rattle.std.proofs.Common.{◌≡◌, ℕ, ◌+◌, Bool, true, false, ◌||◌, ◌==◌, List, [], ◌∷◌, ◌++◌, count_by, refl, ◌∙◌, ap, arith}
use Rattle.std.specs.Prelude.{if◌then◌else◌, cond}
use Rattle.std.proofs.lemmas.List.Sums.{sum_by-append}
use Rattle.rcv_found.specs.Spots.{has_feed, since_feed, begins_letter, column_of}

-- where a line feed comes last, one is among them; where another byte does, they have one as before
feed_last : (bs : List ℕ) (b : ℕ) → (b == 10) ≡ true → has_feed (bs ++ b ∷ []) ≡ true
feed_last [] b e = rw e refl
feed_last (a ∷ bs) b e = go (a == 10) (feed_last bs b e)
  where
    go : (here : Bool) → has_feed (bs ++ b ∷ []) ≡ true → (here || has_feed (bs ++ b ∷ [])) ≡ true
    go true more = refl
    go false more = more

other_last : (bs : List ℕ) (b : ℕ) → (b == 10) ≡ false → has_feed (bs ++ b ∷ []) ≡ has_feed bs
other_last [] b e = rw e refl
other_last (a ∷ bs) b e = ap (λ (rest : Bool). (a == 10) || rest) (other_last bs b e)

since_last : (bs : List ℕ) (b : ℕ) → (b == 10) ≡ true → since_feed (bs ++ b ∷ []) ≡ []
since_last [] b e = rw e refl
since_last (a ∷ bs) b e = rw (feed_last (a ∷ bs) b e) (since_last bs b e)

since_more : (bs : List ℕ) (b : ℕ) → (b == 10) ≡ false → since_feed (bs ++ b ∷ []) ≡ since_feed bs ++ b ∷ []
since_more [] b e = rw e refl
since_more (a ∷ bs) b e = go (has_feed (a ∷ bs)) (other_last (a ∷ bs) b e) (since_more bs b e)
  where
    go : (some : Bool) → has_feed (a ∷ bs ++ b ∷ []) ≡ some → since_feed (bs ++ b ∷ []) ≡ since_feed bs ++ b ∷ []
        → (if has_feed (a ∷ bs ++ b ∷ []) then since_feed (bs ++ b ∷ []) else a ∷ bs ++ b ∷ [])
        ≡ (if some then since_feed bs else a ∷ bs) ++ b ∷ []
    go true same more = rw same more
    go false same more = rw same refl

pub column_last : (before : List ℕ) (b : ℕ) → (b == 10) ≡ true → column_of (before ++ b ∷ []) ≡ 1
column_last before b e = ap (λ (bs : List ℕ). 1 + count_by begins_letter bs) (since_last before b e)

counted : (bs : List ℕ) (b : ℕ) → count_by begins_letter (bs ++ b ∷ []) ≡ count_by begins_letter bs + count_by begins_letter (b ∷ [])
counted bs b = sum_by-append (λ (x : ℕ). cond (begins_letter x) 1 0) bs (b ∷ [])

pub column_letter : (before : List ℕ) (b : ℕ) → (b == 10) ≡ false → begins_letter b ≡ true → column_of (before ++ b ∷ []) ≡ column_of before + 1
column_letter before b e letter =
    let here : count_by begins_letter (b ∷ []) ≡ 1 = rw letter refl in
    let all = ap (λ (bs : List ℕ). 1 + count_by begins_letter bs) (since_more before b e) in
    let more = counted (since_feed before) b in
    all ∙ omega (arith, more, here)

pub column_same : (before : List ℕ) (b : ℕ) → (b == 10) ≡ false → begins_letter b ≡ false → column_of (before ++ b ∷ []) ≡ column_of before
column_same before b e letter =
    let here : count_by begins_letter (b ∷ []) ≡ 0 = rw letter refl in
    let all = ap (λ (bs : List ℕ). 1 + count_by begins_letter bs) (since_more before b e) in
    let more = counted (since_feed before) b in
    all ∙ omega (arith, more, here)
