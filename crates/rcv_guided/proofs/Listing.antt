-- Lists over the roles from 0 on.
use Rattle.std.proofs.Common.{◌≡◌, ℕ, zero, suc, ◌+◌, ◌<◌, Bool, true, false, cond, List, [], ◌∷◌, ◌++◌, map, flat_map, take, length, get_or, set, refl, sym, ◌∙◌, ap, subst, ⊎_elim, append-nil, append_assoc, arith}
use Rattle.std.specs.Prelude.{All}
use Rattle.std.specs.List.{filter, range_with_len}
use Rattle.std.proofs.lemmas.Bool.{cases_eq}
use Rattle.std.proofs.lemmas.List.{map-id, take_more, get_or-set_same, get_or-set_other}
use Rattle.std.proofs.lemmas.List.Concat.{flat_map-append}
use Rattle.std.proofs.lemmas.List.Elements.{filter-append, All-nil, All-cons}
use Rattle.std.proofs.lemmas.List.FromFn.{map-range_with_len_more}

-- One role more.
pub range_more : (n : ℕ) → range_with_len 0 (n + 1) ≡ range_with_len 0 n ++ n ∷ []
range_more n =
    sym (map-id (range_with_len 0 (n + 1))) ∙ map-range_with_len_more (λ (p : ℕ). p) 0 n n (omega arith)
    ∙ ap (λ r. r ++ n ∷ []) (map-id (range_with_len 0 n))

roles_more : (p : ℕ → Bool) (n : ℕ) → filter p (range_with_len 0 (n + 1)) ≡ filter p (range_with_len 0 n) ++ cond (p n) (n ∷ []) []
roles_more p n = ap (filter p) (range_more n) ∙ filter-append p (range_with_len 0 n) (n ∷ [])

-- It is one of them, or it isn't.
pub role_in : (p : ℕ → Bool) (n : ℕ) → p n ≡ true → filter p (range_with_len 0 (n + 1)) ≡ filter p (range_with_len 0 n) ++ n ∷ []
role_in p n e = roles_more p n ∙ ap (λ b. filter p (range_with_len 0 n) ++ cond b (n ∷ []) []) e

pub role_out : (p : ℕ → Bool) (n : ℕ) → p n ≡ false → filter p (range_with_len 0 (n + 1)) ≡ filter p (range_with_len 0 n)
role_out p n e =
    roles_more p n ∙ ap (λ b. filter p (range_with_len 0 n) ++ cond b (n ∷ []) []) e ∙ append-nil (filter p (range_with_len 0 n))

map_end : {A X : Type 0} (f : A → X) (xs : List A) (n : A) → map f (xs ++ n ∷ []) ≡ map f xs ++ f n ∷ []
map_end f [] n = refl
map_end f (x ∷ xs) n = ap (λ l. f x ∷ l) (map_end f xs n)

pub mapped_in : {X : Type 0} (f : ℕ → X) (p : ℕ → Bool) (n : ℕ) (items : List X) → p n ≡ true → items ≡ map f (filter p (range_with_len 0 n))
    → items ++ f n ∷ [] ≡ map f (filter p (range_with_len 0 (n + 1)))
mapped_in f p n items e so =
    ap (λ l. l ++ f n ∷ []) so ∙ sym (map_end f (filter p (range_with_len 0 n)) n) ∙ ap (map f) (sym (role_in p n e))

pub mapped_out : {X : Type 0} (f : ℕ → X) (p : ℕ → Bool) (n : ℕ) (items : List X) → p n ≡ false → items ≡ map f (filter p (range_with_len 0 n))
    → items ≡ map f (filter p (range_with_len 0 (n + 1)))
mapped_out f p n items e so = so ∙ ap (map f) (sym (role_out p n e))

flat_end : {X : Type 0} (f : ℕ → List X) (xs : List ℕ) (n : ℕ) → flat_map f (xs ++ n ∷ []) ≡ flat_map f xs ++ f n
flat_end f xs n = flat_map-append f xs (n ∷ []) ∙ ap (λ l. flat_map f xs ++ l) (append-nil (f n))

-- What is added for each role, behind what was there.
pub added_more : {X : Type 0} (f : ℕ → List X) (n : ℕ) (start before after : List X) → before ≡ start ++ flat_map f (range_with_len 0 n) → after ≡ before ++ f n
    → after ≡ start ++ flat_map f (range_with_len 0 (n + 1))
added_more f n start before after so more =
    more ∙ ap (λ l. l ++ f n) so ∙ append_assoc start (flat_map f (range_with_len 0 n)) (f n)
    ∙ ap (λ l. start ++ l) (sym (flat_end f (range_with_len 0 n) n) ∙ ap (flat_map f) (sym (range_more n)))

-- And for each role of a set.
pub found_in : {X : Type 0} (f : ℕ → List X) (p : ℕ → Bool) (n : ℕ) (before after : List X) → p n ≡ true → before ≡ flat_map f (filter p (range_with_len 0 n)) → after ≡ before ++ f n
    → after ≡ flat_map f (filter p (range_with_len 0 (n + 1)))
found_in f p n before after e so more =
    more ∙ ap (λ l. l ++ f n) so ∙ sym (flat_end f (filter p (range_with_len 0 n)) n) ∙ ap (flat_map f) (sym (role_in p n e))

pub found_out : {X : Type 0} (f : ℕ → List X) (p : ℕ → Bool) (n : ℕ) (before : List X) → p n ≡ false → before ≡ flat_map f (filter p (range_with_len 0 n))
    → before ≡ flat_map f (filter p (range_with_len 0 (n + 1)))
found_out f p n before e so = so ∙ ap (flat_map f) (sym (role_out p n e))

-- Tests that agree on the roles choose the same ones, and functions that agree make the same of them.
chosen_from : (p q : ℕ → Bool) (a n : ℕ) → ((r : ℕ) → r < a + n → p r ≡ q r) → filter p (range_with_len a n) ≡ filter q (range_with_len a n)
chosen_from p q a zero same = refl
chosen_from p q a (suc n) same =
    let ih = chosen_from p q (a + 1) n (λ r lt. same r (omega (arith, lt))) in
    ap (λ b. cond b (a ∷ filter p (range_with_len (a + 1) n)) (filter p (range_with_len (a + 1) n))) (same a (omega arith))
    ∙ ap (λ l. cond (q a) (a ∷ l) l) ih

pub chosen : (p q : ℕ → Bool) (n : ℕ) → ((r : ℕ) → r < n → p r ≡ q r) → filter p (range_with_len 0 n) ≡ filter q (range_with_len 0 n)
chosen p q n same = chosen_from p q 0 n (λ r lt. same r (omega (arith, lt)))

made_from : {X : Type 0} (f g : ℕ → X) (p : ℕ → Bool) (a n : ℕ) → ((r : ℕ) → r < a + n → f r ≡ g r) → map f (filter p (range_with_len a n)) ≡ map g (filter p (range_with_len a n))
made_from f g p a zero same = refl
made_from f g p a (suc n) same = go (p a) (same a (omega arith)) (made_from f g p (a + 1) n (λ r lt. same r (omega (arith, lt))))
  where
    go : (b : Bool) → f a ≡ g a → map f (filter p (range_with_len (a + 1) n)) ≡ map g (filter p (range_with_len (a + 1) n))
        → map f (cond b (a ∷ filter p (range_with_len (a + 1) n)) (filter p (range_with_len (a + 1) n))) ≡ map g (cond b (a ∷ filter p (range_with_len (a + 1) n)) (filter p (range_with_len (a + 1) n)))
    go true here rest = ap (λ x. x ∷ map f (filter p (range_with_len (a + 1) n))) here ∙ ap (λ l. g a ∷ l) rest
    go false here rest = rest

pub made_same : {X : Type 0} (f g : ℕ → X) (p : ℕ → Bool) (n : ℕ) → ((r : ℕ) → r < n → f r ≡ g r) → map f (filter p (range_with_len 0 n)) ≡ map g (filter p (range_with_len 0 n))
made_same f g p n same = made_from f g p 0 n (λ r lt. same r (omega (arith, lt)))

-- What holds of what is made of each role.
all_from : {X : Type 0} (P : X → Type 0) (f : ℕ → X) (p : ℕ → Bool) (a n : ℕ) → ((r : ℕ) → r < a + n → P (f r)) → All P (map f (filter p (range_with_len a n)))
all_from P f p a zero each = All-nil P
all_from P f p a (suc n) each = go (p a) (each a (omega arith)) (all_from P f p (a + 1) n (λ r lt. each r (omega (arith, lt))))
  where
    go : (b : Bool) → P (f a) → All P (map f (filter p (range_with_len (a + 1) n)))
        → All P (map f (cond b (a ∷ filter p (range_with_len (a + 1) n)) (filter p (range_with_len (a + 1) n))))
    go true here rest = All-cons P (f a) (map f (filter p (range_with_len (a + 1) n))) here rest
    go false here rest = rest

pub all_made : {X : Type 0} (P : X → Type 0) (f : ℕ → X) (p : ℕ → Bool) (n : ℕ) → ((r : ℕ) → r < n → P (f r)) → All P (map f (filter p (range_with_len 0 n)))
all_made P f p n each = all_from P f p 0 n (λ r lt. each r (omega (arith, lt)))

-- What is made of each item, behind what was there.
pub mapped_more : {A X : Type 0} (f : A → X) (xs : List A) (i : ℕ) (x : A) (start before after : List X) → i < length xs → x ≡ get_or xs i x → before ≡ start ++ map f (take i xs) → after ≡ before ++ f x ∷ []
    → after ≡ start ++ map f (take (i + 1) xs)
mapped_more f xs i x start before after lt is so more =
    let one : take (i + 1) xs ≡ take i xs ++ x ∷ [] = take_more xs i x lt ∙ ap (λ y. take i xs ++ y ∷ []) (sym is) in
    more ∙ ap (λ l. l ++ f x ∷ []) so ∙ append_assoc start (map f (take i xs)) (f x ∷ [])
    ∙ ap (λ l. start ++ l) (sym (map_end f (take i xs) x) ∙ ap (map f) (sym one))

-- The same of numbers, which lists of code give by their place.
pub numbers_more : {X : Type 0} (f : ℕ → X) (xs : List ℕ) (i : ℕ) (start before after : List X) → i < length xs → before ≡ start ++ map f (take i xs) → after ≡ before ++ f (get_or xs i 0) ∷ []
    → after ≡ start ++ map f (take (i + 1) xs)
numbers_more f xs i start before after lt so more =
    more ∙ ap (λ l. l ++ f (get_or xs i 0) ∷ []) so ∙ append_assoc start (map f (take i xs)) (f (get_or xs i 0) ∷ [])
    ∙ ap (λ l. start ++ l) (sym (map_end f (take i xs) (get_or xs i 0)) ∙ ap (map f) (sym (take_more xs i 0 lt)))

-- And of each role.
pub ranged_more : {X : Type 0} (f : ℕ → X) (n : ℕ) (start before after : List X) → before ≡ start ++ map f (range_with_len 0 n) → after ≡ before ++ f n ∷ []
    → after ≡ start ++ map f (range_with_len 0 (n + 1))
ranged_more f n start before after so more =
    more ∙ ap (λ l. l ++ f n ∷ []) so ∙ append_assoc start (map f (range_with_len 0 n)) (f n ∷ [])
    ∙ ap (λ l. start ++ l) (sym (map_end f (range_with_len 0 n) n) ∙ ap (map f) (sym (range_more n)))

-- What holds of each place so far, and of one more.
pub set_more : (P : ℕ → ℕ → Type 0) (xs : List ℕ) (i v : ℕ) → i < length xs → ((r : ℕ) → r < i → P r (get_or xs r 0)) → P i v → (r : ℕ) → r < i + 1 → P r (get_or (set xs i v) r 0)
set_more P xs i v lt before here r low = ⊎_elim
    (λ e. subst (λ q. P q (get_or (set xs i v) q 0)) (sym e) (subst (P i) (sym (get_or-set_same xs i v 0 lt)) here))
    (λ other. subst (P r) (sym (get_or-set_other xs i r v 0 other)) (before r (let apart : r < i = below r i low other in apart)))
    (cases_eq r i)
  where
    below : (r i : ℕ) → r < i + 1 → (r ≡ i → ⊥) → r < i
    below r i low other = omega (arith, low, other)
