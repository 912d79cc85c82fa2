-- Fields by their places.
use Rattle.std.proofs.Common.{◌≡◌, ◌∙◌, ◌<◌, ◌^◌, ℕ, zero, suc, List, [], ◌∷◌, ◌++◌, drop, length, get_or, refl, sym, ap, ap₂, subst, arith, Bor, decimal}
use Rattle.std.proofs.lemmas.List.{length-map, map-append}
use Rattle.std.proofs.lemmas.Fmt.{decimal_injective}
use Rattle.rcv_lines.specs.Cutting.{texts}

-- A field of a list that has these fields.
pub at : (fields : List (Bor (List ℕ))) (b : List (List ℕ)) (k : ℕ) (v : Bor (List ℕ)) → texts fields ≡ b → k < length b → (get_or fields k v).now ≡ get_or b k []
at fields b k v are inside = go fields k (subst (λ n. k < n) (sym (ap length are) ∙ length-map fields (λ (f : Bor (List ℕ)). f.now)) inside) ∙ ap (λ xs. get_or xs k []) are
  where
    go : (xs : List (Bor (List ℕ))) (i : ℕ) → i < length xs → (get_or xs i v).now ≡ get_or (texts xs) i []
    go [] i lt = absurd (omega (arith, lt))
    go (x ∷ xs) zero lt = refl
    go (x ∷ xs) (suc i) lt = go xs i (omega (arith, lt))

-- How many there are.
pub count_is : (fields : List (Bor (List ℕ))) (b : List (List ℕ)) → texts fields ≡ b → length fields ≡ length b
count_is fields b are = sym (length-map fields (λ (f : Bor (List ℕ)). f.now)) ∙ ap length are

pub last_is : (xs ys : List (List ℕ)) (x y : List ℕ) → xs ++ x ∷ [] ≡ ys ++ y ∷ [] → (xs ≡ ys) × (x ≡ y)
last_is [] [] x y is = (refl, ap (λ l. get_or l 0 []) is)
last_is [] (b ∷ []) x y is = absurd (omega (arith, ap length is))
last_is [] (b ∷ c ∷ ys) x y is = absurd (omega (arith, ap length is))
last_is (a ∷ []) [] x y is = absurd (omega (arith, ap length is))
last_is (a ∷ c ∷ xs) [] x y is = absurd (omega (arith, ap length is))
last_is (a ∷ xs) (b ∷ ys) x y is = let rest = last_is xs ys x y (ap (drop 1) is) in (ap₂ (λ f fs. f ∷ fs) (ap (λ l. get_or l 0 []) is) rest.0, rest.1)

-- The last field, and those before it.
pub last_field : (fields front : List (Bor (List ℕ))) (last : Bor (List ℕ)) (ys : List (List ℕ)) (y : List ℕ) → fields ≡ front ++ last ∷ [] → texts fields ≡ ys ++ y ∷ []
    → (texts front ≡ ys) × (last.now ≡ y)
last_field fields front last ys y cut are = last_is (texts front) ys last.now y (sym (map-append (λ (f : Bor (List ℕ)). f.now) front (last ∷ [])) ∙ ap texts (sym cut) ∙ are)

-- A number is written in one way.
pub same_number : (field : List ℕ) (m n : ℕ) → m < 2 ^ 32 → n < 2 ^ 32 → field ≡ decimal m → field ≡ decimal n → m ≡ n
same_number field m n small-m small-n is-m is-n = decimal_injective m n (omega (arith, small-m)) (omega (arith, small-n)) (sym is-m ∙ is-n)

-- Seven fields by their places.
pub seven_are : (fields : List (Bor (List ℕ))) (v : Bor (List ℕ)) → length fields ≡ 7
    → texts fields ≡ (get_or fields 0 v).now ∷ (get_or fields 1 v).now ∷ (get_or fields 2 v).now ∷ (get_or fields 3 v).now ∷ (get_or fields 4 v).now ∷ (get_or fields 5 v).now ∷ (get_or fields 6 v).now ∷ []
seven_are [] v long = absurd (omega (arith, long))
seven_are (a ∷ []) v long = absurd (omega (arith, long))
seven_are (a ∷ b ∷ []) v long = absurd (omega (arith, long))
seven_are (a ∷ b ∷ c ∷ []) v long = absurd (omega (arith, long))
seven_are (a ∷ b ∷ c ∷ d ∷ []) v long = absurd (omega (arith, long))
seven_are (a ∷ b ∷ c ∷ d ∷ e ∷ []) v long = absurd (omega (arith, long))
seven_are (a ∷ b ∷ c ∷ d ∷ e ∷ f ∷ []) v long = absurd (omega (arith, long))
seven_are (a ∷ b ∷ c ∷ d ∷ e ∷ f ∷ g ∷ []) v long = refl
seven_are (a ∷ b ∷ c ∷ d ∷ e ∷ f ∷ g ∷ h ∷ more) v long = absurd (omega (arith, long))
