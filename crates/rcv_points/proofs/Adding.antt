-- How a list grows by what is added to it.
use Rattle.std.proofs.Common.{◌≡◌, ℕ, zero, suc, ◌+◌, ◌<◌, ◌≤◌, List, [], ◌∷◌, ◌++◌, length, take, get_or, refl, sym, ◌∙◌, ap, subst, ◌⊎◌, inl, inr, ⊎_elim, arith, append_assoc, append-nil}
use Rattle.std.proofs.lemmas.Bool.{cases_eq}
use Rattle.std.proofs.lemmas.List.{take_more, get_or_append_left}
use Rattle.rcv_model.specs.Net.{IsIn, IsPrefix}
use Rattle.rcv_points.specs.Found.{Adds, Is}
use Rattle.rcv_points.proofs.Finding.{in_left, in_right, in_either}

pub in_at : (xs : List ℕ) (i : ℕ) → i < length xs → IsIn (get_or xs i 0) xs
in_at [] i lt = absurd (omega arith)
in_at (x ∷ xs) zero lt = inl refl
in_at (x ∷ xs) (suc i) lt = inr (in_at xs i (omega arith))

-- an item of the list, whatever stands for one that isn't there
pub item_of : (xs : List ℕ) (i x : ℕ) → i < length xs → x ≡ get_or xs i x → x ≡ get_or xs i 0
item_of xs i x lt e = e ∙ any xs i x 0 lt
  where
    any : (xs : List ℕ) (i d e : ℕ) → i < length xs → get_or xs i d ≡ get_or xs i e
    any [] i d e lt = absurd (omega arith)
    any (x ∷ xs) zero d e lt = refl
    any (x ∷ xs) (suc i) d e lt = any xs i d e (omega arith)

-- where an item stands
pub place_in : (x : ℕ) (xs : List ℕ) → IsIn x xs → (i : ℕ) × (i < length xs) × (get_or xs i 0 ≡ x)
place_in x [] m = absurd m
place_in x (y ∷ ys) (inl e) = (0, omega arith, sym e)
place_in x (y ∷ ys) (inr m) = let a = place_in x ys m in (suc a.0, (let lt = a.1 in omega arith), a.2)

pub in_kept : (x : ℕ) (old now : List ℕ) → IsPrefix old now → IsIn x old → IsIn x now
in_kept x old now p i = subst (IsIn x) p.1 (in_left x old p.0 i)

-- what stands in the list stays where it is
pub at_kept : (old now : List ℕ) (i : ℕ) → IsPrefix old now → i < length old → get_or now i 0 ≡ get_or old i 0
at_kept old now i p lt = ap (λ l. get_or l i 0) (sym p.1) ∙ get_or_append_left old p.0 0 i lt

-- nothing is added
pub adds_none : (P : ℕ → Type 0) (old : List ℕ) → ((j : ℕ) → P j → IsIn j old) → Adds P old old
adds_none P old known = record { kept = ([], append-nil old); all = known; only = λ j i. inl i }

-- the same, by other words
pub adds_same : (P Q : ℕ → Type 0) (old now : List ℕ) → Adds P old now → ((j : ℕ) → P j → Q j) → ((j : ℕ) → Q j → P j) → Adds Q old now
adds_same P Q old now a to from = record { kept = a.kept; all = λ j q. a.all j (from j q); only = λ j i. ⊎_elim (λ m. inl m) (λ p. inr (to j p)) (a.only j i) }

-- these, and then those
pub adds_both : (P Q R : ℕ → Type 0) (old now new : List ℕ) → Adds P old now → Adds Q now new → ((j : ℕ) → P j → R j) → ((j : ℕ) → Q j → R j) → ((j : ℕ) → R j → P j ⊎ Q j) → Adds R old new
adds_both P Q R old now new a b p q r = record {
  kept = (a.kept.0 ++ b.kept.0, sym (append_assoc old a.kept.0 b.kept.0) ∙ ap (λ l. l ++ b.kept.0) a.kept.1 ∙ b.kept.1);
  all = λ j s. ⊎_elim (λ x. in_kept j now new b.kept (a.all j x)) (λ y. b.all j y) (r j s);
  only = λ j i. ⊎_elim (λ m. ⊎_elim (λ n. inl n) (λ x. inr (p j x)) (a.only j m)) (λ y. inr (q j y)) (b.only j i);
}

pub last_in : (x : ℕ) (xs : List ℕ) (i : ℕ) → i < length xs → IsIn x (take (i + 1) xs) → IsIn x (take i xs) ⊎ (x ≡ get_or xs i 0)
last_in x xs i lt m = ⊎_elim (λ n. inl n) (λ n. inr (⊎_elim (λ e. e) (λ none. absurd none) n)) (in_either x (take i xs) (get_or xs i 0 ∷ []) (subst (IsIn x) (take_more xs i 0 lt) m))

pub in_more : (x : ℕ) (xs : List ℕ) (i : ℕ) → i < length xs → IsIn x (take i xs) ⊎ (x ≡ get_or xs i 0) → IsIn x (take (i + 1) xs)
in_more x xs i lt (inl m) = subst (IsIn x) (sym (take_more xs i 0 lt)) (in_left x (take i xs) (get_or xs i 0 ∷ []) m)
in_more x xs i lt (inr e) = subst (IsIn x) (sym (take_more xs i 0 lt)) (in_right x (take i xs) (get_or xs i 0 ∷ []) (inl e))

-- the next point has the property, and is added
pub more_yes : (T : ℕ → Type 0) (xs : List ℕ) (i x : ℕ) (old now new : List ℕ) → i < length xs → x ≡ get_or xs i 0 → T x → Adds (λ j. IsIn j (take i xs) × T j) old now → Adds (Is x) now new → Adds (λ j. IsIn j (take (i + 1) xs) × T j) old new
more_yes T xs i x old now new lt q t a b = adds_both (λ j. IsIn j (take i xs) × T j) (Is x) (λ j. IsIn j (take (i + 1) xs) × T j) old now new a b
    (λ j p. (in_more j xs i lt (inl p.0), p.1))
    (λ j e. (in_more j xs i lt (inr (e ∙ q)), subst T (sym e) t))
    (λ j r. ⊎_elim (λ m. inl (m, r.1)) (λ e. inr (e ∙ sym q)) (last_in j xs i lt r.0))

-- the next point doesn't have it
pub more_no : (T : ℕ → Type 0) (xs : List ℕ) (i x : ℕ) (old now : List ℕ) → i < length xs → x ≡ get_or xs i 0 → (T x → ⊥) → Adds (λ j. IsIn j (take i xs) × T j) old now → Adds (λ j. IsIn j (take (i + 1) xs) × T j) old now
more_no T xs i x old now lt q n a = adds_same (λ j. IsIn j (take i xs) × T j) (λ j. IsIn j (take (i + 1) xs) × T j) old now a
    (λ j p. (in_more j xs i lt (inl p.0), p.1))
    (λ j r. ⊎_elim (λ m. (m, r.1)) (λ e. absurd (n (subst T (e ∙ sym q) r.1))) (last_in j xs i lt r.0))

-- the same along the points of a text
abbrev pub UpTo : (ℕ → Type 0) → ℕ → ℕ → Type 0
UpTo T i j = (1 ≤ j) × (j ≤ i) × T j

pub none_up_to : (T : ℕ → Type 0) (old : List ℕ) → Adds (UpTo T 0) old old
none_up_to T old = adds_none (UpTo T 0) old (λ j u. absurd (let a = u.0 in let b = u.1 in omega (arith, a, b)))

pub one_more_yes : (T : ℕ → Type 0) (i x : ℕ) (old now new : List ℕ) → x ≡ i + 1 → T x → Adds (UpTo T i) old now → Adds (Is x) now new → Adds (UpTo T (i + 1)) old new
one_more_yes T i x old now new q t a b = adds_both (UpTo T i) (Is x) (UpTo T (i + 1)) old now new a b
    (λ j u. (u.0, (let le = u.1 in omega (arith, le)), u.2))
    (λ j e. (omega (arith, e, q), omega (arith, e, q), subst T (sym e) t))
    (λ j u. ⊎_elim (λ e. inr (e ∙ sym q)) (λ n. inl (u.0, (let le = u.1 in omega (arith, le, n)), u.2)) (cases_eq j (i + 1)))

pub one_more_no : (T : ℕ → Type 0) (i x : ℕ) (old now : List ℕ) → x ≡ i + 1 → (T x → ⊥) → Adds (UpTo T i) old now → Adds (UpTo T (i + 1)) old now
one_more_no T i x old now q n a = adds_same (UpTo T i) (UpTo T (i + 1)) old now a
    (λ j u. (u.0, (let le = u.1 in omega (arith, le)), u.2))
    (λ j u. ⊎_elim (λ e. absurd (n (subst T (e ∙ sym q) u.2))) (λ m. (u.0, (let le = u.1 in omega (arith, le, m)), u.2)) (cases_eq j (i + 1)))
