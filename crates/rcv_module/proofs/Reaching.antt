-- Whether a protocol comes to another one by calls: it does so through no places, or through the first, the first two, and
-- so on, up to all.
use Rattle.std.proofs.Common.{◌≡◌, ℕ, zero, suc, ◌+◌, ◌<◌, ◌≤◌, Bool, true, false, cond, Option, Some, None, List, [], ◌∷◌, length, get_or, refl, ap, subst, ◌⊎◌, inl, inr, ⊎_elim, arith}
use Rattle.std.specs.Prelude.{slice_get}
use Rattle.std.proofs.lemmas.Bool.{cases_eq}
use Rattle.std.specs.Str.{bytes_eq}
use Rattle.std.proofs.lemmas.Option.{slice_get-get_or}
use Rattle.rcv_model.specs.Text.{End}
use Rattle.rcv_module.specs.Parts.{Part, Site, place, sites, first_from}
use Rattle.rcv_module.specs.Refusing.{CallsOne, Reaches, itself, by_call}
use Rattle.rcv_module.proofs.Sites.{IsAmong, at_among, calls_one}

-- It holds, or it doesn't.
abbrev pub Decided : Type 0 → Type 0
Decided P = P ⊎ (P → ⊥)

pub both_decided : {P Q : Type 0} → Decided P → Decided Q → Decided (P × Q)
both_decided (inl p) (inl q) = inl (p, q)
both_decided (inl p) (inr n) = inr (λ b. n b.1)
both_decided (inr n) d = inr (λ b. n b.0)

pub either_decided : {P Q : Type 0} → Decided P → Decided Q → Decided (P ⊎ Q)
either_decided (inl p) d = inl (inl p)
either_decided (inr n) (inl q) = inl (inr q)
either_decided (inr n) (inr m) = inr (λ b. ⊎_elim n m b)

pub same_place : (o : Option ℕ) (j : ℕ) → Decided (o ≡ Some j)
same_place None j = inr (λ e. absurd (cc))
same_place (Some i) j = ⊎_elim (λ e. inl (ap (λ z. Some z) e)) (λ n. inr (λ e. n (let h : i ≡ j = cc in h))) (cases_eq i j)

-- ---- places

first_inside : {A : Type 0} (holds : A → Bool) (i n : ℕ) (xs : List A) → first_from holds i xs ≡ Some n → (i ≤ n) × (n < i + length xs)
first_inside holds i n [] e = absurd (cc)
first_inside holds i n (x ∷ xs) e = go (holds x) e (first_inside holds (i + 1) n xs)
  where
    go : (t : Bool) → cond t (Some i) (first_from holds (i + 1) xs) ≡ Some n → (first_from holds (i + 1) xs ≡ Some n → (i + 1 ≤ n) × (n < i + 1 + length xs))
        → (i ≤ n) × (n < i + length (x ∷ xs))
    go true e more = let h : i ≡ n = cc in (omega (arith, h), omega (arith, h))
    go false e more = let m = more e in (omega (arith, m.0), omega (arith, m.1))

pub first_within : {A : Type 0} (holds : A → Bool) (n : ℕ) (xs : List A) → first_from holds 0 xs ≡ Some n → n < length xs
first_within holds n xs e = let m = first_inside holds 0 n xs e in omega (arith, m.1)

-- ---- one call

abbrev IsCallFrom : List Part → ℕ → ℕ → Site → Type 0
IsCallFrom parts i j s = (s.holder ≡ i) × (place parts s.name ≡ Some j)

some_decided : (P : Site → Type 0) → ((s : Site) → Decided (P s)) → (xs : List Site) → Decided ((s : Site) × IsAmong s xs × P s)
some_decided P d [] = inr (λ h. h.1)
some_decided P d (x ∷ xs) = go (d x) (some_decided P d xs)
  where
    go : Decided (P x) → Decided ((s : Site) × IsAmong s xs × P s) → Decided ((s : Site) × IsAmong s (x ∷ xs) × P s)
    go (inl p) more = inl (x, inl refl, p)
    go (inr n) (inl h) = inl (h.0, inr h.1, h.2)
    go (inr n) (inr m) = inr (λ h. ⊎_elim (λ e. n (subst P e h.2)) (λ a. m (h.0, a, h.2)) h.1)

call_decided : (parts : List Part) (i j : ℕ) → Decided (CallsOne parts i j)
call_decided parts i j = go (some_decided (IsCallFrom parts i j) (λ s. both_decided (cases_eq s.holder i) (same_place (place parts s.name) j)) (sites parts))
  where
    go : Decided ((s : Site) × IsAmong s (sites parts) × IsCallFrom parts i j s) → Decided (CallsOne parts i j)
    go (inl h) = inl (calls_one parts i j h.0 h.1 h.2.0 h.2.1)
    go (inr n) = inr (λ c. n (c.call, at_among c.call (sites parts) c.number c.is, (c.holds, c.calls)))

-- ---- many calls

-- From one place to another, where each place between is below the limit.
abbrev Through : List Part → ℕ → ℕ → ℕ → Type 0
Through parts zero i j = (i ≡ j) ⊎ CallsOne parts i j
Through parts (suc k) i j = Through parts k i j ⊎ (Through parts k i k × Through parts k k j)

through_decided : (parts : List Part) (k i j : ℕ) → Decided (Through parts k i j)
through_decided parts zero i j = either_decided (cases_eq i j) (call_decided parts i j)
through_decided parts (suc k) i j = either_decided (through_decided parts k i j) (both_decided (through_decided parts k i k) (through_decided parts k k j))

pub reaches_on : (parts : List Part) (i j k : ℕ) → Reaches parts i j → Reaches parts j k → Reaches parts i k
reaches_on parts i j k (itself m) r = r
reaches_on parts i j k (by_call m n l c q) r = by_call m n k c (reaches_on parts n l k q r)

through_reaches : (parts : List Part) (k i j : ℕ) → Through parts k i j → Reaches parts i j
through_reaches parts zero i j (inl e) = subst (Reaches parts i) e (itself i)
through_reaches parts zero i j (inr c) = by_call i j j c (itself j)
through_reaches parts (suc k) i j (inl t) = through_reaches parts k i j t
through_reaches parts (suc k) i j (inr t) = reaches_on parts i k j (through_reaches parts k i k t.0) (through_reaches parts k k j t.1)

directly : (parts : List Part) (k i j : ℕ) → Through parts 0 i j → Through parts k i j
directly parts zero i j t = t
directly parts (suc k) i j t = inl (directly parts k i j t)

to_limit : (parts : List Part) (k i : ℕ) → Through parts (suc k) i k → Through parts k i k
to_limit parts k i (inl t) = t
to_limit parts k i (inr t) = t.0

from_limit : (parts : List Part) (k j : ℕ) → Through parts (suc k) k j → Through parts k k j
from_limit parts k j (inl t) = t
from_limit parts k j (inr t) = t.1

-- ways are joined at a place below the limit
joined_ways : (parts : List Part) (k m i j : ℕ) → m < k → Through parts k i m → Through parts k m j → Through parts k i j
joined_ways parts zero m i j lt a b = absurd (omega (arith, lt))
joined_ways parts (suc k) m i j lt a b = ⊎_elim last (λ n. below a b (joined_ways parts k m i j (omega (arith, lt, n))) (joined_ways parts k m i k (omega (arith, lt, n))) (joined_ways parts k m k j (omega (arith, lt, n)))) (cases_eq m k)
  where
    last : m ≡ k → Through parts (suc k) i j
    last e = inr (to_limit parts k i (subst (Through parts (suc k) i) e a), from_limit parts k j (subst (λ x. Through parts (suc k) x j) e b))

    below : Through parts (suc k) i m → Through parts (suc k) m j → (Through parts k i m → Through parts k m j → Through parts k i j)
        → (Through parts k i m → Through parts k m k → Through parts k i k) → (Through parts k k m → Through parts k m j → Through parts k k j) → Through parts (suc k) i j
    below (inl x) (inl y) whole front back = inl (whole x y)
    below (inl x) (inr y) whole front back = inr (front x y.0, y.1)
    below (inr x) (inl y) whole front back = inr (x.0, back x.1 y)
    below (inr x) (inr y) whole front back = inr (x.0, y.1)

through_all : (parts : List Part) (i j : ℕ) → Reaches parts i j → Through parts (length parts) i j
through_all parts i j (itself m) = directly parts (length parts) m m (inl refl)
through_all parts i j (by_call m n l c r) =
    joined_ways parts (length parts) n m l (first_within (λ (p : Part). bytes_eq p.name c.call.name) n parts c.calls)
    (directly parts (length parts) m n (inr c)) (through_all parts n l r)

-- So it is decided.
pub reaching_decided : (parts : List Part) (i j : ℕ) → Decided (Reaches parts i j)
reaching_decided parts i j =
    ⊎_elim (λ t. inl (through_reaches parts (length parts) i j t)) (λ n. inr (λ r. n (through_all parts i j r))) (through_decided parts (length parts) i j)

-- the protocol with a name
pub part_at : (parts : List Part) (name : List ℕ) (j : ℕ) → place parts name ≡ Some j → (p : Part) × (slice_get parts j ≡ Some p)
part_at parts name j e =
    let lt = first_within (λ (p : Part). bytes_eq p.name name) j parts e in
    let d : Part = record { name = []; roles = 0; body = End } in
    (get_or parts j d, slice_get-get_or parts j d lt)
