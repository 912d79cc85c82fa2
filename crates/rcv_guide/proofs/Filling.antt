-- Lists that a loop fills from the front.
use Rattle.std.proofs.Common.{◌≡◌, ℕ, zero, suc, ◌+◌, ◌<◌, ◌≤◌, cond, List, [], ◌∷◌, length, length-set, drop, get_or, refl, sym, ◌∙◌, ap, subst, ⊎_elim, arith}
use Rattle.std.specs.Prelude.{◌^◌, Bool, true, false, max, slice_index, slice_set}
use Rattle.std.specs.List.{sum_by, range_with_len}
use Rattle.std.proofs.Math.Seq.{drop-cons}
use Rattle.std.proofs.lemmas.Bool.{cases_eq}
use Rattle.std.proofs.lemmas.List.{get_or-set_same, get_or-set_other, get_or_default}
use Rattle.std.proofs.lemmas.List.Sums.{sum_by-cons}
use Rattle.rcv_tree.specs.Bits.{has_bit}
use Rattle.rcv_guide.specs.declared.numbers.Numbers.{Numbers}
use Rattle.rcv_guide.specs.Numbers.{at_start, numbers_at, latest_from}

-- one place more has its property
pub set_done : (P : ℕ → ℕ → Type 0) (xs : List ℕ) (i v : ℕ) → i < length xs → ((r : ℕ) → r < i → P r (slice_index xs r)) → P i v → (r : ℕ) → r < i + 1 → P r (slice_index (slice_set xs i v) r)
set_done P xs i v lt done here r low = ⊎_elim
    (λ e. subst (λ q. P q (slice_index (slice_set xs i v) q)) e (subst (P i) (sym (get_or-set_same xs i v 0 lt)) here))
    (λ other. subst (P r) (sym (get_or-set_other xs i r v 0 (λ e. other (sym e)))) (done r (omega (arith, low, other))))
    (cases_eq i r)

-- the greatest clock so far, and that of the rest
max_swap : (c b r : ℕ) → max (max c b) r ≡ max b (max c r)
max_swap c b r = omega arith

pub latest_step : (set i best : ℕ) (xs : List Numbers) → i < length xs → max (max (cond (has_bit set i) (numbers_at xs i).clock 0) best) (latest_from set (i + 1) (drop (i + 1) xs)) ≡ max best (latest_from set i (drop i xs))
latest_step set i best xs lt =
    let one : suc i ≡ i + 1 = omega arith in
    let whole : drop i xs ≡ numbers_at xs i ∷ drop (i + 1) xs = drop-cons xs i at_start lt ∙ ap (λ (n : ℕ). numbers_at xs i ∷ drop n xs) one in
    max_swap (cond (has_bit set i) (numbers_at xs i).clock 0) best (latest_from set (i + 1) (drop (i + 1) xs))
    ∙ ap (λ l. max best (latest_from set i l)) (sym whole)

pub latest_end : (set i best : ℕ) (xs : List Numbers) → length xs ≤ i → max best (latest_from set i (drop i xs)) ≡ best
latest_end set i best [] le = nil i
  where
    nil : (n : ℕ) → max best (latest_from set i (drop n [])) ≡ best
    nil zero = omega arith
    nil (suc n) = omega arith
latest_end set zero best (x ∷ xs) le = absurd (omega (arith, le))
latest_end set (suc i) best (x ∷ xs) le = end (drop i xs) (none i xs (omega (arith, le)))
  where
    none : (n : ℕ) (l : List Numbers) → length l ≤ n → drop n l ≡ []
    none zero [] le = refl
    none (suc n) [] le = refl
    none zero (y ∷ l) le = absurd (omega (arith, le))
    none (suc n) (y ∷ l) le = none n l (omega (arith, le))

    end : (l : List Numbers) → l ≡ [] → max best (latest_from set (suc i) l) ≡ best
    end [] e = omega arith
    end (y ∷ l) e = absurd (cc)

-- sums over one number more
sum_last : (f : ℕ → ℕ) (a n : ℕ) → sum_by f (range_with_len a (suc n)) ≡ sum_by f (range_with_len a n) + f (a + n)
sum_last f a zero = let e : f (a + 0) ≡ f a = ap f (omega arith) in omega (arith, e, sum_by-cons f a (range_with_len (a + 1) 0))
sum_last f a (suc n) =
    let ih = sum_last f (a + 1) n in
    let e : f (a + suc n) ≡ f (a + 1 + n) = ap f (omega arith) in
    sum_by-cons f a (range_with_len (a + 1) (suc n)) ∙ (let c = sum_by-cons f a (range_with_len (a + 1) n) in omega (arith, ih, e, c))

pub sum_up_to : (f : ℕ → ℕ) (n : ℕ) → sum_by f (range_with_len 0 (suc n)) ≡ sum_by f (range_with_len 0 n) + f n
sum_up_to f n =
    let same : 0 + n ≡ n = omega arith in
    sum_last f 0 n ∙ ap (λ k. sum_by f (range_with_len 0 n) + f k) same

pub sum_part : (f : ℕ → ℕ) (a n m : ℕ) → n ≤ m → sum_by f (range_with_len a n) ≤ sum_by f (range_with_len a m)
sum_part f a zero m le = omega arith
sum_part f a (suc n) zero le = absurd (omega (arith, le))
sum_part f a (suc n) (suc m) le =
    let ih = sum_part f (a + 1) n m (omega (arith, le)) in
    omega (arith, ih, sum_by-cons f a (range_with_len (a + 1) n), sum_by-cons f a (range_with_len (a + 1) m))

-- the numbers of one role more are set; those behind it are as before
pub record Goes (old now : List Numbers) (f : ℕ → Numbers → Numbers) (i : ℕ) : Type 0 where
  pub all : length now ≡ length old
  pub done : (r : ℕ) → r < i → numbers_at now r ≡ f r (numbers_at old r)
  pub rest : (r : ℕ) → i ≤ r → numbers_at now r ≡ numbers_at old r

pub goes_on : (old now : List Numbers) (f : ℕ → Numbers → Numbers) (i : ℕ) (y : Numbers) → i < length now → Goes old now f i → y ≡ f i (numbers_at old i) → Goes old (slice_set now i y) f (i + 1)
goes_on old now f i y lt so is = record {
  all = length-set now i y ∙ so.all;
  done = λ r low. ⊎_elim
      (λ e. subst (λ q. numbers_at (slice_set now i y) q ≡ f q (numbers_at old q)) e (get_or-set_same now i y at_start lt ∙ is))
      (λ other. get_or-set_other now i r y at_start (λ e. other (sym e)) ∙ so.done r (omega (arith, low, other)))
      (cases_eq i r);
  rest = λ r high. get_or-set_other now i r y at_start (λ e. absurd (omega (arith, high, e))) ∙ so.rest r (omega (arith, high));
}

-- what isn't set yet is as before
pub not_yet : (old now : List Numbers) (f : ℕ → Numbers → Numbers) (i : ℕ) (x : Numbers) → i < length now → Goes old now f i → x ≡ get_or now i x → x ≡ numbers_at old i
not_yet old now f i x lt so is = is ∙ get_or_default now i x at_start lt ∙ so.rest i (omega arith)

-- the latest clock can go up by one where each can
pub latest_few : (set k : ℕ) (xs : List Numbers) → ((r : ℕ) → r < length xs → (numbers_at xs r).clock + 1 < 2 ^ 64) → latest_from set k xs + 1 < 2 ^ 64
latest_few set k [] few = omega arith
latest_few set k (x ∷ xs) few =
    let here : x.clock + 1 < 2 ^ 64 = few 0 (omega arith) in
    let others = latest_few set (k + 1) xs (λ r lt. few (suc r) (omega (arith, lt))) in
    go (has_bit set k) here others
  where
    go : (b : Bool) → x.clock + 1 < 2 ^ 64 → latest_from set (k + 1) xs + 1 < 2 ^ 64 → max (cond b x.clock 0) (latest_from set (k + 1) xs) + 1 < 2 ^ 64
    go true here others = omega (arith, here, others)
    go false here others = omega (arith, others)
