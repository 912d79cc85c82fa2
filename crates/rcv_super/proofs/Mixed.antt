-- Cells of two lists, by a test of their places.
use Rattle.std.proofs.Common.{◌≡◌, ℕ, zero, suc, ◌<◌, ◌≤◌, Bool, true, false, List, [], ◌∷◌, length, refl, ◌∙◌, ap, arith, if◌then◌else◌}
use Rattle.rcv_tree.specs.declared.entry.Timed.{Timed}
use Rattle.rcv_role.specs.Cell.{CellView}
use Rattle.rcv_cells.specs.Home.{cell_at, logs_in}

-- those of the first list where the test holds, else those of the second
abbrev pub mixed : (ℕ → Bool) → List CellView → List CellView → List CellView
mixed f [] ys = []
mixed f (x ∷ xs) [] = []
mixed f (x ∷ xs) (y ∷ ys) = (if f 0 then x else y) ∷ mixed (λ n. f (suc n)) xs ys

pub mixed_length : (f : ℕ → Bool) (xs ys : List CellView) → length ys ≡ length xs → length (mixed f xs ys) ≡ length xs
mixed_length f [] ys n = refl
mixed_length f (x ∷ xs) [] n = absurd (omega (arith, n))
mixed_length f (x ∷ xs) (y ∷ ys) n = let e = mixed_length (λ n. f (suc n)) xs ys (omega (arith, n)) in omega (arith, e)

pub mixed_first : (f : ℕ → Bool) (xs ys : List CellView) (r : ℕ) (d : CellView) → length ys ≡ length xs → r < length xs → f r ≡ true → cell_at (mixed f xs ys) r d ≡ cell_at xs r d
mixed_first f [] ys r d n lt e = absurd (omega (arith, lt))
mixed_first f (x ∷ xs) [] r d n lt e = absurd (omega (arith, n))
mixed_first f (x ∷ xs) (y ∷ ys) zero d n lt e = ap (λ b. if b then x else y) e
mixed_first f (x ∷ xs) (y ∷ ys) (suc r) d n lt e = mixed_first (λ n. f (suc n)) xs ys r d (omega (arith, n)) (omega (arith, lt)) e

pub mixed_second : (f : ℕ → Bool) (xs ys : List CellView) (r : ℕ) (d : CellView) → length ys ≡ length xs → r < length xs → f r ≡ false → cell_at (mixed f xs ys) r d ≡ cell_at ys r d
mixed_second f [] ys r d n lt e = absurd (omega (arith, lt))
mixed_second f (x ∷ xs) [] r d n lt e = absurd (omega (arith, n))
mixed_second f (x ∷ xs) (y ∷ ys) zero d n lt e = ap (λ b. if b then x else y) e
mixed_second f (x ∷ xs) (y ∷ ys) (suc r) d n lt e = mixed_second (λ n. f (suc n)) xs ys r d (omega (arith, n)) (omega (arith, lt)) e

-- their logs are those of the second list where the first one's are the same
pub mixed_logs : (f : ℕ → Bool) (xs ys : List CellView) → length ys ≡ length xs → ((r : ℕ) (d : CellView) → r < length xs → f r ≡ true → (cell_at xs r d).part.log ≡ (cell_at ys r d).part.log) → logs_in (mixed f xs ys) ≡ logs_in ys
mixed_logs f [] [] n same = refl
mixed_logs f [] (y ∷ ys) n same = absurd (omega (arith, n))
mixed_logs f (x ∷ xs) [] n same = absurd (omega (arith, n))
mixed_logs f (x ∷ xs) (y ∷ ys) n same = ap (λ l. l ∷ logs_in (mixed (λ n. f (suc n)) xs ys)) (one (f 0) refl) ∙ ap (λ (l : List (List Timed)). y.part.log ∷ l) (mixed_logs (λ n. f (suc n)) xs ys (omega (arith, n)) (λ r d lt e. same (suc r) d (omega (arith, lt)) e))
  where
    one : (b : Bool) → f 0 ≡ b → (if f 0 then x else y).part.log ≡ y.part.log
    one true e = ap (λ b. (if b then x else y).part.log) e ∙ same 0 x (omega arith) e
    one false e = ap (λ b. (if b then x else y).part.log) e

pub beyond : (xs : List CellView) (k : ℕ) (d : CellView) → length xs ≤ k → cell_at xs k d ≡ d
beyond [] k d le = refl
beyond (x ∷ xs) zero d le = absurd (omega (arith, le))
beyond (x ∷ xs) (suc k) d le = beyond xs k d (omega (arith, le))
