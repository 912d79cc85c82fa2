-- Columns and rows of a proper grid are apart.
use Rattle.std.proofs.Common.{◌≡◌, ℕ, zero, suc, ◌+◌, ◌<◌, ◌≤◌, List, [], ◌∷◌, Some, slice_get, lit≤, ap, subst, sym, arith}
use Rattle.rcv_model.proofs.Lists.{some_same}
use Rattle.rcv_picture.specs.declared.pixels.Pixels.{Pixels}
use Rattle.rcv_scene.specs.declared.layout.Row.{Row}
use Rattle.rcv_scene.specs.Seen.{pixels}
use Rattle.rcv_scene.specs.Grid.{AreBeside, AreBelow, IsBelow, mark_width, half_row}
use Rattle.rcv_scene.specs.Laws.{ColumnsStandApart, RowsStandApart}

-- each column is at least so far
no_further : (least : ℕ) (columns : List Pixels) (j : ℕ) (y : Pixels) → AreBeside least columns → slice_get columns j ≡ Some y → least ≤ y.0
no_further least [] zero y are is = absurd cc
no_further least [] (suc j) y are is = absurd cc
no_further least (x ∷ columns) zero y are is = subst (λ (p : Pixels). least ≤ p.0) (some_same is) are.0
no_further least (x ∷ columns) (suc j) y are is =
    let first = are.0 in
    let later = no_further (x.0 + mark_width) columns j y are.1 is in
    omega (arith, first, later)

apart_from : (least : ℕ) (columns : List Pixels) (i j : ℕ) (x y : Pixels) → AreBeside least columns → i < j
    → slice_get columns i ≡ Some x → slice_get columns j ≡ Some y → x.0 + mark_width ≤ y.0
apart_from least [] zero j x y are lt is_x is_y = absurd cc
apart_from least [] (suc i) j x y are lt is_x is_y = absurd cc
apart_from least (c ∷ columns) zero zero x y are lt is_x is_y = absurd (omega (arith, lt))
apart_from least (c ∷ columns) zero (suc j) x y are lt is_x is_y =
    subst (λ (p : Pixels). p.0 + mark_width ≤ y.0) (some_same is_x) (no_further (c.0 + mark_width) columns j y are.1 is_y)
apart_from least (c ∷ columns) (suc i) zero x y are lt is_x is_y = absurd (omega (arith, lt))
apart_from least (c ∷ columns) (suc i) (suc j) x y are lt is_x is_y =
    apart_from (c.0 + mark_width) columns i j x y are.1 (omega (arith, lt)) is_x is_y

pub columns_apart : ColumnsStandApart
columns_apart columns i j x y are lt is_x is_y = apart_from 0 columns i j x y are lt is_x is_y

-- each row begins at least so low
no_lower : (least : ℕ) (rows : List Row) (j : ℕ) (b : Row) → AreBelow least rows → slice_get rows j ≡ Some b → least + half_row ≤ b.middle.0
no_lower least [] zero b are is = absurd cc
no_lower least [] (suc j) b are is = absurd cc
no_lower least (a ∷ rows) zero b are is =
    subst (λ (r : Row). least + half_row ≤ r.middle.0) (some_same is) (let low = are.0.begins in let above = are.0.above in omega (arith, low, above))
no_lower least (a ∷ rows) (suc j) b are is =
    let low = are.0.begins in
    let above = are.0.above in
    let under = are.0.under in
    let later = no_lower a.bottom.0 rows j b are.1 is in
    omega (arith, low, above, under, later)

below_from : (least : ℕ) (rows : List Row) (i j : ℕ) (a b : Row) → AreBelow least rows → i < j
    → slice_get rows i ≡ Some a → slice_get rows j ≡ Some b → a.middle.0 + half_row + half_row ≤ b.middle.0
below_from least [] zero j a b are lt is_a is_b = absurd cc
below_from least [] (suc i) j a b are lt is_a is_b = absurd cc
below_from least (r ∷ rows) zero zero a b are lt is_a is_b = absurd (omega (arith, lt))
below_from least (r ∷ rows) zero (suc j) a b are lt is_a is_b =
    subst (λ (q : Row). q.middle.0 + half_row + half_row ≤ b.middle.0) (some_same is_a)
    (let under = are.0.under in let later = no_lower r.bottom.0 rows j b are.1 is_b in omega (arith, under, later))
below_from least (r ∷ rows) (suc i) zero a b are lt is_a is_b = absurd (omega (arith, lt))
below_from least (r ∷ rows) (suc i) (suc j) a b are lt is_a is_b =
    below_from r.bottom.0 rows i j a b are.1 (omega (arith, lt)) is_a is_b

pub rows_apart : RowsStandApart
rows_apart rows i j a b are lt is_a is_b = below_from 0 rows i j a b are lt is_a is_b

-- two columns of a small picture stand so
two_columns : AreBeside 0 (pixels 118 ∷ pixels 250 ∷ [])
two_columns = (lit≤ tt, (lit≤ tt, tt))

-- two marks in one column don't
not_one_column : AreBeside 0 (pixels 118 ∷ pixels 118 ∷ []) → ⊥
not_one_column are = let second = are.1.0 in omega (arith, second)
