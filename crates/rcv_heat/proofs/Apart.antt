-- Rows and columns ascend.
use Rattle.std.proofs.Common.{◌≡◌, ℕ, ◌+◌, ◌*◌, ◌/◌, ◌<◌, ◌≤◌, arith}
use Rattle.std.specs.Prelude.{min}
use Rattle.rcv_heat.specs.Laws.{RowsStandApart, ColumnsStandApart}

pub rows : RowsStandApart
rows r q lt = omega (arith, lt)

-- a column more is one width more
wider : (a b w : ℕ) → a < b → a * w + w ≤ b * w
wider a b w lt = grind (arith, lt)

pub columns : ColumnsStandApart
columns grid m n lt few =
    let a : min (m / grid.step) 100000 ≡ m / grid.step = omega (arith, lt, few) in
    let b : min (n / grid.step) 100000 ≡ n / grid.step = omega (arith, few) in
    let less : min (m / grid.step) 100000 < min (n / grid.step) 100000 = omega (arith, a, b, lt) in
    let more = wider (min (m / grid.step) 100000) (min (n / grid.step) 100000) grid.wide less in
    omega (arith, more)
