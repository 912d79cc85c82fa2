use Rattle.std.proofs.Common.{◌≡◌, ℕ, suc, ◌+◌, ◌-◌, ◌*◌, ◌<◌, ◌≤◌, List, [], ◌∷◌, length, drop, sym, ap, ◌∙◌, add-one, drop-cons, arith}
use Rattle.std.specs.Prelude.{slice_index_or}
use Rattle.std.proofs.lemmas.List.{drop_all}
use Rattle.rcv_lexer.specs.Symbols.{decimal, greatest, capped}
use Rattle.rcv_lexer.proofs.lexeme.number_of.Goals as goal

-- what is above the greatest number stays there
same_digits : (m n : ℕ) (ds : List ℕ) → capped m ≡ capped n → capped (decimal m ds) ≡ capped (decimal n ds)
same_digits m n [] e = e
same_digits m n (d ∷ ds) e = same_digits (m * 10 + (d - 48)) (n * 10 + (d - 48)) ds (omega (arith, e))

-- one digit more of a number that stops at the greatest one
step : (n p s r i : ℕ) (ds : List ℕ) → i < length ds → capped (decimal n (drop i ds)) ≡ capped (decimal 0 ds)
    → p ≡ capped (n * 10) → r ≡ slice_index_or ds i 0 - 48 → s ≡ capped (p + r) → (capped (decimal s (drop (i + 1) ds)) ≡ capped (decimal 0 ds)) × (s ≤ greatest)
step n p s r i ds within so_far product digit sum =
    let one : capped s ≡ capped (n * 10 + (slice_index_or ds i 0 - 48)) = omega (arith, product, digit, sum) in
    let here = ap (λ (xs : List ℕ). capped (decimal n xs)) (drop-cons ds i 0 within) in
    (rw add-one (same_digits s _ (drop (suc i) ds) one ∙ sym here ∙ so_far), omega (arith, sum))

pub loop-digit-preserved : goal.loop-digit-preserved
loop-digit-preserved c =
    step c.loop-digit.number c.saturating_mul.result c.saturating_add-number.result c.saturating_sub.result c.loop-digit.digit-index c.args.digits.now
    c.loop-digit-test.true c.loop-digit.invariant.0 c.saturating_mul.ensures c.saturating_sub.ensures c.saturating_add-number.ensures

pub returns : goal.returns
returns c =
    let all = drop_all c.loop-digit.digit-index c.args.digits.now (omega arith) in
    let fits : capped c.loop-digit.number ≡ c.loop-digit.number = omega (arith, c.loop-digit.invariant.1) in
    sym fits ∙ rw all at c.loop-digit.invariant.0
