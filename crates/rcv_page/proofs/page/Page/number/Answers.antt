-- One digit is its byte, and two are their bytes.
use Rattle.std.proofs.Common.{◌≡◌, ◌+◌, ◌/◌, ◌%◌, ◌<◌, List, [], ◌∷◌, ◌++◌, ap, sym, ◌∙◌, arith}
use Rattle.std.specs.Prelude.{ℕ, decimal}
use Rattle.std.proofs.lemmas.Fmt.{decimal_digit, decimal_step}
use Rattle.std.proofs.lemmas.Nat.{div-add-mod'}
use Rattle.rcv_page.proofs.Adding.{then, adds_same}
use Rattle.rcv_page.proofs.page.Page.number.Goals as goal

pub returns-then-number-lt10 : goal.returns-then-number-lt10
returns-then-number-lt10 g c = adds_same _ _ _ _ (sym (decimal_digit c.args.number c.if-number-lt10.true)) c.byte.ensures

pub returns-then-number-lt100 : goal.returns-then-number-lt100
returns-then-number-lt100 g c =
    let n = c.args.number in
    let tens : n / 10 < 10 = omega (arith, c.if-number-lt100.true, div-add-mod' n 10) in
    let whole : decimal n ≡ (48 + n / 10) ∷ [] ++ (48 + n % 10) ∷ [] =
    decimal_step n (omega (arith, c.if-number-lt10.false)) (omega (arith, c.if-number-lt100.true))
    ∙ ap (λ (digits : List ℕ). digits ++ (48 + n % 10) ∷ []) (decimal_digit (n / 10) tens) in
    adds_same _ _ _ _ (sym whole) (then c.byte-then-number-lt100.ensures c.byte-then-number-lt100-2.ensures)
