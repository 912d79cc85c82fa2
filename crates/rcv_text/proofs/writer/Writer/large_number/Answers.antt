-- One digit is its byte, and two are their bytes.
use Rattle.std.proofs.Common.{◌≡◌, ◌+◌, ◌/◌, ◌%◌, ◌<◌, List, [], ◌∷◌, ◌++◌, ap, subst, sym, ◌∙◌, arith}
use Rattle.std.specs.Prelude.{ℕ, OnOk, decimal}
use Rattle.std.proofs.lemmas.Fmt.{decimal_digit, decimal_step}
use Rattle.std.proofs.lemmas.Nat.{div-add-mod'}
use Rattle.rcv_text.proofs.writer.Writer.large_number.Goals as goal

pub returns-then-number-lt10-clause-ok : goal.returns-then-number-lt10-clause-ok
returns-then-number-lt10-clause-ok c =
    subst (λ (digits : List ℕ). OnOk c.byte.result (c.byte.new.self ≡ c.args.self.now ++ digits))
    (sym (decimal_digit c.args.number c.if-number-lt10.true)) c.byte.ensures.ok

pub returns-then-number-lt100-clause-ok : goal.returns-then-number-lt100-clause-ok
returns-then-number-lt100-clause-ok c =
    let n = c.args.number in
    let tens : n / 10 < 10 = omega (arith, c.if-number-lt100.true, div-add-mod' n 10) in
    let whole : decimal n ≡ (48 + n / 10) ∷ [] ++ (48 + n % 10) ∷ [] =
    decimal_step n (omega (arith, c.if-number-lt10.false)) (omega (arith, c.if-number-lt100.true))
    ∙ ap (λ (digits : List ℕ). digits ++ (48 + n % 10) ∷ []) (decimal_digit (n / 10) tens) in
    subst (λ (digits : List ℕ). OnOk c.word.result (c.word.new.self ≡ c.args.self.now ++ digits)) (sym whole) c.word.ensures.ok
