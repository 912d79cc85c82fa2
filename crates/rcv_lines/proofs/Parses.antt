-- What a parse of a number's text answers.
use Rattle.std.proofs.Common.{◌≡◌, ◌∙◌, ◌<◌, ◌≤◌, ◌^◌, ℕ, ℤ, pos, negsuc, Result, Ok, Err, FitsSigned, sym, ap, arith}
use Rattle.std.specs.Result.{result_unwrap_or}
use Rattle.std.specs.Int.Signed.{mag}
use Rattle.std.specs.Prelude.{IfNone, IfOk, IfSome, Option, Some, None, List, decimal}
use Rattle.std.proofs.lemmas.Fmt.{decimal_injective}
use mir.Syntax.{w64}

pub err_is_not_ok : {T E : Type 0} (r : Result T E) (n : T) (e : E) → r ≡ Err e → r ≡ Ok n → ⊥
err_is_not_ok (Ok x) n e is_err is_ok = cc
err_is_not_ok (Err x) n e is_err is_ok = cc

pub ok_value : {T E : Type 0} (r : Result T E) (m n : T) → r ≡ Ok m → r ≡ Ok n → m ≡ n
ok_value r m n a b = ap (λ q. result_unwrap_or q m) (sym a ∙ b)

-- A signed number of 64 bits is below 2 ^ 63 without its sign.
pub within : (z : ℤ) → FitsSigned w64 z → mag z < 2 ^ 63
within (pos n) fits = fits.sfits
within (negsuc n) fits = fits.sfits

-- What follows where there is no answer.
pub none_from : {T P Q : Type 0} (o : Option T) → (P → Q) → IfNone o P → IfNone o Q
none_from None f p = f p
none_from (Some x) f p = p

-- A number that 32 bits don't hold is written otherwise than one that they hold.
pub too_long : (field : List ℕ) (read n : ℕ) → read < 2 ^ 64 → field ≡ decimal read → 2 ^ 32 ≤ read → n < 2 ^ 32 → field ≡ decimal n → ⊥
too_long field read n wide was long fits is =
    let same = decimal_injective read n wide (omega (arith, fits)) (sym was ∙ is) in
    omega (arith, same, long, fits)

-- What follows where there is an answer.
pub some_from : {T : Type 0} {P R : T → Type 0} (o : Option T) → ((x : T) → P x → R x) → IfSome o P → IfSome o R
some_from None f p = p
some_from (Some x) f p = f x p

-- The same of an answer that may fail.
pub ok_some_from : {T E : Type 0} {P R : T → Type 0} (r : Result (Option T) E) → ((x : T) → P x → R x) → IfOk r (λ o. IfSome o P) → IfOk r (λ o. IfSome o R)
ok_some_from (Ok None) f p = p
ok_some_from (Ok (Some x)) f p = f x p
ok_some_from (Err e) f p = p

pub ok_none_from : {T E P R : Type 0} (r : Result (Option T) E) → (P → R) → IfOk r (λ o. IfNone o P) → IfOk r (λ o. IfNone o R)
ok_none_from (Ok None) f p = f p
ok_none_from (Ok (Some x)) f p = p
ok_none_from (Err e) f p = p

pub ok_both_from : {T E : Type 0} {P Q R : T → Type 0} (r : Result (Option T) E) → ((x : T) → P x → Q x → R x) → IfOk r (λ o. IfSome o P) → IfOk r (λ o. IfSome o Q) → IfOk r (λ o. IfSome o R)
ok_both_from (Ok None) f p q = p
ok_both_from (Ok (Some x)) f p q = f x p q
ok_both_from (Err e) f p q = p
