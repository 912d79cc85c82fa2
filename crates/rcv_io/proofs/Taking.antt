-- Taking bytes from a source, one piece behind another.
use Rattle.std.proofs.Common.{◌≡◌, ℕ, ◌<◌, ◌≤◌, List, [], ◌++◌, length, take, Option, Some, None, Err, refl, sym, ◌∙◌, ap, subst, arith, append_assoc, length-append}
use Rattle.std.specs.Io.KnownBytes.{prepend_known}
use Rattle.rcv_io.specs.declared.fault.ReadError.{ReadError}
use Rattle.rcv_io.specs.declared.fault.ReadError.TheVariants.{TooLong}
use Rattle.rcv_io.specs.Causes.{counted}
use Rattle.rcv_io.specs.Source.{Took, ReadsWhole}

prepend_more : (a b : List ℕ) (rest : Option (List ℕ)) → prepend_known a (prepend_known b rest) ≡ prepend_known (a ++ b) rest
prepend_more a b None = refl
prepend_more a b (Some xs) = ap (λ (ys : List ℕ). Some ys) (sym (append_assoc a b xs))

prepend_none : (rest : Option (List ℕ)) → rest ≡ prepend_known [] rest
prepend_none None = refl
prepend_none (Some xs) = refl

-- nothing was taken yet
pub took_none : (rest : Option (List ℕ)) (given : ℕ) (taken : List ℕ) → taken ≡ [] → Took rest rest given given taken
took_none rest given taken none = subst (λ (l : List ℕ). Took rest rest given given l) (sym none)
    record { front = prepend_none rest; each_counted = omega arith; no_other = omega arith }

-- one more piece
pub took_more : (rest_old rest_now rest_new : Option (List ℕ)) (given_old given_now given_new : ℕ) (taken more : List ℕ)
    → Took rest_old rest_now given_old given_now taken → rest_now ≡ prepend_known more rest_new → given_new ≡ counted given_now (length more)
    → Took rest_old rest_new given_old given_new (taken ++ more)
took_more rest_old rest_now rest_new given_old given_now given_new taken more took front number = record {
  front = took.front ∙ ap (prepend_known taken) front ∙ prepend_more taken more rest_new;
  each_counted = omega (arith, length-append taken more);
  no_other = omega (arith, length-append taken more);
}

-- one more piece, which is the front of a buffer
pub took_piece : (rest_old rest_now rest_new : Option (List ℕ)) (given_old given_now given_new : ℕ) (taken : List ℕ) (n : ℕ) (buf : List ℕ)
    → Took rest_old rest_now given_old given_now taken → n ≡ length (take n buf)
    → rest_now ≡ prepend_known (take n buf) rest_new → given_new ≡ counted given_now n
    → Took rest_old rest_new given_old given_new (taken ++ take n buf)
took_piece rest_old rest_now rest_new given_old given_now given_new taken n buf took len front number =
    took_more rest_old rest_now rest_new given_old given_now given_new taken (take n buf) took front (number ∙ ap (counted given_now) len)

-- more was taken than the caller takes
pub too_long : (rest_old rest_new : Option (List ℕ)) (given_old given_new most : ℕ) (taken : List ℕ) (e : ReadError)
    → Took rest_old rest_new given_old given_new taken → most < length taken → e ≡ TooLong
    → ReadsWhole rest_old rest_new given_old given_new most (Err e)
too_long rest_old rest_new given_old given_new most taken e took more is = record {
  taken = taken;
  took = took;
  bytes = tt;
  too_long = (λ _. more, λ _. ap (λ (x : ReadError). Err x) is);
}

-- another error, with no more taken than the caller takes
pub stopped : (rest_old rest_new : Option (List ℕ)) (given_old given_new most : ℕ) (taken : List ℕ) (e f : ReadError)
    → Took rest_old rest_new given_old given_new taken → length taken ≤ most → e ≡ f → (f ≡ TooLong → ⊥)
    → ReadsWhole rest_old rest_new given_old given_new most (Err e)
stopped rest_old rest_new given_old given_new most taken e f took short is other = record {
  taken = taken;
  took = took;
  bytes = tt;
  too_long = (λ (long : Err e ≡ Err TooLong). absurd (other (cc)), λ long. absurd (omega arith));
}
