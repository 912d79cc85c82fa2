-- A text whose calls are known has an expansion, with points in text order from any number on.
use Rattle.std.proofs.Common.{◌≡◌, ℕ, ◌+◌, List, [], ◌∷◌, ◌++◌, length, refl, subst, inl, inr, length-append, arith}
use Rattle.rcv_model.specs.Text.{Body, End, Single, Choose, Loop, Again, Parallel, Call, Bodies, NoMore, Or}
use Rattle.rcv_model.specs.Form.{IsNumberedFrom}
use Rattle.rcv_model.specs.Places.{SingleMessage, singles, singles_of}
use Rattle.rcv_module.specs.Parts.{Part, site, calls, calls_of}
use Rattle.rcv_module.specs.Expansion as expansion
use Rattle.rcv_module.specs.Expansion.{Stands, called_with}
use Rattle.rcv_module.proofs.Measured.{CallsKnown, AllCallsKnown, Unfolds, AllUnfold, in_left, in_right}

abbrev Made : Type 0
Made = List (ℕ × SingleMessage)

numbers_joined : (n m : ℕ) (xs ys : Made) → m ≡ n + length xs → IsNumberedFrom n xs → IsNumberedFrom m ys → IsNumberedFrom n (xs ++ ys)
numbers_joined n m [] ys e k l = subst (λ i. IsNumberedFrom i ys) (let h : m ≡ n = omega (arith, e) in h) l
numbers_joined n m (x ∷ xs) ys e k l = (k.0, numbers_joined (n + 1) m xs ys (omega (arith, e)) k.1 l)

from_sum : (n a b : ℕ) (xs : Made) → IsNumberedFrom (n + (a + b)) xs → IsNumberedFrom (n + a + b) xs
from_sum n a b xs k = subst (λ i. IsNumberedFrom i xs) (let h : n + (a + b) ≡ n + a + b = omega arith in h) k

to_nothing : (n a : ℕ) → IsNumberedFrom (n + a) (singles End)
to_nothing n a = tt

mutual
  pub unfolds : (parts : List Part) (h : ℕ) (st : Stands) (b : Body) → CallsKnown parts h b → Unfolds parts st b
  unfolds parts h st End k = (
    0,
    λ n next f. record {
      whole = next;
      expands = expansion.at_end;
      numbered = subst (λ i. IsNumberedFrom i (singles next)) (let e : n + 0 ≡ n = omega arith in e) f;
      long = omega arith;
    },
  )
  unfolds parts h st (Single label sorts s r p rest) k =
      let x = unfolds parts h st rest k in (
        1 + x.0,
        λ n next f.
            let y = x.1 (n + 1) next (from_sum n 1 x.0 (singles next) f) in record {
              whole = Single label sorts (st s) (st r) n y.whole;
              expands = expansion.message n y.expands;
              numbered = (refl, y.numbered);
              long = let l = y.long in omega (arith, l);
            },
      )
  unfolds parts h st (Choose s bs rest) k =
      let x = all_unfold parts h st bs (in_left (calls_of h bs) (calls h rest) k) in
      let y = unfolds parts h st rest (in_right (calls_of h bs) (calls h rest) k) in (
        x.0 + y.0,
        λ n next f.
            let a = x.1 n in
            let b = y.1 (n + x.0) next (from_sum n x.0 y.0 (singles next) f) in
            let l = a.long in
            let m = b.long in
            let z = length-append (singles_of a.wholes) (singles b.whole) in record {
              whole = Choose (st s) a.wholes b.whole;
              expands = expansion.choice a.expands b.expands;
              numbered = numbers_joined n (n + x.0) (singles_of a.wholes) (singles b.whole) (omega (arith, l)) a.numbered b.numbered;
              long = omega (arith, l, m, z);
            },
      )
  unfolds parts h st (Loop name body rest) k =
      let x = unfolds parts h st body (in_left (calls h body) (calls h rest) k) in
      let y = unfolds parts h st rest (in_right (calls h body) (calls h rest) k) in (
        x.0 + y.0,
        λ n next f.
            let a = x.1 n End (to_nothing n x.0) in
            let b = y.1 (n + x.0) next (from_sum n x.0 y.0 (singles next) f) in
            let l = a.long in
            let m = b.long in
            let z = length-append (singles a.whole) (singles b.whole) in record {
              whole = Loop name a.whole b.whole;
              expands = expansion.loop a.expands b.expands;
              numbered = numbers_joined n (n + x.0) (singles a.whole) (singles b.whole) (omega (arith, l)) a.numbered b.numbered;
              long = omega (arith, l, m, z);
            },
      )
  unfolds parts h st (Again name rest) k =
      let x = unfolds parts h st rest k in (
        x.0,
        λ n next f.
            let y = x.1 n next f in record { whole = Again name y.whole; expands = expansion.again y.expands; numbered = y.numbered; long = y.long },
      )
  unfolds parts h st (Parallel bs rest) k =
      let x = all_unfold parts h st bs (in_left (calls_of h bs) (calls h rest) k) in
      let y = unfolds parts h st rest (in_right (calls_of h bs) (calls h rest) k) in (
        x.0 + y.0,
        λ n next f.
            let a = x.1 n in
            let b = y.1 (n + x.0) next (from_sum n x.0 y.0 (singles next) f) in
            let l = a.long in
            let m = b.long in
            let z = length-append (singles_of a.wholes) (singles b.whole) in record {
              whole = Parallel a.wholes b.whole;
              expands = expansion.beside a.expands b.expands;
              numbered = numbers_joined n (n + x.0) (singles_of a.wholes) (singles b.whole) (omega (arith, l)) a.numbered b.numbered;
              long = omega (arith, l, m, z);
            },
      )
  unfolds parts h st (Call name roles rest) k =
      let c = k (site h name roles) (inl refl) in
      let x = c.2.unfolds (called_with st roles) in
      let y = unfolds parts h st rest (λ t a. k t (inr a)) in (
        x.0 + y.0,
        λ n next f.
            let b = y.1 (n + x.0) next (from_sum n x.0 y.0 (singles next) f) in
            let a = x.1 n b.whole b.numbered in
            let l = a.long in
            let m = b.long in record {
              whole = a.whole;
              expands = expansion.call c.0 c.1 a.expands b.expands;
              numbered = a.numbered;
              long = omega (arith, l, m);
            },
      )

  all_unfold : (parts : List Part) (h : ℕ) (st : Stands) (bs : Bodies) → AllCallsKnown parts h bs → AllUnfold parts st bs
  all_unfold parts h st NoMore k = (0, λ n. record { wholes = NoMore; expands = expansion.no_more; numbered = tt; long = refl })
  all_unfold parts h st (Or b bs) k =
      let x = unfolds parts h st b (in_left (calls h b) (calls_of h bs) k) in
      let y = all_unfold parts h st bs (in_right (calls h b) (calls_of h bs) k) in (
        x.0 + y.0,
        λ n.
            let a = x.1 n End (to_nothing n x.0) in
            let c = y.1 (n + x.0) in
            let l = a.long in
            let m = c.long in
            let z = length-append (singles a.whole) (singles_of c.wholes) in record {
              wholes = Or a.whole c.wholes;
              expands = expansion.one_more a.expands c.expands;
              numbered = numbers_joined n (n + x.0) (singles a.whole) (singles_of c.wholes) (omega (arith, l)) a.numbered c.numbered;
              long = omega (arith, l, m, z);
            },
      )
