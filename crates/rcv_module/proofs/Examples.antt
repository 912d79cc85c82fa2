-- Worked modules: what is expanded, what is walked, what is refused and where.
use Rattle.std.proofs.Common.{◌≡◌, ℕ, zero, suc, ◌<◌, Some, None, List, [], ◌∷◌, ◌++◌, cond, codes, refl, sym, ap, ◌∙◌, subst, inl, inr, ⊎_elim, ne_eqb, arith}
use Rattle.std.specs.Prelude.{slice_get}
use Rattle.std.proofs.lemmas.Bool.{cases_eq}
use Rattle.rcv_model.specs.Text.{Body, End, Single, Parallel, Call, NoMore, Or}
use Rattle.rcv_model.specs.Places.{lane_at}
use Rattle.rcv_module.specs.Form.{HasRole, SomeHasRole, ShareNoRole}
use Rattle.rcv_module.specs.declared.fault.Fault.{Fault}
use Rattle.rcv_module.specs.declared.fault.Fault.TheVariants.{Deep, NoName, TooMany, Arity, Recursive, Empty}
use Rattle.rcv_module.specs.Parts.{Part, Site, sites, site}
use Rattle.rcv_module.specs.Sizes as sizes
use Rattle.rcv_module.specs.Sizes.{Size, AreMarks, blamed, first_deep, first_many}
use Rattle.rcv_module.specs.Refusing.{code_of, itself, by_call, HoldsAt, IsFirstCall}
use Rattle.rcv_module.specs.Expansion as expansion
use Rattle.rcv_module.specs.Expansion.{IsExpansion, themselves, called_with, Expands}
use Rattle.rcv_module.specs.declared.origin.Called.{Called}
use Rattle.rcv_module.specs.declared.origin.Origin.{Origin}
use Rattle.rcv_module.specs.Origins as origins
use Rattle.rcv_module.specs.Origins.{Come, IsFrom, AreOrigins, calls_before}
use Rattle.rcv_module.specs.Walks as walks
use Rattle.rcv_module.specs.Walks.{IsWalkOfModule, IsModuleWalk, Todo, IsOver, at_first, gone_on, todo, said}

abbrev part : List ℕ → ℕ → Body → Part
part name roles body = record { name = name; roles = roles; body = body }

-- ping() from role 0 to role 1, and from role 1 to role 0
abbrev ping : Body → Body
ping rest = Single (codes "ping") [] 0 1 1 rest

abbrev both_ways : Body → Body
both_ways rest = Call (codes "Half") (0 ∷ 1 ∷ []) (Call (codes "Half") (1 ∷ 0 ∷ []) rest)

abbrev half : Part
half = part (codes "Half") 2 (ping End)

-- module with Main { do Half(A, B); do Half(B, A); } and Half { ping() from X to Y; }
abbrev twice : List Part
twice = part (codes "Main") 2 (both_ways End) ∷ half ∷ []

-- The second call exchanges the roles, and the points are counted anew.
exchanged : IsExpansion twice (Single (codes "ping") [] 0 1 1 (Single (codes "ping") [] 1 0 2 End))
exchanged = record {
  main = part (codes "Main") 2 (both_ways End);
  first = refl;
  expands = expansion.call half (1, refl, refl) (expansion.message 1 expansion.at_end) (expansion.call half (1, refl, refl) (expansion.message 2 expansion.at_end) expansion.at_end);
  numbered = (refl, (refl, tt));
}

-- points that aren't counted anew are no expansion
not_counted : IsExpansion twice (Single (codes "ping") [] 0 1 1 (Single (codes "ping") [] 1 0 1 End)) → ⊥
not_counted x = let e : 1 ≡ 2 = x.numbered.1.0 in omega (arith, e)

-- A walk through the module enters both calls.
walked : IsWalkOfModule twice (said (codes "ping") [] 0 1 ∷ said (codes "ping") [] 1 0 ∷ [])
walked = record {
  main = part (codes "Main") 2 (both_ways End);
  first = refl;
  walk = (
    0,
    _,
    record { takes = walks.call half (1, refl, refl) walks.message; over = λ k lt. omega (arith, lt) },
    (0, _, record { takes = walks.behind (walks.call half (1, refl, refl) walks.message); over = λ k lt. omega (arith, lt) }, tt),
  );
}

-- ---- origins

-- Both points are the one of Half, and each came through a call of its own.
through_both : (a b : Origin) → IsFrom 1 1 (origins.called 0 1 ∷ []) a → IsFrom 1 1 (origins.called 1 1 ∷ []) b → AreOrigins twice (a ∷ b ∷ [])
through_both a b x y = record {
  main = part (codes "Main") 2 (both_ways End);
  first = refl;
  calls = 2;
  come = origins.call 1 half refl refl (origins.message a x origins.at_end) (origins.call 1 half refl refl (origins.message b y origins.at_end) origins.at_end);
}

from_half : {through : List Called} {n m : ℕ} {os : List Origin} (more : List Origin) (c : Origin) → Come twice 1 through n (ping End) os m → slice_get (os ++ more) 0 ≡ Some c → c.calls.items ≡ through
from_half {through} more c (origins.message o from d) e = let same : o ≡ c = cc in subst (λ (z : Origin). z.calls.items ≡ through) same from.came

first_through : {os : List Origin} {m : ℕ} (c : Origin) → Come twice 0 [] 0 (both_ways End) os m → slice_get os 0 ≡ Some c → c.calls.items ≡ origins.called 0 1 ∷ []
first_through c (origins.call {k = k} {inner = inner} {os = more} j p named at a d) e =
    let second : Some 1 ≡ Some j = named in
    let one : j ≡ 1 = cc in
    let is : Some half ≡ Some p = subst (λ i. slice_get twice i ≡ Some p) one at in
    let same : p ≡ half = cc in
    from_half more c (subst (λ (q : Part). Come twice 1 (origins.called 0 1 ∷ []) (calls_before twice 1) q.body inner k) same (subst (λ i. Come twice i (origins.called 0 i ∷ []) (calls_before twice i) p.body inner k) one a)) e

abbrev number_of : List Called → ℕ
number_of [] = 0
number_of (c ∷ cs) = c.number

-- the calls exchanged
through_the_other : (a b : Origin) → IsFrom 1 1 (origins.called 1 1 ∷ []) a → IsFrom 1 1 (origins.called 0 1 ∷ []) b → AreOrigins twice (a ∷ b ∷ []) → ⊥
through_the_other a b x y os =
    let main : Some (part (codes "Main") 2 (both_ways End)) ≡ Some os.main = os.first in
    let same : os.main ≡ part (codes "Main") 2 (both_ways End) = cc in
    let come : Come twice 0 [] 0 (both_ways End) (a ∷ b ∷ []) os.calls = subst (λ (p : Part). Come twice 0 [] 0 p.body (a ∷ b ∷ []) os.calls) same os.come in
    let number : 1 ≡ 0 = ap number_of (sym x.came ∙ first_through a come refl) in
    omega (arith, number)

-- ---- a par

-- Main { par { do Half(A, B); } and { do Half(C, D); } }
abbrev halves : Body
halves = Parallel (Or (Call (codes "Half") (0 ∷ 1 ∷ []) End) (Or (Call (codes "Half") (2 ∷ 3 ∷ []) End) NoMore)) End

abbrev beside_each_other : List Part
beside_each_other = part (codes "Main") 4 halves ∷ half ∷ []

abbrev two_lanes : Body
two_lanes = Parallel (Or (Single (codes "ping") [] 0 1 1 End) (Or (Single (codes "ping") [] 2 3 2 End) NoMore)) End

-- each block is expanded by itself
expanded_in_lanes : IsExpansion beside_each_other two_lanes
expanded_in_lanes = record {
  main = part (codes "Main") 4 halves;
  first = refl;
  expands = expansion.beside (expansion.one_more (expansion.call half (1, refl, refl) (expansion.message 1 expansion.at_end) expansion.at_end)
      (expansion.one_more (expansion.call half (1, refl, refl) (expansion.message 2 expansion.at_end) expansion.at_end) expansion.no_more)) expansion.at_end;
  numbered = (refl, (refl, tt));
}

-- in the lanes of Main's text: the empty one before the par, its two blocks, and the empty one behind it
none_before : (k : ℕ) → (lane_at halves k).stage < 1 → IsOver beside_each_other (at_first halves k)
none_before zero lt m new t = elim t [ ]
none_before (suc zero) lt m new t = absurd (omega (arith, lt))
none_before (suc (suc zero)) lt m new t = absurd (omega (arith, lt))
none_before (suc (suc (suc zero))) lt m new t = elim t [ ]
none_before (suc (suc (suc (suc k)))) lt m new t = elim t [ ]

-- The second block may go first.
second_first : IsWalkOfModule beside_each_other (said (codes "ping") [] 2 3 ∷ said (codes "ping") [] 0 1 ∷ [])
second_first = record {
  main = part (codes "Main") 4 halves;
  first = refl;
  walk = (
    2,
    _,
    record { takes = walks.call half (1, refl, refl) walks.message; over = none_before },
    (1, _, record { takes = walks.call half (1, refl, refl) walks.message; over = still_none }, tt),
  );
}
  where
    -- the second block has come to its end
    there : Todo
    there = todo End (called_with themselves (2 ∷ 3 ∷ [])) (walks.Behind (record { body = End; roles = themselves }) ∷ [])

    still_none : (k : ℕ) → (lane_at halves k).stage < 1 → IsOver beside_each_other (gone_on (at_first halves) 2 there k)
    still_none k lt = ⊎_elim
        (λ e. let late : 1 < 1 = subst (λ i. (lane_at halves i).stage < 1) e lt in absurd (omega (arith, late)))
        (λ n. subst (λ b. IsOver beside_each_other (cond b there (at_first halves k))) (sym (ne_eqb k 2 n)) (none_before k lt))
        (cases_eq k 2)

-- Main's blocks share no role; where both call with A they do.
apart : ShareNoRole (Or (Call (codes "Half") (0 ∷ 1 ∷ []) End) (Or (Call (codes "Half") (2 ∷ 3 ∷ []) End) NoMore))
apart = (λ r a b. differ r a b, (λ r a b. b, tt))
  where
    differ : (r : ℕ) → HasRole r (Call (codes "Half") (0 ∷ 1 ∷ []) End) → SomeHasRole r (Or (Call (codes "Half") (2 ∷ 3 ∷ []) End) NoMore) → ⊥
    differ r (inl (inl e)) (inl (inl (inl f))) = omega (arith, e, f)
    differ r (inl (inl e)) (inl (inl (inr (inl f)))) = omega (arith, e, f)
    differ r (inl (inr (inl e))) (inl (inl (inl f))) = omega (arith, e, f)
    differ r (inl (inr (inl e))) (inl (inl (inr (inl f)))) = omega (arith, e, f)
    differ r (inl (inl e)) (inl (inl (inr (inr x)))) = absurd x
    differ r (inl (inl e)) (inl (inr x)) = absurd x
    differ r (inl (inl e)) (inr x) = absurd x
    differ r (inl (inr (inl e))) (inl (inl (inr (inr x)))) = absurd x
    differ r (inl (inr (inl e))) (inl (inr x)) = absurd x
    differ r (inl (inr (inl e))) (inr x) = absurd x
    differ r (inl (inr (inr x))) b = absurd x
    differ r (inr x) b = absurd x

shared : ShareNoRole (Or (Call (codes "Half") (0 ∷ 1 ∷ []) End) (Or (Call (codes "Half") (1 ∷ 2 ∷ []) End) NoMore)) → ⊥
shared x = x.0 1 (inl (inr (inl refl))) (inl (inl (inl refl)))

-- Its calls in text order, and the size at the end of each.
called : sites twice ≡ site 0 (codes "Half") (0 ∷ 1 ∷ []) ∷ site 0 (codes "Half") (1 ∷ 0 ∷ []) ∷ []
called = refl

marked : AreMarks twice (record { points = 1; blocks = 1 } ∷ record { points = 2; blocks = 1 } ∷ [])
marked = record {
  main = part (codes "Main") 2 (both_ways End);
  first = refl;
  ends = record { points = 1; blocks = 1 } ∷ record { points = 2; blocks = 1 } ∷ [];
  whole = record { points = 2; blocks = 1 };
  passes = sizes.call half (1, refl, refl) (sizes.message sizes.at_end) (sizes.call half (1, refl, refl) (sizes.message sizes.at_end) sizes.at_end);
  blames = refl;
}

-- ---- refusals

-- no code below 13 holds at a call
none_below : (parts : List Part) (s : Site) (g : Fault) → code_of g < 13 → HoldsAt parts g s → ⊥
none_below parts s Deep lt h = h
none_below parts s NoName lt h = omega (arith, lt)
none_below parts s TooMany lt h = h
none_below parts s Arity lt h = omega (arith, lt)
none_below parts s Recursive lt h = omega (arith, lt)
none_below parts s Empty lt h = omega (arith, lt)

-- Main { do None(A); } is refused at its one call.
abbrev unnamed : List Part
unnamed = part (codes "Main") 2 (Call (codes "None") (0 ∷ []) End) ∷ []

no_such_protocol : IsFirstCall unnamed NoName 0
no_such_protocol = record {
  here = site 0 (codes "None") (0 ∷ []);
  is = refl;
  holds = refl;
  least = λ g lt h. none_below unnamed (site 0 (codes "None") (0 ∷ [])) g lt h;
  first = λ m s g lt e h. omega (arith, lt);
}

-- Main { do Half(A); }: one argument for two roles; with two it is right
too_few : HoldsAt (part (codes "Main") 2 (Call (codes "Half") (0 ∷ []) End) ∷ half ∷ []) Arity (site 0 (codes "Half") (0 ∷ []))
too_few = (half, (1, refl, refl), λ e. omega (arith, e))

-- Main calls Half, which calls Main: both calls are recursive
abbrev mutual_calls : List Part
mutual_calls = part (codes "Main") 2 (Call (codes "Half") (0 ∷ 1 ∷ []) End) ∷ part (codes "Half") 2 (Call (codes "Main") (0 ∷ 1 ∷ []) End) ∷ []

comes_back : HoldsAt mutual_calls Recursive (site 0 (codes "Half") (0 ∷ 1 ∷ [])) × HoldsAt mutual_calls Recursive (site 1 (codes "Main") (0 ∷ 1 ∷ []))
comes_back = (
  (1, refl, by_call 1 0 0 (record { number = 1; call = site 1 (codes "Main") (0 ∷ 1 ∷ []); is = refl; holds = refl; calls = refl }) (itself 0)),
  (0, refl, by_call 0 1 1 (record { number = 0; call = site 0 (codes "Half") (0 ∷ 1 ∷ []); is = refl; holds = refl; calls = refl }) (itself 1)),
)

-- a call of itself, and one of an empty protocol
of_itself : HoldsAt (part (codes "Main") 2 (Call (codes "Main") (0 ∷ 1 ∷ []) End) ∷ []) Recursive (site 0 (codes "Main") (0 ∷ 1 ∷ []))
of_itself = (0, refl, itself 0)

of_nothing : HoldsAt (part (codes "Main") 2 (Call (codes "None") (0 ∷ []) End) ∷ part (codes "None") 1 End ∷ []) Empty (site 0 (codes "None") (0 ∷ []))
of_nothing = (part (codes "None") 1 End, (1, refl, refl), refl)

-- ---- sizes

abbrev size : ℕ → ℕ → Size
size points blocks = record { points = points; blocks = blocks }

-- 256 points and 32 blocks are within the limits; one more isn't, and the call up to whose end it comes is blamed
limits : (first_many (size 128 1 ∷ size 256 32 ∷ []) ≡ None) × (first_deep (size 128 1 ∷ size 256 32 ∷ []) ≡ None)
    × (first_many (size 129 1 ∷ size 258 1 ∷ size 259 1 ∷ []) ≡ Some 1)
    × (first_deep (size 9 20 ∷ size 9 33 ∷ size 9 40 ∷ []) ≡ Some 1)
limits = (refl, refl, refl, refl)

-- What only the text behind the last call makes too large is blamed on that call.
behind_the_last : (first_many (blamed (size 100 1 ∷ size 255 1 ∷ []) (size 257 1)) ≡ Some 1)
    × (first_many (blamed (size 257 1 ∷ size 258 1 ∷ []) (size 300 1)) ≡ Some 0)
    × (blamed [] (size 257 40) ≡ [])
behind_the_last = (refl, refl, refl)
