-- The first call at which a code of the table holds, with the least one, or that there is none.
use Rattle.std.proofs.Common.{◌≡◌, ℕ, zero, suc, ◌<◌, Option, Some, None, List, [], ◌∷◌, length, refl, sym, ap, subst, ◌∙◌, ◌⊎◌, inl, inr, ⊎_elim, arith}
use Rattle.std.specs.Prelude.{slice_get}
use Rattle.std.proofs.lemmas.Bool.{cases_eq}
use Rattle.rcv_model.specs.Text.{Body, End, Single, Choose, Loop, Again, Parallel, Call}
use Rattle.rcv_module.specs.declared.fault.Fault.{Fault}
use Rattle.rcv_module.specs.declared.fault.Fault.TheVariants.{Deep, NoName, TooMany, Arity, Recursive, Empty}
use Rattle.rcv_module.specs.Parts.{Part, Site, IsNamed, place, sites}
use Rattle.rcv_module.specs.Refusing.{code_of, HoldsAt, IsFirstCall, AreCallable, Reaches}
use Rattle.rcv_module.proofs.Walking.{named_once}
use Rattle.rcv_module.proofs.Reaching.{Decided, reaching_decided, part_at}

is_end : (b : Body) → Decided (b ≡ End)
is_end End = inl refl
is_end (Single label sorts s r p rest) = inr (λ e. absurd (cc))
is_end (Choose s bs rest) = inr (λ e. absurd (cc))
is_end (Loop name body rest) = inr (λ e. absurd (cc))
is_end (Again name rest) = inr (λ e. absurd (cc))
is_end (Parallel bs rest) = inr (λ e. absurd (cc))
is_end (Call name roles rest) = inr (λ e. absurd (cc))

-- The least code that holds at a call, or that none does.
record HasLeast (parts : List Part) (s : Site) : Type 0 where
  fault : Fault
  holds : HoldsAt parts fault s
  least : (g : Fault) → code_of g < code_of fault → HoldsAt parts g s → ⊥

abbrev HasNone : List Part → Site → Type 0
HasNone parts s = (g : Fault) → HoldsAt parts g s → ⊥

abbrev IsBelow : List Part → Site → Fault → Type 0
IsBelow parts s f = (g : Fault) → code_of g < code_of f → HoldsAt parts g s → ⊥

-- the codes in their order: 12, 13, 18, 52, 53, 54
below_name : (parts : List Part) (s : Site) → IsBelow parts s NoName
below_name parts s Deep lt h = h
below_name parts s NoName lt h = omega (arith, lt)
below_name parts s TooMany lt h = h
below_name parts s Arity lt h = omega (arith, lt)
below_name parts s Recursive lt h = omega (arith, lt)
below_name parts s Empty lt h = omega (arith, lt)

below_arity : (parts : List Part) (s : Site) → (place parts s.name ≡ None → ⊥) → IsBelow parts s Arity
below_arity parts s named Deep lt h = h
below_arity parts s named NoName lt h = named h
below_arity parts s named TooMany lt h = h
below_arity parts s named Arity lt h = omega (arith, lt)
below_arity parts s named Recursive lt h = omega (arith, lt)
below_arity parts s named Empty lt h = omega (arith, lt)

below_recursive : (parts : List Part) (s : Site) → (place parts s.name ≡ None → ⊥) → (HoldsAt parts Arity s → ⊥) → IsBelow parts s Recursive
below_recursive parts s named many Deep lt h = h
below_recursive parts s named many NoName lt h = named h
below_recursive parts s named many TooMany lt h = h
below_recursive parts s named many Arity lt h = many h
below_recursive parts s named many Recursive lt h = omega (arith, lt)
below_recursive parts s named many Empty lt h = omega (arith, lt)

below_empty : (parts : List Part) (s : Site) → (place parts s.name ≡ None → ⊥) → (HoldsAt parts Arity s → ⊥) → (HoldsAt parts Recursive s → ⊥) → IsBelow parts s Empty
below_empty parts s named many back Deep lt h = h
below_empty parts s named many back NoName lt h = named h
below_empty parts s named many back TooMany lt h = h
below_empty parts s named many back Arity lt h = many h
below_empty parts s named many back Recursive lt h = back h
below_empty parts s named many back Empty lt h = omega (arith, lt)

none_of : (parts : List Part) (s : Site) → (place parts s.name ≡ None → ⊥) → (HoldsAt parts Arity s → ⊥) → (HoldsAt parts Recursive s → ⊥) → (HoldsAt parts Empty s → ⊥) → HasNone parts s
none_of parts s named many back full Deep h = h
none_of parts s named many back full NoName h = named h
none_of parts s named many back full TooMany h = h
none_of parts s named many back full Arity h = many h
none_of parts s named many back full Recursive h = back h
none_of parts s named many back full Empty h = full h

-- a call that names a protocol
named_decided : (parts : List Part) (s : Site) (j : ℕ) (p : Part) → place parts s.name ≡ Some j → slice_get parts j ≡ Some p → HasLeast parts s ⊎ HasNone parts s
named_decided parts s j p at is =
    let i : IsNamed parts s.name p = (j, at, is) in
    let named : place parts s.name ≡ None → ⊥ = λ e. some_none (sym at ∙ e) in
    ⊎_elim
    (λ same.
    let many : HoldsAt parts Arity s → ⊥ = λ h. h.2 (same ∙ ap (λ (q : Part). q.roles) (named_once parts s.name p h.0 i h.1)) in
    ⊎_elim
    (λ r. inl (record { fault = Recursive; holds = (j, at, r); least = below_recursive parts s named many }))
    (λ away.
    let back : HoldsAt parts Recursive s → ⊥ = λ h. away (subst (λ k. Reaches parts k s.holder) (one_place (sym h.1 ∙ at)) h.2) in
    ⊎_elim
    (λ e. inl (record { fault = Empty; holds = (p, i, e); least = below_empty parts s named many back }))
    (λ full. inr (none_of parts s named many back (λ h. full (ap (λ (q : Part). q.body) (named_once parts s.name p h.0 i h.1) ∙ h.2))))
    (is_end p.body))
    (reaching_decided parts j s.holder))
    (λ differ. inl (record { fault = Arity; holds = (p, i, differ); least = below_arity parts s named }))
    (cases_eq (length s.roles) p.roles)
  where
    some_none : Some j ≡ None → ⊥
    some_none e = absurd (cc)

    one_place : {k l : ℕ} → Some k ≡ Some l → k ≡ l
    one_place e = cc

call_decided : (parts : List Part) (s : Site) → HasLeast parts s ⊎ HasNone parts s
call_decided parts s = go (place parts s.name) refl
  where
    go : (o : Option ℕ) → place parts s.name ≡ o → HasLeast parts s ⊎ HasNone parts s
    go None e = inl (record { fault = NoName; holds = e; least = below_name parts s })
    go (Some j) e = let p = part_at parts s.name j e in named_decided parts s j p.0 e p.1

-- ---- all calls

-- Among these calls there is a first one with a code.
record HasFirst (parts : List Part) (xs : List Site) : Type 0 where
  number : ℕ
  here : Site
  is : slice_get xs number ≡ Some here
  code : HasLeast parts here
  first : (m : ℕ) (s : Site) → m < number → slice_get xs m ≡ Some s → HasNone parts s

first_decided : (parts : List Part) (xs : List Site) → HasFirst parts xs ⊎ ((m : ℕ) (s : Site) → slice_get xs m ≡ Some s → HasNone parts s)
first_decided parts [] = inr (λ m s e. absurd (cc))
first_decided parts (x ∷ xs) = go (call_decided parts x) (first_decided parts xs)
  where
    before : HasNone parts x → (h : HasFirst parts xs) → (m : ℕ) (s : Site) → m < suc h.number → slice_get (x ∷ xs) m ≡ Some s → HasNone parts s
    before none h zero s lt e = let same : x ≡ s = cc in subst (HasNone parts) same none
    before none h (suc m) s lt e = h.first m s (omega (arith, lt)) e

    at_none : HasNone parts x → ((m : ℕ) (s : Site) → slice_get xs m ≡ Some s → HasNone parts s) → (m : ℕ) (s : Site) → slice_get (x ∷ xs) m ≡ Some s → HasNone parts s
    at_none none more zero s e = let same : x ≡ s = cc in subst (HasNone parts) same none
    at_none none more (suc m) s e = more m s e

    go : HasLeast parts x ⊎ HasNone parts x → HasFirst parts xs ⊎ ((m : ℕ) (s : Site) → slice_get xs m ≡ Some s → HasNone parts s)
        → HasFirst parts (x ∷ xs) ⊎ ((m : ℕ) (s : Site) → slice_get (x ∷ xs) m ≡ Some s → HasNone parts s)
    go (inl l) more = inl (record { number = 0; here = x; is = refl; code = l; first = λ m s lt e. absurd (omega (arith, lt)) })
    go (inr none) (inl h) = inl (record { number = suc h.number; here = h.here; is = h.is; code = h.code; first = before none h })
    go (inr none) (inr more) = inr (at_none none more)

-- A module has a first call with a code, or each call may be made.
pub calls_decided : (parts : List Part) → ((f : Fault) × (n : ℕ) × IsFirstCall parts f n) ⊎ AreCallable parts
calls_decided parts = go (first_decided parts (sites parts))
  where
    go : HasFirst parts (sites parts) ⊎ ((m : ℕ) (s : Site) → slice_get (sites parts) m ≡ Some s → HasNone parts s) → ((f : Fault) × (n : ℕ) × IsFirstCall parts f n) ⊎ AreCallable parts
    go (inl h) =
        inl (h.code.fault, h.number, record { here = h.here; is = h.is; holds = h.code.holds; least = h.code.least; first = λ m s g lt e. h.first m s lt e g })
    go (inr none) = inr (λ n s g e. none n s e g)
