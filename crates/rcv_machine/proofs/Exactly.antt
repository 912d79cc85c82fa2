-- The machine's answer is right, in the words of the grammar and of the table of the codes: a text is taken exactly
-- where no code holds, and refused exactly at the first one.
use Rattle.std.proofs.Common.{◌≡◌, ℕ, List, [], ◌∷◌, ◌++◌, length, refl, sym, ap, subst, ◌∙◌, append_assoc, append-nil, length-append, arith, ◌<◌}
use Rattle.rcv_machine.specs.Words.{Fault, Token, Symbol, IsDerived, IsBeginning, code_of, Holds, backward, HoldsAt, IsFree, IsFirst, Item, MoreProtocols, Outcome, On, Wrong, step, at_end, after, Answer, Taken, Refuses, answer, awaited, reading}
use Rattle.rcv_machine.specs.Laws.{IsFair, CodesAreFair, TextsAreTakenExactly, TextsAreRefusedExactly}
use Rattle.rcv_machine.proofs.Agreeing.{Derives, completion, derived, Has, Agrees, agrees}
use Rattle.rcv_machine.proofs.Knowing.{NoneBelow, state_at, Told, one_fault}
use Rattle.rcv_machine.proofs.Telling.{derived_told}

-- Two cuts of one list are one, where neither ends within the other.
apart : (xs ys us vs : List Symbol) → xs ++ ys ≡ us ++ vs
    → ((t : Symbol) (others : List Symbol) → us ≡ xs ++ t ∷ others → ys ≡ t ∷ others ++ vs → ⊥)
    → ((t : Symbol) (others : List Symbol) → xs ≡ us ++ t ∷ others → vs ≡ t ∷ others ++ ys → ⊥) → (xs ≡ us) × (ys ≡ vs)
apart [] ys [] vs e f g = (refl, e)
apart [] ys (u ∷ us) vs e f g = absurd (f u us refl e)
apart (x ∷ xs) ys [] vs e f g = absurd (g x xs refl (sym e))
apart (x ∷ xs) ys (u ∷ us) vs e f g = let rest : xs ++ ys ≡ us ++ vs = cc in
    let same = apart xs ys us vs rest (λ t others b c. f t others (rw b cc) c) (λ t others b c. g t others (rw b cc) c) in
    let front = same.0 in (cc, same.1)

-- What is awaited derives only what the grammar derives behind the symbols, and this the machine tells.
abbrev GoesOn : List Symbol → List Item → Type 0
GoesOn front k = (ts : List Symbol) → (Derives k ts → IsDerived (front ++ ts)) × (IsDerived (front ++ ts) → Told k (backward front []) ts)

begins : (front : List Symbol) (k : List Item) → GoesOn front k → IsBeginning front
begins front k on = let c = completion k in (c.0, (on c.0).0 c.1)

whole : (front : List Symbol) (k : List Item) → GoesOn front k
    → (Derives k [] → IsDerived front) × (IsDerived front → Told k (backward front []) [])
whole front k on = rw (append-nil front) at (on [])

stepped : (front : List Symbol) (t : Symbol) (us : List Symbol) (k : List Item) → GoesOn front k
    → (Derives k (t ∷ us) → IsDerived ((front ++ t ∷ []) ++ us))
    × (IsDerived ((front ++ t ∷ []) ++ us) → Told k (backward front []) (t ∷ us))
stepped front t us k on = rw (append_assoc front (t ∷ []) us) (on (t ∷ us))

-- ---- what holds at a symbol

-- no code holds before this place
abbrev FreeBefore : List Symbol → List Symbol → Type 0
FreeBefore front left =
    (g : Fault) (before : List Symbol) (t : Symbol) (others : List Symbol) → front ≡ before ++ t ∷ others
    → HoldsAt g before (t ∷ others ++ left) → ⊥

none_here : (front : List Symbol) (t : Symbol) (ts : List Symbol) → IsBeginning (front ++ t ∷ []) → NoneBelow 30 (backward front []) t ts
    → (f : Fault) → HoldsAt f front (t ∷ ts) → ⊥
none_here front t ts b none Token h = h.1 b
none_here front t ts b none f h = none f (omega arith) h

none_lesser : (c : ℕ) (front : List Symbol) (t : Symbol) (ts : List Symbol) → IsBeginning (front ++ t ∷ []) → NoneBelow c (backward front []) t ts
    → (g : Fault) → code_of g < c → HoldsAt g front (t ∷ ts) → ⊥
none_lesser c front t ts b none Token l h = h.1 b
none_lesser c front t ts b none g l h = none g l h

least_token : (front left : List Symbol) (g : Fault) → code_of g < code_of Token → HoldsAt g front left → ⊥
least_token front left Token l h = omega (arith, l)
least_token front left _ l h = omega (arith, l)

free_more : (front : List Symbol) (t : Symbol) (ts : List Symbol) → FreeBefore front (t ∷ ts) → ((f : Fault) → HoldsAt f front (t ∷ ts) → ⊥)
    → FreeBefore (front ++ t ∷ []) ts
free_more front t ts free none g before u others e h = let one = apart before (u ∷ others) front (t ∷ []) (sym e)
    (λ v more a b. free g before v more a
    (subst (HoldsAt g before) (ap (λ (z : List Symbol). z ++ ts) b ∙ append_assoc (v ∷ more) (t ∷ []) ts) h))
    (λ v more a b. let long = ap length b in omega (arith, long, length-append more (u ∷ others))) in
    let same : u ∷ others ++ ts ≡ t ∷ ts = ap (λ (z : List Symbol). z ++ ts) one.1 in
    none g (rw (← one.0, ← same) h)

abbrev IsExact : List Symbol → Answer → Type 0
IsExact symbols Taken = IsFree symbols
IsExact symbols (Refuses f left) = IsFirst symbols f left

abbrev Right : List Symbol → Answer → Type 0
Right symbols a = IsFair symbols a × IsExact symbols a

-- what is told of the symbol at which the machine stops with a code that isn't the grammar's
verdict : (f : Fault) (front : List Symbol) (t : Symbol) (ts : List Symbol) (k : List Item)
    → step (state_at (backward front [])) t ts k ≡ Wrong f → GoesOn front k → Has k t
    → IsBeginning (front ++ t ∷ []) × (Holds f (backward front []) t ts × NoneBelow (code_of f) (backward front []) t ts)
verdict f front t ts k e on (us, d) = let more = (stepped front t us k on).0 d in ((us, more), rw e at ((stepped front t us k on).1 more ts))

free_of : (symbols : List Symbol) → IsDerived symbols → FreeBefore symbols [] → IsFree symbols
free_of symbols d free Token before [] e h = h.1 (subst IsDerived (e ∙ append-nil before) d)
free_of symbols d free f before [] e h = h
free_of symbols d free f before (t ∷ ts) e h = free f before t ts e (subst (HoldsAt f before) (sym (append-nil (t ∷ ts))) h)

back_more : (front back : List Symbol) (t : Symbol) → backward (front ++ t ∷ []) back ≡ t ∷ backward front back
back_more [] back t = refl
back_more (m ∷ front) back t = back_more front (m ∷ back) t

by_outcome : (o : Outcome) (front : List Symbol) (t : Symbol) (ts : List Symbol) (k : List Item)
    → step (state_at (backward front [])) t ts k ≡ o → GoesOn front k → FreeBefore front (t ∷ ts) → Agrees o k t
    → ((next : List Item) → GoesOn (front ++ t ∷ []) next → FreeBefore (front ++ t ∷ []) ts
    → Right ((front ++ t ∷ []) ++ ts) (answer (state_at (backward (front ++ t ∷ []) [])) next ts))
    → Right (front ++ t ∷ ts) (after o (t ∷ ts) (λ s next. answer s next ts))
by_outcome (On s next) front t ts k e on free a go =
    let more : GoesOn (front ++ t ∷ []) next = λ us. let here = stepped front t us k on in
    ((λ d. here.0 (a us d)), (λ d. rw (back_more front [] t) (rw e at (here.1 d ts)).1)) in
    let b = begins (front ++ t ∷ []) next more in let goes = (rw e at ((stepped front t b.0 k on).1 b.1 ts)).0 in
    let same : s ≡ state_at (backward (front ++ t ∷ []) []) = goes.same ∙ ap state_at (sym (back_more front [] t)) in
    rw (← append_assoc front (t ∷ []) ts, same) (go next more (free_more front t ts free (none_here front t ts b goes.free)))
by_outcome (Wrong Token) front t ts k e on free a go =
    let wrong : IsBeginning (front ++ t ∷ []) → ⊥ = λ b. (rw e at ((stepped front t b.0 k on).1 b.1 ts)).0 in
    let begun = begins front k on in let least = least_token front (t ∷ ts) in
    let holds : HoldsAt Token front (t ∷ ts) = (begun, wrong) in
    ((front, refl, begun, wrong), record { front = front; cut = refl; holds = holds; least = least; first = free })
by_outcome (Wrong f) front t ts k e on free a go = let v = verdict f front t ts k e on a in
    let least = none_lesser (code_of f) front t ts v.0 v.1.1 in
    ((front, refl, v.0), record { front = front; cut = refl; holds = v.1.0; least = least; first = free })

-- at the end, behind a protocol or where more is awaited
at_last : (k : List Item) (front : List Symbol) → GoesOn front k → FreeBefore front [] → Right front (at_end k)
at_last (MoreProtocols ∷ []) front on free = let d = (whole front _ on).0 ([], ([], tt, refl), refl) in (d, free_of front d free)
at_last k front on free =
    let holds : HoldsAt Token front [] = (begins front k on, λ d. let none = (whole front k on).1 d in cc) in
    let cut = sym (append-nil front) in let least = least_token front [] in
    (holds, record { front = front; cut = cut; holds = holds; least = least; first = free })

right_from : (ts front : List Symbol) (k : List Item) → GoesOn front k → FreeBefore front ts
    → Right (front ++ ts) (answer (state_at (backward front [])) k ts)
right_from [] front k on free = rw (append-nil front) (at_last k front on free)
right_from (t ∷ ts) front k on free =
    by_outcome _ front t ts k refl on free (agrees k t ts (state_at (backward front [])))
    (right_from ts (front ++ t ∷ []))

right : (symbols : List Symbol) → Right symbols (reading symbols)
right symbols = right_from symbols [] awaited (λ ts. (derived ts, derived_told ts)) (λ g before t others e h.
    let long = ap length e in omega (arith, long, length-append before (t ∷ others)))

pub refusal_is_first : (symbols : List Symbol) (f : Fault) (left : List Symbol) → reading symbols ≡ Refuses f left → IsFirst symbols f left
refusal_is_first symbols f left e = subst (IsExact symbols) e (right symbols).1

pub taken_is_free : (symbols : List Symbol) → reading symbols ≡ Taken → IsDerived symbols × IsFree symbols
taken_is_free symbols e = subst (Right symbols) e (right symbols)

pub codes_are_fair : CodesAreFair
codes_are_fair symbols = (right symbols).0

pub texts_are_taken_exactly : TextsAreTakenExactly
texts_are_taken_exactly symbols = ((λ t. taken_is_free symbols t), (λ d. go d.1 (reading symbols) refl))
  where
    go : IsFree symbols → (a : Answer) → reading symbols ≡ a → reading symbols ≡ Taken
    go free Taken e = e
    go free (Refuses f left) e = let h = refusal_is_first symbols f left e in absurd (free f h.front left h.cut h.holds)

-- there is one first code
pub one_first : (symbols : List Symbol) (f g : Fault) (left left' : List Symbol) → IsFirst symbols f left → IsFirst symbols g left'
    → Refuses g left' ≡ Refuses f left
one_first symbols f g left left' h h' =
    let same = apart h.front left h'.front left' (sym h.cut ∙ h'.cut)
    (λ t others a b. h'.first f h.front t others a (subst (HoldsAt f h.front) b h.holds))
    (λ t others a b. h.first g h'.front t others a (subst (HoldsAt g h'.front) b h'.holds)) in
    let one = one_fault f g (λ l. h'.least f l (rw (← same.0, ← same.1) h.holds)) (λ l. h.least g l (rw (same.0, same.1) h'.holds)) in
    let left_is = same.1 in cc

pub texts_are_refused_exactly : TextsAreRefusedExactly
texts_are_refused_exactly symbols f left = (refusal_is_first symbols f left, λ h. go h (reading symbols) refl)
  where
    go : IsFirst symbols f left → (a : Answer) → reading symbols ≡ a → reading symbols ≡ Refuses f left
    go h Taken e = absurd ((taken_is_free symbols e).1 f h.front left h.cut h.holds)
    go h (Refuses g left') e = e ∙ one_first symbols f g left left' h (refusal_is_first symbols g left' e)
