-- Along an order in which each place stands behind all that it calls, what is called is known.
use Rattle.std.proofs.Common.{◌≡◌, ℕ, zero, suc, ◌+◌, ◌<◌, Option, Some, None, List, [], ◌∷◌, ◌++◌, length, take, drop, get_or, set, refl, sym, ap, subst, ◌∙◌, inl, inr, ⊎_elim, arith}
use Rattle.std.specs.Prelude.{slice_get}
use Rattle.std.proofs.lemmas.Bool.{cases_eq}
use Rattle.std.proofs.lemmas.List.{get_or-set_same, get_or-set_other, get_or_past, drop_more, take_more}
use Rattle.rcv_model.specs.Text.{Body, End, Single, Choose, Loop, Again, Parallel, Call, Bodies, NoMore, Or}
use Rattle.rcv_model.specs.Net.{IsIn}
use Rattle.rcv_module.specs.Parts.{Part, Site, place, site, calls, calls_of}
use Rattle.rcv_module.specs.Refusing.{AreCallable}
use Rattle.rcv_module.proofs.Sites.{IsAmong, among_left, among_right, among_split, of_module, calls_one, has_place}
use Rattle.rcv_do.specs.declared.sizes.Size.{Size}
use Rattle.rcv_do.specs.Code.{known_at, AreAllKnown, CallsAmong, CallsBehind}
use Rattle.rcv_do.specs.Counting.{IsSizeOf, AreSizesOf, AreKnown}
use Rattle.rcv_do.proofs.Ordering.{in_push}

-- ---- calls, whoever holds them

mutual
  pub reheld : (i j : ℕ) (b : Body) (s : Site) → IsAmong s (calls i b) → IsAmong (site j s.name s.roles) (calls j b)
  reheld i j End s a = absurd a
  reheld i j (Single label sorts p q n rest) s a = reheld i j rest s a
  reheld i j (Choose p bs rest) s a = ⊎_elim (λ x. among_left (site j s.name s.roles) (calls_of j bs) (calls j rest) (reheld_of i j bs s x)) (λ y. among_right (site j s.name s.roles) (calls_of j bs) (calls j rest) (reheld i j rest s y)) (among_split s (calls_of i bs) (calls i rest) a)
  reheld i j (Loop name body rest) s a = ⊎_elim (λ x. among_left (site j s.name s.roles) (calls j body) (calls j rest) (reheld i j body s x)) (λ y. among_right (site j s.name s.roles) (calls j body) (calls j rest) (reheld i j rest s y)) (among_split s (calls i body) (calls i rest) a)
  reheld i j (Again name rest) s a = reheld i j rest s a
  reheld i j (Parallel bs rest) s a = ⊎_elim (λ x. among_left (site j s.name s.roles) (calls_of j bs) (calls j rest) (reheld_of i j bs s x)) (λ y. among_right (site j s.name s.roles) (calls_of j bs) (calls j rest) (reheld i j rest s y)) (among_split s (calls_of i bs) (calls i rest) a)
  reheld i j (Call name roles rest) s (inl e) = inl (ap (λ (x : Site). site j x.name x.roles) e)
  reheld i j (Call name roles rest) s (inr a) = inr (reheld i j rest s a)

  reheld_of : (i j : ℕ) (bs : Bodies) (s : Site) → IsAmong s (calls_of i bs) → IsAmong (site j s.name s.roles) (calls_of j bs)
  reheld_of i j NoMore s a = absurd a
  reheld_of i j (Or b bs) s a = ⊎_elim (λ x. among_left (site j s.name s.roles) (calls j b) (calls_of j bs) (reheld i j b s x)) (λ y. among_right (site j s.name s.roles) (calls j b) (calls_of j bs) (reheld_of i j bs s y)) (among_split s (calls i b) (calls_of i bs) a)

-- what is known of the protocol that a call names
abbrev IsKnown : {A : Type 0} → List Part → List (Option A) → Site → Type 0
IsKnown {A} parts known s = (i : ℕ) × (x : A) × (place parts s.name ≡ Some i) × (known_at known i ≡ Some x)

known_calls : {A : Type 0} (parts : List Part) (known : List (Option A)) (done : List ℕ) (h : ℕ) (p : Part) → AreCallable parts → slice_get parts h ≡ Some p → CallsAmong parts h done → AreAllKnown done known
    → (s : Site) → IsAmong s (calls 0 p.body) → IsKnown parts known s
known_calls parts known done h p callable at among all s a =
    let here = of_module parts h p (site h s.name s.roles) at (reheld 0 h p.body s a) in
    let j = has_place parts (site h s.name s.roles) callable here in
    let x = all j.0 (among j.0 (calls_one parts h j.0 (site h s.name s.roles) here refl j.1)) in
    (j.0, x.0, j.1, x.1)

pub are_known : (parts : List Part) (known : List (Option Size)) (done : List ℕ) (h : ℕ) (p : Part) → AreCallable parts → slice_get parts h ≡ Some p → CallsAmong parts h done → AreAllKnown done known → AreKnown parts known (calls 0 p.body)
are_known parts known done h p callable at among all = go (calls 0 p.body) (known_calls parts known done h p callable at among all)
  where
    go : (ss : List Site) → ((s : Site) → IsAmong s ss → IsKnown parts known s) → AreKnown parts known ss
    go [] f = tt
    go (s ∷ ss) f = (f s (inl refl), go ss (λ t a. f t (inr a)))

-- ---- lists of what is known

-- nothing is known
abbrev pub IsBlank : {A : Type 0} → List (Option A) → Type 0
IsBlank {A} known = (i : ℕ) → known_at known i ≡ None

pub blank_none : {A : Type 0} (known : List (Option A)) → known ≡ [] → IsBlank known
blank_none known e i = ap (λ l. known_at l i) e ∙ get_or_past [] i None (omega arith)

blank_pushed : {A : Type 0} (xs : List (Option A)) → IsBlank xs → IsBlank (xs ++ None ∷ [])
blank_pushed {A} [] b zero = refl
blank_pushed {A} [] b (suc i) = get_or_past [] i None (omega arith)
blank_pushed {A} (x ∷ xs) b zero = b zero
blank_pushed {A} (x ∷ xs) b (suc i) = blank_pushed xs (λ j. b (suc j)) i

pub blank_more : {A : Type 0} (old new : List (Option A)) → new ≡ old ++ None ∷ [] → IsBlank old → IsBlank new
blank_more old new e b = subst IsBlank (sym e) (blank_pushed old b)

no_some : {A : Type 0} {o : Option A} {x : A} → o ≡ None → o ≡ Some x → ⊥
no_some e f = cc

pub blank_sizes : (parts : List Part) (known : List (Option Size)) → IsBlank known → AreSizesOf parts known
blank_sizes parts known b i z e = absurd (no_some (b i) e)

known_here : {A : Type 0} (known : List (Option A)) (p i : ℕ) (x : A) → p < length known → i ≡ p → known_at (set known p (Some x)) i ≡ Some x
known_here known p i x lt e = ap (known_at (set known p (Some x))) e ∙ get_or-set_same known p (Some x) None lt

known_else : {A : Type 0} (known : List (Option A)) (p i : ℕ) (x : A) → (i ≡ p → ⊥) → known_at (set known p (Some x)) i ≡ known_at known i
known_else known p i x n = get_or-set_other known p i (Some x) None n

pub sizes_more : (parts : List Part) (old new : List (Option Size)) (p : ℕ) (z : Size) → new ≡ set old p (Some z) → p < length old → IsSizeOf parts p z → AreSizesOf parts old → AreSizesOf parts new
sizes_more parts old new p z e lt is all i y k = ⊎_elim
    (λ here.
    let some : Some z ≡ Some y = sym (known_here old p i z lt here) ∙ sym (ap (λ l. known_at l i) e) ∙ k in
    let same : z ≡ y = cc in
    subst (λ n. IsSizeOf parts n y) (sym here) (subst (IsSizeOf parts p) same is))
    (λ n. all i y (sym (known_else old p i z n) ∙ sym (ap (λ l. known_at l i) e) ∙ k))
    (cases_eq i p)

-- ---- along the order

pub nothing_known : {A : Type 0} (known : List (Option A)) (order : List ℕ) → AreAllKnown (take 0 order) known
nothing_known known [] i k = absurd k
nothing_known known (x ∷ xs) i k = absurd k

pub all_more : {A : Type 0} (old new : List (Option A)) (order : List ℕ) (n p : ℕ) (x : A) → n < length order → p ≡ get_or order n 0 → new ≡ set old p (Some x) → p < length old
    → AreAllKnown (take n order) old → AreAllKnown (take (n + 1) order) new
all_more old new order n p x lt is e inside all i k = ⊎_elim
    (λ here. (x, ap (λ l. known_at l i) e ∙ known_here old p i x inside here))
    (λ ne. ⊎_elim
    (λ before. let y = all i before in (y.0, ap (λ l. known_at l i) e ∙ known_else old p i x ne ∙ y.1))
    (λ last. absurd (ne (last ∙ sym is)))
    (in_push i (get_or order n 0) (take n order) (subst (IsIn i) (take_more order n 0 lt) k)))
    (cases_eq i p)

pub behind_here : (parts : List Part) (order : List ℕ) (n p : ℕ) → n < length order → p ≡ get_or order n 0 → CallsBehind parts (take n order) (drop n order)
    → CallsAmong parts p (take n order) × CallsBehind parts (take (n + 1) order) (drop (n + 1) order)
behind_here parts order n p lt is b =
    let split = subst (CallsBehind parts (take n order)) (drop_more order n 0 lt) b in
    (subst (λ i. CallsAmong parts i (take n order)) (sym is) split.0, subst (λ l. CallsBehind parts l (drop (n + 1) order)) (sym (take_more order n 0 lt)) split.1)

pub behind_first : (parts : List Part) (order : List ℕ) → CallsBehind parts [] order → CallsBehind parts (take 0 order) (drop 0 order)
behind_first parts [] b = b
behind_first parts (x ∷ xs) b = b
