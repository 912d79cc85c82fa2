-- The calls of a protocol's text are some of the module's, and of a module that may be expanded none comes back.
use Rattle.std.proofs.Common.{◌≡◌, ℕ, zero, suc, ◌+◌, Option, Some, None, List, [], ◌∷◌, ◌++◌, refl, sym, ap, subst, ◌⊎◌, inl, inr, ⊎_elim, arith, length, length-append, ◌∙◌}
use Rattle.std.specs.Prelude.{slice_get}
use Rattle.rcv_model.specs.Text.{Body, End, Single, Choose, Loop, Again, Parallel, Call, Bodies, NoMore, Or}
use Rattle.rcv_module.specs.declared.fault.Fault.TheVariants.{NoName, Recursive}
use Rattle.rcv_module.specs.Parts.{Part, Site, place, calls, calls_of, sites_from, sites}
use Rattle.rcv_module.specs.Refusing.{CallsOne, Reaches, itself, by_call, AreCallable}

abbrev pub IsAmong : {A : Type 0} → A → List A → Type 0
IsAmong x [] = ⊥
IsAmong x (y ∷ ys) = (x ≡ y) ⊎ IsAmong x ys

pub among_left : {A : Type 0} (x : A) (xs ys : List A) → IsAmong x xs → IsAmong x (xs ++ ys)
among_left x [] ys i = absurd i
among_left x (y ∷ xs) ys (inl e) = inl e
among_left x (y ∷ xs) ys (inr i) = inr (among_left x xs ys i)

pub among_right : {A : Type 0} (x : A) (xs ys : List A) → IsAmong x ys → IsAmong x (xs ++ ys)
among_right x [] ys i = i
among_right x (y ∷ xs) ys i = inr (among_right x xs ys i)

pub among_split : {A : Type 0} (x : A) (xs ys : List A) → IsAmong x (xs ++ ys) → IsAmong x xs ⊎ IsAmong x ys
among_split x [] ys i = inr i
among_split x (y ∷ xs) ys (inl e) = inl (inl e)
among_split x (y ∷ xs) ys (inr i) = ⊎_elim (λ a. inl (inr a)) (λ b. inr b) (among_split x xs ys i)

-- the place of an element, and the element at a place
pub among_at : {A : Type 0} (x : A) (xs : List A) → IsAmong x xs → (n : ℕ) × (slice_get xs n ≡ Some x)
among_at x [] i = absurd i
among_at x (y ∷ ys) (inl e) = (0, ap (λ z. Some z) (sym e))
among_at x (y ∷ ys) (inr i) = let a = among_at x ys i in (suc a.0, a.1)

pub at_among : {A : Type 0} (x : A) (xs : List A) (n : ℕ) → slice_get xs n ≡ Some x → IsAmong x xs
at_among x [] n e = absurd (cc)
at_among x (y ∷ ys) zero e = let h : y ≡ x = cc in inl (sym h)
at_among x (y ∷ ys) (suc n) e = inr (at_among x ys n e)

-- ---- who holds a call

mutual
  pub holder_is : (i : ℕ) (b : Body) (s : Site) → IsAmong s (calls i b) → s.holder ≡ i
  holder_is i End s a = absurd a
  holder_is i (Single label sorts p q n rest) s a = holder_is i rest s a
  holder_is i (Choose p bs rest) s a = ⊎_elim (λ x. holder_of i bs s x) (λ y. holder_is i rest s y) (among_split s (calls_of i bs) (calls i rest) a)
  holder_is i (Loop name body rest) s a = ⊎_elim (λ x. holder_is i body s x) (λ y. holder_is i rest s y) (among_split s (calls i body) (calls i rest) a)
  holder_is i (Again name rest) s a = holder_is i rest s a
  holder_is i (Parallel bs rest) s a = ⊎_elim (λ x. holder_of i bs s x) (λ y. holder_is i rest s y) (among_split s (calls_of i bs) (calls i rest) a)
  holder_is i (Call name roles rest) s (inl e) = ap (λ (x : Site). x.holder) e
  holder_is i (Call name roles rest) s (inr a) = holder_is i rest s a

  pub holder_of : (i : ℕ) (bs : Bodies) (s : Site) → IsAmong s (calls_of i bs) → s.holder ≡ i
  holder_of i NoMore s a = absurd a
  holder_of i (Or b bs) s a = ⊎_elim (λ x. holder_is i b s x) (λ y. holder_of i bs s y) (among_split s (calls i b) (calls_of i bs) a)

-- ---- calls of the module

sites_later : (i h : ℕ) (ps : List Part) (p : Part) (s : Site) → slice_get ps h ≡ Some p → IsAmong s (calls (i + h) p.body) → IsAmong s (sites_from i ps)
sites_later i h [] p s e a = absurd (cc)
sites_later i zero (q ∷ ps) p s e a =
    let same : q ≡ p = cc in
    let at : i + 0 ≡ i = omega arith in
    among_left s (calls i q.body) (sites_from (i + 1) ps) (subst (λ n. IsAmong s (calls n q.body)) at (subst (λ (x : Part). IsAmong s (calls (i + 0) x.body)) (sym same) a))
sites_later i (suc h) (q ∷ ps) p s e a =
    let at : i + suc h ≡ i + 1 + h = omega arith in
    among_right s (calls i q.body) (sites_from (i + 1) ps) (sites_later (i + 1) h ps p s e (subst (λ n. IsAmong s (calls n p.body)) at a))

pub of_module : (parts : List Part) (h : ℕ) (p : Part) (s : Site) → slice_get parts h ≡ Some p → IsAmong s (calls h p.body) → IsAmong s (sites parts)
of_module parts h p s e a = let at : h ≡ 0 + h = omega arith in sites_later 0 h parts p s e (subst (λ n. IsAmong s (calls n p.body)) at a)

-- the protocol at one place calls the one at another
pub calls_one : (parts : List Part) (h j : ℕ) (s : Site) → IsAmong s (sites parts) → s.holder ≡ h → place parts s.name ≡ Some j → CallsOne parts h j
calls_one parts h j s a holds named = let n = among_at s (sites parts) a in record { number = n.0; call = s; is = n.1; holds = holds; calls = named }

pub reaches_more : (parts : List Part) (i j k : ℕ) → Reaches parts i j → CallsOne parts j k → Reaches parts i k
reaches_more parts i j k (itself m) c = by_call m k k c (itself k)
reaches_more parts i j k (by_call m l n d r) c = by_call m l k d (reaches_more parts l n k r c)

-- It comes back to none that it is reached from.
pub never_back : (parts : List Part) (i j : ℕ) → AreCallable parts → CallsOne parts i j → Reaches parts j i → ⊥
never_back parts i j callable c r = callable c.number c.call Recursive c.is (j, c.calls, subst (Reaches parts j) (sym c.holds) r)

-- Each call of a module that may be expanded names a protocol.
pub has_place : (parts : List Part) (s : Site) → AreCallable parts → IsAmong s (sites parts) → (j : ℕ) × (place parts s.name ≡ Some j)
has_place parts s callable a = go (place parts s.name) refl
  where
    go : (o : Option ℕ) → place parts s.name ≡ o → (j : ℕ) × (place parts s.name ≡ Some j)
    go None e = let n = among_at s (sites parts) a in absurd (callable n.0 s NoName n.1 e)
    go (Some j) e = (j, e)

-- ---- how many calls there are, whoever holds them

joined_long : (xs ys zs ws : List Site) → length xs ≡ length zs → length ys ≡ length ws → length (xs ++ ys) ≡ length (zs ++ ws)
joined_long xs ys zs ws e f = length-append xs ys ∙ ap (λ n. n + length ys) e ∙ ap (λ n. length zs + n) f ∙ sym (length-append zs ws)

mutual
  pub calls_long : (i : ℕ) (b : Body) → length (calls i b) ≡ length (calls 0 b)
  calls_long i End = refl
  calls_long i (Single label sorts s r p rest) = calls_long i rest
  calls_long i (Choose s bs rest) = joined_long (calls_of i bs) (calls i rest) (calls_of 0 bs) (calls 0 rest) (calls_of_long i bs) (calls_long i rest)
  calls_long i (Loop name body rest) = joined_long (calls i body) (calls i rest) (calls 0 body) (calls 0 rest) (calls_long i body) (calls_long i rest)
  calls_long i (Again name rest) = calls_long i rest
  calls_long i (Parallel bs rest) = joined_long (calls_of i bs) (calls i rest) (calls_of 0 bs) (calls 0 rest) (calls_of_long i bs) (calls_long i rest)
  calls_long i (Call name roles rest) = ap suc (calls_long i rest)

  calls_of_long : (i : ℕ) (bs : Bodies) → length (calls_of i bs) ≡ length (calls_of 0 bs)
  calls_of_long i NoMore = refl
  calls_of_long i (Or b bs) = joined_long (calls i b) (calls_of i bs) (calls 0 b) (calls_of 0 bs) (calls_long i b) (calls_of_long i bs)
