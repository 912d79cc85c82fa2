-- The numbers of the roles of a state: what is set at one role, and what is mapped over all.
use Rattle.std.proofs.Common.{◌≡◌, ℕ, zero, suc, ◌+◌, ◌<◌, max, Bool, true, false, cond, List, [], ◌∷◌, length, refl, sym, ◌∙◌, ap, subst, arith}
use Rattle.std.specs.Prelude.{slice_set}
use Rattle.std.proofs.lemmas.List.{get_or-set_same, get_or-set_other}
use Rattle.rcv_tree.specs.declared.numbers.Numbers.{Numbers}
use Rattle.rcv_model.specs.Run.{acts, place_of}
use Rattle.rcv_model.specs.Journal.{State, nobody, numbers_at, greatest, map_roles, place, IsCrashed}
use Rattle.rcv_model.proofs.Keeping.{acts_through}

-- a role's place, by all kept events
pub place_is : (s : State) (r : ℕ) → place s r ≡ place_of 0 (acts r s.kept)
place_is s r = ap (place_of 0) (sym (acts_through r s.kept))

-- raw count, crashes, attempt and clock of a role that runs, and of a crashed one
abbrev pub up : ℕ → ℕ → ℕ → ℕ → Numbers
up raw crashes attempt clock = record { raw = raw; crashes = crashes; crashed = false; attempt = attempt; clock = clock }

abbrev pub down : ℕ → ℕ → ℕ → ℕ → Numbers
down raw crashes attempt clock = record { raw = raw; crashes = crashes; crashed = true; attempt = attempt; clock = clock }

-- what is set at a role
pub set_here : (roles : List Numbers) (r : ℕ) (n : Numbers) → r < length roles → numbers_at (slice_set roles r n) r ≡ n
set_here roles r n lt = get_or-set_same roles r n nobody lt

pub set_else : (roles : List Numbers) (p r : ℕ) (n : Numbers) → (p ≡ r → ⊥) → numbers_at (slice_set roles p n) r ≡ numbers_at roles r
set_else roles p r n f = get_or-set_other roles p r n nobody (λ e. f (sym e))

-- a number that is set as it was
pub set_keeps : {A : Type 0} (g : Numbers → A) (roles : List Numbers) (p r : ℕ) (y : Numbers) → g y ≡ g (numbers_at roles p) → g (numbers_at (slice_set roles p y) r) ≡ g (numbers_at roles r)
set_keeps g [] p r y e = refl
set_keeps g (n ∷ roles) zero zero y e = e
set_keeps g (n ∷ roles) zero (suc r) y e = refl
set_keeps g (n ∷ roles) (suc p) zero y e = refl
set_keeps g (n ∷ roles) (suc p) (suc r) y e = set_keeps g roles p r y e

-- what is mapped
pub length_mapped : (f : ℕ → Numbers → Numbers) (r : ℕ) (roles : List Numbers) → length (map_roles f r roles) ≡ length roles
length_mapped f r [] = refl
length_mapped f r (n ∷ roles) = ap suc (length_mapped f (r + 1) roles)

mapped : (f : ℕ → Numbers → Numbers) (r q : ℕ) (roles : List Numbers) → q < length roles → numbers_at (map_roles f r roles) q ≡ f (r + q) (numbers_at roles q)
mapped f r q [] lt = absurd (omega (arith, lt))
mapped f r zero (n ∷ roles) lt = ap (λ m. f m n) (omega arith)
mapped f r (suc q) (n ∷ roles) lt = mapped f (r + 1) q roles (omega arith) ∙ ap (λ m. f m (numbers_at roles q)) (omega arith)

pub mapped_at : (f : ℕ → Numbers → Numbers) (q : ℕ) (roles : List Numbers) → q < length roles → numbers_at (map_roles f 0 roles) q ≡ f q (numbers_at roles q)
mapped_at f q roles lt = mapped f 0 q roles lt ∙ ap (λ m. f m (numbers_at roles q)) (omega arith)

-- what the function leaves as it was, and one number of it
pub mapped_same : (f : ℕ → Numbers → Numbers) (r q : ℕ) (roles : List Numbers) → f (r + q) (numbers_at roles q) ≡ numbers_at roles q → numbers_at (map_roles f r roles) q ≡ numbers_at roles q
mapped_same f r q [] e = refl
mapped_same f r zero (n ∷ roles) e = subst (λ m. f m n ≡ n) (omega arith) e
mapped_same f r (suc q) (n ∷ roles) e = mapped_same f (r + 1) q roles (subst (λ m. f m (numbers_at roles q) ≡ numbers_at roles q) (omega arith) e)

pub mapped_keeps : {A : Type 0} (g : Numbers → A) (f : ℕ → Numbers → Numbers) → ((i : ℕ) (n : Numbers) → g (f i n) ≡ g n) → (r q : ℕ) (roles : List Numbers) → g (numbers_at (map_roles f r roles) q) ≡ g (numbers_at roles q)
mapped_keeps g f same r q [] = refl
mapped_keeps g f same r zero (n ∷ roles) = same r n
mapped_keeps g f same r (suc q) (n ∷ roles) = mapped_keeps g f same (r + 1) q roles

-- two properties that roles have alike
pub greatest_same : (is has : ℕ → Bool) (r : ℕ) (roles : List Numbers) → ((i : ℕ) → i < length roles → is (r + i) ≡ has (r + i)) → greatest is r roles ≡ greatest has r roles
greatest_same is has r [] same = refl
greatest_same is has r (n ∷ roles) same =
    let here : is r ≡ has r = subst (λ m. is m ≡ has m) (omega arith) (same 0 (omega arith)) in
    let ih = greatest_same is has (r + 1) roles (λ i lt. subst (λ m. is m ≡ has m) (omega arith) (same (suc i) (omega (arith, lt)))) in
    ap (λ b. max (cond b n.clock 0) (greatest is (r + 1) roles)) here ∙ ap (λ m. max (cond (has r) n.clock 0) m) ih

pub mapped_alike : (f g : ℕ → Numbers → Numbers) (r : ℕ) (roles : List Numbers) → ((i : ℕ) → i < length roles → f (r + i) (numbers_at roles i) ≡ g (r + i) (numbers_at roles i)) → map_roles f r roles ≡ map_roles g r roles
mapped_alike f g r [] same = refl
mapped_alike f g r (n ∷ roles) same =
    let here : f r n ≡ g r n = subst (λ m. f m n ≡ g m n) (omega arith) (same 0 (omega arith)) in
    let ih = mapped_alike f g (r + 1) roles (λ i lt. subst (λ m. f m (numbers_at roles i) ≡ g m (numbers_at roles i)) (omega arith) (same (suc i) (omega (arith, lt)))) in
    ap (λ x. x ∷ map_roles f (r + 1) roles) here ∙ ap (λ l. g r n ∷ l) ih

-- a role that runs is one of the state's; and one of these that isn't crashed runs
pub within : (roles : List Numbers) (r : ℕ) → (numbers_at roles r).crashed ≡ false → r < length roles
within [] r e = absurd (cc)
within (n ∷ roles) zero e = omega arith
within (n ∷ roles) (suc r) e = omega (arith, within roles r e)

pub runs : (s : State) (r : ℕ) → r < length s.roles → (IsCrashed s r → ⊥) → (numbers_at s.roles r).crashed ≡ false
runs s r lt up = go (numbers_at s.roles r).crashed refl
  where
    go : (b : Bool) → (numbers_at s.roles r).crashed ≡ b → (numbers_at s.roles r).crashed ≡ false
    go true e = absurd (up (lt, e))
    go false e = e

-- where none of the roles is crashed
pub not_crashed : (s : State) (r : ℕ) → (r < length s.roles → (numbers_at s.roles r).crashed ≡ false) → IsCrashed s r → ⊥
not_crashed s r calm c = let e = calm c.0 in let f = c.1 in absurd (cc)
