-- The points of one lane in a list, and of the lanes before it; and lists joined by their numbers.
use Rattle.std.proofs.Common.{◌≡◌, ℕ, zero, suc, ◌<◌, ◌≤◌, true, false, cond, List, [], ◌∷◌, ◌++◌, refl, sym, ◌∙◌, ap, ⊎_elim, append-nil, arith, eq-eqb, ne_eqb}
use Rattle.std.specs.Prelude.{◌==◌, nat_lt}
use Rattle.std.specs.List.{filter}
use Rattle.std.proofs.lemmas.Bool.{cases_eq}
use Rattle.std.proofs.lemmas.Bool.Decides.{nat_tests}
use Rattle.std.proofs.lemmas.List.Elements.{filter-append}
use Rattle.rcv_model.specs.Net.{Net}
use Rattle.rcv_parallel.specs.TextOrder.{joined, in_lane}

pub lane_yes : (net : Net) (l x : ℕ) (w : List ℕ) → net.lane x ≡ l → in_lane net (x ∷ w) l ≡ x ∷ in_lane net w l
lane_yes net l x w e = ap (λ b. cond b (x ∷ in_lane net w l) (in_lane net w l)) (eq-eqb (net.lane x) l e)

pub lane_no : (net : Net) (l x : ℕ) (w : List ℕ) → (net.lane x ≡ l → ⊥) → in_lane net (x ∷ w) l ≡ in_lane net w l
lane_no net l x w n = ap (λ b. cond b (x ∷ in_lane net w l) (in_lane net w l)) (ne_eqb (net.lane x) l n)

lane_join : (net : Net) (l : ℕ) (u v : List ℕ) → in_lane net (u ++ v) l ≡ in_lane net u l ++ in_lane net v l
lane_join net l u v = filter-append (λ p. net.lane p == l) u v

-- all points of a list are in lane l
abbrev pub AllIn : Net → ℕ → List ℕ → Type 0
AllIn net l [] = Unit {0}
AllIn net l (x ∷ u) = (net.lane x ≡ l) × AllIn net l u

-- then it is what it has there, and has nothing in another lane
all_here : (net : Net) (l : ℕ) (u : List ℕ) → AllIn net l u → in_lane net u l ≡ u
all_here net l [] a = refl
all_here net l (x ∷ u) a = lane_yes net l x u a.0 ∙ ap (λ v. x ∷ v) (all_here net l u a.1)

none_else : (net : Net) (l m : ℕ) (u : List ℕ) → AllIn net l u → (l ≡ m → ⊥) → in_lane net u m ≡ []
none_else net l m [] a n = refl
none_else net l m (x ∷ u) a n = lane_no net m x u (λ e. n (sym a.0 ∙ e)) ∙ none_else net l m u a.1 n

-- the same lists are joined to the same
pub joined_same : (n : ℕ) (f g : ℕ → List ℕ) → ((l : ℕ) → l < n → f l ≡ g l) → joined n f ≡ joined n g
joined_same zero f g same = refl
joined_same (suc n) f g same = ap (λ u. u ++ f n) (joined_same n f g (λ l lt. same l (omega arith))) ∙ ap (λ u. joined n g ++ u) (same n (omega arith))

-- where each list is one of its own lane, what stands there of all of them is that list
module _ (net : Net) (lists : ℕ → List ℕ) where
  nothing_yet : (n l : ℕ) → ((m : ℕ) → m < n → AllIn net m (lists m)) → n ≤ l → in_lane net (joined n lists) l ≡ []
  nothing_yet zero l all le = refl
  nothing_yet (suc n) l all le =
      lane_join net l (joined n lists) (lists n)
      ∙ ap (λ u. u ++ in_lane net (lists n) l) (nothing_yet n l (λ m lt. all m (omega arith)) (omega arith))
      ∙ none_else net n l (lists n) (all n (omega arith)) (λ e. omega (arith, e, le))

  pub joined_lane : (n l : ℕ) → ((m : ℕ) → m < n → AllIn net m (lists m)) → l < n → in_lane net (joined n lists) l ≡ lists l
  joined_lane zero l all lt = absurd (omega arith)
  joined_lane (suc n) l all lt =
      lane_join net l (joined n lists) (lists n)
      ∙ ⊎_elim (λ e. last e) (λ m. earlier m (joined_lane n l (λ m lt'. all m (omega arith)) (omega (arith, m)))) (cases_eq l n)
    where
      last : l ≡ n → in_lane net (joined n lists) l ++ in_lane net (lists n) l ≡ lists l
      last e =
          ap (λ u. u ++ in_lane net (lists n) l) (nothing_yet n l (λ m lt'. all m (omega arith)) (omega (arith, e)))
          ∙ ap (in_lane net (lists n)) e
          ∙ all_here net n (lists n) (all n (omega arith))
          ∙ ap lists (sym e)

      earlier : (l ≡ n → ⊥) → in_lane net (joined n lists) l ≡ lists l → in_lane net (joined n lists) l ++ in_lane net (lists n) l ≡ lists l
      earlier m ih =
          ap (λ u. u ++ in_lane net (lists n) l) ih
          ∙ ap (λ u. lists l ++ u) (none_else net n l (lists n) (all n (omega arith)) (λ e. m (sym e)))
          ∙ append-nil (lists l)

-- the points of the first n lanes, as they stand
pub below : Net → ℕ → List ℕ → List ℕ
below net n w = filter (λ p. nat_lt (net.lane p) n) w

pub below_nil : (net : Net) (n : ℕ) → below net n [] ≡ []
unfolding below
below_nil net n = refl

pub below_yes : (net : Net) (n x : ℕ) (w : List ℕ) → net.lane x < n → below net n (x ∷ w) ≡ x ∷ below net n w
unfolding below
below_yes net n x w lt =
    let t : nat_lt (net.lane x) n ≡ true = grind (arith, nat_tests) in
    ap (λ b. cond b (x ∷ filter (λ p. nat_lt (net.lane p) n) w) (filter (λ p. nat_lt (net.lane p) n) w)) t

pub below_no : (net : Net) (n x : ℕ) (w : List ℕ) → n ≤ net.lane x → below net n (x ∷ w) ≡ below net n w
unfolding below
below_no net n x w le =
    let t : nat_lt (net.lane x) n ≡ false = grind (arith, nat_tests) in
    ap (λ b. cond b (x ∷ filter (λ p. nat_lt (net.lane p) n) w) (filter (λ p. nat_lt (net.lane p) n) w)) t

pub below_all : (net : Net) (n : ℕ) (w : List ℕ) → ((x : ℕ) → net.lane x < n) → below net n w ≡ w
below_all net n [] all = below_nil net n
below_all net n (x ∷ w) all = below_yes net n x w (all x) ∙ ap (λ u. x ∷ u) (below_all net n w all)

pub below_none : (net : Net) (w : List ℕ) → below net 0 w ≡ []
below_none net [] = below_nil net 0
below_none net (x ∷ w) = below_no net 0 x w (omega arith) ∙ below_none net w
