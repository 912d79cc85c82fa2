-- Lists joined by the lanes' numbers, split at a stage.
use Rattle.std.proofs.Common.{◌≡◌, ℕ, zero, suc, ◌+◌, ◌<◌, ◌≤◌, List, [], ◌++◌, refl, sym, ◌∙◌, ap, ⊎_elim, append_assoc, append-nil, arith, cond, eq-eqb, ne_eqb, true, false}
use Rattle.std.specs.Prelude.{◌==◌, nat_lt}
use Rattle.std.proofs.lemmas.Bool.{cases_eq, cases_lt}
use Rattle.std.proofs.lemmas.Bool.Decides.{nat_tests}
use Rattle.rcv_model.specs.Net.{Net}
use Rattle.rcv_parallel.specs.TextOrder.{HasLanesInOrder, joined}

pub joined_none : (n : ℕ) (lists : ℕ → List ℕ) → ((l : ℕ) → l < n → lists l ≡ []) → joined n lists ≡ []
joined_none zero lists none = refl
joined_none (suc n) lists none = ap (λ u. u ++ lists n) (joined_none n lists (λ l lt. none l (omega (arith, lt)))) ∙ none n (omega arith)

-- the lists up to stage s, and those behind
pub record SplitAt (net : Net) (lanes s : ℕ) (all low high : ℕ → List ℕ) : Type 0 where
  pub upto : (l : ℕ) → l < lanes → net.stage l ≤ s → (all l ≡ low l) × (high l ≡ [])
  pub behind : (l : ℕ) → l < lanes → s < net.stage l → (all l ≡ high l) × (low l ≡ [])

pub split_at : (net : Net) (roles lanes s : ℕ) (all low high : ℕ → List ℕ) → HasLanesInOrder net roles lanes → SplitAt net lanes s all low high → (n : ℕ) → n ≤ lanes → joined n all ≡ joined n low ++ joined n high
split_at net roles lanes s all low high has split zero le = refl
split_at net roles lanes s all low high has split (suc n) le = go (split_at net roles lanes s all low high has split n (omega (arith, le)))
  where
    go : joined n all ≡ joined n low ++ joined n high → joined (suc n) all ≡ joined (suc n) low ++ joined (suc n) high
    go ih = ⊎_elim beyond within (cases_lt s (net.stage n))
      where
        beyond : s < net.stage n → joined (suc n) all ≡ joined (suc n) low ++ joined (suc n) high
        beyond lt =
            let b = split.behind n le lt in
            ap (λ u. u ++ all n) ih
            ∙ ap (λ u. (joined n low ++ joined n high) ++ u) b.0
            ∙ append_assoc (joined n low) (joined n high) (high n)
            ∙ ap (λ u. u ++ joined (suc n) high) (sym (ap (λ u. joined n low ++ u) b.1 ∙ append-nil (joined n low)))

        within : net.stage n ≤ s → joined (suc n) all ≡ joined (suc n) low ++ joined (suc n) high
        within at_most =
            let none : (l : ℕ) → l < suc n → high l ≡ [] = (λ l lt. (split.upto l (omega (arith, lt, le)) (let up = has.rising l n (omega (arith, lt)) le in omega (arith, up, at_most))).1) in
            ap (λ u. u ++ all n) (ih ∙ ap (λ u. joined n low ++ u) (joined_none n high (λ l lt. none l (omega (arith, lt)))) ∙ append-nil (joined n low))
            ∙ ap (λ u. joined n low ++ u) (split.upto n le at_most).0
            ∙ sym (ap (λ u. joined (suc n) low ++ u) (joined_none (suc n) high none) ∙ append-nil (joined (suc n) low))

-- a list where a test holds, and else another
pub here_or : ℕ → ℕ → List ℕ → List ℕ → List ℕ
here_or x y u v = cond (x == y) u v

pub or_here : (x y : ℕ) (u v : List ℕ) → x ≡ y → here_or x y u v ≡ u
unfolding here_or
or_here x y u v e = ap (λ b. cond b u v) (eq-eqb x y e)

pub or_else : (x y : ℕ) (u v : List ℕ) → (x ≡ y → ⊥) → here_or x y u v ≡ v
unfolding here_or
or_else x y u v n = ap (λ b. cond b u v) (ne_eqb x y n)

-- a list in one lane alone
pub only : ℕ → List ℕ → ℕ → List ℕ
only k u l = here_or l k u []

pub only_here : (k l : ℕ) (u : List ℕ) → l ≡ k → only k u l ≡ u
unfolding only
only_here k l u e = or_here l k u [] e

pub only_else : (k l : ℕ) (u : List ℕ) → (l ≡ k → ⊥) → only k u l ≡ []
unfolding only
only_else k l u n = or_else l k u [] n

pub joined_only : (n k : ℕ) (u : List ℕ) → k < n → joined n (only k u) ≡ u
joined_only zero k u lt = absurd (omega (arith, lt))
joined_only (suc n) k u lt = ⊎_elim
    (λ e. ap (λ v. v ++ only k u n) (joined_none n (only k u) (λ l less. only_else k l u (λ f. omega (arith, f, e, less)))) ∙ only_here k n u (sym e))
    (λ m. ap (λ v. v ++ only k u n) (joined_only n k u (omega (arith, lt, m))) ∙ ap (λ v. u ++ v) (only_else k n u (λ f. m (sym f))) ∙ append-nil u)
    (cases_eq k n)

-- the lists of stage s alone, and those from stage s on
pub stage_only : Net → (ℕ → List ℕ) → ℕ → ℕ → List ℕ
stage_only net lists s l = here_or (net.stage l) s (lists l) []

pub stage_here : (net : Net) (lists : ℕ → List ℕ) (s l : ℕ) → net.stage l ≡ s → stage_only net lists s l ≡ lists l
unfolding stage_only
stage_here net lists s l e = or_here (net.stage l) s (lists l) [] e

pub stage_else : (net : Net) (lists : ℕ → List ℕ) (s l : ℕ) → (net.stage l ≡ s → ⊥) → stage_only net lists s l ≡ []
unfolding stage_only
stage_else net lists s l n = or_else (net.stage l) s (lists l) [] n

pub stages_from : Net → (ℕ → List ℕ) → ℕ → ℕ → List ℕ
stages_from net lists s l = cond (nat_lt (net.stage l) s) [] (lists l)

pub from_here : (net : Net) (lists : ℕ → List ℕ) (s l : ℕ) → s ≤ net.stage l → stages_from net lists s l ≡ lists l
unfolding stages_from
from_here net lists s l le =
    let t : nat_lt (net.stage l) s ≡ false = grind (arith, nat_tests) in
    ap (λ b. cond b [] (lists l)) t

pub from_none : (net : Net) (lists : ℕ → List ℕ) (s l : ℕ) → net.stage l < s → stages_from net lists s l ≡ []
unfolding stages_from
from_none net lists s l lt =
    let t : nat_lt (net.stage l) s ≡ true = grind (arith, nat_tests) in
    ap (λ b. cond b [] (lists l)) t

-- from stage s on there is stage s and what is behind it
pub one_stage : (net : Net) (lanes s : ℕ) (lists : ℕ → List ℕ) → SplitAt net lanes s (stages_from net lists s) (stage_only net lists s) (stages_from net lists (s + 1))
one_stage net lanes s lists = record { upto = λ l lt le. (same l le, from_none net lists (s + 1) l (omega (arith, le))); behind = λ l lt less. (from_here net lists s l (omega (arith, less)) ∙ sym (from_here net lists (s + 1) l (omega (arith, less))), stage_else net lists s l (λ e. omega (arith, e, less))) }
  where
    same : (l : ℕ) → net.stage l ≤ s → stages_from net lists s l ≡ stage_only net lists s l
    same l le = ⊎_elim
        (λ e. from_here net lists s l (omega (arith, e)) ∙ sym (stage_here net lists s l e))
        (λ m. from_none net lists s l (omega (arith, m, le)) ∙ sym (stage_else net lists s l m))
        (cases_eq (net.stage l) s)
