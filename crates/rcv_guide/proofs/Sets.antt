-- The roles of a set as a list.
use Rattle.std.proofs.Common.{◌≡◌, ℕ, ◌<◌, Bool, true, false, sym, ◌∙◌, ⊎_elim}
use Rattle.std.specs.List.{filter, range_with_len}
use Rattle.std.proofs.lemmas.Bool.{cases_Bool}
use Rattle.rcv_tree.specs.Bits.{has_bit, is_listed}
use Rattle.rcv_tree.specs.declared.role.RoleSet.{RoleSet}
use Rattle.rcv_told.specs.Told.{roles_in}
use Rattle.rcv_told.proofs.Failing.{listed_of, of_listed}

-- a role that a test doesn't let through
not_listed : (t : ℕ → Bool) (n q : ℕ) → (q < n → t q ≡ true → ⊥) → is_listed (filter t (range_with_len 0 n)) q ≡ false
not_listed t n q none = ⊎_elim
    (λ e. absurd (let l = of_listed t n q e in none l.0 l.1))
    (λ f. f)
    (cases_Bool (is_listed (filter t (range_with_len 0 n)) q))

pub in_set : (set : RoleSet) (q : ℕ) → q < 8 → is_listed (roles_in set) q ≡ has_bit set.0 q
in_set set q lt = ⊎_elim
    (λ e. listed_of (has_bit set.0) 8 q lt e ∙ sym e)
    (λ f. not_listed (has_bit set.0) 8 q (λ l t. absurd (cc)) ∙ sym f)
    (cases_Bool (has_bit set.0 q))

pub not_in_set : (set : RoleSet) (q : ℕ) → (q < 8 → ⊥) → is_listed (roles_in set) q ≡ false
not_in_set set q high = not_listed (has_bit set.0) 8 q (λ lt t. high lt)
